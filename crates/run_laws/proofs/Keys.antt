-- The order of keys, and what a position has reached.
use Rattle.std.proofs.Common.{◌≡◌, ℕ, zero, suc, ◌<◌, ◌≤◌, ◌⊎◌, inl, inr, Bool, true, false, ◌&&◌, eqb, ltb, nat_le, Some, None, refl, sym, ◌∙◌, arith, le_refl, eq-or-lt_of_le, ⊎_elim}
use Rattle.std.proofs.lemmas.Bool.{cases_order, eqb-false, and_cases, or_parts, leb-false, or_left, or_right, or_cases, and_from, and_parts, lt-ltb, ltb-true, eq-eqb, eqb-true, le-leb, leb-true, false≢true, false_from_ne_true}
use Rattle.device_api.specs.Position.{Key, Position, by_part, is_at_most, is_reached, sync_key, message_key, tick_key}

pub part_less : (x y : ℕ) (f : Bool) → x < y → by_part x y f ≡ true
part_less x y f lt = or_left (ltb x y) (eqb x y && f) (lt-ltb x y lt)

pub part_same : (x y : ℕ) (f : Bool) → x ≡ y → f ≡ true → by_part x y f ≡ true
part_same x y f e following = or_right (ltb x y) (eqb x y && f) (and_from (eqb x y) f (eq-eqb x y e) following)

pub part_cases : (x y : ℕ) (f : Bool) → by_part x y f ≡ true → (x < y) ⊎ ((x ≡ y) × (f ≡ true))
part_cases x y f h = ⊎_elim (λ less. inl (ltb-true x y less)) (λ both. let parts : (eqb x y ≡ true) × (f ≡ true) = and_parts (eqb x y) f both in inr (eqb-true x y parts.0, parts.1)) (or_cases (ltb x y) (eqb x y && f) h)

-- one part of three keys
part_through : (x y z : ℕ) (f g h : Bool) → by_part x y f ≡ true → by_part y z g ≡ true → (f ≡ true → g ≡ true → h ≡ true) → by_part x z h ≡ true
part_through x y z f g h first second following = at (part_cases x y f first) (part_cases y z g second)
  where
    at : (x < y) ⊎ ((x ≡ y) × (f ≡ true)) → (y < z) ⊎ ((y ≡ z) × (g ≡ true)) → by_part x z h ≡ true
    at (inl less) (inl more) = part_less x z h (omega arith)
    at (inl less) (inr same) = part_less x z h (omega (arith, same.0))
    at (inr same) (inl more) = part_less x z h (omega (arith, same.0))
    at (inr same) (inr same') = part_same x z h (same.0 ∙ same'.0) (following same.1 same'.1)

pub at_most_through : (j k l : Key) → is_at_most j k ≡ true → is_at_most k l ≡ true → is_at_most j l ≡ true
at_most_through j k l first second =
    part_through j.time k.time l.time _ _ _ first second (λ first second.
    part_through j.phase k.phase l.phase _ _ _ first second (λ first second.
    part_through j.port k.port l.port _ _ _ first second (λ first second.
    le-leb j.number l.number (let less : j.number ≤ k.number = leb-true j.number k.number first in let more : k.number ≤ l.number = leb-true k.number l.number second in omega arith))))

-- what comes before a key that was reached was reached, and what comes after one that wasn't, wasn't
pub reached_before : (position : Position) (j k : Key) → is_at_most j k ≡ true → is_reached position k ≡ true → is_reached position j ≡ true
reached_before None j k before reached = absurd (false≢true reached)
reached_before (Some last) j k before reached = at_most_through j k last before reached

pub missed_after : (position : Position) (j k : Key) → is_at_most j k ≡ true → is_reached position j ≡ false → is_reached position k ≡ false
missed_after position j k before missed = false_from_ne_true (is_reached position k) (λ reached. false≢true (sym missed ∙ reached_before position j k before reached))

pub earlier : (j k : Key) → j.time < k.time → is_at_most j k ≡ true
earlier j k lt = part_less j.time k.time _ lt

pub not_later : (j k : Key) → j.time ≤ k.time → by_part j.phase k.phase (by_part j.port k.port (nat_le j.number k.number)) ≡ true → is_at_most j k ≡ true
not_later j k le following = ⊎_elim (λ e. part_same j.time k.time _ e following) (λ lt. part_less j.time k.time _ lt) (eq-or-lt_of_le le)

pub message_before_tick : (t u port number : ℕ) → t ≤ u → is_at_most (message_key t port number) (tick_key u) ≡ true
message_before_tick t u port number le = not_later (message_key t port number) (tick_key u) le refl

pub sync_before_tick : (t u port : ℕ) → t ≤ u → is_at_most (sync_key t port) (tick_key u) ≡ true
sync_before_tick t u port le = not_later (sync_key t port) (tick_key u) le refl

pub tick_before_tick : (t u : ℕ) → t ≤ u → is_at_most (tick_key t) (tick_key u) ≡ true
tick_before_tick t u le = not_later (tick_key t) (tick_key u) le refl

pub sync_before_message : (t u port port' number : ℕ) → t ≤ u → is_at_most (sync_key t port) (message_key u port' number) ≡ true
sync_before_message t u port port' number le = not_later (sync_key t port) (message_key u port' number) le refl

pub message_before_next : (t u port number number' : ℕ) → t ≤ u → number ≤ number' → is_at_most (message_key t port number) (message_key u port number') ≡ true
message_before_next t u port number number' le more = not_later (message_key t port number) (message_key u port number') le (part_same port port _ refl (le-leb number number' more))

pub message_before_port : (t port port' number number' : ℕ) → port < port' → is_at_most (message_key t port number) (message_key t port' number') ≡ true
message_before_port t port port' number number' lt = not_later (message_key t port number) (message_key t port' number') (le_refl t) (part_less port port' _ lt)

-- whether all moments before a time were reached
abbrev pub is_past : Position → ℕ → Bool
is_past position zero = true
is_past position (suc t) = is_reached position (tick_key t)

pub past_before : (position : Position) (t : ℕ) → is_past position (suc t) ≡ true → is_past position t ≡ true
past_before position zero past = refl
past_before position (suc t) past = reached_before position (tick_key t) (tick_key (suc t)) (tick_before_tick t (suc t) (omega arith)) past

-- in a moment before which one was missed, nothing was reached
pub missed_then : (position : Position) (t port : ℕ) → is_past position t ≡ false → is_reached position (sync_key t port) ≡ false
missed_then position zero port missed = absurd (false≢true (sym missed))
missed_then position (suc t) port missed = missed_after position (tick_key t) (sync_key (suc t) port) (earlier (tick_key t) (sync_key (suc t) port) (omega arith)) missed

pub missed_later : (position : Position) (t u : ℕ) → t ≤ u → is_past position t ≡ false → is_past position u ≡ false
missed_later position zero u le missed = absurd (false≢true (sym missed))
missed_later position (suc t) zero le missed = absurd (omega arith)
missed_later position (suc t) (suc u) le missed = missed_after position (tick_key t) (tick_key u) (tick_before_tick t u (omega arith)) missed

-- of two keys one is at most the other
part_total : (x y : ℕ) (f g : Bool) → by_part x y f ≡ false → (f ≡ false → g ≡ true) → by_part y x g ≡ true
part_total x y f g not_less following = at (cases_order x y)
  where
    at : (x ≡ y) ⊎ ((x < y) ⊎ (y < x)) → by_part y x g ≡ true
    at (inl same) = part_same y x g (sym same) (following (⊎_elim (λ differ. absurd (eqb-false x y differ same)) (λ f_false. f_false) (and_cases (eqb x y) f (or_parts (ltb x y) (eqb x y && f) not_less).1)))
    at (inr (inl less)) = absurd (false≢true (sym not_less ∙ part_less x y f less))
    at (inr (inr more)) = part_less y x g more

pub at_most_total : (j k : Key) → is_at_most j k ≡ false → is_at_most k j ≡ true
at_most_total j k not_before =
    part_total j.time k.time _ _ not_before (λ not_before.
    part_total j.phase k.phase _ _ not_before (λ not_before.
    part_total j.port k.port _ _ not_before (λ not_before.
    le-leb k.number j.number (let less : k.number < j.number = leb-false j.number k.number not_before in omega arith))))

pub at_most_itself : (k : Key) → is_at_most k k ≡ true
at_most_itself k = part_same k.time k.time _ refl (part_same k.phase k.phase _ refl (part_same k.port k.port _ refl (le-leb k.number k.number (le_refl k.number))))

-- what a position has reached, each later one has
pub reached_still : (position : Position) (last k : Key) → is_reached position last ≡ false → is_reached position k ≡ true → is_reached (Some last) k ≡ true
reached_still None last k later reached = absurd (false≢true reached)
reached_still (Some before) last k later reached = at_most_through k before last reached (at_most_total last before later)

-- the next number of a port is after a message
pub next_is_after : (t port number : ℕ) → is_reached (Some (message_key t port number)) (message_key t port (suc number)) ≡ false
next_is_after t port number = false_from_ne_true _ (λ at_most. not_next (part_cases t t _ at_most))
  where
    in_number : (port < port) ⊎ ((port ≡ port) × (nat_le (suc number) number ≡ true)) → ⊥
    in_number (inl less) = omega arith
    in_number (inr same) = let le : suc number ≤ number = leb-true (suc number) number same.1 in omega arith

    not_next : (t < t) ⊎ ((t ≡ t) × (by_part 1 1 (by_part port port (nat_le (suc number) number)) ≡ true)) → ⊥
    not_next (inl less) = omega arith
    not_next (inr same) = in_number (part_cases port port (nat_le (suc number) number) same.1)

-- what is at a later time is after an event
pub later_is_after : (last k : Key) → last.time < k.time → is_reached (Some last) k ≡ false
later_is_after last k lt = false_from_ne_true _ (λ at_most. at (part_cases k.time last.time _ at_most))
  where
    at : (k.time < last.time) ⊎ ((k.time ≡ last.time) × (by_part k.phase last.phase (by_part k.port last.port (nat_le k.number last.number)) ≡ true)) → ⊥
    at (inl less) = omega arith
    at (inr same) = omega (arith, same.0)

-- at the same time a key is after an event where its other parts are
pub phase_is_after : (last k : Key) → by_part k.phase last.phase (by_part k.port last.port (nat_le k.number last.number)) ≡ false → last.time ≤ k.time → is_reached (Some last) k ≡ false
phase_is_after last k after_it le = false_from_ne_true _ (λ at_most. at (part_cases k.time last.time _ at_most))
  where
    at : (k.time < last.time) ⊎ ((k.time ≡ last.time) × (by_part k.phase last.phase (by_part k.port last.port (nat_le k.number last.number)) ≡ true)) → ⊥
    at (inl less) = omega arith
    at (inr same) = false≢true (sym after_it ∙ same.1)
