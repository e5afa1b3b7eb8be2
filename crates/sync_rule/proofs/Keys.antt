-- The order of what is pending.
use Rattle.std.proofs.Common.{◌≡◌, ℕ, ◌+◌, ◌<◌, ◌≤◌, ◌⊎◌, inl, inr, Bool, true, false, ◌&&◌, eqb, ltb, leb, nat_le, refl, sym, ap, arith, eq-or-lt_of_le, ⊎_elim}
use Rattle.std.proofs.lemmas.Bool.{or_left, or_right, or_cases, and_from, and_parts, lt-ltb, ltb-true, leb-true, leb-false, eq-eqb, eqb-true}
use Rattle.device_api.specs.Position.{Key, by_part, is_at_most, sync_key, message_key, tick_key}
use Rattle.sync_rule.specs.declared.next.Next.{Next}
use Rattle.sync_rule.specs.declared.next.Next.TheVariants.{Sync, Take, Tick}
use Rattle.sync_rule.specs.Times.{time_of, needed_for}
use Rattle.sync_rule.specs.Next.{key_of}

part_less : (x y : ℕ) (f : Bool) → x < y → by_part x y f ≡ true
part_less x y f lt = or_left (ltb x y) (eqb x y && f) (lt-ltb x y lt)

part_same : (x y : ℕ) (f : Bool) → x ≡ y → f ≡ true → by_part x y f ≡ true
part_same x y f e following = or_right (ltb x y) (eqb x y && f) (and_from (eqb x y) f (eq-eqb x y e) following)

pub part_cases : (x y : ℕ) (f : Bool) → by_part x y f ≡ true → (x < y) ⊎ ((x ≡ y) × (f ≡ true))
part_cases x y f h = ⊎_elim (λ less. inl (ltb-true x y less)) (λ both. let parts : (eqb x y ≡ true) × (f ≡ true) = and_parts (eqb x y) f both in inr (eqb-true x y parts.0, parts.1)) (or_cases (ltb x y) (eqb x y && f) h)

pub earlier : (j k : Key) → j.time < k.time → is_at_most j k ≡ true
earlier j k lt = part_less j.time k.time _ lt

pub not_later : (j k : Key) → j.time ≤ k.time → by_part j.phase k.phase (by_part j.port k.port (nat_le j.number k.number)) ≡ true → is_at_most j k ≡ true
not_later j k le following = at (eq-or-lt_of_le le)
  where
    at : (j.time ≡ k.time) ⊎ (j.time < k.time) → is_at_most j k ≡ true
    at (inl same) = part_same j.time k.time _ same following
    at (inr less) = part_less j.time k.time _ less

pub sync_before_tick : (u t p : ℕ) → u ≤ t → is_at_most (sync_key u p) (tick_key t) ≡ true
sync_before_tick u t p le = not_later (sync_key u p) (tick_key t) le refl

pub sync_before_message : (u t p q : ℕ) → u ≤ t → is_at_most (sync_key u p) (message_key t q 0) ≡ true
sync_before_message u t p q le = not_later (sync_key u p) (message_key t q 0) le refl

pub message_before_tick : (t u p : ℕ) → t ≤ u → is_at_most (message_key t p 0) (tick_key u) ≡ true
message_before_tick t u p le = not_later (message_key t p 0) (tick_key u) le refl

pub tick_before_tick : (t u : ℕ) → t ≤ u → is_at_most (tick_key t) (tick_key u) ≡ true
tick_before_tick t u le = not_later (tick_key t) (tick_key u) le refl

-- the first of the least ports
by_port : (u t p q : ℕ) → u ≡ t → (q < p → u < t) → by_part p q (nat_le 0 0) ≡ true
by_port u t p q same first = order (leb p q) refl
  where
    at : (p ≡ q) ⊎ (p < q) → by_part p q (nat_le 0 0) ≡ true
    at (inl e) = part_same p q _ e refl
    at (inr lt) = part_less p q _ lt

    order : (b : Bool) → leb p q ≡ b → by_part p q (nat_le 0 0) ≡ true
    order true le = at (eq-or-lt_of_le (leb-true p q le))
    order false gt = absurd (let less : u < t = first (leb-false p q gt) in omega arith)

pub sync_before_sync : (u t p q : ℕ) → u ≤ t → (q < p → u < t) → is_at_most (sync_key u p) (sync_key t q) ≡ true
sync_before_sync u t p q le first = at (eq-or-lt_of_le le)
  where
    at : (u ≡ t) ⊎ (u < t) → is_at_most (sync_key u p) (sync_key t q) ≡ true
    at (inl same) = part_same u t _ same (by_port u t p q same first)
    at (inr less) = part_less u t _ less

pub message_before_message : (u t p q : ℕ) → u ≤ t → (q < p → u < t) → is_at_most (message_key u p 0) (message_key t q 0) ≡ true
message_before_message u t p q le first = at (eq-or-lt_of_le le)
  where
    at : (u ≡ t) ⊎ (u < t) → is_at_most (message_key u p 0) (message_key t q 0) ≡ true
    at (inl same) = part_same u t _ same (by_port u t p q same first)
    at (inr less) = part_less u t _ less

-- an event is not after what its key is at most
pub at_most_time : (j k : Key) → is_at_most j k ≡ true → j.time ≤ k.time
at_most_time j k le = at (part_cases j.time k.time _ le)
  where
    at : (j.time < k.time) ⊎ ((j.time ≡ k.time) × (by_part j.phase k.phase (by_part j.port k.port (nat_le j.number k.number)) ≡ true)) → j.time ≤ k.time
    at (inl less) = omega arith
    at (inr same) = let e : j.time ≡ k.time = same.0 in omega arith

at_most_phase : (j k : Key) → j.time ≡ k.time → is_at_most j k ≡ true → j.phase ≤ k.phase
at_most_phase j k same le = at (part_cases j.time k.time _ le)
  where
    within : (j.phase < k.phase) ⊎ ((j.phase ≡ k.phase) × (by_part j.port k.port (nat_le j.number k.number) ≡ true)) → j.phase ≤ k.phase
    within (inl less) = omega arith
    within (inr e) = let is : j.phase ≡ k.phase = e.0 in omega arith

    at : (j.time < k.time) ⊎ ((j.time ≡ k.time) × (by_part j.phase k.phase (by_part j.port k.port (nat_le j.number k.number)) ≡ true)) → j.phase ≤ k.phase
    at (inl less) = absurd (omega arith)
    at (inr e) = within (part_cases j.phase k.phase _ e.1)

-- two events that are each at most the other are at one time, and want the ports to have heard as far
pub record SameNeed (n m : Next) : Type 0 where
  pub time : time_of n ≡ time_of m
  pub needed : needed_for n ≡ needed_for m

pub same_need : (n m : Next) → is_at_most (key_of n) (key_of m) ≡ true → is_at_most (key_of m) (key_of n) ≡ true → SameNeed n m
same_need n m le ge = by n m (let a : (key_of n).time ≤ (key_of m).time = at_most_time (key_of n) (key_of m) le in let b : (key_of m).time ≤ (key_of n).time = at_most_time (key_of m) (key_of n) ge in omega arith) le ge
  where
    needs : (n m : Next) → (key_of n).time ≡ (key_of m).time → (key_of n).phase ≤ (key_of m).phase → (key_of m).phase ≤ (key_of n).phase → SameNeed n m
    needs (Sync p u) (Sync q t) e a b = record { time = e; needed = e }
    needs (Sync p u) (Take q t) e a b = absurd (let no : 1 ≤ 0 = b in omega arith)
    needs (Sync p u) (Tick t) e a b = absurd (let no : 2 ≤ 0 = b in omega arith)
    needs (Take p u) (Sync q t) e a b = absurd (let no : 1 ≤ 0 = a in omega arith)
    needs (Take p u) (Take q t) e a b = record { time = e; needed = ap (λ x. x + 1) e }
    needs (Take p u) (Tick t) e a b = record { time = e; needed = ap (λ x. x + 1) e }
    needs (Tick u) (Sync q t) e a b = absurd (let no : 2 ≤ 0 = a in omega arith)
    needs (Tick u) (Take q t) e a b = record { time = e; needed = ap (λ x. x + 1) e }
    needs (Tick u) (Tick t) e a b = record { time = e; needed = ap (λ x. x + 1) e }

    by : (n m : Next) → (key_of n).time ≡ (key_of m).time → is_at_most (key_of n) (key_of m) ≡ true → is_at_most (key_of m) (key_of n) ≡ true → SameNeed n m
    by n m e le ge = needs n m e (at_most_phase (key_of n) (key_of m) e le) (at_most_phase (key_of m) (key_of n) (sym e) ge)
