-- One moment up to a position: the first part of the whole moment.
use Rattle.std.proofs.Common.{◌≡◌, ℕ, zero, suc, ◌<◌, ◌≤◌, Bool, true, false, cond, eqb, List, [], ◌∷◌, ◌++◌, refl, sym, ap, ap₂, ◌∙◌, subst, arith, le_refl, append_assoc, append-nil}
use Rattle.std.proofs.lemmas.Bool.{cond-true, cond-false}
use Rattle.std.proofs.lemmas.List.Elements.{filter-append}
use Rattle.std.specs.List.{AllByRecursion}
use Rattle.sb_message.specs.declared.message.Msg.{Msg}
use Rattle.device_api.specs.Behaviour.{Behaviour, Reaction}
use Rattle.device_api.specs.World.{Arrival, arrivals_on, arrivals, followed_by, take_all, tick_if_due, rest, react}
use Rattle.device_api.specs.Position.{Position, is_reached, sync_key, message_key, tick_key, arrivals_upto, tick_upto, react_upto}
use Rattle.run_laws.specs.LocalRuns.{IsPrefix}
use Rattle.run_laws.proofs.Lists.{each-append, each-back, each-weaker, filter_each, filter_none}
use Rattle.run_laws.proofs.Prefixes.{prefix_same, prefix_more, prefix_under}
use Rattle.run_laws.proofs.Keys.{reached_before, missed_after, message_before_tick, sync_before_tick, sync_before_message, message_before_next, message_before_port}

-- a reaction, and then one that is known
abbrev pub joined : {S : Type 0} → Reaction S → Reaction S → Reaction S
joined r more = record { state = more.state; sends = r.sends ++ more.sends; lines = r.lines ++ more.lines }

each_of : {X : Type 0} (P : X → Type 0) (xs : List X) → ((x : X) → P x) → AllByRecursion P xs
each_of P [] all = tt
each_of P (x ∷ xs) all = (all x, each_of P xs all)

-- an arrival was reached, or missed
abbrev pub WasReached : Position → ℕ → Arrival → Type 0
WasReached position t a = is_reached position (message_key t a.port a.number) ≡ true

abbrev pub WasMissed : Position → ℕ → Arrival → Type 0
WasMissed position t a = is_reached position (message_key t a.port a.number) ≡ false

-- a moment of which nothing was reached
pub nothing_upto : {S : Type 0} (b : Behaviour S) (position : Position) (t port : ℕ) (arrived : List Arrival) (s : S) → is_reached position (sync_key t port) ≡ false → react_upto b position t arrived s ≡ rest s
unfolding take_all
nothing_upto b position t port arrived s missed = ap (λ l. followed_by (take_all b t l s) (tick_upto b position t)) none ∙ ap (joined (rest s)) (cond-false (is_reached position (tick_key t)) (tick_if_due b t s) (rest s) (missed_after position (sync_key t port) (tick_key t) (sync_before_tick t t port (le_refl t)) missed))
  where
    none : arrivals_upto position t arrived ≡ []
    none = filter_none (λ a. is_reached position (message_key t a.port a.number)) arrived (each_of (WasMissed position t) arrived (λ a. missed_after position (sync_key t port) (message_key t a.port a.number) (sync_before_message t t port a.port a.number (le_refl t)) missed))

-- a moment that was reached whole
pub all_upto : (position : Position) (t : ℕ) (arrived : List Arrival) → is_reached position (tick_key t) ≡ true → arrivals_upto position t arrived ≡ arrived
all_upto position t arrived reached = filter_each (λ a. is_reached position (message_key t a.port a.number)) arrived (each_of (WasReached position t) arrived (λ a. reached_before position (message_key t a.port a.number) (tick_key t) (message_before_tick t t a.port a.number (le_refl t)) reached))

pub whole_upto : {S : Type 0} (b : Behaviour S) (position : Position) (t : ℕ) (arrived : List Arrival) (s : S) → is_reached position (tick_key t) ≡ true → react_upto b position t arrived s ≡ react b t arrived s
whole_upto b position t arrived s reached = ap (λ l. followed_by (take_all b t l s) (tick_upto b position t)) (all_upto position t arrived reached) ∙ ap (joined (take_all b t arrived s)) (cond-true (is_reached position (tick_key t)) (tick_if_due b t (take_all b t arrived s).state) (rest (take_all b t arrived s).state) reached)

-- what was reached of arrivals is the first part of them
pub record Splits (position : Position) (t : ℕ) (arrived : List Arrival) : Type 0 where
  pub front : List Arrival
  pub back : List Arrival
  pub whole : arrived ≡ front ++ back
  pub reached : AllByRecursion (WasReached position t) front
  pub missed : AllByRecursion (WasMissed position t) back

pub split_upto : (position : Position) (t : ℕ) (arrived : List Arrival) (split : Splits position t arrived) → arrivals_upto position t arrived ≡ split.front
split_upto position t arrived split = ap (arrivals_upto position t) split.whole ∙ filter-append (λ a. is_reached position (message_key t a.port a.number)) split.front split.back ∙ ap₂ ◌++◌ (filter_each (λ a. is_reached position (message_key t a.port a.number)) split.front split.reached) (filter_none (λ a. is_reached position (message_key t a.port a.number)) split.back split.missed) ∙ append-nil split.front

-- the arrivals of a port have its number, and are numbered upwards
pub arrivals_on-numbers : (t p i : ℕ) (xs : List Msg) → AllByRecursion (λ a. (a.port ≡ p) × (i ≤ a.number)) (arrivals_on t p i xs)
unfolding arrivals_on
arrivals_on-numbers t p i [] = tt
arrivals_on-numbers t p i (x ∷ xs) = at (eqb x.at t) (each-weaker (λ a. (a.port ≡ p) × (suc i ≤ a.number)) (λ a. (a.port ≡ p) × (i ≤ a.number)) (arrivals_on t p (suc i) xs) (λ a on. (on.0, omega (arith, on.1))) (arrivals_on-numbers t p (suc i) xs))
  where
    at : (b : Bool) → AllByRecursion (λ a. (a.port ≡ p) × (i ≤ a.number)) (arrivals_on t p (suc i) xs) → AllByRecursion (λ a. (a.port ≡ p) × (i ≤ a.number)) (cond b (record { port = p; number = i; body = x.body } ∷ arrivals_on t p (suc i) xs) (arrivals_on t p (suc i) xs))
    at true later = ((refl, le_refl i), later)
    at false later = later

-- after one that was missed the port's others were missed
missed_on : (position : Position) (t p i : ℕ) (arrived : List Arrival) → is_reached position (message_key t p i) ≡ false → AllByRecursion (λ a. (a.port ≡ p) × (i ≤ a.number)) arrived → AllByRecursion (WasMissed position t) arrived
missed_on position t p i arrived missed numbers = each-weaker (λ a. (a.port ≡ p) × (i ≤ a.number)) (WasMissed position t) arrived (λ a on. ap (λ q. is_reached position (message_key t q a.number)) on.0 ∙ missed_after position (message_key t p i) (message_key t p a.number) (message_before_next t t p i a.number (le_refl t) on.1) missed) numbers

arrivals_on-splits : (position : Position) (t p i : ℕ) (xs : List Msg) → Splits position t (arrivals_on t p i xs)
unfolding arrivals_on
arrivals_on-splits position t p i [] = record { front = []; back = []; whole = refl; reached = tt; missed = tt }
arrivals_on-splits position t p i (x ∷ xs) = at (arrivals_on-splits position t p (suc i) xs) (eqb x.at t) (is_reached position (message_key t p i)) refl
  where
    later : List Arrival
    later = arrivals_on t p (suc i) xs

    here : Arrival
    here = record { port = p; number = i; body = x.body }

    at : Splits position t (arrivals_on t p (suc i) xs) → (b reached : Bool) → is_reached position (message_key t p i) ≡ reached → Splits position t (cond b (here ∷ later) later)
    at rest false reached e = rest
    at rest true true e = record { front = here ∷ rest.front; back = rest.back; whole = ap (λ l. here ∷ l) rest.whole; reached = (e, rest.reached); missed = rest.missed }
    at rest true false e = record { front = []; back = here ∷ later; whole = refl; reached = tt; missed = (e, missed_on position t p i later e (each-weaker (λ a. (a.port ≡ p) × (suc i ≤ a.number)) (λ a. (a.port ≡ p) × (i ≤ a.number)) later (λ a on. (on.0, omega (arith, on.1))) (arrivals_on-numbers t p (suc i) xs))) }

-- arrivals below a port, all of ports below it
arrivals-ports : (t : ℕ) (inputs : ℕ → List Msg) (p : ℕ) → AllByRecursion (λ a. a.port < p) (arrivals t inputs p)
unfolding arrivals
arrivals-ports t inputs zero = tt
arrivals-ports t inputs (suc p) = each-append (λ a. a.port < suc p) (arrivals t inputs p) (arrivals_on t p 0 (inputs p)) (each-weaker (λ a. a.port < p) (λ a. a.port < suc p) (arrivals t inputs p) (λ a lt. omega arith) (arrivals-ports t inputs p)) (each-weaker (λ a. (a.port ≡ p) × (0 ≤ a.number)) (λ a. a.port < suc p) (arrivals_on t p 0 (inputs p)) (λ a on. omega (arith, on.0)) (arrivals_on-numbers t p 0 (inputs p)))

-- the first part of two lists: where one of the first list was missed, all of the second were
splits_both : (position : Position) (t p : ℕ) (xs ys : List Arrival) → AllByRecursion (λ a. a.port < p) xs → AllByRecursion (λ a. (a.port ≡ p) × (0 ≤ a.number)) ys → Splits position t xs → Splits position t ys → Splits position t (xs ++ ys)
splits_both position t p xs ys below on first second = at first.back refl first.missed
  where
    at : (back : List Arrival) → first.back ≡ back → AllByRecursion (WasMissed position t) back → Splits position t (xs ++ ys)
    at [] e missed = record { front = first.front ++ second.front; back = second.back; whole = ap₂ ◌++◌ (first.whole ∙ ap (λ l. first.front ++ l) e ∙ append-nil first.front) second.whole ∙ sym (append_assoc first.front second.front second.back); reached = each-append (WasReached position t) first.front second.front first.reached second.reached; missed = second.missed }
    at (a ∷ more) e missed = record { front = first.front; back = (a ∷ more) ++ ys; whole = ap (λ l. l ++ ys) (first.whole ∙ ap (λ l. first.front ++ l) e) ∙ append_assoc first.front (a ∷ more) ys; reached = first.reached; missed = each-append (WasMissed position t) (a ∷ more) ys missed (each-weaker (λ x. (x.port ≡ p) × (0 ≤ x.number)) (WasMissed position t) ys (λ x at_port. missed_after position (message_key t a.port a.number) (message_key t x.port x.number) (message_before_port t a.port x.port a.number x.number (let lt : a.port < p = below_head in omega (arith, at_port.0))) missed.0) on) }
      where
        below_head : a.port < p
        below_head = (each-back (λ x. x.port < p) first.front (a ∷ more) (subst (AllByRecursion (λ x. x.port < p)) (first.whole ∙ ap (λ l. first.front ++ l) e) below)).0

pub arrivals-splits : (position : Position) (t : ℕ) (inputs : ℕ → List Msg) (p : ℕ) → Splits position t (arrivals t inputs p)
unfolding arrivals
arrivals-splits position t inputs zero = record { front = []; back = []; whole = refl; reached = tt; missed = tt }
arrivals-splits position t inputs (suc p) = splits_both position t p (arrivals t inputs p) (arrivals_on t p 0 (inputs p)) (arrivals-ports t inputs p) (arrivals_on-numbers t p 0 (inputs p)) (arrivals-splits position t inputs p) (arrivals_on-splits position t p 0 (inputs p))

-- to take two lists is to take one and then the other
pub take_all-append : {S : Type 0} (b : Behaviour S) (t : ℕ) (xs ys : List Arrival) (s : S) → take_all b t (xs ++ ys) s ≡ followed_by (take_all b t xs s) (take_all b t ys)
unfolding take_all
take_all-append b t [] ys s = refl
take_all-append {S} b t (a ∷ xs) ys s = ap (joined first) (take_all-append b t xs ys first.state) ∙ turned
  where
    first : Reaction S
    first = b.take s t a.port a.body

    second : Reaction S
    second = take_all b t xs first.state

    third : Reaction S
    third = take_all b t ys second.state

    turned : joined first (joined second third) ≡ joined (joined first second) third
    turned = ap₂ (λ sends lines. record { state = third.state; sends = sends; lines = lines }) (sym (append_assoc first.sends second.sends third.sends)) (sym (append_assoc first.lines second.lines third.lines))

-- what is sent and logged up to a position begins what is sent and logged in the whole moment
pub record IsPart {S : Type 0} (part whole : Reaction S) : Type 0 where
  pub sends : IsPrefix part.sends whole.sends
  pub lines : IsPrefix part.lines whole.lines

pub react_part : {S : Type 0} (b : Behaviour S) (position : Position) (t : ℕ) (arrived : List Arrival) (s : S) → Splits position t arrived → IsPart (react_upto b position t arrived s) (react b t arrived s)
react_part {S} b position t arrived s split = at (is_reached position (tick_key t)) refl
  where
    front : Reaction S
    front = take_all b t split.front s

    back : Reaction S
    back = take_all b t split.back front.state

    tick : Reaction S
    tick = tick_if_due b t back.state

    whole : react b t arrived s ≡ joined (joined front back) tick
    whole = ap (λ r. followed_by r (tick_if_due b t)) (ap (λ l. take_all b t l s) split.whole ∙ take_all-append b t split.front split.back s)

    part : is_reached position (tick_key t) ≡ false → react_upto b position t arrived s ≡ joined front (rest front.state)
    part e = ap (λ l. followed_by (take_all b t l s) (tick_upto b position t)) (split_upto position t arrived split) ∙ ap (joined front) (cond-false (is_reached position (tick_key t)) (tick_if_due b t front.state) (rest front.state) e)

    at : (b' : Bool) → is_reached position (tick_key t) ≡ b' → IsPart (react_upto b position t arrived s) (react b t arrived s)
    at true e = let same : react_upto b position t arrived s ≡ react b t arrived s = whole_upto b position t arrived s e in record { sends = prefix_same _ _ (ap (λ (r : Reaction S). r.sends) same); lines = prefix_same _ _ (ap (λ (r : Reaction S). r.lines) same) }
    at false e = subst (λ r. IsPart (react_upto b position t arrived s) r) (sym whole) (subst (λ r. IsPart r (joined (joined front back) tick)) (sym (part e)) (record {
      sends = prefix_more (front.sends ++ []) (front.sends ++ back.sends) tick.sends (prefix_under front.sends [] back.sends (record { rest = back.sends; whole_is = refl }));
      lines = prefix_more (front.lines ++ []) (front.lines ++ back.lines) tick.lines (prefix_under front.lines [] back.lines (record { rest = back.lines; whole_is = refl }));
    }))
