-- The timestamps of a transcript never fall, and no time goes by without a message for longer than the interval.
use Rattle.std.proofs.Common.{filter, ◌≡◌, ℕ, zero, suc, ◌+◌, ◌≤◌, Bool, true, false, cond, eqb, List, [], ◌∷◌, ◌++◌, length, refl, sym, ap, ◌∙◌, subst, arith, le_refl}
use Rattle.std.proofs.lemmas.Bool.{eqb-true, eqb-false}
use Rattle.std.specs.List.{AllByRecursion}
use Rattle.cs_base.specs.declared.port_kind.PortKind.{PortKind}
use Rattle.sb_message.specs.declared.message.Msg.{Msg}
use Rattle.device_api.specs.Channels.{Channel}
use Rattle.device_api.specs.World.{Sent}
use Rattle.device_api.specs.Transcript.{RisesFrom, Script, script, stamped_after, sends_before, sends_at, sync_if_due, null_message, due_after, bound_from, bound_of}
use Rattle.device_api.specs.Position.{Position, is_reached, sync_key, sync_upto, script_upto}
use Rattle.run_laws.proofs.Lists.{each-append, each-weaker, each-passes}

pub rises-append : (low : ℕ) (xs ys : List Msg) → RisesFrom low xs → RisesFrom (bound_from low xs) ys → RisesFrom low (xs ++ ys)
unfolding RisesFrom bound_from
rises-append low [] ys front back = back
rises-append low (x ∷ xs) ys front back = (front.0, rises-append x.at xs ys front.1 back)

pub rises_lower : (low high : ℕ) (xs : List Msg) → low ≤ high → RisesFrom high xs → RisesFrom low xs
unfolding RisesFrom
rises_lower low high [] le rises = tt
rises_lower low high (x ∷ xs) le rises = (let above : high ≤ x.at = rises.0 in omega arith, rises.1)

pub bound-append : (low : ℕ) (xs ys : List Msg) → bound_from low (xs ++ ys) ≡ bound_from (bound_from low xs) ys
unfolding bound_from
bound-append low [] ys = refl
bound-append low (x ∷ xs) ys = bound-append x.at xs ys

-- messages that have all one timestamp
abbrev pub AreAt : ℕ → List Msg → Type 0
AreAt t messages = AllByRecursion (λ m. m.at ≡ t) messages

level_rises : (low t : ℕ) (xs : List Msg) → low ≤ t → AreAt t xs → RisesFrom low xs
unfolding RisesFrom
level_rises low t [] le level = tt
level_rises low t (x ∷ xs) le level = (omega (arith, level.0), level_rises x.at t xs (omega (arith, level.0)) level.1)

level_bound : (t : ℕ) (xs : List Msg) → AreAt t xs → bound_from t xs ≡ t
unfolding bound_from
level_bound t [] level = refl
level_bound t (x ∷ xs) level = ap (λ low. bound_from low xs) level.0 ∙ level_bound t xs level.1

level_bound_most : (low t : ℕ) (xs : List Msg) → low ≤ t → AreAt t xs → bound_from low xs ≤ t
unfolding bound_from
level_bound_most low t [] le level = le
level_bound_most low t (x ∷ xs) le level = level_bound_most x.at t xs (omega (arith, level.0)) level.1

-- what is sent at u has the timestamp u + latency
stamps_level : (ch : Channel) (u : ℕ) (before sends : List Sent) → AllByRecursion (λ s. s.time ≡ u) sends → AreAt (u + ch.latency) (stamped_after ch before sends)
unfolding stamped_after
stamps_level ch u before [] timed = tt
stamps_level ch u before (s ∷ more) timed = (ap (λ t. t + ch.latency) timed.0, stamps_level ch u (before ++ s ∷ []) more timed.1)

pub stamps_at : (ch : Channel) (u : ℕ) (before sends : List Sent) → AreAt (u + ch.latency) (stamped_after ch before (sends_at u sends))
stamps_at ch u before sends = stamps_level ch u before (sends_at u sends) (each-weaker (λ s. eqb s.time u ≡ true) (λ s. s.time ≡ u) (sends_at u sends) (λ s now. eqb-true s.time u now) (each-passes (λ s. eqb s.time u) sends))

sync_at : (ch : Channel) (u due : ℕ) → AreAt (u + ch.latency) (sync_if_due ch u due)
sync_at ch u due = at (eqb due u)
  where
    at : (b : Bool) → AreAt (u + ch.latency) (cond b (null_message ch u ∷ []) [])
    at true = (refl, tt)
    at false = tt

sync_upto_at : (ch : Channel) (position : Position) (u due : ℕ) → AreAt (u + ch.latency) (sync_upto ch position u due)
sync_upto_at ch position u due = at (is_reached position (sync_key u ch.from.port))
  where
    at : (b : Bool) → AreAt (u + ch.latency) (cond b (sync_if_due ch u due) [])
    at true = sync_at ch u due
    at false = tt

-- messages sent before u: their timestamps never fall, and stay below that of what is sent at u
pub record Rises (ch : Channel) (u : ℕ) (messages : List Msg) : Type 0 where
  pub rises : RisesFrom 0 messages
  pub bound_most : bound_of messages ≤ u + ch.latency

rises_more : (ch : Channel) (u : ℕ) (messages new : List Msg) → Rises ch u messages → AreAt (u + ch.latency) new → Rises ch (suc u) (messages ++ new)
rises_more ch u messages new before level = record {
  rises = rises-append 0 messages new before.rises (level_rises (bound_of messages) (u + ch.latency) new before.bound_most level);
  bound_most = let most : bound_from (bound_of messages) new ≤ u + ch.latency = level_bound_most (bound_of messages) (u + ch.latency) new before.bound_most level in let same : bound_of (messages ++ new) ≡ bound_from (bound_of messages) new = bound-append 0 messages new in omega arith;
}

starts_rising : (ch : Channel) (m : Msg) → m.at ≡ 0 → Rises ch 0 (m ∷ [])
unfolding RisesFrom bound_from
starts_rising ch m first = record { rises = (omega arith, tt); bound_most = omega arith }

pub script_rises : (kind : PortKind) (ch : Channel) (sends : List Sent) (u : ℕ) → Rises ch u (script kind ch sends u).messages
unfolding script
script_rises kind ch sends zero = starts_rising ch _ refl
script_rises kind ch sends (suc u) = rises_more ch u (script kind ch sends u).messages _ (script_rises kind ch sends u) (each-append (λ m. m.at ≡ u + ch.latency) (sync_if_due ch u (script kind ch sends u).sync_due) _ (sync_at ch u (script kind ch sends u).sync_due) (stamps_at ch u (sends_before u sends) sends))

pub script_upto_rises : (kind : PortKind) (ch : Channel) (sends : List Sent) (position : Position) (u : ℕ) → Rises ch u (script_upto kind ch sends position u).messages
unfolding script_upto
script_upto_rises kind ch sends position zero = starts_rising ch _ refl
script_upto_rises kind ch sends position (suc u) = rises_more ch u (script_upto kind ch sends position u).messages _ (script_upto_rises kind ch sends position u) (each-append (λ m. m.at ≡ u + ch.latency) (sync_upto ch position u (script_upto kind ch sends position u).sync_due) _ (sync_upto_at ch position u (script_upto kind ch sends position u).sync_due) (stamps_at ch u (sends_before u sends) sends))

-- the timer is never in the past, and the last timestamp isn't before it
pub record IsAhead (u : ℕ) (so_far : Script) : Type 0 where
  pub timer : u ≤ so_far.sync_due
  pub bound : so_far.sync_due ≤ bound_of so_far.messages

ahead_more : (ch : Channel) (u bound due : ℕ) (new : List Msg) → 1 ≤ ch.interval → ch.interval ≤ ch.latency → due ≤ bound → AreAt (u + ch.latency) new → (new ≡ [] → suc u ≤ due) → (suc u ≤ due_after ch u due new) × (due_after ch u due new ≤ bound_from bound new)
unfolding bound_from
ahead_more ch u bound due [] least most within level none = (none refl, within)
ahead_more ch u bound due (m ∷ more) least most within level none = (omega arith, let same : bound_from m.at more ≡ u + ch.latency = ap (λ low. bound_from low more) level.0 ∙ level_bound (u + ch.latency) more level.1 in omega arith)

pub script_ahead : (kind : PortKind) (ch : Channel) (sends : List Sent) (u : ℕ) → 1 ≤ ch.interval → ch.interval ≤ ch.latency → IsAhead u (script kind ch sends u)
unfolding script bound_from
script_ahead kind ch sends zero least most = record { timer = le_refl 0; bound = le_refl 0 }
script_ahead kind ch sends (suc u) least most = step (script_ahead kind ch sends u least most)
  where
    so_far : Script
    so_far = script kind ch sends u

    stamps : List Msg
    stamps = stamped_after ch (sends_before u sends) (sends_at u sends)

    new : List Msg
    new = sync_if_due ch u so_far.sync_due ++ stamps

    level : AreAt (u + ch.latency) new
    level = each-append (λ m. m.at ≡ u + ch.latency) (sync_if_due ch u so_far.sync_due) stamps (sync_at ch u so_far.sync_due) (stamps_at ch u (sends_before u sends) sends)

    some_due : (b : Bool) → eqb so_far.sync_due u ≡ b → u ≤ so_far.sync_due → cond b (null_message ch u ∷ []) [] ++ stamps ≡ [] → suc u ≤ so_far.sync_due
    some_due true now timer none = absurd (let lengths : suc (length stamps) ≡ 0 = ap length none in omega arith)
    some_due false later timer none = let differ : so_far.sync_due ≡ u → ⊥ = eqb-false so_far.sync_due u later in omega arith

    step : IsAhead u so_far → IsAhead (suc u) (record { messages = so_far.messages ++ new; sync_due = due_after ch u so_far.sync_due new })
    step before = let more : (suc u ≤ due_after ch u so_far.sync_due new) × (due_after ch u so_far.sync_due new ≤ bound_from (bound_of so_far.messages) new) = ahead_more ch u (bound_of so_far.messages) so_far.sync_due new least most before.bound level (some_due (eqb so_far.sync_due u) refl before.timer) in record { timer = more.0; bound = subst (λ b. due_after ch u so_far.sync_due new ≤ b) (sym (bound-append 0 so_far.messages new)) more.1 }

-- the timer of a transcript up to a position isn't after its last timestamp
within_more : (ch : Channel) (u bound due : ℕ) (new : List Msg) → ch.interval ≤ ch.latency → due ≤ bound → AreAt (u + ch.latency) new → due_after ch u due new ≤ bound_from bound new
unfolding bound_from
within_more ch u bound due [] most within level = within
within_more ch u bound due (m ∷ more) most within level = (let same : bound_from m.at more ≡ u + ch.latency = ap (λ low. bound_from low more) level.0 ∙ level_bound (u + ch.latency) more level.1 in omega arith)

pub timer_within : (kind : PortKind) (ch : Channel) (sends : List Sent) (position : Position) (u : ℕ) → ch.interval ≤ ch.latency → (script_upto kind ch sends position u).sync_due ≤ bound_of (script_upto kind ch sends position u).messages
unfolding script_upto bound_from
timer_within kind ch sends position zero most = le_refl 0
timer_within kind ch sends position (suc u) most = subst (λ bound. due_after ch u so_far.sync_due new ≤ bound) (sym (bound-append 0 so_far.messages new)) (within_more ch u (bound_of so_far.messages) so_far.sync_due new most (timer_within kind ch sends position u most) (each-append (λ m. m.at ≡ u + ch.latency) (sync_upto ch position u so_far.sync_due) _ (sync_upto_at ch position u so_far.sync_due) (stamps_at ch u (sends_before u sends) sends)))
  where
    so_far : Script
    so_far = script_upto kind ch sends position u

    new : List Msg
    new = sync_upto ch position u so_far.sync_due ++ stamped_after ch (sends_before u sends) (sends_at u sends)

-- no timestamp is after the last
pub within_bound : (low : ℕ) (xs : List Msg) → RisesFrom low xs → AllByRecursion (λ m. m.at ≤ bound_from low xs) xs × (low ≤ bound_from low xs)
unfolding RisesFrom bound_from
within_bound low [] rises = (tt, le_refl low)
within_bound low (x ∷ xs) rises = let rest : AllByRecursion (λ m. m.at ≤ bound_from x.at xs) xs × (x.at ≤ bound_from x.at xs) = within_bound x.at xs rises.1 in ((rest.1, rest.0), let first : low ≤ x.at = rises.0 in let second : x.at ≤ bound_from x.at xs = rest.1 in omega arith)

-- some of a list that rises rise
pub rises-filter : (p : Msg → Bool) (low : ℕ) (xs : List Msg) → RisesFrom low xs → RisesFrom low (filter p xs)
unfolding RisesFrom
rises-filter p low [] rises = tt
rises-filter p low (x ∷ xs) rises = at (p x) (rises-filter p x.at xs rises.1)
  where
    at : (b : Bool) → RisesFrom x.at (filter p xs) → RisesFrom low (cond b (x ∷ filter p xs) (filter p xs))
    at true rest = (rises.0, rest)
    at false rest = rises_lower low x.at (filter p xs) rises.0 rest
