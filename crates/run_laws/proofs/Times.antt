-- Timestamps: what arrives at a moment doesn't depend on what is sent then or later.
use Rattle.std.proofs.Common.{◌≡◌, ℕ, suc, ◌<◌, ◌≤◌, true, cond, eqb, List, [], ◌∷◌, ◌++◌, refl, sym, ap, ◌∙◌, subst, arith, append_assoc, append-nil}
use Rattle.std.proofs.lemmas.Bool.{cond-true, cond-false, ne_eqb}
use Rattle.std.proofs.lemmas.List.Elements.{filter-append}
use Rattle.std.specs.List.{AllByRecursion}
use Rattle.sb_message.specs.Receivable.{is_event}
use Rattle.sb_message.specs.declared.message.Msg.{Msg}
use Rattle.device_api.specs.Channels.{Channel}
use Rattle.device_api.specs.World.{Sent, arrivals_on, stamp}
use Rattle.device_api.specs.Transcript.{RisesFrom, stamped_after, stamped, bodies, bound_from, bound_of}
use Rattle.run_laws.specs.LocalRuns.{IsDelivered}
use Rattle.run_laws.proofs.Lists.{each-weaker, each-filter}

-- messages after t
abbrev pub AreAfter : ℕ → List Msg → Type 0
AreAfter t messages = AllByRecursion (λ m. t < m.at) messages

-- sends at t or later
abbrev pub AreSince : ℕ → List Sent → Type 0
AreSince t sends = AllByRecursion (λ s. t ≤ s.time) sends

-- events
abbrev pub AreEventSends : List Sent → Type 0
AreEventSends sends = AllByRecursion (λ s. is_event s.body ≡ true) sends

-- what is after t doesn't arrive at t
pub arrivals_on-after : (t p i : ℕ) (xs : List Msg) → AreAfter t xs → arrivals_on t p i xs ≡ []
unfolding arrivals_on
arrivals_on-after t p i [] later = refl
arrivals_on-after t p i (x ∷ more) later = cond-false (eqb x.at t) _ (arrivals_on t p (suc i) more) (ne_eqb x.at t (λ e. let first : t < x.at = later.0 in omega arith)) ∙ arrivals_on-after t p (suc i) more later.1

pub arrivals_on-append : (t p i : ℕ) (xs ys : List Msg) → AreAfter t ys → arrivals_on t p i (xs ++ ys) ≡ arrivals_on t p i xs
unfolding arrivals_on
arrivals_on-append t p i [] ys later = arrivals_on-after t p i ys later
arrivals_on-append t p i (x ∷ more) ys later = ap (λ l. cond (eqb x.at t) (record { port = p; number = i; body = x.body } ∷ l) l) (arrivals_on-append t p (suc i) more ys later)

-- a send arrives after it was sent
pub stamp_later : (ch : Channel) (before : List Sent) (s : Sent) → 1 ≤ ch.latency → s.time < stamp ch before s
stamp_later ch before s positive = omega arith

pub stamped_after-append : (ch : Channel) (before xs ys : List Sent) → stamped_after ch before (xs ++ ys) ≡ stamped_after ch before xs ++ stamped_after ch (before ++ xs) ys
unfolding stamped_after
stamped_after-append ch before [] ys = ap (λ l. stamped_after ch l ys) (sym (append-nil before))
stamped_after-append ch before (x ∷ xs) ys = ap (λ l. record { at = stamp ch before x; body = x.body } ∷ l) (stamped_after-append ch (before ++ x ∷ []) xs ys ∙ ap (λ l. stamped_after ch (before ++ x ∷ []) xs ++ stamped_after ch l ys) (append_assoc before (x ∷ []) xs))

pub stamped_after-since : (ch : Channel) (t : ℕ) (before sends : List Sent) → 1 ≤ ch.latency → AreSince t sends → AreAfter t (stamped_after ch before sends)
unfolding stamped_after
stamped_after-since ch t before [] positive since = tt
stamped_after-since ch t before (s ∷ more) positive since = (let now : t ≤ s.time = since.0 in let later : s.time < stamp ch before s = stamp_later ch before s positive in omega arith, stamped_after-since ch t (before ++ s ∷ []) more positive since.1)

pub stamped_after-events : (ch : Channel) (before sends : List Sent) → AreEventSends sends → bodies (stamped_after ch before sends) ≡ stamped_after ch before sends
unfolding stamped_after
stamped_after-events ch before [] events = refl
stamped_after-events ch before (s ∷ more) events = cond-true (is_event s.body) _ (bodies (stamped_after ch (before ++ s ∷ []) more)) events.0 ∙ ap (λ l. record { at = stamp ch before s; body = s.body } ∷ l) (stamped_after-events ch (before ++ s ∷ []) more events.1)

-- what is sent at t or later doesn't arrive at t
pub arrivals_on-stamped : (ch : Channel) (t p i : ℕ) (sends more : List Sent) → 1 ≤ ch.latency → AreSince t more → arrivals_on t p i (stamped ch (sends ++ more)) ≡ arrivals_on t p i (stamped ch sends)
arrivals_on-stamped ch t p i sends more positive since = ap (arrivals_on t p i) (stamped_after-append ch [] sends more) ∙ arrivals_on-append t p i (stamped ch sends) (stamped_after ch sends more) (stamped_after-since ch t sends more positive since)

-- what comes after a list that rises isn't below its last timestamp
pub rises_above : (low : ℕ) (xs : List Msg) → RisesFrom low xs → AllByRecursion (λ m. low ≤ m.at) xs
unfolding RisesFrom
rises_above low [] rises = tt
rises_above low (x ∷ more) rises = (rises.0, each-weaker (λ m. x.at ≤ m.at) (λ m. low ≤ m.at) more (λ m above. let first : low ≤ x.at = rises.0 in omega arith) (rises_above x.at more rises.1))

pub rest_rises : (low : ℕ) (xs rest : List Msg) → RisesFrom low (xs ++ rest) → AllByRecursion (λ m. bound_from low xs ≤ m.at) rest
unfolding RisesFrom bound_from
rest_rises low [] rest rises = rises_above low rest rises
rest_rises low (x ∷ more) rest rises = rest_rises x.at more rest rises.1

-- before `end`, what was received arrives as what was sent
pub arrivals_on-received : (sent received : List Msg) (end t p i : ℕ) → RisesFrom 0 sent → IsDelivered sent received end → t < end → arrivals_on t p i (bodies received) ≡ arrivals_on t p i (bodies sent)
arrivals_on-received sent received end t p i rises delivered before = sym (ap (λ l. arrivals_on t p i (bodies l)) whole ∙ ap (arrivals_on t p i) (filter-append (λ m. is_event m.body) received rest) ∙ arrivals_on-append t p i (bodies received) (bodies rest) (each-filter (λ m. t < m.at) (λ m. is_event m.body) rest later))
  where
    rest : List Msg
    rest = delivered.in_transit.rest

    whole : sent ≡ received ++ rest
    whole = delivered.in_transit.whole_is

    later : AreAfter t rest
    later = each-weaker (λ m. bound_of received ≤ m.at) (λ m. t < m.at) rest (λ m above. let reached : end ≤ bound_of received = delivered.reached in omega arith) (rest_rises 0 received rest (subst (RisesFrom 0) whole rises))
