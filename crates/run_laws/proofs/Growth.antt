-- Sends that grow moment by moment, and the transcripts of such sends.
use Rattle.std.proofs.Common.{◌≡◌, ℕ, zero, suc, ◌<◌, ◌≤◌, Bool, true, false, cond, eqb, ltb, List, [], ◌∷◌, ◌++◌, refl, sym, ap, ap₂, ◌∙◌, subst, arith, append_assoc, append-nil, eq-or-lt_of_le, inl, inr, ◌⊎◌, le_refl}
use Rattle.std.proofs.lemmas.Bool.{ne_eqb, eq-eqb, lt-ltb, le-ltb}
use Rattle.std.proofs.lemmas.List.Elements.{filter-append}
use Rattle.std.specs.List.{AllByRecursion}
use Rattle.cs_base.specs.declared.port_kind.PortKind.{PortKind}
use Rattle.sb_message.specs.Receivable.{is_event}
use Rattle.sb_message.specs.declared.message.Msg.{Msg}
use Rattle.device_api.specs.Channels.{Channel}
use Rattle.device_api.specs.World.{Sent, arrivals_on}
use Rattle.device_api.specs.Transcript.{stamped_after, stamped, Script, sends_before, sends_at, script, transcript, sync_if_due, null_message, bodies}
use Rattle.run_laws.proofs.Lists.{each-append, each-weaker, filter_each, filter_none}
use Rattle.run_laws.proofs.Times.{AreSince, AreEventSends, arrivals_on-stamped, stamped_after-append, stamped_after-events}

-- sends until each time: in each moment some events more, with that time
pub record Grows (until : ℕ → List Sent) : Type 0 where
  pub made : ℕ → List Sent
  pub starts : until 0 ≡ []
  pub adds : (t : ℕ) → until (suc t) ≡ until t ++ made t
  pub timed : (t : ℕ) → AllByRecursion (λ s. s.time ≡ t) (made t)
  pub events : (t : ℕ) → AreEventSends (made t)

-- what came after t
pub record Since (until : ℕ → List Sent) (t u : ℕ) : Type 0 where
  pub more : List Sent
  pub whole : until u ≡ until t ++ more
  pub since : AreSince t more

-- a null message is no event
pub bodies-sync : (ch : Channel) (u due : ℕ) → bodies (sync_if_due ch u due) ≡ []
bodies-sync ch u due = at (eqb due u)
  where
    at : (b : Bool) → bodies (cond b (null_message ch u ∷ []) []) ≡ []
    at true = refl
    at false = refl

module _ (until : ℕ → List Sent) (grows : Grows until) where
  pub since : (t u : ℕ) → t ≤ u → Since until t u
  since t zero le = record { more = []; whole = ap until (let e : zero ≡ t = omega arith in e) ∙ sym (append-nil (until t)); since = tt }
  since t (suc u) le = at (λ le'. since t u le') (eq-or-lt_of_le le)
    where
      at : (t ≤ u → Since until t u) → (t ≡ suc u) ⊎ (t < suc u) → Since until t (suc u)
      at before (inl now) = record { more = []; whole = ap until (sym now) ∙ sym (append-nil (until t)); since = tt }
      at before (inr past) = let so_far : Since until t u = before (omega arith) in record { more = so_far.more ++ grows.made u; whole = grows.adds u ∙ ap (λ l. l ++ grows.made u) so_far.whole ∙ append_assoc (until t) so_far.more (grows.made u); since = each-append (λ s. t ≤ s.time) so_far.more (grows.made u) so_far.since (each-weaker (λ s. s.time ≡ u) (λ s. t ≤ s.time) (grows.made u) (λ s timed. omega arith) (grows.timed u)) }

  pub all_before : (t : ℕ) → AllByRecursion (λ s. s.time < t) (until t)
  all_before zero = subst (λ l. AllByRecursion (λ s. s.time < zero) l) (sym grows.starts) tt
  all_before (suc t) = subst (λ l. AllByRecursion (λ s. s.time < suc t) l) (sym (grows.adds t)) (each-append (λ s. s.time < suc t) (until t) (grows.made t) (each-weaker (λ s. s.time < t) (λ s. s.time < suc t) (until t) (λ s before. omega arith) (all_before t)) (each-weaker (λ s. s.time ≡ t) (λ s. s.time < suc t) (grows.made t) (λ s now. omega arith) (grows.timed t)))

  -- those before t of the sends until u are the sends until t
  pub before_is : (t u : ℕ) → t ≤ u → sends_before t (until u) ≡ until t
  before_is t u le = ap (sends_before t) later.whole ∙ filter-append (λ s. ltb s.time t) (until t) later.more ∙ ap₂ ◌++◌ (filter_each (λ s. ltb s.time t) (until t) (each-weaker (λ s. s.time < t) (λ s. ltb s.time t ≡ true) (until t) (λ s lt. lt-ltb s.time t lt) (all_before t))) (filter_none (λ s. ltb s.time t) later.more (each-weaker (λ s. t ≤ s.time) (λ s. ltb s.time t ≡ false) later.more (λ s ge. le-ltb s.time t ge) later.since)) ∙ append-nil (until t)
    where
      later : Since until t u
      later = since t u le

  -- those at t of the sends until a later time are what was made at t
  pub at_is : (t u : ℕ) → t < u → sends_at t (until u) ≡ grows.made t
  at_is t u lt = ap (sends_at t) (later.whole ∙ ap (λ l. l ++ later.more) (grows.adds t)) ∙ filter-append (λ s. eqb s.time t) (until t ++ grows.made t) later.more ∙ ap₂ ◌++◌ (filter-append (λ s. eqb s.time t) (until t) (grows.made t) ∙ ap₂ ◌++◌ (filter_none (λ s. eqb s.time t) (until t) (each-weaker (λ s. s.time < t) (λ s. eqb s.time t ≡ false) (until t) (λ s past. ne_eqb s.time t (λ e. omega arith)) (all_before t))) (filter_each (λ s. eqb s.time t) (grows.made t) (each-weaker (λ s. s.time ≡ t) (λ s. eqb s.time t ≡ true) (grows.made t) (λ s now. eq-eqb s.time t now) (grows.timed t)))) (filter_none (λ s. eqb s.time t) later.more (each-weaker (λ s. suc t ≤ s.time) (λ s. eqb s.time t ≡ false) later.more (λ s after. ne_eqb s.time t (λ e. omega arith)) later.since)) ∙ append-nil (grows.made t)
    where
      later : Since until (suc t) u
      later = since (suc t) u lt

  -- what arrives at t was sent before t
  pub arrivals_of_past : (ch : Channel) (t u p i : ℕ) → 1 ≤ ch.latency → t ≤ u → arrivals_on t p i (stamped ch (until u)) ≡ arrivals_on t p i (stamped ch (until t))
  arrivals_of_past ch t u p i positive le = ap (λ l. arrivals_on t p i (stamped ch l)) later.whole ∙ arrivals_on-stamped ch t p i (until t) later.more positive later.since
    where
      later : Since until t u
      later = since t u le

  -- the events of a transcript are its sends
  pub bodies-script : (kind : PortKind) (ch : Channel) (e u : ℕ) → u ≤ e → bodies (script kind ch (until e) u).messages ≡ stamped ch (until u)
  unfolding script stamped_after
  bodies-script kind ch e zero le = ap (stamped_after ch []) (sym grows.starts)
  bodies-script kind ch e (suc u) le = filter-append (λ m. is_event m.body) so_far.messages new ∙ ap₂ ◌++◌ (bodies-script kind ch e u (omega arith)) (filter-append (λ m. is_event m.body) (sync_if_due ch u so_far.sync_due) stamps ∙ ap₂ ◌++◌ (bodies-sync ch u so_far.sync_due) (stamps_are)) ∙ sym (stamped_after-append ch [] (until u) (grows.made u)) ∙ ap (stamped ch) (sym (grows.adds u))
    where
      so_far : Script
      so_far = script kind ch (until e) u

      stamps : List Msg
      stamps = stamped_after ch (sends_before u (until e)) (sends_at u (until e))

      new : List Msg
      new = sync_if_due ch u so_far.sync_due ++ stamps

      stamps_are : bodies stamps ≡ stamped_after ch (until u) (grows.made u)
      stamps_are = ap₂ (λ x y. bodies (stamped_after ch x y)) (before_is u e (omega arith)) (at_is u e le) ∙ stamped_after-events ch (until u) (grows.made u) (grows.events u)

  pub bodies-transcript : (kind : PortKind) (ch : Channel) (end : ℕ) → bodies (transcript kind ch (until end) end) ≡ stamped ch (until end)
  bodies-transcript kind ch end = bodies-script kind ch end end (le_refl end)
