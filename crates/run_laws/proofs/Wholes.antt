-- Where nothing is left before the end, the run up to the position is the whole run.
use Rattle.std.proofs.Common.{◌≡◌, ℕ, zero, suc, ◌<◌, ◌≤◌, Bool, true, false, eqb, List, [], ◌∷◌, ◌++◌, Option, Some, None, refl, sym, ap, ap₂, ◌∙◌, subst, arith, le_refl, le_of_lt}
use Rattle.std.proofs.lemmas.Bool.{cond-true, cond-false, ne_eqb}
use Rattle.cs_base.specs.declared.port_kind.PortKind.{PortKind}
use Rattle.sb_message.specs.declared.message.Msg.{Msg}
use Rattle.device_api.specs.Behaviour.{Behaviour, Reaction, IsNotPast}
use Rattle.device_api.specs.Channels.{Channel}
use Rattle.device_api.specs.World.{Arrival, Run, Sent, arrivals, arrivals_on, after, rest, followed_by, take_all, tick_if_due, is_at, react, sends_by}
use Rattle.device_api.specs.Local.{local_until}
use Rattle.device_api.specs.Transcript.{RisesFrom, Script, script, with_messages, sync_if_due, stamped_after, sends_before, sends_at, null_message, bound_from}
use Rattle.device_api.specs.Position.{Position, is_reached, sync_key, tick_key, arrivals_upto, tick_upto, sync_upto, local_upto, script_upto}
use Rattle.run_laws.specs.Wired.{SendsEvents}
use Rattle.run_laws.specs.NextEvent.{AreInboxes, IsNothingLeft, local_script}
use Rattle.run_laws.proofs.Lists.{each-weaker}
use Rattle.run_laws.proofs.Growth.{Grows}
use Rattle.run_laws.proofs.Times.{AreAfter, arrivals_on-append, rises_above}
use Rattle.run_laws.proofs.Runs.{sends_grow}
use Rattle.run_laws.proofs.Keys.{missed_after, earlier}
use Rattle.run_laws.proofs.Parts.{joined}
use Rattle.run_laws.proofs.Begun.{upto_is_running, upto_quiet}
use Rattle.run_laws.proofs.Inboxes.{rises-back, taken_upto}
use Rattle.run_laws.proofs.Steps.{stays_until}
use Rattle.run_laws.proofs.ScriptSteps.{stays_until_end, missed_from}

-- messages in order of which the first is after u are all after it
all_after : (u low : ℕ) (xs : List Msg) → RisesFrom low xs → ((m : Msg) (more : List Msg) → xs ≡ m ∷ more → u < m.at) → AreAfter u xs
unfolding RisesFrom
all_after u low [] rises head = tt
all_after u low (m ∷ more) rises head = (head m more refl, each-weaker (λ x. m.at ≤ x.at) (λ x. u < x.at) more (λ x above. let first : u < m.at = head m more refl in omega arith) (rises_above m.at more rises.1))

module _ {S : Type 0} (b : Behaviour S) (ports : ℕ) (inputs handled inbox : ℕ → List Msg) (s : S) (position : Position) (end : ℕ) (boxes : AreInboxes position ports inputs handled inbox) (left : IsNothingLeft b ports inbox (local_upto b ports inputs s position end).state end) where
  -- what arrives before the end was handled
  all_handled : (u n : ℕ) → u < end → n ≤ ports → arrivals u inputs n ≡ arrivals u handled n
  unfolding arrivals
  all_handled u zero lt le = refl
  all_handled u (suc p) lt le = ap₂ ◌++◌ (all_handled u p lt (omega arith)) (ap (arrivals_on u p 0) (boxes.whole p le) ∙ arrivals_on-append u p 0 (handled p) (inbox p) (all_after u (bound_from 0 (handled p)) (inbox p) (rises-back 0 (handled p) (inbox p) (subst (RisesFrom 0) (boxes.whole p le) (boxes.rises p le))) (λ m more head. let late : end ≤ m.at = left.messages p le m more head in omega arith)))

  -- a tick before the end that wasn't reached isn't due
  not_due : (u : ℕ) → u < end → is_reached position (tick_key u) ≡ false → (state : S) → (local_upto b ports inputs s position (suc u)).state ≡ state → is_at (b.due state) u ≡ false
  not_due u lt missed state is = at (b.due state) (subst (λ x. IsNotPast end (b.due x)) (ap (λ (run : Run S). run.state) (stays_until b ports inputs s position (suc u) end lt (λ v le. missed_after position (tick_key u) (sync_key v 0) (earlier (tick_key u) (sync_key v 0) le) missed)) ∙ is) left.tick)
    where
      at : (due : Option ℕ) → IsNotPast end due → is_at due u ≡ false
      at None late = refl
      at (Some d) late = ne_eqb d u (λ e. omega (arith, late))

  same_until : (u : ℕ) → u ≤ end → local_upto b ports inputs s position u ≡ local_until b ports inputs s u
  unfolding local_upto local_until
  same_until zero le = refl
  same_until (suc u) le = ap (after u so_far) (ap (λ l. followed_by (take_all b u l so_far.state) (tick_upto b position u)) heard ∙ ap (joined taken) (at (is_reached position (tick_key u)) refl)) ∙ ap (λ (run : Run S). after u run (react b u arrived run.state)) (same_until u (omega arith))
    where
      arrived : List Arrival
      arrived = arrivals u inputs ports

      so_far : Run S
      so_far = local_upto b ports inputs s position u

      taken : Reaction S
      taken = take_all b u arrived so_far.state

      heard : arrivals_upto position u arrived ≡ arrived
      heard = taken_upto position ports inputs handled inbox boxes u ports (le_refl ports) ∙ sym (all_handled u ports le (le_refl ports))

      at : (reached : Bool) → is_reached position (tick_key u) ≡ reached → tick_upto b position u taken.state ≡ tick_if_due b u taken.state
      at true e = cond-true (is_reached position (tick_key u)) (tick_if_due b u taken.state) (rest taken.state) e
      at false e = none ∙ sym (cond-false (is_at (b.due taken.state) u) (b.tick taken.state u) (rest taken.state) (not_due u le e taken.state (ap (λ l. (followed_by (take_all b u l so_far.state) (tick_upto b position u)).state) heard ∙ ap (λ (r : Reaction S). r.state) none)))
        where
          none : tick_upto b position u taken.state ≡ rest taken.state
          none = cond-false (is_reached position (tick_key u)) (tick_if_due b u taken.state) (rest taken.state) e

  pub run_whole : local_upto b ports inputs s position end ≡ local_until b ports inputs s end
  run_whole = same_until end (le_refl end)

module _ (kind : PortKind) (ch : Channel) (position : Position) (part : ℕ → List Sent) (grows : Grows part) (quiet : (u : ℕ) → is_reached position (sync_key u ch.from.port) ≡ false → part (suc u) ≡ part u) (end : ℕ) (left : end ≤ (script_upto kind ch (part end) position end).sync_due) where
  same_script : (u : ℕ) → u ≤ end → script_upto kind ch (part end) position u ≡ script kind ch (part end) u
  unfolding script_upto script
  same_script zero le = refl
  same_script (suc u) le = ap (λ l. with_messages ch u so_far (l ++ stamped_after ch (sends_before u (part end)) (sends_at u (part end)))) (at (is_reached position (sync_key u ch.from.port)) refl) ∙ ap (λ (x : Script). with_messages ch u x (sync_if_due ch u x.sync_due ++ stamped_after ch (sends_before u (part end)) (sends_at u (part end)))) (same_script u (omega arith))
    where
      so_far : Script
      so_far = script_upto kind ch (part end) position u

      at : (reached : Bool) → is_reached position (sync_key u ch.from.port) ≡ reached → sync_upto ch position u so_far.sync_due ≡ sync_if_due ch u so_far.sync_due
      at true e = cond-true (is_reached position (sync_key u ch.from.port)) (sync_if_due ch u so_far.sync_due) [] e
      at false e = cond-false (is_reached position (sync_key u ch.from.port)) (sync_if_due ch u so_far.sync_due) [] e ∙ sym (cond-false (eqb so_far.sync_due u) (null_message ch u ∷ []) [] (ne_eqb so_far.sync_due u (λ same. let due : (script_upto kind ch (part end) position end).sync_due ≡ so_far.sync_due = ap (λ (x : Script). x.sync_due) (stays_until_end kind ch position part grows quiet end u (le_of_lt le) (missed_from kind ch position part grows quiet end u e)) in omega arith)))

-- where a port's next null message isn't before the end, its transcript so far is the whole one
pub script_whole : {S : Type 0} (b : Behaviour S) → SendsEvents b → (ports : ℕ) (inputs : ℕ → List Msg) (s : S) (position : Position) (end : ℕ) (kind : PortKind) (ch : Channel) → end ≤ (local_script kind ch (local_upto b ports inputs s position end) position end).sync_due → local_script kind ch (local_upto b ports inputs s position end) position end ≡ script kind ch (sends_by ch.from.port (local_upto b ports inputs s position end).sent) end
script_whole b only ports inputs s position end kind ch left = same_script kind ch position (λ t. sends_by ch.from.port (local_upto b ports inputs s position t).sent) (sends_grow (local_upto b ports inputs s position) ch.from.port (upto_is_running b only ports inputs s position)) (λ u missed. ap (sends_by ch.from.port) (upto_quiet b ports inputs s position u ch.from.port missed)) end left end (le_refl end)
