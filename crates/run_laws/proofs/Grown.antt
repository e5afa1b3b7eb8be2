-- The transcripts of a run up to a position grow with its events.
use Rattle.std.proofs.Common.{◌≡◌, ℕ, suc, ◌<◌, eqb, List, [], ◌∷◌, Some, false, refl, sym, ap, ◌∙◌, append-nil}
use Rattle.std.proofs.lemmas.List.Elements.{filter-append}
use Rattle.std.specs.List.{AllByRecursion}
use Rattle.cs_base.specs.declared.port_kind.PortKind.{PortKind}
use Rattle.sb_message.specs.declared.message.Body.{Body}
use Rattle.sb_message.specs.declared.message.Msg.{Msg}
use Rattle.device_api.specs.Behaviour.{Behaviour, Reaction}
use Rattle.device_api.specs.Channels.{Channel}
use Rattle.device_api.specs.World.{Run, Sent, after, sends_by, sent_at}
use Rattle.device_api.specs.Transcript.{stamped_after, with_messages, null_message}
use Rattle.device_api.specs.Position.{Key, Position, is_reached, sync_key, local_upto, script_upto}
use Rattle.run_laws.specs.Wired.{SendsEvents}
use Rattle.run_laws.specs.NextEvent.{IsBeforeTimer, local_script}
use Rattle.run_laws.proofs.Lists.{each-filter}
use Rattle.run_laws.proofs.Growth.{Grows}
use Rattle.run_laws.proofs.Runs.{sends_grow}
use Rattle.run_laws.proofs.Begun.{upto_is_running, upto_quiet}
use Rattle.run_laws.proofs.ScriptSteps.{with_none, grows_by_event, grows_by_sync}

-- what is sent at a time has that time
sent_timed : (t : ℕ) (sends : List (ℕ × Body)) → AllByRecursion (λ s. s.time ≡ t) (sent_at t sends)
sent_timed t [] = tt
sent_timed t (x ∷ more) = (refl, sent_timed t more)

module _ {S : Type 0} (b : Behaviour S) (ports : ℕ) (inputs : ℕ → List Msg) (s : S) (position : Position) (last : Key) (end : ℕ) (kind : PortKind) (ch : Channel) (only : SendsEvents b) (later : is_reached position last ≡ false) (within : last.time < end) where
  part : ℕ → List Sent
  part t = sends_by ch.from.port (local_upto b ports inputs s position t).sent

  grows : Grows part
  unfolding part
  grows = sends_grow (local_upto b ports inputs s position) ch.from.port (upto_is_running b only ports inputs s position)

  quiet : (u : ℕ) → is_reached position (sync_key u ch.from.port) ≡ false → part (suc u) ≡ part u
  unfolding part
  quiet u missed = ap (sends_by ch.from.port) (upto_quiet b ports inputs s position u ch.from.port missed)

  pub by_event : (r : Reaction S) → local_upto b ports inputs s (Some last) end ≡ after last.time (local_upto b ports inputs s position end) r → IsBeforeTimer last ch (local_script kind ch (local_upto b ports inputs s position end) position end) → local_script kind ch (local_upto b ports inputs s (Some last) end) (Some last) end ≡ with_messages ch last.time (local_script kind ch (local_upto b ports inputs s position end) position end) (stamped_after ch (sends_by ch.from.port (local_upto b ports inputs s position end).sent) (sends_by ch.from.port (sent_at last.time r.sends)))
  unfolding part
  by_event r run before = ap (λ l. script_upto kind ch l (Some last) end) (ap (λ (run : Run S). sends_by ch.from.port run.sent) run ∙ filter-append (λ x. eqb x.port ch.from.port) (local_upto b ports inputs s position end).sent (sent_at last.time r.sends)) ∙ grows_by_event kind ch position part grows quiet end last later within (sends_by ch.from.port (sent_at last.time r.sends)) (each-filter (λ x. x.time ≡ last.time) (λ x. eqb x.port ch.from.port) (sent_at last.time r.sends) (sent_timed last.time r.sends)) before

  pub by_none : local_upto b ports inputs s (Some last) end ≡ local_upto b ports inputs s position end → IsBeforeTimer last ch (local_script kind ch (local_upto b ports inputs s position end) position end) → local_script kind ch (local_upto b ports inputs s (Some last) end) (Some last) end ≡ local_script kind ch (local_upto b ports inputs s position end) position end
  unfolding part stamped_after
  by_none run before = ap (λ l. script_upto kind ch l (Some last) end) (ap (λ (run : Run S). sends_by ch.from.port run.sent) run ∙ sym (append-nil (part end))) ∙ grows_by_event kind ch position part grows quiet end last later within [] tt before ∙ with_none ch last.time (local_script kind ch (local_upto b ports inputs s position end) position end)

pub by_sync : {S : Type 0} (b : Behaviour S) (ports : ℕ) (inputs : ℕ → List Msg) (s : S) (position : Position) (u end : ℕ) (kind : PortKind) (ch : Channel) → SendsEvents b → is_reached position (sync_key u ch.from.port) ≡ false → u < end → local_upto b ports inputs s (Some (sync_key u ch.from.port)) end ≡ local_upto b ports inputs s position end → (local_script kind ch (local_upto b ports inputs s position end) position end).sync_due ≡ u → local_script kind ch (local_upto b ports inputs s (Some (sync_key u ch.from.port)) end) (Some (sync_key u ch.from.port)) end ≡ with_messages ch u (local_script kind ch (local_upto b ports inputs s position end) position end) (null_message ch u ∷ [])
unfolding part
by_sync {S} b ports inputs s position u end kind ch only later within run due = ap (λ (run : Run S). script_upto kind ch (sends_by ch.from.port run.sent) (Some (sync_key u ch.from.port)) end) run ∙ grows_by_sync kind ch position (part b ports inputs s position (sync_key u ch.from.port) end kind ch only later within) (grows b ports inputs s position (sync_key u ch.from.port) end kind ch only later within) (quiet b ports inputs s position (sync_key u ch.from.port) end kind ch only later within) end u later within due
