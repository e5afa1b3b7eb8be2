-- Where all components have ended and nothing is held between two ends, nothing is left.
use Rattle.std.proofs.Common.{◌≡◌, ℕ, ◌+◌, ◌-◌, ◌≤◌, List, [], ◌++◌, length, Some, refl, sym, ap, ◌∙◌, subst, arith, append-nil}
use Rattle.std.specs.Prelude.{slice_get}
use Rattle.cs_base.specs.declared.port_kind.PortKind.{PortKind}
use Rattle.cs_base.specs.Plan.{End}
use Rattle.sb_message.specs.declared.message.Msg.{Msg}
use Rattle.device_api.specs.Behaviour.{IsLawful, IsNotPast}
use Rattle.device_api.specs.Channels.{Channel, channels}
use Rattle.device_api.specs.GlobalCounts.{messages_of}
use Rattle.device_api.specs.Position.{Position}
use Rattle.device_api.specs.Transcript.{bodies, transcript}
use Rattle.device_api.specs.World.{Network, Run, Sent, log_in, sends_by}
use Rattle.run_laws.specs.LocalRuns.{AreLocalRuns, local_run}
use Rattle.run_laws.specs.NextEvent.{IsNothingLeft}
use Rattle.run_laws.specs.Upto.{local_run_upto}
use Rattle.run_laws.specs.Wired.{IsWired, IsChannel}
use Rattle.run_laws.proofs.Lifted.{runs_are}
use Rattle.run_laws.proofs.Wholes.{run_whole}
use Rattle.sync_rule.specs.declared.runner.Runner.{Runner}
use Rattle.sync_rule.specs.ManyPorts.{outbox_at}
use Rattle.sync_laws.specs.Stands.{Stands, inbox_in}
use Rattle.sync_laws.specs.Whole.{IsWhole, HaveEnded, made_by, outbox_of, of_component}
use Rattle.sync_laws.specs.ToCome.{tallied, tallied_network, events_in_run, events_upto, events_to_come, syncs_among, messages_to_come, left}
use Rattle.sync_laws.proofs.Begins.{nothing_left_for, run_is, are_local, sent_ends}
use Rattle.sync_laws.proofs.Ends.{HasPort, runner_of}
use Rattle.sync_laws.proofs.Fronts.{only, plain, from, way, messages_are}
use Rattle.sync_laws.proofs.Tallied.{RunAlike, run_alike, tallied_events}
use Rattle.sync_laws.proofs.Totals.{total_none}

none_of : (n m : ℕ) → n ≡ m → m - n ≡ 0
none_of n m is = omega arith

three_none : (a b c : ℕ) → a ≡ 0 → b ≡ 0 → c ≡ 0 → a + b + c ≡ 0
three_none a b c x y z = omega arith

two_none : (a b : ℕ) → a ≡ 0 → b ≡ 0 → a + b ≡ 0
two_none a b x y = omega arith

module _ {V : Type 0} (net : Network V) (settled : V → ℕ → Type 0) (end : ℕ) (positions : ℕ → Position) (received sent held : End → List Msg) (runners : List (Runner V)) (whole : IsWhole net settled end positions received sent held runners) (wired : IsWired net end) (lawful : IsLawful net.behaviour settled) (ended : HaveEnded net.behaviour runners) where
  abbrev tnet : Network V
  tnet = tallied_network net

  alike : (c : ℕ) (s : V) → RunAlike (local_run_upto tnet received c s (positions c) end) (local_run_upto net received c s (positions c) end)
  alike c s = run_alike net.behaviour (length (net.behaviour.ports s)) (λ port. bodies (received (record { component = c; port = port }))) s (positions c) end

  local : AreLocalRuns net sent received end
  local = are_local net settled end positions received sent held runners whole wired (only net settled end positions received sent held runners whole wired lawful) ended

  -- the run of the device that logs one line at each event is whole too
  tallied_run_is : (c : ℕ) (s : V) (r : Runner V) → slice_get net.starts c ≡ Some s → slice_get runners c ≡ Some r → local_run_upto tnet received c s (positions c) end ≡ local_run tnet received c s end
  tallied_run_is c s r starts is = run_whole (tallied net.behaviour) (length (net.behaviour.ports s)) (λ port. bodies (received (record { component = c; port = port }))) stands.handled (inbox_in r.incoming) s (positions c) end stands.boxes (record { messages = nothing.messages; tick = subst (λ x. IsNotPast end (net.behaviour.due x)) (sym (alike c s).state) nothing.tick })
    where
      stands : Stands net.behaviour settled s (positions c) (of_component c received) (of_component c sent) r
      stands = whole.standing c s r starts is

      nothing : IsNothingLeft net.behaviour (length (net.behaviour.ports s)) (inbox_in r.incoming) (local_run_upto net received c s (positions c) end).state end
      nothing = nothing_left_for net settled end positions received sent held runners whole wired (only net settled end positions received sent held runners whole wired lawful) ended c s r starts is

  same_sends : (c : ℕ) (s : V) (r : Runner V) → slice_get net.starts c ≡ Some s → slice_get runners c ≡ Some r → (local_run net received c s end).sent ≡ (local_run tnet received c s end).sent
  same_sends c s r starts is = ap (λ (run : Run V). run.sent) (sym (run_is net settled end positions received sent held runners whole wired (only net settled end positions received sent held runners whole wired lawful) ended c s r starts is)) ∙ sym (alike c s).sent ∙ ap (λ (run : Run V). run.sent) (tallied_run_is c s r starts is)

  tallied_local : AreLocalRuns tnet sent received end
  tallied_local = record {
    delivered = λ ch s kind way. local.delivered ch s kind (plain net ch s kind way);
    by_local_runs = λ ch s kind way. local.by_local_runs ch s kind (plain net ch s kind way) ∙ (let r : (r : Runner V) × (slice_get runners ch.from.component ≡ Some r) = runner_of net settled end positions received sent held runners whole ch.from.component s way.sender in ap (λ (l : List Sent). transcript kind ch (sends_by ch.from.port l) end) (same_sends ch.from.component s r.0 way.sender r.1));
  }

  no_events : (c : ℕ) (s : V) → slice_get net.starts c ≡ Some s → events_to_come net end positions received c s ≡ 0
  no_events c s starts = none_of (events_upto net received c s (positions c) end) (events_in_run net end c) (let r : (r : Runner V) × (slice_get runners c ≡ Some r) = runner_of net settled end positions received sent held runners whole c s starts in ap (λ (run : Run V). length run.log) (tallied_run_is c s r.0 starts r.1) ∙ sym (ap (λ o. length (log_in o)) (runs_are tnet sent received end wired (tallied_events net.behaviour (only net settled end positions received sent held runners whole wired lawful)) tallied_local c s starts)))

  module _ (none_held : (k : ℕ) (ch : Channel) → slice_get (channels net.links) k ≡ Some ch → held ch.from ≡ []) where
    no_messages : (k : ℕ) (ch : Channel) → slice_get (channels net.links) k ≡ Some ch → messages_to_come net end received sent runners ch ≡ 0
    no_messages k ch is = three_none _ _ _ (none_of (syncs_among (made_by sent runners ch.from)) (syncs_among (messages_of net end ch)) (ap syncs_among (made_is ∙ sent_is))) (none_of (length (sent ch.from)) (length (messages_of net end ch)) (ap length sent_is)) (none_of (length (received ch.to)) (length (messages_of net end ch)) (ap length (received_is ∙ sent_is)))
      where
        port : HasPort net settled positions received sent runners ch.from
        port = from net settled end positions received sent held runners whole wired lawful k ch is

        sent_is : sent ch.from ≡ messages_of net end ch
        sent_is = sent_ends net settled end positions received sent held runners whole wired (only net settled end positions received sent held runners whole wired lawful) ended ch port.start port.kind (way net settled end positions received sent held runners whole wired lawful k ch is) ∙ sym (messages_are net settled end positions received sent held runners whole wired lawful k ch is)

        made_is : made_by sent runners ch.from ≡ sent ch.from
        made_is = ap (λ o. sent ch.from ++ outbox_of o ch.from.port) port.there ∙ ap (λ o. sent ch.from ++ outbox_at o) port.out_at ∙ ap (λ l. sent ch.from ++ l) ((ended ch.from.component port.runner port.there).all_sent ch.from.port port.outgoing port.out_at) ∙ append-nil (sent ch.from)

        received_is : received ch.to ≡ sent ch.from
        received_is = sym (append-nil (received ch.to)) ∙ ap (λ l. received ch.to ++ l) (sym (none_held k ch is)) ∙ sym (whole.joined k ch is).between

    pub nothing_left : left net end positions received sent runners ≡ 0
    nothing_left = two_none _ _ (total_none (events_to_come net end positions received) net.starts no_events) (total_none (λ k ch. messages_to_come net end received sent runners ch) (channels net.links) no_messages)
