-- A network that stands as a whole begins the global run, and where all have ended it is the global run.
use Rattle.std.proofs.Common.{◌≡◌, ℕ, ◌<◌, ◌≤◌, false, List, [], ◌∷◌, ◌++◌, length, Option, Some, None, refl, sym, ap, ap₂, ◌∙◌, subst, arith, append_assoc, append-nil}
use Rattle.std.specs.Prelude.{slice_get}
use Rattle.std.specs.List.{AllByRecursion}
use Rattle.std.proofs.lemmas.Option.{same_Some, slice_get_within}
use Rattle.cs_base.specs.declared.port_kind.PortKind.{PortKind}
use Rattle.cs_base.specs.Plan.{End}
use Rattle.sb_message.specs.Receivable.{is_event}
use Rattle.sb_message.specs.declared.message.Msg.{Msg}
use Rattle.device_api.specs.Behaviour.{IsNotPast}
use Rattle.device_api.specs.Channels.{Channel, channels}
use Rattle.device_api.specs.Counts.{count_of}
use Rattle.device_api.specs.Position.{Position, is_reached, next_key}
use Rattle.device_api.specs.Transcript.{Script, bodies, bound_of, bound_from, transcript, script}
use Rattle.device_api.specs.World.{Network, Run, sends_by, sends_on, global_until, log_of, log_in}
use Rattle.run_laws.specs.NextEvent.{IsNothingLeft, local_script}
use Rattle.run_laws.specs.LocalRuns.{AreLocalRuns, IsDelivered, IsPrefix, local_run}
use Rattle.run_laws.specs.Upto.{AreLocalRunsUpto, local_run_upto}
use Rattle.run_laws.specs.Wired.{IsWired, SendsEvents, IsChannel}
use Rattle.run_laws.proofs.Begun.{logs_begin, made_begins}
use Rattle.run_laws.proofs.Inboxes.{nothing_missed}
use Rattle.run_laws.proofs.Lifted.{runs_are, transcripts_are}
use Rattle.run_laws.proofs.Lists.{each-back, each-filter}
use Rattle.run_laws.proofs.Prefixes.{prefix_through}
use Rattle.run_laws.proofs.Timestamps.{within_bound}
use Rattle.run_laws.proofs.Wholes.{run_whole, script_whole}
use Rattle.sync_rule.specs.declared.next.Next.TheVariants.{Sync, Take, Tick}
use Rattle.sync_rule.specs.declared.runner.Runner.{Runner}
use Rattle.sync_rule.specs.Ports.{In, Out}
use Rattle.sync_rule.specs.Times.{quiet_bound}
use Rattle.sync_rule.specs.ManyPorts.{outbox_at}
use Rattle.sync_rule.specs.Next.{HasEnded}
use Rattle.sync_laws.specs.GlobalRun.{BeginsGlobalRun, IsGlobalRun}
use Rattle.sync_laws.specs.Stands.{Stands, HasReceived, inbox_at, inbox_in}
use Rattle.sync_laws.specs.Whole.{IsWhole, HaveEnded, made_by, outbox_of, of_component}
use Rattle.sync_laws.proofs.Ahead.{head_there}
use Rattle.sync_laws.proofs.Ends.{HasPort, sender, receiver, leads, made, heard}
use Rattle.sync_laws.proofs.Rising.{sent_rises}

module _ {V : Type 0} (net : Network V) (settled : V → ℕ → Type 0) (end : ℕ) (positions : ℕ → Position) (received sent held : End → List Msg) (runners : List (Runner V)) (whole : IsWhole net settled end positions received sent held runners) (wired : IsWired net end) (only : SendsEvents net.behaviour) where
  -- what a port has made
  made_is : (k : ℕ) (ch : Channel) (is : slice_get (channels net.links) k ≡ Some ch) → made_by sent runners ch.from ≡ sent ch.from ++ (sender net settled end positions received sent held runners whole wired k ch is).outgoing.outbox
  made_is k ch is = ap (λ l. sent ch.from ++ l) (ap (λ o. outbox_of o ch.from.port) from.there ∙ ap outbox_at from.out_at)
    where
      from : HasPort net settled positions received sent runners ch.from
      from = sender net settled end positions received sent held runners whole wired k ch is

  -- the script of a channel, by the start and the kind that are told
  script_is : (ch : Channel) (s : V) (kind : PortKind) (way : IsChannel net ch s kind) → local_script kind ch (local_run_upto net received ch.from.component s (positions ch.from.component) end) (positions ch.from.component) end ≡ record { messages = made_by sent runners ch.from; sync_due = (sender net settled end positions received sent held runners whole wired way.number ch way.at_number).outgoing.sync_due }
  script_is ch s kind way = ap₂ (λ (x : V) k. local_script k ch (local_run_upto net received ch.from.component x (positions ch.from.component) end) (positions ch.from.component) end) start_same kind_same ∙ ap (λ e. local_script from.outgoing.plan.kind ch (local_run_upto net received ch.from.component from.start (positions ch.from.component) e) (positions ch.from.component) e) (sym (whole.ends ch.from.component from.runner from.there)) ∙ (made net settled end positions received sent held runners whole wired way.number ch way.at_number).script ch (leads net settled end positions received sent held runners whole wired way.number ch way.at_number) ∙ ap (λ l. record { messages = l; sync_due = from.outgoing.sync_due }) (sym (made_is way.number ch way.at_number))
    where
      from : HasPort net settled positions received sent runners ch.from
      from = sender net settled end positions received sent held runners whole wired way.number ch way.at_number

      start_same : s ≡ from.start
      start_same = same_Some s from.start (sym way.sender ∙ from.starts_so)

      kind_same : kind ≡ from.outgoing.plan.kind
      kind_same = same_Some kind from.kind (sym way.sending_port ∙ ap (λ (x : V). slice_get (net.behaviour.ports x) ch.from.port) start_same ∙ from.has_kind) ∙ sym from.out_kind

  pub are_upto : AreLocalRunsUpto net positions (made_by sent runners) received end
  are_upto = record {
    in_transit = λ ch s kind way. record { rest = held ch.from ++ outbox_of (slice_get runners ch.from.component) ch.from.port; whole_is = ap (λ l. l ++ outbox_of (slice_get runners ch.from.component) ch.from.port) (whole.joined way.number ch way.at_number).between ∙ append_assoc (received ch.to) (held ch.from) (outbox_of (slice_get runners ch.from.component) ch.from.port) };
    nothing_missed = missed;
    by_local_runs = λ ch s kind way. sym (ap (λ (x : Script). x.messages) (script_is ch s kind way));
  }
    where
      missed : (ch : Channel) (s : V) (kind : PortKind) → IsChannel net ch s kind → is_reached (positions ch.to.component) (next_key ch (received ch.to)) ≡ false
      missed ch s kind way = nothing_missed (positions ch.to.component) ch (received ch.to) (to.stands.handled ch.to.port) (inbox_in to.runner.incoming ch.to.port) (sent_rises to.incoming.plan.kind (received ch.to) has.stream) (to.stands.boxes.whole ch.to.port below) (to.stands.boxes.waits ch.to.port below) (λ none. has.not_missed (sym (ap inbox_at to.in_at) ∙ none))
        where
          to : HasPort net settled positions received sent runners ch.to
          to = receiver net settled end positions received sent held runners whole wired way.number ch way.at_number

          has : HasReceived (positions ch.to.component) ch.to.port (received ch.to) to.incoming
          has = heard net settled end positions received sent held runners whole wired way.number ch way.at_number

          below : ch.to.port < length (net.behaviour.ports to.start)
          below = slice_get_within (net.behaviour.ports to.start) ch.to.port to.kind to.has_kind

  -- the run of a component is what its runner shows
  log_is : (c : ℕ) (s : V) (r : Runner V) → slice_get net.starts c ≡ Some s → slice_get runners c ≡ Some r → r.log ≡ (local_run_upto net received c s (positions c) end).log
  log_is c s r starts is = (whole.standing c s r starts is).log ∙ ap (λ e. (local_run_upto net received c s (positions c) e).log) (whole.ends c r is)

  pub log_begins : (c : ℕ) (s : V) (r : Runner V) → slice_get net.starts c ≡ Some s → slice_get runners c ≡ Some r → IsPrefix r.log (log_of c (global_until net end))
  log_begins c s r starts is = subst (λ l. IsPrefix l (log_of c (global_until net end))) (sym (log_is c s r starts is)) (logs_begin net positions (made_by sent runners) received end wired only are_upto c s starts)

  pub sent_begins : (ch : Channel) (s : V) (kind : PortKind) → IsChannel net ch s kind → IsPrefix (sent ch.from) (transcript kind ch (sends_on ch (global_until net end)) end)
  sent_begins ch s kind way = prefix_through (sent ch.from) (made_by sent runners ch.from) (transcript kind ch (sends_on ch (global_until net end)) end) (record { rest = outbox_of (slice_get runners ch.from.component) ch.from.port; whole_is = refl }) (made_begins net positions (made_by sent runners) received end wired only are_upto ch s kind way)

  pub received_begins : (k : ℕ) (ch : Channel) → slice_get (channels net.links) k ≡ Some ch → IsPrefix (received ch.to) (sent ch.from)
  received_begins k ch is = record { rest = held ch.from; whole_is = (whole.joined k ch is).between }

  -- ENDED

  module _ (ended : HaveEnded net.behaviour runners) where
    not_past : (r : Runner V) → HasEnded net.behaviour r → (due : Option ℕ) → net.behaviour.due r.device ≡ due → IsNotPast r.end due
    not_past r has None e = tt
    not_past r has (Some d) e = has.done (Tick d) e

    -- nothing is left for a component
    pub nothing_left_for : (c : ℕ) (s : V) (r : Runner V) → slice_get net.starts c ≡ Some s → slice_get runners c ≡ Some r → IsNothingLeft net.behaviour (length (net.behaviour.ports s)) (inbox_in r.incoming) (local_run_upto net received c s (positions c) end).state end
    nothing_left_for c s r starts is = record {
      messages = λ port lt m more head. subst (λ e. e ≤ m.at) (whole.ends c r is) ((ended c r is).done (Take port m.at) (head_there r.incoming port m more head));
      tick = subst (λ e. IsNotPast e (net.behaviour.due (local_run_upto net received c s (positions c) e).state)) (whole.ends c r is) (subst (λ d. IsNotPast r.end (net.behaviour.due d)) (whole.standing c s r starts is).device (not_past r (ended c r is) (net.behaviour.due r.device) refl));
    }

    pub run_is : (c : ℕ) (s : V) (r : Runner V) → slice_get net.starts c ≡ Some s → slice_get runners c ≡ Some r → local_run_upto net received c s (positions c) end ≡ local_run net received c s end
    run_is c s r starts is = run_whole net.behaviour (length (net.behaviour.ports s)) (λ port. bodies (received (record { component = c; port = port }))) stands.handled (inbox_in r.incoming) s (positions c) end stands.boxes (nothing_left_for c s r starts is)
      where
        stands : Stands net.behaviour settled s (positions c) (of_component c received) (of_component c sent) r
        stands = whole.standing c s r starts is

    -- what a port received reaches the end
    reaches : (port : ℕ) (i : In) (c : ℕ) (s : V) (r : Runner V) → slice_get net.starts c ≡ Some s → slice_get runners c ≡ Some r → slice_get r.incoming port ≡ Some i → port < length (net.behaviour.ports s) → end ≤ bound_of (received (record { component = c; port = port }))
    reaches port i c s r starts is there below = at i.inbox refl
      where
        stands : Stands net.behaviour settled s (positions c) (of_component c received) (of_component c sent) r
        stands = whole.standing c s r starts is

        has : HasReceived (positions c) port (received (record { component = c; port = port })) i
        has = stands.heard port i there

        within : AllByRecursion (λ (x : Msg). x.at ≤ bound_from 0 (received (record { component = c; port = port }))) (inbox_in r.incoming port)
        within = each-back (λ (x : Msg). x.at ≤ bound_from 0 (received (record { component = c; port = port }))) (stands.handled port) (inbox_in r.incoming port) (subst (AllByRecursion (λ (x : Msg). x.at ≤ bound_from 0 (received (record { component = c; port = port })))) (stands.boxes.whole port below) (each-filter (λ (x : Msg). x.at ≤ bound_from 0 (received (record { component = c; port = port }))) (λ (x : Msg). is_event x.body) (received (record { component = c; port = port })) (within_bound 0 (received (record { component = c; port = port })) (sent_rises i.plan.kind (received (record { component = c; port = port })) has.stream)).0))

        at : (inbox : List Msg) → i.inbox ≡ inbox → end ≤ bound_of (received (record { component = c; port = port }))
        at [] none = subst (λ n. end ≤ n) has.bound (subst (λ e. e ≤ i.bound) (whole.ends c r is) ((ended c r is).heard port i.bound (record { is = i; there = there; at_time = ap (λ l. quiet_bound l i.bound) none })))
        at (m ∷ more) some = let late : end ≤ m.at = subst (λ e. e ≤ m.at) (whole.ends c r is) ((ended c r is).done (Take port m.at) (head_there r.incoming port m more (ap inbox_at there ∙ some))) in let far : m.at ≤ bound_from 0 (received (record { component = c; port = port })) = (subst (AllByRecursion (λ (x : Msg). x.at ≤ bound_from 0 (received (record { component = c; port = port })))) (ap inbox_at there ∙ some) within).0 in omega arith

    pub are_local : AreLocalRuns net sent received end
    are_local = record { delivered = delivered; by_local_runs = by_local_runs }
      where
        delivered : (ch : Channel) (s : V) (kind : PortKind) → IsChannel net ch s kind → IsDelivered (sent ch.from) (received ch.to) end
        delivered ch s kind way = record { in_transit = received_begins way.number ch way.at_number; reached = reaches ch.to.port to.incoming ch.to.component to.start to.runner to.starts_so to.there to.in_at (slice_get_within (net.behaviour.ports to.start) ch.to.port to.kind to.has_kind) }
          where
            to : HasPort net settled positions received sent runners ch.to
            to = receiver net settled end positions received sent held runners whole wired way.number ch way.at_number

        by_local_runs : (ch : Channel) (s : V) (kind : PortKind) → IsChannel net ch s kind → sent ch.from ≡ transcript kind ch (sends_by ch.from.port (local_run net received ch.from.component s end).sent) end
        by_local_runs ch s kind way = sym (append-nil (sent ch.from)) ∙ ap (λ l. sent ch.from ++ l) (sym ((ended ch.from.component from.runner from.there).all_sent ch.from.port from.outgoing from.out_at)) ∙ sym (made_is way.number ch way.at_number) ∙ ap (λ (x : Script). x.messages) (sym (script_is ch s kind way)) ∙ ap (λ (x : Script). x.messages) (script_whole net.behaviour only (length (net.behaviour.ports s)) (λ port. bodies (received (record { component = ch.from.component; port = port }))) s (positions ch.from.component) end kind ch late) ∙ ap (λ (run : Run V). (script kind ch (sends_by ch.from.port run.sent) end).messages) (run_is ch.from.component s from.runner way.sender from.there)
          where
            from : HasPort net settled positions received sent runners ch.from
            from = sender net settled end positions received sent held runners whole wired way.number ch way.at_number

            late : end ≤ (local_script kind ch (local_run_upto net received ch.from.component s (positions ch.from.component) end) (positions ch.from.component) end).sync_due
            late = subst (λ n. end ≤ n) (sym (ap (λ (x : Script). x.sync_due) (script_is ch s kind way))) (subst (λ e. e ≤ from.outgoing.sync_due) (whole.ends ch.from.component from.runner from.there) ((ended ch.from.component from.runner from.there).done (Sync ch.from.port from.outgoing.sync_due) (record { is = from.outgoing; there = from.out_at; at_time = refl })))

    pub log_ends : (c : ℕ) (s : V) (r : Runner V) → slice_get net.starts c ≡ Some s → slice_get runners c ≡ Some r → r.log ≡ log_of c (global_until net end)
    log_ends c s r starts is = log_is c s r starts is ∙ ap (λ (run : Run V). run.log) (run_is c s r starts is) ∙ sym (ap log_in (runs_are net sent received end wired only are_local c s starts))

    pub sent_ends : (ch : Channel) (s : V) (kind : PortKind) → IsChannel net ch s kind → sent ch.from ≡ transcript kind ch (sends_on ch (global_until net end)) end
    sent_ends ch s kind way = transcripts_are net sent received end wired only are_local ch s kind way

    pub count_ends : (ch : Channel) (s : V) (kind : PortKind) → IsChannel net ch s kind → (r : Runner V) (o : Out) → slice_get runners ch.from.component ≡ Some r → slice_get r.outgoing ch.from.port ≡ Some o → o.count ≡ count_of (transcript kind ch (sends_on ch (global_until net end)) end)
    count_ends ch s kind way r o there is = ((whole.standing ch.from.component s r way.sender there).made ch.from.port o is).count ∙ ap count_of (ap (λ l. sent ch.from ++ l) ((ended ch.from.component r there).all_sent ch.from.port o is) ∙ append-nil (sent ch.from) ∙ sent_ends ch s kind way)

    pub ends : IsGlobalRun net end sent runners
    ends = record { logs = log_ends; transcripts = sent_ends; counts = count_ends }

  pub begins : BeginsGlobalRun net end received sent runners
  begins = record { logs = log_begins; transcripts = sent_begins; delivered = received_begins }
