-- What was processed, made, sent and received so far is no more than what the global run has.
use Rattle.std.proofs.Common.{◌≡◌, ℕ, ◌+◌, ◌-◌, ◌≤◌, List, [], ◌∷◌, ◌++◌, length, map, Option, Some, refl, sym, ap, ◌∙◌, subst, arith, length-append}
use Rattle.std.specs.Prelude.{slice_get}
use Rattle.cs_base.specs.declared.port_kind.PortKind.{PortKind}
use Rattle.cs_base.specs.Plan.{End}
use Rattle.sb_message.specs.declared.message.Msg.{Msg}
use Rattle.device_api.specs.Behaviour.{IsLawful}
use Rattle.device_api.specs.Channels.{Channel, channels}
use Rattle.device_api.specs.Counts.{is_sync}
use Rattle.device_api.specs.GlobalCounts.{messages_by, messages_of}
use Rattle.device_api.specs.Position.{Position, transcript_upto}
use Rattle.device_api.specs.Transcript.{bodies, transcript}
use Rattle.device_api.specs.World.{Network, Sent, global_until, sends_by, sends_on}
use Rattle.run_laws.specs.LocalRuns.{IsPrefix}
use Rattle.run_laws.specs.Upto.{AreLocalRunsUpto}
use Rattle.run_laws.specs.Wired.{IsWired, IsChannel, SendsEvents}
use Rattle.run_laws.proofs.Begun.{logs_begin, made_begins}
use Rattle.run_laws.proofs.Prefixes.{prefix_through}
use Rattle.sync_rule.specs.declared.runner.Runner.{Runner}
use Rattle.sync_laws.specs.Whole.{IsWhole, made_by, outbox_of}
use Rattle.sync_laws.specs.ToCome.{tallied_network, events_in_run, events_upto, syncs_among}
use Rattle.sync_laws.proofs.Ahead.{only_events}
use Rattle.sync_laws.proofs.Begins.{are_upto, received_begins}
use Rattle.sync_laws.proofs.Ends.{HasPort, sender, kind_of}
use Rattle.sync_laws.proofs.Posts.{count_by-append}
use Rattle.sync_laws.proofs.Tallied.{run_alike, tallied_events}

length_most : {A : Type 0} (xs ys : List A) → IsPrefix xs ys → length xs ≤ length ys
length_most xs ys p = let whole : length ys ≡ length xs + length p.rest = ap length p.whole_is ∙ length-append xs p.rest in omega arith

pub syncs_append : (xs ys : List Msg) → syncs_among (xs ++ ys) ≡ syncs_among xs + syncs_among ys
syncs_append xs ys = count_by-append (λ (m : Msg). is_sync m.body) xs ys

syncs_most : (xs ys : List Msg) → IsPrefix xs ys → syncs_among xs ≤ syncs_among ys
syncs_most xs ys p = let whole : syncs_among ys ≡ syncs_among xs + syncs_among p.rest = ap syncs_among p.whole_is ∙ syncs_append xs p.rest in omega arith

pub plain : {S : Type 0} (net : Network S) (ch : Channel) (s : S) (kind : PortKind) → IsChannel (tallied_network net) ch s kind → IsChannel net ch s kind
plain net ch s kind way = record { number = way.number; at_number = way.at_number; sender = way.sender; sending_port = way.sending_port }

module _ {V : Type 0} (net : Network V) (settled : V → ℕ → Type 0) (end : ℕ) (positions : ℕ → Position) (received sent held : End → List Msg) (runners : List (Runner V)) (whole : IsWhole net settled end positions received sent held runners) (wired : IsWired net end) (lawful : IsLawful net.behaviour settled) where
  abbrev made : End → List Msg
  made = made_by sent runners

  pub only : SendsEvents net.behaviour
  only = only_events net.behaviour settled lawful

  upto : AreLocalRunsUpto net positions made received end
  upto = are_upto net settled end positions received sent held runners whole wired only

  tallied_upto : AreLocalRunsUpto (tallied_network net) positions made received end
  tallied_upto = record {
    in_transit = λ ch s kind way. upto.in_transit ch s kind (plain net ch s kind way);
    nothing_missed = λ ch s kind way. upto.nothing_missed ch s kind (plain net ch s kind way);
    by_local_runs = λ ch s kind way. upto.by_local_runs ch s kind (plain net ch s kind way) ∙ ap (λ (l : List Sent). transcript_upto kind ch (sends_by ch.from.port l) (positions ch.from.component) end) (sym (run_alike net.behaviour (length (net.behaviour.ports s)) (λ port. bodies (received (record { component = ch.from.component; port = port }))) s (positions ch.from.component) end).sent);
  }

  pub events_most : (c : ℕ) (s : V) → slice_get net.starts c ≡ Some s → events_upto net received c s (positions c) end ≤ events_in_run net end c
  events_most c s starts = length_most _ _ (logs_begin (tallied_network net) positions made received end wired (tallied_events net.behaviour only) tallied_upto c s starts)

  module _ (k : ℕ) (ch : Channel) (is : slice_get (channels net.links) k ≡ Some ch) where
    pub from : HasPort net settled positions received sent runners ch.from
    from = sender net settled end positions received sent held runners whole wired k ch is

    pub way : IsChannel net ch from.start from.kind
    way = record { number = k; at_number = is; sender = from.starts_so; sending_port = from.has_kind }

    -- the messages of a channel in the global run
    pub messages_are : messages_of net end ch ≡ transcript from.kind ch (sends_on ch (global_until net end)) end
    messages_are = ap (messages_by net end ch) (kind_of net settled end positions received sent held runners whole wired k ch is ch.from from)

    made_front : IsPrefix (made ch.from) (messages_of net end ch)
    made_front = subst (IsPrefix (made ch.from)) (sym messages_are) (made_begins net positions made received end wired only upto ch from.start from.kind way)

    sent_front : IsPrefix (sent ch.from) (messages_of net end ch)
    sent_front = prefix_through (sent ch.from) (made ch.from) (messages_of net end ch) (record { rest = outbox_of (slice_get runners ch.from.component) ch.from.port; whole_is = refl }) made_front

    received_front : IsPrefix (received ch.to) (messages_of net end ch)
    received_front = prefix_through (received ch.to) (sent ch.from) (messages_of net end ch) (received_begins net settled end positions received sent held runners whole wired only k ch is) sent_front

    pub made_most : syncs_among (made ch.from) ≤ syncs_among (messages_of net end ch)
    made_most = syncs_most (made ch.from) (messages_of net end ch) made_front

    pub sent_most : length (sent ch.from) ≤ length (messages_of net end ch)
    sent_most = length_most (sent ch.from) (messages_of net end ch) sent_front

    pub received_most : length (received ch.to) ≤ length (messages_of net end ch)
    received_most = length_most (received ch.to) (messages_of net end ch) received_front
