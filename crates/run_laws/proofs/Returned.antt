-- The global run is made of local runs.
use Rattle.std.proofs.Common.{◌≡◌, ℕ, ◌<◌, ◌≤◌, List, [], Some, map, option_map, option_and_then, slice_get, sym, ap, ◌∙◌, subst, arith, le_refl, le_of_lt, append-nil}
use Rattle.std.proofs.lemmas.Option.{slice_get-map}
use Rattle.cs_base.specs.declared.port_kind.PortKind.{PortKind}
use Rattle.cs_base.specs.Plan.{kind_at}
use Rattle.device_api.specs.Channels.{Channel}
use Rattle.device_api.specs.World.{Network, Run, Sent, arrivals_on, sends_by}
use Rattle.device_api.specs.Transcript.{stamped, script, transcript, bodies, bound_of}
use Rattle.run_laws.specs.Wired.{IsWired, SendsEvents, IsChannel}
use Rattle.run_laws.specs.LocalRuns.{AreLocalRuns, IsDelivered}
use Rattle.device_api.specs.GlobalCounts.{messages_by}
use Rattle.run_laws.specs.GlobalMessages.{messages_on, global_sent, global_received}
use Rattle.run_laws.proofs.Channels.{IsJoinedChannel, channel_joined, sender_of, out_is, in_is}
use Rattle.run_laws.proofs.Growth.{Grows, bodies-transcript, arrivals_of_past}
use Rattle.run_laws.proofs.Timestamps.{IsAhead, script_ahead}
use Rattle.run_laws.proofs.Runs.{sends_grow}
use Rattle.run_laws.proofs.Slots.{global_run, global_is_running, sends_are, Sounds, same_until}
use Rattle.run_laws.proofs.Lifted.{positive_latency}

module _ {S : Type 0} (net : Network S) (end : ℕ) (wired : IsWired net end) (only : SendsEvents net.behaviour) where
  kind_is : (ch : Channel) (s : S) (kind : PortKind) → IsChannel net ch s kind → kind_at (map net.behaviour.ports net.starts) ch.from ≡ Some kind
  kind_is ch s kind way = ap (λ o. option_and_then (λ ports. slice_get ports ch.from.port) o) (slice_get-map net.behaviour.ports net.starts ch.from.component ∙ ap (λ o. option_map net.behaviour.ports o) way.sender) ∙ way.sending_port

  -- the sends on a channel until each time
  until : Channel → S → ℕ → List Sent
  until ch s t = sends_by ch.from.port (global_run net ch.from.component s t).sent

  grows : (ch : Channel) (s : S) → Grows (until ch s)
  unfolding until
  grows ch s = sends_grow (global_run net ch.from.component s) ch.from.port (global_is_running net only ch.from.component s)

  messages_are : (ch : Channel) (s : S) (kind : PortKind) → IsChannel net ch s kind → messages_on net end (Some ch) ≡ transcript kind ch (until ch s end) end
  unfolding until
  messages_are ch s kind way = ap (messages_by net end ch) (kind_is ch s kind way) ∙ ap (λ l. transcript kind ch l end) (sends_are net ch s kind way end)

  sent_is : (ch : Channel) (s : S) (kind : PortKind) → IsChannel net ch s kind → global_sent net end ch.from ≡ transcript kind ch (until ch s end) end
  sent_is ch s kind way = ap (messages_on net end) (out_is net wired way.number ch way.at_number) ∙ messages_are ch s kind way

  received_is : (ch : Channel) (s : S) (kind : PortKind) → IsChannel net ch s kind → global_received net end ch.to ≡ transcript kind ch (until ch s end) end
  received_is ch s kind way = ap (messages_on net end) (in_is net wired way.number ch way.at_number) ∙ messages_are ch s kind way

  delivered : (ch : Channel) (s : S) (kind : PortKind) → IsChannel net ch s kind → IsDelivered (global_sent net end ch.from) (global_received net end ch.to) end
  delivered ch s kind way = record {
    in_transit = record { rest = []; whole_is = sent_is ch s kind way ∙ sym (received_is ch s kind way) ∙ sym (append-nil (global_received net end ch.to)) };
    reached = subst (λ l. end ≤ bound_of l) (sym (received_is ch s kind way)) (let ahead : IsAhead end (script kind ch (until ch s end) end) = script_ahead kind ch (until ch s end) end joined.interval_least joined.interval_most in omega (arith, ahead.timer, ahead.bound));
  }
    where
      joined : IsJoinedChannel net ch
      joined = channel_joined net wired way.number ch way.at_number

  sounds : (t : ℕ) → t < end → Sounds net (λ c port. bodies (global_received net end (record { component = c; port = port }))) t
  unfolding until
  sounds t lt k ch is = ap (λ l. arrivals_on t ch.to.port 0 (bodies l)) (received_is ch s kind way) ∙ ap (arrivals_on t ch.to.port 0) (bodies-transcript (until ch s) (grows ch s) kind ch end) ∙ arrivals_of_past (until ch s) (grows ch s) ch t end ch.to.port 0 (positive_latency net wired k ch is) (le_of_lt lt) ∙ ap (λ l. arrivals_on t ch.to.port 0 (stamped ch l)) (sym (sends_are net ch s kind way t))
    where
      sender : (s : S) × (kind : PortKind) × IsChannel net ch s kind
      sender = sender_of net wired k ch is

      s : S
      s = sender.0

      kind : PortKind
      kind = sender.1

      way : IsChannel net ch s kind
      way = sender.2

  pub is_one : AreLocalRuns net (global_sent net end) (global_received net end) end
  unfolding until
  is_one = record {
    delivered = delivered;
    by_local_runs = λ ch s kind way. sent_is ch s kind way ∙ ap (λ (run : Run S). transcript kind ch (sends_by ch.from.port run.sent) end) (sym (same_until net (λ c port. bodies (global_received net end (record { component = c; port = port }))) end wired (λ t lt _. sounds t lt) end (le_refl end) ch.from.component s way.sender));
  }
