-- Local runs make up the global run.
use Rattle.std.proofs.Common.{subst, ◌≡◌, ℕ, ◌<◌, ◌≤◌, List, Some, slice_get, sym, ap, ◌∙◌, arith, le_refl, le_of_lt}
use Rattle.cs_base.specs.declared.port_kind.PortKind.{PortKind}
use Rattle.cs_base.specs.Plan.{End}
use Rattle.sb_message.specs.declared.message.Msg.{Msg}
use Rattle.device_api.specs.Channels.{Channel, channels}
use Rattle.device_api.specs.World.{Network, Run, Sent, arrivals_on, sends_by, sends_on, global_until}
use Rattle.device_api.specs.Transcript.{RisesFrom, stamped, transcript, bodies}
use Rattle.run_laws.specs.Wired.{IsWired, SendsEvents, IsChannel}
use Rattle.run_laws.specs.LocalRuns.{AreLocalRuns, local_run}
use Rattle.run_laws.proofs.Channels.{IsJoinedChannel, channel_joined, sender_of}
use Rattle.run_laws.proofs.Times.{arrivals_on-received}
use Rattle.run_laws.proofs.Growth.{Grows, bodies-transcript, arrivals_of_past}
use Rattle.run_laws.proofs.Timestamps.{script_rises}
use Rattle.run_laws.proofs.Runs.{sends_grow, local_is_running}
use Rattle.run_laws.proofs.Slots.{global_run, global_is, sends_are, Sounds, same_until}

pub positive_latency : {S : Type 0} {last : ℕ} (net : Network S) → IsWired net last → (k : ℕ) (ch : Channel) → slice_get (channels net.links) k ≡ Some ch → 1 ≤ ch.latency
positive_latency net wired k ch is = let joined : IsJoinedChannel net ch = channel_joined net wired k ch is in omega (arith, joined.interval_least, joined.interval_most)

module _ {S : Type 0} (net : Network S) (sent received : End → List Msg) (end : ℕ) (wired : IsWired net end) (only : SendsEvents net.behaviour) (local : AreLocalRuns net sent received end) where
  -- what each component's ports received
  abbrev inputs : ℕ → ℕ → List Msg
  inputs c port = bodies (received (record { component = c; port = port }))

  -- what is received arrives at t as what the sender's local run sent before t
  heard_on : (ch : Channel) (s : S) (kind : PortKind) → IsChannel net ch s kind → (t : ℕ) → t < end → arrivals_on t ch.to.port 0 (bodies (received ch.to)) ≡ arrivals_on t ch.to.port 0 (stamped ch (sends_by ch.from.port (local_run net received ch.from.component s t).sent))
  heard_on ch s kind way t lt = arrivals_on-received (sent ch.from) (received ch.to) end t ch.to.port 0 (subst (RisesFrom 0) (sym (local.by_local_runs ch s kind way)) (script_rises kind ch _ end).rises) (local.delivered ch s kind way) lt ∙ ap (λ l. arrivals_on t ch.to.port 0 (bodies l)) (local.by_local_runs ch s kind way) ∙ ap (arrivals_on t ch.to.port 0) (bodies-transcript until grows kind ch end) ∙ arrivals_of_past until grows ch t end ch.to.port 0 (positive_latency net wired way.number ch way.at_number) (le_of_lt lt)
    where
      until : ℕ → List Sent
      until t = sends_by ch.from.port (local_run net received ch.from.component s t).sent

      grows : Grows until
      grows = sends_grow (local_run net received ch.from.component s) ch.from.port (local_is_running net.behaviour only _ _ s)

  sounds : (t : ℕ) → t < end → ((c : ℕ) (s : S) → slice_get net.starts c ≡ Some s → local_run net received c s t ≡ global_run net c s t) → Sounds net inputs t
  sounds t lt so_far k ch is = heard_on ch s kind way t lt ∙ ap (λ (run : Run S). arrivals_on t ch.to.port 0 (stamped ch (sends_by ch.from.port run.sent))) (so_far ch.from.component s way.sender) ∙ ap (λ l. arrivals_on t ch.to.port 0 (stamped ch l)) (sym (sends_are net ch s kind way t))
    where
      sender : (s : S) × (kind : PortKind) × IsChannel net ch s kind
      sender = sender_of net wired k ch is

      s : S
      s = sender.0

      kind : PortKind
      kind = sender.1

      way : IsChannel net ch s kind
      way = sender.2

  pub same_runs : (c : ℕ) (s : S) → slice_get net.starts c ≡ Some s → local_run net received c s end ≡ global_run net c s end
  same_runs c s starts = same_until net inputs end wired sounds end (le_refl end) c s starts

  pub runs_are : (c : ℕ) (s : S) → slice_get net.starts c ≡ Some s → slice_get (global_until net end).runs c ≡ Some (local_run net received c s end)
  runs_are c s starts = global_is net c s starts end ∙ ap Some (sym (same_runs c s starts))

  pub transcripts_are : (ch : Channel) (s : S) (kind : PortKind) → IsChannel net ch s kind → sent ch.from ≡ transcript kind ch (sends_on ch (global_until net end)) end
  transcripts_are ch s kind way = local.by_local_runs ch s kind way ∙ ap (λ (run : Run S). transcript kind ch (sends_by ch.from.port run.sent) end) (same_runs ch.from.component s way.sender) ∙ ap (λ l. transcript kind ch l end) (sym (sends_are net ch s kind way end))
