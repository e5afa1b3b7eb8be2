-- What a crew leaves: the logs of its components, the counts of its channels, and both sides of
-- each queue.
use Rattle.std.specs.Prelude.{ℕ, ◌≡◌, ◌<◌, List, length, map, slice_get, Some, option_map}
use Rattle.cs_base.specs.declared.link.Link.{Link}
use Rattle.cs_base.specs.declared.port_kind.PortKind.{PortKind}
use Rattle.device_api.specs.Behaviour.{Behaviour}
use Rattle.device_api.specs.Channels.{Channel, channels}
use Rattle.device_api.specs.GlobalCounts.{counts_of}
use Rattle.device_api.specs.World.{global_until, logs_of}
use Rattle.device_api.specs.declared.counts.Count.{Count}
use Rattle.device_api.specs.declared.logs.Line.{Line}
use Rattle.global_model.specs.Step.{network}
use Rattle.mesh_core.specs.Laws.{transcript_in_run}
use Rattle.mesh_core.specs.Left.{counts_by_port, counts_along}
use Rattle.mesh_core.specs.State.{way_of}
use Rattle.run_laws.specs.LocalRuns.{IsPrefix, IsDelivered}
use Rattle.run_laws.specs.Wired.{IsChannel}
use Rattle.slot_queue.specs.Ends.{Sender, Receiver}
use Rattle.sync_rule.specs.declared.runner.Runner.{Runner}
use Rattle.worker_rounds.specs.Rounds.{Work}
use Rattle.run_threads.specs.declared.part.Part.{Part}
use Rattle.run_threads.specs.CrewOf.{part_at, sender_at, receiver_at}

-- logs and counts of so many components, joined by these links, and the sides of the queues by the
-- numbers of their channels
pub record IsLeft {V : Type 0} (components : ℕ) (links : List Link)
    (workers : List (Work (Part V))) (logs : List (List Line)) (counts : List Count)
    (senders : List Sender) (receivers : List Receiver) : Type 0 where
  pub runners : List (Runner V)
  pub as_many : length runners ≡ components
  pub each : (c : ℕ) → c < components
      → slice_get runners c ≡ option_map (λ (part : Part V). part.driver.runner) (part_at workers c)
  pub logs_are : logs ≡ map (λ r. r.log) runners
  pub counts_are : counts ≡ counts_along (map way_of (channels links)) (map counts_by_port runners)
  pub senders_are : (k : ℕ) (ch : Channel) → slice_get (channels links) k ≡ Some ch
      → slice_get senders k ≡ sender_at workers ch.from
  pub receivers_are : (k : ℕ) (ch : Channel) → slice_get (channels links) k ≡ Some ch
      → slice_get receivers k ≡ receiver_at workers ch.to

-- on each channel the first part of what was sent was received, as each queue shows that is closed
pub record AreDelivered (links : List Link) (senders : List Sender)
    (receivers : List Receiver) : Type 0 where
  pub each : (k : ℕ) (ch : Channel) (sender : Sender) (receiver : Receiver)
      → slice_get (channels links) k ≡ Some ch → slice_get senders k ≡ Some sender
      → slice_get receivers k ≡ Some receiver → IsPrefix receiver.received sender.sent

-- what was left is what the global run leaves
pub record LeavesGlobalRun {V : Type 0} (b : Behaviour V) (starts : List V) (links : List Link)
    (end : ℕ) (logs : List (List Line)) (counts : List Count) (senders : List Sender)
    (receivers : List Receiver) : Type 0 where
  pub logs_are : logs ≡ logs_of (global_until (network b starts links) end)
  pub counts_are : counts ≡ counts_of (network b starts links) end
  -- what was sent on each channel is its transcript
  pub transcripts : (k : ℕ) (ch : Channel) (sender : Sender) (start : V) (kind : PortKind)
      → slice_get (channels links) k ≡ Some ch → slice_get senders k ≡ Some sender
      → IsChannel (network b starts links) ch start kind
      → sender.sent ≡ transcript_in_run b starts links end ch kind
  -- and it was received as far as the end
  pub delivered : (k : ℕ) (ch : Channel) (sender : Sender) (receiver : Receiver)
      → slice_get (channels links) k ≡ Some ch → slice_get senders k ≡ Some sender
      → slice_get receivers k ≡ Some receiver → IsDelivered sender.sent receiver.received end
