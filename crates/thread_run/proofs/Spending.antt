-- What a crew leaves, whether it met a fault or not.
use Rattle.std.proofs.Common.{◌≡◌, ℕ, List, map, Some, Ok, Err, length, refl, sym, ap, ◌∙◌, subst}
use Rattle.std.specs.Prelude.{Result, slice_get}
use Rattle.cs_base.specs.declared.link.Link.{Link}
use Rattle.cs_base.specs.declared.port_kind.PortKind.{PortKind}
use Rattle.cs_base.specs.declared.wire_end.WireEnd.{WireEnd}
use Rattle.cs_base.specs.Plan.{IsPlan}
use Rattle.cs_base.specs.Wires.{OutSeen, InSeen}
use Rattle.device_api.specs.Behaviour.{Behaviour}
use Rattle.device_api.specs.declared.counts.Count.{Count}
use Rattle.device_api.specs.declared.logs.Line.{Line}
use Rattle.slot_queue.specs.Ends.{Named, Sender, Receiver}
use Rattle.worker_rounds.specs.declared.mesh_bad.MeshBad.{MeshBad}
use Rattle.run_threads.specs.declared.crew.Crew.{Crew}
use Rattle.run_threads.specs.Faults.{IsCause}
use Rattle.run_threads.specs.Faults.IsCause.{no_memory, wrong_introduction}
use Rattle.run_threads.specs.Finishing.{HasFinished}
use Rattle.run_threads.specs.Laws.{LeavesRun}
use Rattle.run_threads.specs.Proxied.{near_names, far_names}
use Rattle.run_threads.specs.Whole.{HasRun, IsWholeCause}
use Rattle.run_threads.specs.Whole.IsWholeCause.{by_component, by_sending, by_receiving, by_difference}
use Rattle.thread_run.specs.Spent.{IsSpent, IsSpentCause}
use Rattle.thread_run.specs.Spent.IsSpentCause.{no_memory as none_left, wrong_introduction as came_wrong, by_sending as sent_by, by_receiving as received_by, by_difference as differs}

module _ {V O I T : Type 0} (b : Behaviour V) (settled : V → ℕ → Type 0) (out : O → OutSeen) (wire : I → InSeen) (starts : List V) (kinds : List (List PortKind)) (links : List Link) (end : ℕ) (queues : List Named)
    (crew : Crew V O I) (ended : Result T MeshBad) (run : HasRun b settled out wire starts kinds links end queues crew ended)
    (logs : List (List Line)) (counts : List Count) (producers : List Sender) (consumers : List Receiver) (wire_ends : List (WireEnd O I))
    (finished : HasFinished (length starts) links queues run.parts run.ends logs counts producers consumers wire_ends) where
  met : (fault : MeshBad) → IsCause b starts links run.parts fault → IsSpentCause b out wire starts links finished.receivers run.ends fault
  met _ no_memory = none_left
  met _ (wrong_introduction k wrong) = came_wrong k (record {
    channel = wrong.channel;
    at_number = wrong.at_number;
    receiver = wrong.receiver;
    there = finished.left.receivers_are k wrong.channel wrong.at_number ∙ wrong.there;
    found = wrong.found;
    received = wrong.received;
    wrong = wrong.wrong;
  })

  caused : (fault : MeshBad) → IsWholeCause b out wire starts links run.parts run.ends fault → IsSpentCause b out wire starts links finished.receivers run.ends fault
  caused fault (by_component kept cause) = met fault cause
  caused fault (by_sending k one kept there says) = sent_by fault k one there says
  caused fault (by_receiving k one kept there says) = received_by fault k one there says
  caused fault (by_difference channel differ none is first below) = subst (IsSpentCause b out wire starts links finished.receivers run.ends) (sym is) (differs channel differ first below)

  pub is_spent : IsPlan end (map b.ports starts) links → LeavesRun b settled → IsSpent b out wire starts kinds links end queues ended logs counts producers consumers wire_ends
  is_spent wired leave = record {
    ends = run.ends;
    senders = finished.senders;
    receivers = finished.receivers;
    wired = wired;
    seats = finished.seats;
    ends_at = run.dismissed.ends_at;
    producers_are = finished.producers_are;
    consumers_are = finished.consumers_are;
    ends_are = finished.ends_are;
    routes = run.routes;
    hold = run.hold;
    introduced = record { each = λ k ch sender start kind at is way first more sent. run.introduced.each k ch sender start kind at (sym (finished.left.senders_are k ch at) ∙ is) way first more sent };
    leaves = λ done is delivered. leave starts links end (near_names links queues) (far_names links queues) run.parts (run.parts_are done is) (run.have_ended done is) logs counts finished.senders finished.receivers finished.left delivered;
    agree = run.agree;
    cause = λ fault is. caused fault (run.cause fault is);
  }
