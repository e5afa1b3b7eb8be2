-- Sides that are taken from their slots for the part of a component.
use Rattle.std.proofs.Common.{◌≡◌, ℕ, ◌+◌, ◌≤◌, List, length, map, Option, Some, sym, ap, ◌∙◌, arith}
use Rattle.std.specs.Prelude.{slice_get}
use Rattle.std.proofs.lemmas.List.{length-map}
use Rattle.std.proofs.lemmas.Option.{same_Some}
use Rattle.mesh_core.specs.declared.way.Seat.{Seat}
use Rattle.slot_queue.specs.Ends.{Named, Sender, Receiver}
use Rattle.sync_laws.proofs.Changed.{get_mapped}
use Rattle.run_threads.specs.Ends.{AreSendersOf, AreReceiversOf}
use Rattle.run_threads.specs.Numbers.{seat, AreNumbers}
use Rattle.run_threads.specs.Queues.{its_sender, its_receiver}
use Rattle.run_threads.specs.Seats.{AreThere, Taken}
use Rattle.run_threads.specs.Stock.{HasSide, HaveSides, IsFresh, AreFresh}

module _ {S : Type 0} (side_of : Named → S) (queues : List Named) (seats : List Seat) (component ports : ℕ) (numbers : List ℕ) (are : AreNumbers seats component ports numbers) (slots : List (Option S)) (has : HaveSides side_of queues seats slots component) where
  at_port : (port number : ℕ) → slice_get numbers port ≡ Some number → HasSide side_of queues slots number
  at_port port number at = has.each number (seat component port) (are.each port number at) (let le : component ≤ component = omega arith in le)

  pub are_there : AreThere slots numbers
  are_there = record {
    each = λ i place at. (let one = at_port i place at in (side_of one.queue, one.there));
    apart = λ i j place at_i at_j. ap (λ (s : Seat). s.port) (same_Some (seat component i) (seat component j) (sym (are.each i place at_i) ∙ are.each j place at_j));
  }

  module _ (slots' : List (Option S)) (items : List S) (taken : Taken slots numbers slots' items) where
    pub side_is : (port number : ℕ) (side : S) → slice_get numbers port ≡ Some number → slice_get items port ≡ Some side → IsFresh side_of queues number side
    side_is port number side at got =
        let one = at_port port number at in
        record {
          queue = one.queue;
          named = one.named;
          unused = same_Some side (side_of one.queue) (same_Some (Some side) (Some (side_of one.queue)) (sym (taken.each port number side at got) ∙ one.there));
        }

    -- the sides at ports of later components are still in their slots
    pub sides_left : HaveSides side_of queues seats slots' (component + 1)
    sides_left = record { each = each }
      where
        each : (number : ℕ) (one : Seat) → slice_get seats number ≡ Some one → component + 1 ≤ one.component → HasSide side_of queues slots' number
        each number one at later =
            let side = has.each number one at (omega arith) in
            record {
              queue = side.queue;
              named = side.named;
              there = taken.others number (λ i lt is. (let same : one.component ≡ component = ap (λ (s : Seat). s.component) (same_Some one (seat component i) (sym at ∙ are.each i number is)) in absurd (omega arith))) ∙ side.there;
            }

    pub are_fresh : {E : Type 0} (seat_of : E → S) (ends : List E) → map seat_of ends ≡ items → AreFresh seat_of side_of queues numbers ends
    are_fresh seat_of ends seats_are = record {
      as_many = sym (length-map ends seat_of) ∙ ap length seats_are ∙ taken.as_many;
      each = λ port number one at got. side_is port number (seat_of one) at (sym (ap (λ l. slice_get l port) seats_are) ∙ get_mapped seat_of ends port one got);
    }

-- they are those that ends are made of
module _ (queues : List Named) (seats : List Seat) (component ports : ℕ) (numbers : List ℕ) (are : AreNumbers seats component ports numbers) where
  pub are_senders : (slots : List (Option Sender)) → HaveSides its_sender queues seats slots component → (slots' : List (Option Sender)) (items : List Sender) → Taken slots numbers slots' items → AreSendersOf queues numbers items
  are_senders slots has slots' items taken = record {
    as_many = taken.as_many;
    each = λ i place side at got. (let fresh = side_is its_sender queues seats component ports numbers are slots has slots' items taken i place side at got in (fresh.queue, fresh.named, ap (λ (s : Sender). s.queue) fresh.unused));
  }

  pub are_receivers : (slots : List (Option Receiver)) → HaveSides its_receiver queues seats slots component → (slots' : List (Option Receiver)) (items : List Receiver) → Taken slots numbers slots' items → AreReceiversOf queues numbers items
  are_receivers slots has slots' items taken = record {
    as_many = taken.as_many;
    each = λ i place side at got. (let fresh = side_is its_receiver queues seats component ports numbers are slots has slots' items taken i place side at got in (fresh.queue, fresh.named, ap (λ (r : Receiver). r.queue) fresh.unused));
  }
