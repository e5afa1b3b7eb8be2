-- What waits at each port, in the order of sending.
use Rattle.std.specs.Prelude.{ℕ, ◌≡◌, ◌==◌, ◌≤◌, ◌<◌, false, if◌then◌else◌, List, [], ◌∷◌, ◌++◌, slice_get, Option, Some, None, IsSome, IfSome, option_map, option_and_then}
use Rattle.cs_base.specs.declared.port_kind.PortKind.{PortKind}
use Rattle.cs_base.specs.Plan.{End, same_end, kind_at}
use Rattle.sb_message.specs.declared.message.Body.{Body}
use Rattle.sb_message.specs.declared.message.Msg.{Msg}

-- the element of a component's port
abbrev pub port_of : {X : Type 0} → List (List X) → End → Option X
port_of lists end = option_and_then (λ ports. slice_get ports end.port) (slice_get lists end.component)

abbrev pub end_at : ℕ → ℕ → End
end_at c p = record { component = c; port = p }

-- the queue of each port; None where there is no such port
abbrev pub Queues : Type 0
Queues = End → Option (List Msg)

-- a port's queue is another one, and the others are as they were
abbrev pub with_queue : Queues → End → List Msg → Queues
with_queue queues end queue = λ e. if same_end end e then Some queue else queues e

-- a message is put at the end of a port's queue
abbrev pub put : End → Msg → Queues → Queues
put end message queues = λ e. if same_end end e then option_map (λ queue. queue ++ message ∷ []) (queues e) else queues e

-- the first message of a queue, if there is one, has another time
abbrev pub StartsOff : ℕ → List Msg → Type 0
StartsOff t [] = Unit {0}
StartsOff t (m ∷ more) = (m.at == t) ≡ false

-- the time of the first message of a queue, if there is one
abbrev pub first_time : List Msg → Option ℕ
first_time [] = None
first_time (m ∷ more) = Some m.at

-- the first message of a queue, if there is one, isn't before a time
abbrev pub StartsFrom : ℕ → List Msg → Type 0
StartsFrom t [] = Unit {0}
StartsFrom t (m ∷ more) = t ≤ m.at

-- the least of a time and of the first times of so many queues
pub record IsSoonest (late count : ℕ) (queues : ℕ → List Msg) (next : ℕ) : Type 0 where
  pub at_most : next ≤ late
  pub heads : (p : ℕ) → p < count → StartsFrom next (queues p)
  pub low : (t : ℕ) → t ≤ late → ((p : ℕ) → p < count → StartsFrom t (queues p)) → t ≤ next

abbrev pub message_at : ℕ → Body → Msg
message_at t body = record { at = t; body = body }

-- nothing waits at the ports
abbrev pub AreEmpty : List (List PortKind) → List (List (List Msg)) → Type 0
AreEmpty kinds inboxes = (e : End) → IsSome (kind_at kinds e) → port_of inboxes e ≡ Some []

-- a message was put at the end of a port's queue
abbrev pub HasPut : End → Msg → List (List (List Msg)) → List (List (List Msg)) → Type 0
HasPut to message inboxes inboxes' = (e : End) → port_of inboxes' e ≡ put to message (port_of inboxes) e

-- a port's queue had this first message, and has the rest
abbrev pub HasGiven : End → ℕ → List (List (List Msg)) → List (List (List Msg)) → Body → Type 0
HasGiven from t inboxes inboxes' body = (rest : List Msg) × (port_of inboxes from ≡ Some (message_at t body ∷ rest)) × ((e : End) → port_of inboxes' e ≡ with_queue (port_of inboxes) from rest e)

-- the first message of a port's queue, if there is one, has another time
abbrev pub PortStartsOff : ℕ → End → List (List (List Msg)) → Type 0
PortStartsOff t e inboxes = IfSome (port_of inboxes e) (StartsOff t)
