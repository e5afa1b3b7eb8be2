-- The steps of a mesh: one component's event, one message sent, one message received, and on a channel that goes by proxies one
-- message taken, some bytes moved, one message put.
use Rattle.std.specs.Prelude.{ℕ, ◌≡◌, ◌<◌, Bool, true, false, List, [], ◌∷◌, ◌++◌, length, slice_get, slice_set, Some}
use Rattle.sb_message.specs.declared.message.Msg.{Msg}
use Rattle.device_api.specs.Behaviour.{Behaviour}
use Rattle.mesh_channel.specs.declared.carrier.Carrier.{Carrier}
use Rattle.mesh_channel.specs.Carrier.{Pushes, Pops, MayTake, MayMove, MayPut, Takes, Moves, Puts}
use Rattle.mesh_channel.specs.Standing.{IsCarrying}
use Rattle.run_steps.specs.declared.step.Step.{Step}
use Rattle.run_steps.specs.declared.step.Step.TheVariants.{Event, Send, Poll, Take, Move, Put}
use Rattle.sync_rule.specs.declared.runner.Runner.{Runner}
use Rattle.sync_rule.specs.Ports.{passed_on, heard, at_place}
use Rattle.sync_rule.specs.ManyPorts.{outbox_in}
use Rattle.sync_rule.specs.Steps.{Processed}
use Rattle.mesh_core.specs.declared.way.Way.{Way}
use Rattle.mesh_core.specs.State.{State}

-- a component of the mesh processes its next event
pub record ProcessesAt {V : Type 0} (b : Behaviour V) (old new : State V) (c : ℕ) : Type 0 where
  pub before : Runner V
  pub there : slice_get old.runners c ≡ Some before
  pub after : Runner V
  pub processed : Processed b before after
  pub is : new ≡ record old { runners = slice_set old.runners c after }

-- a channel of the mesh: where it leads, and what carries it
pub record IsLine {V : Type 0} (mesh : State V) (k : ℕ) (way : Way) (carrier : Carrier) : Type 0 where
  pub leads : slice_get mesh.ways k ≡ Some way
  pub between : slice_get mesh.carriers k ≡ Some carrier

-- a mesh after a runner and a carrier have changed, or a carrier alone
abbrev pub with_line : {V : Type 0} → State V → ℕ → Runner V → ℕ → Carrier → State V
with_line mesh c runner k carrier = record mesh { runners = slice_set mesh.runners c runner; carriers = slice_set mesh.carriers k carrier }

abbrev pub with_carrier : {V : Type 0} → State V → ℕ → Carrier → State V
with_carrier mesh k carrier = record mesh { carriers = slice_set mesh.carriers k carrier }

-- a runner after the first message that waits at a port has left, and after a message came in at a port
abbrev pub sent_by : {V : Type 0} → Runner V → ℕ → Runner V
sent_by runner port = record runner { outgoing = at_place port passed_on runner.outgoing }

abbrev pub received_by : {V : Type 0} → Runner V → ℕ → Msg → Runner V
received_by runner port m = record runner { incoming = at_place port (heard m) runner.incoming }

-- the first message that waits at the port out of which a channel leads goes into the channel's queue, which has room
pub record SendsOn {V : Type 0} (old new : State V) (k : ℕ) : Type 0 where
  pub way : Way
  pub carrier : Carrier
  pub line : IsLine old k way carrier
  pub runner : Runner V
  pub sender : slice_get old.runners way.from.component ≡ Some runner
  pub m : Msg
  pub more : List Msg
  pub waited : outbox_in runner.outgoing way.from.port ≡ m ∷ more
  pub after : Carrier
  pub pushed : Pushes carrier m after
  pub is : new ≡ with_line old way.from.component (sent_by runner way.from.port) k after

-- the first message of a channel's queue comes in at the port into which the channel leads
pub record ReceivesOn {V : Type 0} (old new : State V) (k : ℕ) : Type 0 where
  pub way : Way
  pub carrier : Carrier
  pub line : IsLine old k way carrier
  pub m : Msg
  pub after : Carrier
  pub popped : Pops carrier m after
  pub runner : Runner V
  pub receiver : slice_get old.runners way.to.component ≡ Some runner
  pub is : new ≡ with_line old way.to.component (received_by runner way.to.port m) k after

-- a step between the two ends of a channel
pub record GoesOn {V : Type 0} (step : Carrier → Carrier → Type 0) (old new : State V) (k : ℕ) : Type 0 where
  pub way : Way
  pub carrier : Carrier
  pub line : IsLine old k way carrier
  pub after : Carrier
  pub made : step carrier after
  pub is : new ≡ with_carrier old k after

-- so many bytes are read, which are of the frames of messages: so they leave one carrier
pub record MovesOn (n : ℕ) (a b : Carrier) : Type 0 where
  pub enabled : MayMove n a
  pub carrying : IsCarrying a
  pub moved : Moves n a b

-- a step leads from one state to another
abbrev pub Leads : {V : Type 0} → Behaviour V → Step → State V → State V → Type 0
Leads b (Event c) old new = ProcessesAt b old new c
Leads b (Send k) old new = SendsOn old new k
Leads b (Poll k) old new = ReceivesOn old new k
Leads b (Take k) old new = GoesOn Takes old new k
Leads b (Move k n) old new = GoesOn (MovesOn n) old new k
Leads b (Put k) old new = GoesOn Puts old new k

-- what is needed of a channel for a step between its ends
pub record IsAt {V : Type 0} (may : Carrier → Type 0) (mesh : State V) (k : ℕ) : Type 0 where
  pub way : Way
  pub carrier : Carrier
  pub line : IsLine mesh k way carrier
  pub enabled : may carrier

pub record LeadsOn {V : Type 0} (b : Behaviour V) (step : Step) (mesh : State V) : Type 0 where
  pub next : State V
  pub leads : Leads b step mesh next

-- a step is enabled
abbrev pub Enables : {V : Type 0} → Behaviour V → Step → State V → Type 0
Enables b (Event c) mesh = LeadsOn b (Event c) mesh
Enables b (Send k) mesh = LeadsOn b (Send k) mesh
Enables b (Poll k) mesh = LeadsOn b (Poll k) mesh
Enables b (Take k) mesh = IsAt MayTake mesh k
Enables b (Move k n) mesh = IsAt (MayMove n) mesh k
Enables b (Put k) mesh = IsAt MayPut mesh k

-- a step is not enabled, and nothing changed
pub record IsRefused {V : Type 0} (b : Behaviour V) (step : Step) (old new : State V) : Type 0 where
  pub not_enabled : Enables b step old → ⊥
  pub unchanged : new ≡ old

-- a step was made, or it isn't enabled
abbrev pub Steps : {V : Type 0} → Behaviour V → Step → State V → State V → Bool → Type 0
Steps b step old new true = Leads b step old new
Steps b step old new false = IsRefused b step old new

-- as how many steps a step counts: a move as many as the bytes that move
abbrev pub counted : Step → ℕ
counted (Event c) = 1
counted (Send k) = 1
counted (Poll k) = 1
counted (Take k) = 1
counted (Move k n) = n
counted (Put k) = 1
