-- Members of three sorts: components, sending ends and receiving ends of channels.
use Rattle.std.specs.Prelude.{ℕ, Option, Some, None}
use Rattle.worker_rounds.specs.declared.mesh_bad.MeshBad.{MeshBad}
use Rattle.crew_members.specs.declared.hand.Hand.{Hand}
use Rattle.crew_members.specs.declared.hand.Hand.TheVariants.{Component, Sending, Receiving}

-- a member as one of a sort, if it is one
abbrev pub component_of : {C O I : Type 0} → Hand C O I → Option C
component_of (Component part) = Some part
component_of (Sending end) = None
component_of (Receiving end) = None

abbrev pub sending_of : {C O I : Type 0} → Hand C O I → Option O
sending_of (Component part) = None
sending_of (Sending end) = Some end
sending_of (Receiving end) = None

abbrev pub receiving_of : {C O I : Type 0} → Hand C O I → Option I
receiving_of (Component part) = None
receiving_of (Sending end) = None
receiving_of (Receiving end) = Some end

-- what is said of a member, for each sort by itself
abbrev pub HandIs : {C O I : Type 0} → (C → Type 0) → (O → Type 0) → (I → Type 0) → Hand C O I
    → Type 0
HandIs c o i (Component part) = c part
HandIs c o i (Sending end) = o end
HandIs c o i (Receiving end) = i end

abbrev pub hand_number : {C O I : Type 0} → (C → ℕ) → (O → ℕ) → (I → ℕ) → Hand C O I → ℕ
hand_number c o i (Component part) = c part
hand_number c o i (Sending end) = o end
hand_number c o i (Receiving end) = i end

-- a turn of a member, which stays of its sort
pub data HandDid {C O I : Type 0} (c : C → C → Type 0) (o : O → O → Type 0)
    (i : I → I → Type 0) : Hand C O I → Hand C O I → Type 0 where
  component_did : (old new : C) → c old new → HandDid c o i (Component old) (Component new)
  sending_did : (old new : O) → o old new → HandDid c o i (Sending old) (Sending new)
  receiving_did : (old new : I) → i old new → HandDid c o i (Receiving old) (Receiving new)

-- a turn that met a fault
pub data HandFailed {C O I : Type 0} (c : C → MeshBad → C → Type 0) (o : O → MeshBad → O → Type 0)
    (i : I → MeshBad → I → Type 0) : Hand C O I → MeshBad → Hand C O I → Type 0 where
  component_failed : (old : C) (fault : MeshBad) (new : C) → c old fault new
      → HandFailed c o i (Component old) fault (Component new)
  sending_failed : (old : O) (fault : MeshBad) (new : O) → o old fault new
      → HandFailed c o i (Sending old) fault (Sending new)
  receiving_failed : (old : I) (fault : MeshBad) (new : I) → i old fault new
      → HandFailed c o i (Receiving old) fault (Receiving new)
