-- The one message of a memory link that bytes are.
use Rattle.std.proofs.Common.{◌≡◌, ℕ, Bool, eqb, cond, List, None, Result, Ok, Err, IfOk, refl, ap, sym, ◌∙◌}
use Rattle.std.specs.Prelude.{option_map}
use Rattle.field_layout.specs.Layout.{fault_named}
use Rattle.access_proto.specs.Spelling.{operation_of}
use Rattle.access_proto.specs.declared.access.Access.{Access}
use Rattle.access_proto.specs.declared.access.Access.TheVariants as an_access
use Rattle.access_proto.specs.declared.access.Operation.{Operation}
use Rattle.access_proto.specs.declared.access.Operation.TheVariants as operation
use Rattle.access_proto.proofs.Spellings.{one_access, no_fault as access_fault}
use Rattle.mem_proto.specs.declared.message.MemMsg.{MemMsg}
use Rattle.mem_proto.specs.declared.message.MemMsg.TheVariants.{Read, Write, ReadDone, WriteDone}
use Rattle.mem_proto.specs.declared.mem_bad.MemBad.{MemBad}
use Rattle.mem_proto.specs.declared.mem_bad.MemBad.TheVariants.{UnknownType, LengthRange, LengthDiffers, FieldNotZero, NoMemory}
use Rattle.mem_proto.specs.Refusals.{refused_as}
use Rattle.mem_proto.specs.Spelling.{IsSpelled, ReadsSpelled, access_of, type_at, type_of, refusal, access_refusal, fault_of}

-- the message that is an access
message_with : Access → MemMsg
message_with (an_access.Read id addr len) = Read id addr len
message_with (an_access.Write id addr bytes) = Write id addr bytes
message_with (an_access.ReadDone id bytes) = ReadDone id bytes
message_with (an_access.WriteDone id) = WriteDone id

message_back : (m : MemMsg) → message_with (access_of m) ≡ m
unfolding message_with
message_back (Read id addr len) = refl
message_back (Write id addr bytes) = refl
message_back (ReadDone id bytes) = refl
message_back (WriteDone id) = refl

-- the operation of a type
operation_with : ℕ → Operation
operation_with ty = cond (eqb ty 0x50) operation.Read (cond (eqb ty 0x51) operation.Write (cond (eqb ty 0x52) operation.ReadDone operation.WriteDone))

operation_back : (op : Operation) → operation_with (type_at op) ≡ op
unfolding operation_with
operation_back operation.Read = refl
operation_back operation.Write = refl
operation_back operation.ReadDone = refl
operation_back operation.WriteDone = refl

pub one_message : (a b : MemMsg) (ty : ℕ) (fields payload : List ℕ) → IsSpelled a ty fields payload → IsSpelled b ty fields payload → a ≡ b
one_message a b ty fields payload x y =
    let types : type_of a ≡ type_of b = sym x.is_type ∙ y.is_type in
    let operations : operation_of (access_of a) ≡ operation_of (access_of b) = sym (operation_back (operation_of (access_of a))) ∙ ap operation_with types ∙ operation_back (operation_of (access_of b)) in
    sym (message_back a) ∙ ap message_with (one_access (access_of a) (access_of b) fields payload operations x.access y.access) ∙ message_back b

-- ---- what is spelled has no fault

refusal-access : (a : Access) (fields payload : List ℕ) → refusal (type_at (operation_of a)) fields payload ≡ access_refusal (operation_of a) fields payload
refusal-access (an_access.Read id addr len) fields payload = refl
refusal-access (an_access.Write id addr bytes) fields payload = refl
refusal-access (an_access.ReadDone id bytes) fields payload = refl
refusal-access (an_access.WriteDone id) fields payload = refl

pub no_fault : (m : MemMsg) (ty : ℕ) (fields payload : List ℕ) → IsSpelled m ty fields payload → refusal ty fields payload ≡ None
no_fault m ty fields payload x =
    ap (λ ty. refusal ty fields payload) x.is_type ∙ refusal-access (access_of m) fields payload ∙ ap (option_map refused_as) (access_fault (access_of m) fields payload x.access)

no_memory : (bad : MemBad) → fault_of bad ≡ None → bad ≡ NoMemory
no_memory NoMemory none = refl
no_memory UnknownType none = absurd cc
no_memory LengthRange none = absurd cc
no_memory LengthDiffers none = absurd cc
no_memory FieldNotZero none = absurd cc

-- what is read so and refused so is what the bytes are, unless memory runs out
pub only_from : (r : Result MemMsg MemBad) (ty : ℕ) (fields payload : List ℕ) → IfOk r (λ found. IsSpelled found ty fields payload) → fault_named fault_of r ≡ refusal ty fields payload → ReadsSpelled r ty fields payload
only_from (Ok found) ty fields payload is refused m x = one_message found m ty fields payload is x
only_from (Err bad) ty fields payload is refused m x = no_memory bad (refused ∙ no_fault m ty fields payload x)
