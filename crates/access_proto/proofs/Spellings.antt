-- The one access that bytes are.
use Rattle.std.proofs.Common.{◌≡◌, ℕ, true, false, not, leb, eqb, ◌&&◌, List, [], ◌∷◌, length, None, Result, Ok, Err, IfOk, refl, ap, sym, ◌∙◌, arith}
use Rattle.std.proofs.lemmas.Bool.{eq-eqb, le-leb, and_from}
use Rattle.field_layout.specs.Layout.{Holds, entry, number_in, is_zero_elsewhere, fault_named}
use Rattle.field_layout.proofs.Layouts.{number_in-2, number_in-8}
use Rattle.access_proto.specs.Lengths.{IsLength, is_length}
use Rattle.access_proto.specs.declared.access.Access.{Access}
use Rattle.access_proto.specs.declared.access.Access.TheVariants.{Read, Write, ReadDone, WriteDone}
use Rattle.access_proto.specs.declared.access.Operation.{Operation}
use Rattle.access_proto.specs.declared.access_bad.AccessBad.{AccessBad}
use Rattle.access_proto.specs.declared.access_bad.AccessBad.TheVariants.{LengthRange, LengthDiffers, FieldNotZero, NoMemory}
use Rattle.access_proto.specs.Spelling.{IsSpelled, operation_of, named_fields, length_field, refusal, fault_of, ReadsSpelled}

-- ---- what is spelled has no fault

in_range : (fields : List ℕ) (len : ℕ) → IsLength len → Holds fields (entry 16 2 len) → is_length (number_in fields length_field) ≡ true
in_range fields len is holds =
    ap is_length (number_in-2 fields 16 len holds) ∙ and_from _ _ (le-leb 1 len is.at_least) (le-leb len 2048 is.at_most)

told : (fields bytes payload : List ℕ) → payload ≡ bytes → Holds fields (entry 16 2 (length bytes)) → eqb (length payload) (number_in fields length_field) ≡ true
told fields bytes payload whole holds = eq-eqb _ _ (ap length whole ∙ sym (number_in-2 fields 16 (length bytes) holds))

none : (payload : List ℕ) → payload ≡ [] → eqb (length payload) 0 ≡ true
none payload whole = eq-eqb _ 0 (ap length whole)

pub no_fault : (access : Access) (fields payload : List ℕ) → IsSpelled access fields payload → refusal (operation_of access) fields payload ≡ None
no_fault (Read id addr len) fields payload x =
    let zeros : is_zero_elsewhere (named_fields (operation_of (Read id addr len))) fields ≡ true = x.laid_out.others in
    rw (in_range fields len x.in_range (x.laid_out.held.1.1.0), none payload x.whole, zeros) refl
no_fault (Write id addr bytes) fields payload x =
    let zeros : is_zero_elsewhere (named_fields (operation_of (Write id addr bytes))) fields ≡ true = x.laid_out.others in
    rw (in_range fields (length bytes) x.in_range (x.laid_out.held.1.1.0), told fields bytes payload x.whole (x.laid_out.held.1.1.0), zeros) refl
no_fault (ReadDone id bytes) fields payload x =
    let zeros : is_zero_elsewhere (named_fields (operation_of (ReadDone id bytes))) fields ≡ true = x.laid_out.others in
    rw (in_range fields (length bytes) x.in_range (x.laid_out.held.1.0), told fields bytes payload x.whole (x.laid_out.held.1.0), zeros) refl
no_fault (WriteDone id) fields payload x =
    let zeros : is_zero_elsewhere (named_fields (operation_of (WriteDone id))) fields ≡ true = x.laid_out.others in
    rw (none payload x.whole, zeros) refl

-- ---- bytes are one access

same_number : (fields : List ℕ) (place a b : ℕ) → Holds fields (entry place 8 a) → Holds fields (entry place 8 b) → a ≡ b
same_number fields place a b x y = sym (number_in-8 fields place a x) ∙ number_in-8 fields place b y

pub one_access : (a b : Access) (fields payload : List ℕ) → operation_of a ≡ operation_of b → IsSpelled a fields payload → IsSpelled b fields payload → a ≡ b
one_access (Read i a l) (Read j b m) fields payload same x y =
    let ids = same_number fields 0 i j (x.laid_out.held.0) (y.laid_out.held.0) in
    let addrs = same_number fields 8 a b (x.laid_out.held.1.0) (y.laid_out.held.1.0) in
    let lens : l ≡ m = sym (number_in-2 fields 16 l (x.laid_out.held.1.1.0)) ∙ number_in-2 fields 16 m (y.laid_out.held.1.1.0) in
    λ k. Read (ids k) (addrs k) (lens k)
one_access (Read i a l) (Write j b m) fields payload same x y = absurd cc
one_access (Read i a l) (ReadDone j m) fields payload same x y = absurd cc
one_access (Read i a l) (WriteDone j) fields payload same x y = absurd cc
one_access (Write i a l) (Read j b m) fields payload same x y = absurd cc
one_access (Write i a l) (Write j b m) fields payload same x y =
    let ids = same_number fields 0 i j (x.laid_out.held.0) (y.laid_out.held.0) in
    let addrs = same_number fields 8 a b (x.laid_out.held.1.0) (y.laid_out.held.1.0) in
    let bytes : l ≡ m = sym x.whole ∙ y.whole in
    λ k. Write (ids k) (addrs k) (bytes k)
one_access (Write i a l) (ReadDone j m) fields payload same x y = absurd cc
one_access (Write i a l) (WriteDone j) fields payload same x y = absurd cc
one_access (ReadDone i l) (Read j b m) fields payload same x y = absurd cc
one_access (ReadDone i l) (Write j b m) fields payload same x y = absurd cc
one_access (ReadDone i l) (ReadDone j m) fields payload same x y =
    let ids = same_number fields 0 i j (x.laid_out.held.0) (y.laid_out.held.0) in
    let bytes : l ≡ m = sym x.whole ∙ y.whole in
    λ k. ReadDone (ids k) (bytes k)
one_access (ReadDone i l) (WriteDone j) fields payload same x y = absurd cc
one_access (WriteDone i) (Read j b m) fields payload same x y = absurd cc
one_access (WriteDone i) (Write j b m) fields payload same x y = absurd cc
one_access (WriteDone i) (ReadDone j m) fields payload same x y = absurd cc
one_access (WriteDone i) (WriteDone j) fields payload same x y = ap WriteDone (same_number fields 0 i j (x.laid_out.held.0) (y.laid_out.held.0))

-- ---- what is read

no_memory : (bad : AccessBad) → fault_of bad ≡ None → bad ≡ NoMemory
no_memory NoMemory none = refl
no_memory LengthRange none = absurd cc
no_memory LengthDiffers none = absurd cc
no_memory FieldNotZero none = absurd cc

-- what is read so and refused so is what the bytes are, unless memory runs out
pub only_from : (r : Result Access AccessBad) (op : Operation) (fields payload : List ℕ) → IfOk r (λ found. operation_of found ≡ op) → IfOk r (λ found. IsSpelled found fields payload) → fault_named fault_of r ≡ refusal op fields payload → ReadsSpelled r op fields payload
only_from (Ok found) op fields payload operation is refused access same x = one_access found access fields payload (operation ∙ sym same) is x
only_from (Err bad) op fields payload operation is refused access same x = no_memory bad (refused ∙ ap (λ op. refusal op fields payload) (sym same) ∙ no_fault access fields payload x)
