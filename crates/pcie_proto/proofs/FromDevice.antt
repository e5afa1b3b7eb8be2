-- The one message from a device that bytes are.
use Rattle.std.proofs.Common.{◌≡◌, ℕ, zero, suc, ◌≤◌, Bool, true, false, eqb, ltb, List, [], ◌∷◌, length, None, Result, Ok, Err, IfOk, refl, ap, sym, ◌∙◌, arith}
use Rattle.std.specs.Prelude.{option_map}
use Rattle.std.proofs.lemmas.Bool.{eq-eqb, le-ltb}
use Rattle.field_layout.specs.Layout.{Holds, entry, number_in, is_zero_elsewhere, fault_named}
use Rattle.field_layout.proofs.Layouts.{number_in-1}
use Rattle.access_proto.specs.Spelling as access_spelling
use Rattle.access_proto.specs.declared.access.Access.{Access}
use Rattle.access_proto.specs.declared.access.Access.TheVariants as access
use Rattle.access_proto.proofs.Spellings.{one_access, no_fault as access_fault}
use Rattle.pcie_proto.specs.declared.from_device.DevMsg.{DevMsg}
use Rattle.pcie_proto.specs.declared.from_device.DevMsg.TheVariants.{Read, Write, Level, ReadDone, WriteDone}
use Rattle.pcie_proto.specs.declared.pcie_bad.PcieBad.{PcieBad}
use Rattle.pcie_proto.specs.declared.pcie_bad.PcieBad.TheVariants as bad
use Rattle.pcie_proto.specs.Refusals.{refused_as, fault_of}
use Rattle.pcie_proto.specs.FromDevice.{IsSpelled, ReadsSpelled, message_of, level_field, level_number, refusal}

-- ---- accesses and levels

as_access : (a : Access) (ty : ℕ) (fields payload : List ℕ) → IsSpelled (message_of a) ty fields payload → access_spelling.IsSpelled a fields payload
as_access (access.Read id addr len) ty fields payload x = record { in_range = x.in_range; laid_out = x.laid_out; whole = x.whole }
as_access (access.Write id addr bytes) ty fields payload x = record { in_range = x.in_range; laid_out = x.laid_out; whole = x.whole }
as_access (access.ReadDone id bytes) ty fields payload x = record { in_range = x.in_range; laid_out = x.laid_out; whole = x.whole }
as_access (access.WriteDone id) ty fields payload x = record { in_range = x.in_range; laid_out = x.laid_out; whole = x.whole }

same_number : (fields : List ℕ) (a b : ℕ) → Holds fields (entry 0 1 a) → Holds fields (entry 0 1 b) → a ≡ b
same_number fields a b x y = sym (number_in-1 fields 0 a x) ∙ number_in-1 fields 0 b y

same_level : (h g : Bool) → level_number h ≡ level_number g → h ≡ g
same_level true true same = refl
same_level true false same = absurd (omega (arith, same))
same_level false true same = absurd (omega (arith, same))
same_level false false same = refl

level_number-le : (high : Bool) → level_number high ≤ 1
level_number-le true = omega arith
level_number-le false = omega arith

-- a number of at most 1 is a level's
pub level_number-eqb : (n : ℕ) → n ≤ 1 → level_number (eqb n 1) ≡ n
level_number-eqb zero le = refl
level_number-eqb (suc zero) le = refl
level_number-eqb (suc (suc n)) le = absurd (omega (arith, le))

-- ---- bytes are one message

pub one_message : (a b : DevMsg) (ty : ℕ) (fields payload : List ℕ) → IsSpelled a ty fields payload → IsSpelled b ty fields payload → a ≡ b
one_message (Read i a l) (Read j b m) ty fields payload x y = ap message_of (one_access (access.Read i a l) (access.Read j b m) fields payload refl (as_access (access.Read i a l) ty fields payload x) (as_access (access.Read j b m) ty fields payload y))
one_message (Read i a l) (Write j b m) ty fields payload x y = absurd (omega (arith, x.is_type, y.is_type))
one_message (Read i a l) (Level g) ty fields payload x y = absurd (omega (arith, x.is_type, y.is_type))
one_message (Read i a l) (ReadDone j m) ty fields payload x y = absurd (omega (arith, x.is_type, y.is_type))
one_message (Read i a l) (WriteDone j) ty fields payload x y = absurd (omega (arith, x.is_type, y.is_type))
one_message (Write i a l) (Read j b m) ty fields payload x y = absurd (omega (arith, x.is_type, y.is_type))
one_message (Write i a l) (Write j b m) ty fields payload x y = ap message_of (one_access (access.Write i a l) (access.Write j b m) fields payload refl (as_access (access.Write i a l) ty fields payload x) (as_access (access.Write j b m) ty fields payload y))
one_message (Write i a l) (Level g) ty fields payload x y = absurd (omega (arith, x.is_type, y.is_type))
one_message (Write i a l) (ReadDone j m) ty fields payload x y = absurd (omega (arith, x.is_type, y.is_type))
one_message (Write i a l) (WriteDone j) ty fields payload x y = absurd (omega (arith, x.is_type, y.is_type))
one_message (Level h) (Read j b m) ty fields payload x y = absurd (omega (arith, x.is_type, y.is_type))
one_message (Level h) (Write j b m) ty fields payload x y = absurd (omega (arith, x.is_type, y.is_type))
one_message (Level h) (Level g) ty fields payload x y = ap Level (same_level h g (same_number fields (level_number h) (level_number g) (x.laid_out.held.0) (y.laid_out.held.0)))
one_message (Level h) (ReadDone j m) ty fields payload x y = absurd (omega (arith, x.is_type, y.is_type))
one_message (Level h) (WriteDone j) ty fields payload x y = absurd (omega (arith, x.is_type, y.is_type))
one_message (ReadDone i l) (Read j b m) ty fields payload x y = absurd (omega (arith, x.is_type, y.is_type))
one_message (ReadDone i l) (Write j b m) ty fields payload x y = absurd (omega (arith, x.is_type, y.is_type))
one_message (ReadDone i l) (Level g) ty fields payload x y = absurd (omega (arith, x.is_type, y.is_type))
one_message (ReadDone i l) (ReadDone j m) ty fields payload x y = ap message_of (one_access (access.ReadDone i l) (access.ReadDone j m) fields payload refl (as_access (access.ReadDone i l) ty fields payload x) (as_access (access.ReadDone j m) ty fields payload y))
one_message (ReadDone i l) (WriteDone j) ty fields payload x y = absurd (omega (arith, x.is_type, y.is_type))
one_message (WriteDone i) (Read j b m) ty fields payload x y = absurd (omega (arith, x.is_type, y.is_type))
one_message (WriteDone i) (Write j b m) ty fields payload x y = absurd (omega (arith, x.is_type, y.is_type))
one_message (WriteDone i) (Level g) ty fields payload x y = absurd (omega (arith, x.is_type, y.is_type))
one_message (WriteDone i) (ReadDone j m) ty fields payload x y = absurd (omega (arith, x.is_type, y.is_type))
one_message (WriteDone i) (WriteDone j) ty fields payload x y = ap message_of (one_access (access.WriteDone i) (access.WriteDone j) fields payload refl (as_access (access.WriteDone i) ty fields payload x) (as_access (access.WriteDone j) ty fields payload y))

-- ---- what is spelled has no fault

level_fault : (high : Bool) (ty : ℕ) (fields payload : List ℕ) → IsSpelled (Level high) ty fields payload → refusal 0x42 fields payload ≡ None
level_fault high ty fields payload x =
    let empty : eqb (length payload) 0 ≡ true = eq-eqb _ 0 (ap length x.whole) in
    let low : ltb 1 (number_in fields level_field) ≡ false = le-ltb 1 _ (omega (arith, number_in-1 fields 0 _ (x.laid_out.held.0), level_number-le high)) in
    let zeros : is_zero_elsewhere (level_field ∷ []) fields ≡ true = x.laid_out.others in
    rw (empty, low, zeros) refl

pub no_fault : (m : DevMsg) (ty : ℕ) (fields payload : List ℕ) → IsSpelled m ty fields payload → refusal ty fields payload ≡ None
no_fault (Read i a l) ty fields payload x = ap (λ ty. refusal ty fields payload) x.is_type ∙ ap (option_map refused_as) (access_fault (access.Read i a l) fields payload (as_access (access.Read i a l) ty fields payload x))
no_fault (Write i a l) ty fields payload x = ap (λ ty. refusal ty fields payload) x.is_type ∙ ap (option_map refused_as) (access_fault (access.Write i a l) fields payload (as_access (access.Write i a l) ty fields payload x))
no_fault (Level h) ty fields payload x = ap (λ ty. refusal ty fields payload) x.is_type ∙ level_fault h ty fields payload x
no_fault (ReadDone i l) ty fields payload x = ap (λ ty. refusal ty fields payload) x.is_type ∙ ap (option_map refused_as) (access_fault (access.ReadDone i l) fields payload (as_access (access.ReadDone i l) ty fields payload x))
no_fault (WriteDone i) ty fields payload x = ap (λ ty. refusal ty fields payload) x.is_type ∙ ap (option_map refused_as) (access_fault (access.WriteDone i) fields payload (as_access (access.WriteDone i) ty fields payload x))

no_memory : (b : PcieBad) → fault_of b ≡ None → b ≡ bad.NoMemory
no_memory bad.NoMemory none = refl
no_memory bad.UnknownType none = absurd cc
no_memory bad.BadBar none = absurd cc
no_memory bad.LengthRange none = absurd cc
no_memory bad.LengthDiffers none = absurd cc
no_memory bad.FieldNotZero none = absurd cc

-- what is read so and refused so is what the bytes are, unless memory runs out
pub only_from : (r : Result DevMsg PcieBad) (ty : ℕ) (fields payload : List ℕ) → IfOk r (λ found. IsSpelled found ty fields payload) → fault_named fault_of r ≡ refusal ty fields payload → ReadsSpelled r ty fields payload
only_from (Ok found) ty fields payload is refused m x = one_message found m ty fields payload is x
only_from (Err b) ty fields payload is refused m x = no_memory b (refused ∙ no_fault m ty fields payload x)
