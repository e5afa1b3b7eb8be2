-- The one message from a host that bytes are.
use Rattle.std.proofs.Common.{◌≡◌, ℕ, true, false, eqb, cond, List, length, take, drop, get_or, [], ◌∷◌, Option, None, Some, Result, Ok, Err, IfOk, refl, ap, sym, ◌∙◌, arith}
use Rattle.std.specs.Prelude.{option_map}
use Rattle.std.proofs.lemmas.Bool.{eq-eqb}
use Rattle.field_layout.specs.Layout.{number_in, fault_named}
use Rattle.field_layout.proofs.Layouts.{number_at_zero}
use Rattle.access_proto.specs.Spelling as access_spelling
use Rattle.access_proto.specs.declared.access.Access.{Access}
use Rattle.access_proto.specs.declared.access.Access.TheVariants as access
use Rattle.access_proto.proofs.Spellings.{one_access, no_fault as access_fault}
use Rattle.pcie_proto.specs.declared.from_host.HostMsg.{HostMsg}
use Rattle.pcie_proto.specs.declared.from_host.HostMsg.TheVariants.{Read, Write, ReadDone, WriteDone}
use Rattle.pcie_proto.specs.declared.pcie_bad.PcieBad.{PcieBad}
use Rattle.pcie_proto.specs.declared.pcie_bad.PcieBad.TheVariants as bad
use Rattle.pcie_proto.specs.Refusals.{refused_as, access_refusal, fault_of}
use Rattle.pcie_proto.specs.FromHost.{IsSpelled, ReadsSpelled, message_of, bar_field, refusal}

-- ---- bytes are one message

pub one_message : (a b : HostMsg) (ty : ℕ) (fields payload : List ℕ) → IsSpelled a ty fields payload → IsSpelled b ty fields payload → a ≡ b
one_message (Read i c a l) (Read j d b m) ty fields payload x y = ap (λ bar. Read i bar a l) x.is_bar.first ∙ ap message_of (one_access (access.Read i a l) (access.Read j b m) fields payload refl (record { in_range = x.in_range; laid_out = x.laid_out; whole = x.whole }) (record { in_range = y.in_range; laid_out = y.laid_out; whole = y.whole })) ∙ ap (λ bar. Read j bar b m) (sym y.is_bar.first)
one_message (Read i c a l) (Write j d b m) ty fields payload x y = absurd (omega (arith, x.is_type, y.is_type))
one_message (Read i c a l) (ReadDone j m) ty fields payload x y = absurd (omega (arith, x.is_type, y.is_type))
one_message (Read i c a l) (WriteDone j) ty fields payload x y = absurd (omega (arith, x.is_type, y.is_type))
one_message (Write i c a l) (Read j d b m) ty fields payload x y = absurd (omega (arith, x.is_type, y.is_type))
one_message (Write i c a l) (Write j d b m) ty fields payload x y = ap (λ bar. Write i bar a l) x.is_bar.first ∙ ap message_of (one_access (access.Write i a l) (access.Write j b m) fields payload refl (record { in_range = x.in_range; laid_out = x.laid_out; whole = x.whole }) (record { in_range = y.in_range; laid_out = y.laid_out; whole = y.whole })) ∙ ap (λ bar. Write j bar b m) (sym y.is_bar.first)
one_message (Write i c a l) (ReadDone j m) ty fields payload x y = absurd (omega (arith, x.is_type, y.is_type))
one_message (Write i c a l) (WriteDone j) ty fields payload x y = absurd (omega (arith, x.is_type, y.is_type))
one_message (ReadDone i l) (Read j d b m) ty fields payload x y = absurd (omega (arith, x.is_type, y.is_type))
one_message (ReadDone i l) (Write j d b m) ty fields payload x y = absurd (omega (arith, x.is_type, y.is_type))
one_message (ReadDone i l) (ReadDone j m) ty fields payload x y = ap message_of (one_access (access.ReadDone i l) (access.ReadDone j m) fields payload refl (record { in_range = x.in_range; laid_out = x.laid_out; whole = x.whole }) (record { in_range = y.in_range; laid_out = y.laid_out; whole = y.whole }))
one_message (ReadDone i l) (WriteDone j) ty fields payload x y = absurd (omega (arith, x.is_type, y.is_type))
one_message (WriteDone i) (Read j d b m) ty fields payload x y = absurd (omega (arith, x.is_type, y.is_type))
one_message (WriteDone i) (Write j d b m) ty fields payload x y = absurd (omega (arith, x.is_type, y.is_type))
one_message (WriteDone i) (ReadDone j m) ty fields payload x y = absurd (omega (arith, x.is_type, y.is_type))
one_message (WriteDone i) (WriteDone j) ty fields payload x y = ap message_of (one_access (access.WriteDone i) (access.WriteDone j) fields payload refl (record { in_range = x.in_range; laid_out = x.laid_out; whole = x.whole }) (record { in_range = y.in_range; laid_out = y.laid_out; whole = y.whole }))

-- ---- what is spelled has no fault

-- a request names region 0
region : (fields : List ℕ) (o : Option PcieBad) → eqb (number_in fields bar_field) 0 ≡ true → o ≡ None → cond (eqb (number_in fields bar_field) 0) o (Some bad.BadBar) ≡ None
region fields o zero none = rw zero none

pub no_fault : (m : HostMsg) (ty : ℕ) (fields payload : List ℕ) → IsSpelled m ty fields payload → refusal ty fields payload ≡ None
no_fault (Read i c a l) ty fields payload x = ap (λ ty. refusal ty fields payload) x.is_type ∙ region fields _ (eq-eqb _ 0 (number_at_zero x.laid_out 18 refl)) (ap (option_map refused_as) (access_fault (access.Read i a l) fields payload (record { in_range = x.in_range; laid_out = x.laid_out; whole = x.whole })))
no_fault (Write i c a l) ty fields payload x = ap (λ ty. refusal ty fields payload) x.is_type ∙ region fields _ (eq-eqb _ 0 (number_at_zero x.laid_out 18 refl)) (ap (option_map refused_as) (access_fault (access.Write i a l) fields payload (record { in_range = x.in_range; laid_out = x.laid_out; whole = x.whole })))
no_fault (ReadDone i l) ty fields payload x = ap (λ ty. refusal ty fields payload) x.is_type ∙ ap (option_map refused_as) (access_fault (access.ReadDone i l) fields payload (record { in_range = x.in_range; laid_out = x.laid_out; whole = x.whole }))
no_fault (WriteDone i) ty fields payload x = ap (λ ty. refusal ty fields payload) x.is_type ∙ ap (option_map refused_as) (access_fault (access.WriteDone i) fields payload (record { in_range = x.in_range; laid_out = x.laid_out; whole = x.whole }))

no_memory : (b : PcieBad) → fault_of b ≡ None → b ≡ bad.NoMemory
no_memory bad.NoMemory none = refl
no_memory bad.UnknownType none = absurd cc
no_memory bad.BadBar none = absurd cc
no_memory bad.LengthRange none = absurd cc
no_memory bad.LengthDiffers none = absurd cc
no_memory bad.FieldNotZero none = absurd cc

-- what is read so and refused so is what the bytes are, unless memory runs out
pub only_from : (r : Result HostMsg PcieBad) (ty : ℕ) (fields payload : List ℕ) → IfOk r (λ found. IsSpelled found ty fields payload) → fault_named fault_of r ≡ refusal ty fields payload → ReadsSpelled r ty fields payload
only_from (Ok found) ty fields payload is refused m x = one_message found m ty fields payload is x
only_from (Err b) ty fields payload is refused m x = no_memory b (refused ∙ no_fault m ty fields payload x)
