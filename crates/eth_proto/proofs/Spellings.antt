-- The one frame that bytes are.
use Rattle.std.proofs.Common.{◌≡◌, ℕ, true, false, ltb, eqb, List, [], ◌∷◌, length, None, Result, Ok, Err, IfOk, refl, ap, sym, ◌∙◌, arith}
use Rattle.std.proofs.lemmas.Bool.{eq-eqb, le-ltb}
use Rattle.field_layout.specs.Layout.{number_in, is_zero_elsewhere, fault_named}
use Rattle.field_layout.proofs.Layouts.{number_in-2}
use Rattle.eth_proto.specs.declared.eth_bad.EthBad.{EthBad}
use Rattle.eth_proto.specs.declared.eth_bad.EthBad.TheVariants.{UnknownType, TooShort, TooLong, LengthDiffers, FieldNotZero, NoMemory}
use Rattle.eth_proto.specs.Spelling.{IsSpelled, ReadsSpelled, length_field, refusal, fault_of}

pub no_fault : (frame : List ℕ) (ty : ℕ) (fields payload : List ℕ) → IsSpelled frame ty fields payload → refusal ty fields payload ≡ None
no_fault frame ty fields payload x =
    let same : length payload ≡ length frame = ap length x.whole in
    let is_type : eqb ty 0x70 ≡ true = eq-eqb ty 0x70 x.is_type in
    let long : ltb (length payload) 14 ≡ false = le-ltb _ 14 (omega (arith, x.is_frame.at_least)) in
    let short : ltb 1514 (length payload) ≡ false = le-ltb 1514 _ (omega (arith, x.is_frame.at_most)) in
    let told : eqb (number_in fields length_field) (length payload) ≡ true = eq-eqb _ _ (number_in-2 fields 0 _ (x.laid_out.held.0) ∙ sym same) in
    let zeros : is_zero_elsewhere (length_field ∷ []) fields ≡ true = x.laid_out.others in
    rw (is_type, long, short, told, zeros) refl

no_memory : (bad : EthBad) → fault_of bad ≡ None → bad ≡ NoMemory
no_memory NoMemory none = refl
no_memory UnknownType none = absurd cc
no_memory TooShort none = absurd cc
no_memory TooLong none = absurd cc
no_memory LengthDiffers none = absurd cc
no_memory FieldNotZero none = absurd cc

-- what is read so and refused so is what the bytes are, unless memory runs out
pub only_from : (r : Result (List ℕ) EthBad) (ty : ℕ) (fields payload : List ℕ) → IfOk r (λ message. IsSpelled message ty fields payload) → fault_named fault_of r ≡ refusal ty fields payload → ReadsSpelled r ty fields payload
only_from (Ok message) ty fields payload found refused frame x = sym found.whole ∙ x.whole
only_from (Err bad) ty fields payload found refused frame x = no_memory bad (refused ∙ no_fault frame ty fields payload x)
