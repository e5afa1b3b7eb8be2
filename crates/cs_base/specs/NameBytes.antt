-- How a name is stored: in sixteen places, of which those past its length are 0.
use Rattle.std.specs.Prelude.{ℕ, ◌≡◌, ◌≤◌, ◌-◌, List, ◌++◌, length, take, replicate, true}
use Rattle.std.proofs.Common.{ap, sym, ◌∙◌, arith, drop, length-take-le, length-append}
use Rattle.std.proofs.Math.Seq.{take-append_seam}
use Rattle.std.proofs.lemmas.List.{drop-replicate, length-replicate}
use Rattle.std.proofs.lemmas.Bool.Decides.{nat_tests}
use Rattle.cs_base.specs.Names.{is_name}

pub record IsStored (bytes : List ℕ) (count : ℕ) : Type 0 where
  pub fits : count ≤ 16
  pub sixteen : length bytes ≡ 16
  pub filled : bytes ≡ take count bytes ++ replicate (16 - count) 0
  pub named : is_name (take count bytes) ≡ true

abbrev pub filled_up : List ℕ → List ℕ
filled_up name = name ++ replicate (16 - length name) 0

pub length_back : (bytes : List ℕ) (count : ℕ) → IsStored bytes count → length (take count bytes) ≡ count
length_back bytes count stored = length-take-le count bytes (omega arith)

pub bytes_back : (bytes : List ℕ) (count : ℕ) → IsStored bytes count → filled_up (take count bytes) ≡ bytes
bytes_back bytes count stored =
    ap (λ n. take count bytes ++ replicate (16 - n) 0) (length_back bytes count stored) ∙ sym stored.filled

-- the bytes of a name, written over sixteen zeros, are stored as a name
pub stored_is : (name : List ℕ) → is_name name ≡ true → IsStored (name ++ drop (length name) (replicate 16 0)) (length name)
stored_is name named =
    let fits : length name ≤ 16 = grind (arith, nat_tests) in
    let spare = drop-replicate {X = ℕ} (length name) 16 0 in
    record {
      fits = fits;
      sixteen = rw (spare, length-append, length-replicate) (omega arith);
      filled = rw (take-append_seam name) (rw spare);
      named = rw (take-append_seam name) named;
    }
