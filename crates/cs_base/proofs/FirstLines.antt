-- The first line of a text.
use Rattle.std.proofs.Common.{◌≡◌, ℕ, ◌+◌, ◌<◌, ◌≤◌, Bool, true, false, cond, eqb, ltb, List, [], ◌∷◌, length, get_or, take, drop, zero, suc, Some, None, refl, ap, ◌∙◌, arith, position}
use Rattle.std.proofs.lemmas.Bool.Decides.{nat_tests}
use Rattle.std.proofs.lemmas.List.Quantifiers.{position-Some}
use Rattle.std.proofs.lemmas.List.Sums.{fails_before_first}
use Rattle.std.specs.List.{onto_first, position_or_len}
use Rattle.cs_base.specs.Lines.{lines_of}

-- the byte is a line feed
abbrev pub ends : ℕ → Bool
ends byte = eqb byte 10

-- no byte below n is a line feed
abbrev Runs : List ℕ → ℕ → Type 0
Runs text n = (k : ℕ) → k < n → ends (get_or text k 0) ≡ false

runs_on : (byte : ℕ) (text : List ℕ) (n : ℕ) → Runs (byte ∷ text) (suc n) → Runs text n
runs_on byte text n runs = λ k lt. runs (suc k) (omega arith)

longer : (byte : ℕ) (text : List ℕ) → ends byte ≡ false → lines_of (byte ∷ text) ≡ onto_first byte (lines_of text)
unfolding lines_of
longer byte text goes_on = ap (λ b. cond b ([] ∷ lines_of text) (onto_first byte (lines_of text))) goes_on

ended : (byte : ℕ) (text : List ℕ) → ends byte ≡ true → lines_of (byte ∷ text) ≡ [] ∷ lines_of text
unfolding lines_of
ended byte text here = ap (λ b. cond b ([] ∷ lines_of text) (onto_first byte (lines_of text))) here

line_at : (text : List ℕ) (n : ℕ) → n < length text → ends (get_or text n 0) ≡ true → Runs text n
    → lines_of text ≡ take n text ∷ lines_of (drop (suc n) text)
line_at [] n lt here runs = absurd (omega arith)
line_at (byte ∷ text) zero lt here runs = ended byte text here
line_at (byte ∷ text) (suc n) lt here runs =
    longer byte text (runs 0 (omega arith)) ∙ ap (onto_first byte) (line_at text n (omega arith) here (runs_on byte text n runs))

last : (byte : ℕ) → onto_first byte (lines_of []) ≡ (byte ∷ []) ∷ lines_of []
unfolding lines_of
last byte = refl

line_alone : (text : List ℕ) → 0 < length text → Runs text (length text) → lines_of text ≡ text ∷ lines_of []
line_alone [] some runs = absurd (omega arith)
line_alone (byte ∷ []) some runs = longer byte [] (runs 0 (omega arith)) ∙ last byte
line_alone (byte ∷ next ∷ text) some runs =
    longer byte (next ∷ text) (runs 0 (omega arith)) ∙ ap (onto_first byte) (line_alone (next ∷ text) (omega arith) (runs_on byte (next ∷ text) (length (next ∷ text)) runs))

pub first_with_end : (text : List ℕ) (n : ℕ) → position ends text ≡ Some n → lines_of text ≡ take n text ∷ lines_of (drop (n + 1) text)
first_with_end text n is =
    let found = position-Some ends text n 0 is in
    let same : suc n ≡ n + 1 = omega arith in
    line_at text n found.0 found.1 found.2 ∙ ap (λ k. take n text ∷ lines_of (drop k text)) same

past : (b : Bool) (n : ℕ) → cond b (Some n) None ≡ None → b ≡ false
past true n is = cc
past false n is = refl

le_from_not_lt : (m n : ℕ) → ltb m n ≡ false → n ≤ m
le_from_not_lt m n not_less = grind (arith, nat_tests)

pub first_without_end : (text : List ℕ) → 0 < length text → position ends text ≡ None → lines_of text ≡ text ∷ lines_of []
first_without_end text some is =
    let behind = le_from_not_lt (position_or_len ends text) (length text) (past _ _ is) in
    line_alone text some (λ k lt. fails_before_first ends text k 0 (omega arith))
