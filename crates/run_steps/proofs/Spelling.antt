-- Numbers and steps have one spelling.
use Rattle.std.proofs.Common.{◌≡◌, ◌≢◌, MatchOption, Bor, ℕ, ◌+◌, ◌*◌, ◌<◌, ◌^◌, true, false, cond, eqb, ltb, not, List, [], ◌∷◌, ◌++◌, length, get_or, take, drop, suc, codes, Option, Some, None, Result, Ok, refl, eq-eqb, ◌&&◌, ap, sym, ◌∙◌, arith, position, decimal}
use Rattle.std.proofs.lemmas.Bool.Decides.{nat_tests, Decides-eqb}
use Rattle.std.proofs.lemmas.Fmt.{decimal_is_IsNumeral, decimal_injective, IsAscii-decimal}
use Rattle.std.proofs.lemmas.Str.{IsUtf8-from_ascii}
use Rattle.std.proofs.lemmas.Str.Parse.{digit_from_value}
use Rattle.std.proofs.lemmas.List.{length-append, append_cancel_left, take-append-drop}
use Rattle.std.proofs.Math.Seq.{take-append_seam, drop-append-add, drop-cons}
use Rattle.std.proofs.lemmas.List.Quantifiers.{position-Some}
use Rattle.std.proofs.lemmas.Slice.Eq.{strip_prefix_is}
use Rattle.std.specs.Cmp.Lexicographic.{pointwise}
use Rattle.std.specs.Char.{digit_value}
use Rattle.std.specs.List.{position_or_len}
use Rattle.std.specs.Str.{IsUtf8}
use Rattle.std.specs.Str.Parse.{AllDigits}
use Rattle.run_steps.specs.declared.step.Step.{Step}
use Rattle.run_steps.specs.declared.step.Step.TheVariants.{Event, Send, Poll, Take, Move, Put}
use Rattle.run_steps.specs.Steps.{step_text, IsInRange, IsNumbered, IsNumber, IsMove, is_space, OneStepALine}

equals_itself : (xs : List ℕ) → pointwise eqb xs xs ≡ true
equals_itself [] = refl
equals_itself (x ∷ xs) = ap (λ b. b && pointwise eqb xs xs) (eq-eqb x x refl) ∙ equals_itself xs

pub equals_same : (xs ys : List ℕ) → xs ≡ ys → pointwise eqb xs ys ≡ true
equals_same xs ys same = ap (pointwise eqb xs) (sym same) ∙ equals_itself xs

pub same_ok : {E : Type 0} (r : Result ℕ E) (m n : ℕ) → r ≡ Ok m → r ≡ Ok n → m ≡ n
same_ok r m n is same = cc

pub decimal_is_text : (n : ℕ) → n < 2 ^ 64 → IsUtf8 (decimal n)
decimal_is_text n small = IsUtf8-from_ascii (decimal n) (IsAscii-decimal n small)

-- ---- digits up to a space

digit_no_space : (c : ℕ) → digit_value c < 10 → is_space c ≡ false
digit_no_space c small = let within = digit_from_value c small in grind (arith, nat_tests)

space_behind : (digits more : List ℕ) → AllDigits 10 digits → position_or_len is_space (digits ++ 32 ∷ more) ≡ length digits
space_behind [] more all = refl
space_behind (c ∷ digits) more all =
    ap (λ b. cond (not b) (1 + position_or_len is_space (digits ++ 32 ∷ more)) 0) (digit_no_space c all.0) ∙ grind (arith, space_behind digits more all.1)

at_length : (n m : ℕ) → n < m → cond (ltb n m) (Some n) None ≡ Some n
at_length n m less = grind (arith, nat_tests)

-- two numbers with a space between them
module _ (k n : ℕ) (k_small : k < 2 ^ 64) where
  pub space_at : position is_space (decimal k ++ 32 ∷ decimal n) ≡ Some (length (decimal k))
  space_at =
      let behind = space_behind (decimal k) (decimal n) ((decimal_is_IsNumeral k k_small).0).1 in
      let within : length (decimal k) < length (decimal k ++ 32 ∷ decimal n) = omega (arith, length-append (decimal k) (32 ∷ decimal n)) in
      ap (λ i. cond (ltb i (length (decimal k ++ 32 ∷ decimal n))) (Some i) None) behind ∙ at_length _ _ within

  pub before_space : take (length (decimal k)) (decimal k ++ 32 ∷ decimal n) ≡ decimal k
  before_space = take-append_seam (decimal k) (32 ∷ decimal n)

  pub after_space : drop (length (decimal k) + 1) (decimal k ++ 32 ∷ decimal n) ≡ decimal n
  after_space = drop-append-add (decimal k) (32 ∷ decimal n) 1

same_some : (a b : ℕ) → Some a ≡ Some b → a ≡ b
same_some a b same = cc

pub one_pair : (j m k n : ℕ) → j < 2 ^ 64 → m < 2 ^ 64 → k < 2 ^ 64 → n < 2 ^ 64 → decimal j ++ 32 ∷ decimal m ≡ decimal k ++ 32 ∷ decimal n → (j ≡ k) × (m ≡ n)
one_pair j m k n j_small m_small k_small n_small same =
    let places = same_some _ _ (sym (space_at j m j_small) ∙ ap (position is_space) same ∙ space_at k n k_small) in
    let first = sym (before_space j m j_small) ∙ ap (λ text. take (length (decimal j)) text) same ∙ ap (λ i. take i (decimal k ++ 32 ∷ decimal n)) places ∙ before_space k n k_small in
    let second = sym (after_space j m j_small) ∙ ap (λ text. drop (length (decimal j) + 1) text) same ∙ ap (λ i. drop (i + 1) (decimal k ++ 32 ∷ decimal n)) places ∙ after_space k n k_small in
    (decimal_injective j k j_small k_small first, decimal_injective m n m_small n_small second)

-- ---- a word and what stands behind it

pub behind_word : (line word : List ℕ) (r : Option (Bor (List ℕ))) → MatchOption r (pointwise eqb (take (length word) line) word ≡ false) (λ x. (pointwise eqb (take (length word) line) word ≡ true) × (x.now ≡ drop (length word) line) × (length x.now + length word ≡ length line)) → MatchOption r ((rest : List ℕ) → line ≢ word ++ rest) (λ x. line ≡ word ++ x.now)
behind_word line word r cases = strip_prefix_is Decides-eqb line word r cases

pub numbered_behind : (line word digits : List ℕ) (number : Option ℕ) → line ≡ word ++ digits → IsNumber (2 ^ 32) digits number → IsNumbered line word number
numbered_behind line word digits (Some n) begins is = (is.0, begins ∙ ap (λ text. word ++ text) is.1)
numbered_behind line word digits None begins is = λ n small same. is n small (append_cancel_left word digits (decimal n) (sym begins ∙ same))

-- ---- moves

abbrev pub move_word : List ℕ
move_word = codes "move "

parted : (numbers : List ℕ) (s : ℕ) → position is_space numbers ≡ Some s → numbers ≡ take s numbers ++ 32 ∷ drop (s + 1) numbers
parted numbers s at =
    let found = position-Some is_space numbers s 0 at in
    let space : get_or numbers s 0 ≡ 32 = (Decides-eqb (get_or numbers s 0) 32).0 found.1 in
    sym (take-append-drop s numbers) ∙ ap (λ rest. take s numbers ++ rest) (drop-cons numbers s 0 found.0 ∙ ap (λ byte. byte ∷ drop (suc s) numbers) space ∙ ap (λ i. 32 ∷ drop i numbers) (let more : suc s ≡ s + 1 = omega arith in more))

module _ (line numbers : List ℕ) (begins : line ≡ move_word ++ numbers) where
  numbers_are : (k n : ℕ) → line ≡ move_word ++ (decimal k ++ 32 ∷ decimal n) → numbers ≡ decimal k ++ 32 ∷ decimal n
  numbers_are k n same = append_cancel_left move_word numbers _ (sym begins ∙ same)

  pub no_move : position is_space numbers ≡ None → IsMove line None
  no_move no_space = λ k n small same.
      let at = ap (position is_space) (numbers_are k n same) ∙ space_at k n (omega (arith, small.0)) in
      cc

  module _ (s : ℕ) (at : position is_space numbers ≡ Some s) where
    place_is : (k n : ℕ) → k < 2 ^ 32 → line ≡ move_word ++ (decimal k ++ 32 ∷ decimal n) → s ≡ length (decimal k)
    place_is k n small same = same_some _ _ (sym at ∙ ap (position is_space) (numbers_are k n same) ∙ space_at k n (omega arith))

    first_is : (k n : ℕ) → k < 2 ^ 32 → line ≡ move_word ++ (decimal k ++ 32 ∷ decimal n) → take s numbers ≡ decimal k
    first_is k n small same = ap (λ i. take i numbers) (place_is k n small same) ∙ ap (take (length (decimal k))) (numbers_are k n same) ∙ before_space k n (omega arith)

    second_is : (k n : ℕ) → k < 2 ^ 32 → line ≡ move_word ++ (decimal k ++ 32 ∷ decimal n) → drop (s + 1) numbers ≡ decimal n
    second_is k n small same = ap (λ i. drop (i + 1) numbers) (place_is k n small same) ∙ ap (drop (length (decimal k) + 1)) (numbers_are k n same) ∙ after_space k n (omega arith)

    pub a_move : (k n : ℕ) → IsNumber (2 ^ 32) (take s numbers) (Some k) → IsNumber (2 ^ 64) (drop (s + 1) numbers) (Some n) → IsMove line (Some (k, n))
    a_move k n first second = ((first.0, second.0), begins ∙ ap (λ rest. move_word ++ rest) (parted numbers s at ∙ ap (λ text. text ++ 32 ∷ drop (s + 1) numbers) first.1 ∙ ap (λ text. decimal k ++ 32 ∷ text) second.1))

    pub no_channel : IsNumber (2 ^ 32) (take s numbers) None → IsMove line None
    no_channel none = λ k n small same. none k small.0 (first_is k n small.0 same)

    pub no_count : IsNumber (2 ^ 64) (drop (s + 1) numbers) None → IsMove line None
    no_count none = λ k n small same. none n small.1 (second_is k n small.0 same)

-- ---- steps

one_number : (j k : ℕ) → j < 2 ^ 32 → k < 2 ^ 32 → decimal j ≡ decimal k → j ≡ k
one_number j k j_small k_small same = decimal_injective j k (omega arith) (omega arith) same

-- the first two bytes tell the words apart
abbrev word_mark : List ℕ → ℕ
word_mark text = 256 * get_or text 0 0 + get_or text 1 0

unequal : (m n : ℕ) → m ≡ n → eqb m n ≡ false → ⊥
unequal m n same differ = grind (arith, nat_tests)

one_step : (a b : Step) → IsInRange a → IsInRange b → step_text a ≡ step_text b → a ≡ b
one_step (Event j) (Event k) p q same = ap Event (one_number j k p q cc)
one_step (Send j) (Send k) p q same = ap Send (one_number j k p q cc)
one_step (Poll j) (Poll k) p q same = ap Poll (one_number j k p q cc)
one_step (Take j) (Take k) p q same = ap Take (one_number j k p q cc)
one_step (Move j m) (Move k n) p q same =
    let pair = one_pair j m k n (omega (arith, p.0)) p.1 (omega (arith, q.0)) q.1 cc in
    ap (λ i. Move i m) pair.0 ∙ ap (Move k) pair.1
one_step (Put j) (Put k) p q same = ap Put (one_number j k p q cc)
one_step _ _ p q same = absurd (unequal _ _ (ap word_mark same) refl)

pub one_step_a_line : OneStepALine
one_step_a_line line (Some a) (Some b) as_a as_b = ap Some (one_step a b as_a.0 as_b.0 (sym as_a.1 ∙ as_b.1))
one_step_a_line line (Some a) None as_a as_none = absurd (as_none a as_a.0 as_a.1)
one_step_a_line line None (Some b) as_none as_b = absurd (as_none b as_b.0 as_b.1)
one_step_a_line line None None as_a as_b = refl
