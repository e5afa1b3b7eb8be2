-- Texts that begin alike.
use Rattle.std.proofs.Common.{◌≡◌, ℕ, ◌+◌, ◌<◌, ◌≤◌, ◌^◌, ◌%◌, Bool, true, false, List, [], ◌∷◌, ◌++◌, length, get_or, drop, refl, ap, sym, ◌∙◌, arith, w8, map, cond, eqb, leb, Some, None, min, ◌⊎◌, ⊎_elim}
use Rattle.std.specs.Prelude.{◌==◌, if◌then◌else◌, not}
use Rattle.std.specs.List.{prefix_len}
use Rattle.std.proofs.lemmas.List.{at_drop_more, drop_all}
use Rattle.std.proofs.lemmas.Simd.{length-chunk, chunk-drop, length-zip2, tops_compared, first_set_mask_l, mask_l-mod}
use Rattle.std.proofs.lemmas.Bool.Decides.{nat_tests}
use Prim.Native.Nat.{suc}
use lib.Count.{count_trailing_zeros}
use lib.Lanes.{zip2, chunk, mask_l}
use Rattle.lane_kernels.specs.Difference.{difference_at, differing_bits, equal_front}

pub same_items : {X : Type 0} → (xs : List X) → map (λ x. x) xs ≡ xs
same_items [] = refl
same_items (x ∷ xs) = ap (λ l. x ∷ l) (same_items xs)

pub length-differing : (n : ℕ) (xs ys : List ℕ) → length xs ≡ n → length ys ≡ n → length (zip2 (λ x y. not (x == y)) xs ys) ≡ n
length-differing n xs ys xs_whole ys_whole = length-zip2 (λ x y. not (x == y)) xs ys (xs_whole ∙ sym ys_whole) ∙ xs_whole

-- the equal bytes come before the first that differ
equal_before : (xs ys : List ℕ) → length xs ≡ length ys → prefix_len (λ x. not x) (zip2 (λ x y. not (x == y)) xs ys) ≡ equal_front xs ys
equal_before [] ys same = refl
equal_before (x ∷ xs) [] same = absurd (omega arith)
equal_before (x ∷ xs) (y ∷ ys) same =
    elim (eqb x y) as (λ b. cond (not (not b)) (1 + prefix_len (λ x. not x) (zip2 (λ x y. not (x == y)) xs ys)) 0 ≡ cond b (1 + equal_front xs ys) 0)
    [ true ↦ ap (λ n. 1 + n) (equal_before xs ys (omega arith)) | false ↦ refl ]

counted : (xs ys : List ℕ) → length xs ≡ 32 → length ys ≡ 32 →
    cond (eqb (differing_bits xs ys) 0) 32 (count_trailing_zeros 64 (differing_bits xs ys)) ≡ equal_front xs ys
counted xs ys xs_whole ys_whole =
    let differ : List Bool = zip2 (λ x y. not (x == y)) xs ys in
    let whole : length differ ≡ 32 = length-differing 32 xs ys xs_whole ys_whole in
    ap (λ bits. cond (eqb (mask_l bits) 0) 32 (count_trailing_zeros 64 (mask_l bits))) (sym (same_items differ))
    ∙ first_set_mask_l (λ b. b) differ 32 whole (omega arith)
    ∙ equal_before xs ys (xs_whole ∙ sym ys_whole)

pub all_equal : (xs ys : List ℕ) (bits : ℕ) → bits ≡ differing_bits xs ys → length xs ≡ 32 → length ys ≡ 32 → bits ≡ 0 → 32 ≡ equal_front xs ys
all_equal xs ys bits is xs_whole ys_whole none =
    ap (λ n. cond (eqb n 0) 32 (count_trailing_zeros 64 n)) (sym none ∙ is) ∙ counted xs ys xs_whole ys_whole

is_not_zero : (n : ℕ) → (n ≡ 0 → ⊥) → eqb n 0 ≡ false
is_not_zero n some = grind (arith, nat_tests)

pub first_unequal : (xs ys : List ℕ) (bits : ℕ) → bits ≡ differing_bits xs ys → length xs ≡ 32 → length ys ≡ 32 → (bits ≡ 0 → ⊥) →
    count_trailing_zeros 64 bits ≡ equal_front xs ys
first_unequal xs ys bits is xs_whole ys_whole some =
    ap (λ b. cond b 32 (count_trailing_zeros 64 bits)) (sym (is_not_zero bits some))
    ∙ ap (λ n. cond (eqb n 0) 32 (count_trailing_zeros 64 n)) is
    ∙ counted xs ys xs_whole ys_whole

-- the bits as lanes of a comparison have them
pub bits_in_lanes : (xs ys : List ℕ) → length xs ≡ 32 → length ys ≡ 32 →
    mask_l (map (λ x. leb (2 ^ 7) x) (zip2 (λ x y. cond (not (eqb x y)) 255 0) xs ys)) % 2 ^ 64 ≡ differing_bits xs ys
bits_in_lanes xs ys xs_whole ys_whole =
    ap (λ bits. mask_l bits % 2 ^ 64) (tops_compared w8 (λ x y. not (eqb x y)) xs ys)
    ∙ mask_l-mod (zip2 (λ x y. not (x == y)) xs ys) 64 (omega (arith, length-differing 32 xs ys xs_whole ys_whole))

-- equal beginnings are passed over
pub past_equal : (at : ℕ) (xs ys a b : List ℕ) → length xs ≡ length ys → equal_front xs ys ≡ length xs →
    difference_at at (xs ++ a) (ys ++ b) ≡ difference_at (at + length xs) a b
past_equal at [] [] a b same equal = ap (λ n. difference_at n a b) (omega arith)
past_equal at [] (y ∷ ys) a b same equal = absurd (omega arith)
past_equal at (x ∷ xs) [] a b same equal = absurd (omega arith)
past_equal at (x ∷ xs) (y ∷ ys) a b same equal =
    elim (eqb x y) as (λ t. cond t (1 + equal_front xs ys) 0 ≡ suc (length xs) → cond t (difference_at (at + 1) (xs ++ a) (ys ++ b)) (Some at) ≡ difference_at (at + suc (length xs)) a b) [
      | true ↦ λ e. past_equal (at + 1) xs ys a b (omega arith) (omega arith) ∙ ap (λ n. difference_at n a b) (omega arith)
      | false ↦ λ e. absurd (omega arith)
    ]
    equal

pub at_unequal : (at : ℕ) (xs ys a b : List ℕ) → length xs ≡ length ys → equal_front xs ys < length xs →
    difference_at at (xs ++ a) (ys ++ b) ≡ Some (at + equal_front xs ys)
at_unequal at [] ys a b same less = absurd (omega arith)
at_unequal at (x ∷ xs) [] a b same less = absurd (omega arith)
at_unequal at (x ∷ xs) (y ∷ ys) a b same less =
    elim (eqb x y) as (λ t. cond t (1 + equal_front xs ys) 0 < suc (length xs) → cond t (difference_at (at + 1) (xs ++ a) (ys ++ b)) (Some at) ≡ Some (at + cond t (1 + equal_front xs ys) 0)) [
      | true ↦ λ l. at_unequal (at + 1) xs ys a b (omega arith) (omega arith) ∙ ap Some (omega arith)
      | false ↦ λ l. ap Some (omega arith)
    ]
    less

-- one byte of each
pub one_more : (at : ℕ) (a b : List ℕ) → at < length a → at < length b →
    difference_at at (drop at a) (drop at b) ≡ (if get_or a at 0 == get_or b at 0 then difference_at (at + 1) (drop (at + 1) a) (drop (at + 1) b) else Some at)
one_more at a b in_a in_b =
    at_drop_more (λ rest. difference_at at rest (drop at b)) a at 0 in_a
    ∙ at_drop_more (λ rest. difference_at at (get_or a at 0 ∷ drop (at + 1) a) rest) b at 0 in_b

nothing_left : (at : ℕ) (a : List ℕ) → difference_at at a [] ≡ None
nothing_left at [] = refl
nothing_left at (x ∷ a) = refl

pub no_more_of_a : (at : ℕ) (a b : List ℕ) → length a ≤ at → difference_at at (drop at a) (drop at b) ≡ None
no_more_of_a at a b short = ap (λ rest. difference_at at rest (drop at b)) (drop_all at a short)

pub no_more_of_b : (at : ℕ) (a b : List ℕ) → length b ≤ at → difference_at at (drop at a) (drop at b) ≡ None
no_more_of_b at a b short = ap (difference_at at (drop at a)) (drop_all at b short) ∙ nothing_left at (drop at a)

equal_front_bound : (xs ys : List ℕ) → equal_front xs ys ≤ length xs
equal_front_bound [] ys = omega arith
equal_front_bound (x ∷ xs) [] = omega arith
equal_front_bound (x ∷ xs) (y ∷ ys) =
    elim (eqb x y) as (λ t. cond t (1 + equal_front xs ys) 0 ≤ suc (length xs))
    [ true ↦ omega (arith, equal_front_bound xs ys) | false ↦ omega arith ]

-- a vector of each
pub chunk_equal : (at : ℕ) (a b : List ℕ) → at + 32 ≤ length a → at + 32 ≤ length b → 32 ≤ equal_front (chunk at 32 a) (chunk at 32 b) →
    difference_at at (drop at a) (drop at b) ≡ difference_at (at + 32) (drop (at + 32) a) (drop (at + 32) b)
chunk_equal at a b in_a in_b equal =
    let xs : List ℕ = chunk at 32 a in
    let ys : List ℕ = chunk at 32 b in
    let xs_whole : length xs ≡ 32 = length-chunk at 32 a in_a in
    let ys_whole : length ys ≡ 32 = length-chunk at 32 b in_b in
    ap (λ rest. difference_at at rest (drop at b)) (chunk-drop at 32 a)
    ∙ ap (difference_at at (xs ++ drop (at + 32) a)) (chunk-drop at 32 b)
    ∙ past_equal at xs ys (drop (at + 32) a) (drop (at + 32) b) (xs_whole ∙ sym ys_whole) (omega (arith, equal_front_bound xs ys))
    ∙ ap (λ n. difference_at (at + n) (drop (at + 32) a) (drop (at + 32) b)) xs_whole

pub chunk_unequal : (at : ℕ) (a b : List ℕ) → at + 32 ≤ length a → at + 32 ≤ length b → equal_front (chunk at 32 a) (chunk at 32 b) < 32 →
    difference_at at (drop at a) (drop at b) ≡ Some (at + equal_front (chunk at 32 a) (chunk at 32 b))
chunk_unequal at a b in_a in_b unequal =
    let xs : List ℕ = chunk at 32 a in
    let ys : List ℕ = chunk at 32 b in
    let xs_whole : length xs ≡ 32 = length-chunk at 32 a in_a in
    let ys_whole : length ys ≡ 32 = length-chunk at 32 b in_b in
    ap (λ rest. difference_at at rest (drop at b)) (chunk-drop at 32 a)
    ∙ ap (difference_at at (xs ++ drop (at + 32) a)) (chunk-drop at 32 b)
    ∙ at_unequal at xs ys (drop (at + 32) a) (drop (at + 32) b) (xs_whole ∙ sym ys_whole) (omega arith)

pub no_more : (at : ℕ) (a b : List ℕ) → min (length a) (length b) ≤ at → difference_at at (drop at a) (drop at b) ≡ None
no_more at a b short = ⊎_elim (no_more_of_a at a b) (no_more_of_b at a b) (one_is_short (length a) (length b) at short)
  where
    one_is_short : (m n at : ℕ) → min m n ≤ at → (m ≤ at) ⊎ (n ≤ at)
    one_is_short m n at short = grind arith
