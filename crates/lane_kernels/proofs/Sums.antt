-- Sums of words: of two texts, of bytes in lanes, and folded.
use Rattle.std.proofs.Common.{◌≡◌, ℕ, ◌+◌, ◌-◌, ◌*◌, ◌/◌, ◌%◌, ◌^◌, ◌<◌, ◌≤◌, List, [], ◌∷◌, ◌++◌, length, get_or, take, drop, refl, ap, sym, subst, ◌∙◌, arith, w8, w16, map}
use Rattle.std.specs.Prelude.{bit_and}
use Rattle.std.proofs.lemmas.Bool.Decides.{nat_tests}
use Rattle.std.proofs.lemmas.List.{at_drop_more, drop_all}
use Rattle.std.proofs.lemmas.Simd.{length-chunk, chunk-drop, below_from_Fits, chunk-fits, sum-zip2, length-zip2}
use Rattle.std.proofs.lemmas.Grind.{and_numeral}
use lib.ListN.{replicate}
use Prim.Native.Nat.{zero, suc}
use lib.Lanes.{Each1, Each2, zip2, sum_l, chunk, number_l, digits_l}
use mir.Val.{Fits}
use Rattle.lane_kernels.specs.Checksum.{word_sum, folded, high_bytes, low_bytes}

-- a text of whole words and what follows it
pub word_sum-append : (n : ℕ) (xs ys : List ℕ) → length xs ≡ 2 * n → word_sum (xs ++ ys) ≡ word_sum xs + word_sum ys
word_sum-append n [] ys even = omega arith
word_sum-append n (x ∷ []) ys even = absurd (omega arith)
word_sum-append n (x ∷ y ∷ xs) ys even = omega (arith, word_sum-append (n - 1) xs ys (omega arith))

pub word_sum_bound : (xs : List ℕ) → ((k : ℕ) → Fits w8 (get_or xs k 0)) → word_sum xs ≤ 65536 * length xs
word_sum_bound [] fits = omega arith
word_sum_bound (x ∷ []) fits = omega (arith, (fits 0).fits)
word_sum_bound (x ∷ y ∷ xs) fits = omega (arith, (fits 0).fits, (fits 1).fits, word_sum_bound xs (λ k. fits (suc (suc k))))

pub word_sum_step : (xs : List ℕ) (at : ℕ) → at + 2 ≤ length xs → word_sum (drop at xs) ≡ get_or xs at 0 * 256 + get_or xs (at + 1) 0 + word_sum (drop (at + 2) xs)
word_sum_step xs at room =
    at_drop_more word_sum xs at 0 (omega arith)
    ∙ at_drop_more (λ rest. word_sum (get_or xs at 0 ∷ rest)) xs (at + 1) 0 (omega arith)
    ∙ ap (λ n. get_or xs at 0 * 256 + get_or xs (at + 1) 0 + word_sum (drop n xs)) (omega arith)

pub word_sum_last : (xs : List ℕ) (at : ℕ) → at + 1 ≡ length xs → word_sum (drop at xs) ≡ get_or xs at 0 * 256
word_sum_last xs at last =
    at_drop_more word_sum xs at 0 (omega arith)
    ∙ ap (λ rest. word_sum (get_or xs at 0 ∷ rest)) (drop_all (at + 1) xs (omega arith))

plus_rest : (n b : ℕ) → (n % 65535 + b) % 65535 ≡ (n + b) % 65535
plus_rest n b = omega arith

folded_more : (n : ℕ) → folded (n + 1) ≡ 1 + n % 65535
folded_more n = grind (arith, nat_tests)

-- a sum may be folded before more is added
pub folded-add : (a b : ℕ) → folded (folded a + b) ≡ folded (a + b)
folded-add zero b = refl
folded-add (suc n) b =
    ap (λ x. folded (folded x + b)) (omega arith)
    ∙ ap (λ x. folded (x + b)) (folded_more n)
    ∙ ap folded (omega arith)
    ∙ folded_more (n % 65535 + b)
    ∙ ap (λ x. 1 + x) (plus_rest n b)
    ∙ sym (folded_more (n + b))
    ∙ ap folded (omega arith)

pub word_sum-bytes : (n : ℕ) (xs : List ℕ) → length xs ≡ 2 * n → word_sum xs ≡ 256 * sum_l (high_bytes xs) + sum_l (low_bytes xs)
word_sum-bytes n [] even = refl
word_sum-bytes n (x ∷ []) even = absurd (omega arith)
word_sum-bytes n (x ∷ y ∷ xs) even = omega (arith, word_sum-bytes (n - 1) xs (omega arith))

-- what a vector and the rest of a block add up to
pub chunk_sum : (xs : List ℕ) (at : ℕ) → at + 32 ≤ length xs →
    word_sum (drop at xs) ≡ 256 * sum_l (high_bytes (chunk at 32 xs)) + sum_l (low_bytes (chunk at 32 xs)) + word_sum (drop (at + 32) xs)
chunk_sum xs at room =
    let whole : length (chunk at 32 xs) ≡ 32 = length-chunk at 32 xs room in
    ap word_sum (chunk-drop at 32 xs)
    ∙ word_sum-append 16 (chunk at 32 xs) (drop (at + 32) xs) whole
    ∙ ap (λ n. n + word_sum (drop (at + 32) xs)) (word_sum-bytes 16 (chunk at 32 xs) whole)

pub length-high_bytes : (n : ℕ) (xs : List ℕ) → length xs ≡ 2 * n → length (high_bytes xs) ≡ n
length-high_bytes n [] even = omega arith
length-high_bytes n (x ∷ []) even = absurd (omega arith)
length-high_bytes n (x ∷ y ∷ xs) even = omega (arith, length-high_bytes (n - 1) xs (omega arith))

pub length-low_bytes : (n : ℕ) (xs : List ℕ) → length xs ≡ 2 * n → length (low_bytes xs) ≡ n
length-low_bytes n [] even = omega arith
length-low_bytes n (x ∷ []) even = absurd (omega arith)
length-low_bytes n (x ∷ y ∷ xs) even = omega (arith, length-low_bytes (n - 1) xs (omega arith))

pub high_bytes_bound : (P : ℕ → Type 0) (xs : List ℕ) → Each1 P xs → Each1 P (high_bytes xs)
high_bytes_bound P [] each = tt
high_bytes_bound P (x ∷ []) each = each
high_bytes_bound P (x ∷ y ∷ xs) each = (each.0, high_bytes_bound P xs each.1.1)

pub low_bytes_bound : (P : ℕ → Type 0) (xs : List ℕ) → Each1 P xs → Each1 P (low_bytes xs)
low_bytes_bound P [] each = tt
low_bytes_bound P (x ∷ []) each = tt
low_bytes_bound P (x ∷ y ∷ xs) each = (each.1.0, low_bytes_bound P xs each.1.1)

-- bytes in lanes of 16 bits
first_of : (x y rest : ℕ) → x < 256 → y < 256 → bit_and ((x + 256 * (y + 256 * rest)) % 65536) 255 ≡ x
first_of x y rest x_fits y_fits = and_numeral ((x + 256 * (y + 256 * rest)) % 65536) 254 refl ∙ omega arith

second_of : (x y rest : ℕ) → x < 256 → y < 256 → (x + 256 * (y + 256 * rest)) % 65536 / 256 ≡ y
second_of x y rest x_fits y_fits = omega arith

rest_of : (x y rest : ℕ) → x < 256 → y < 256 → (x + 256 * (y + 256 * rest)) / 65536 ≡ rest
rest_of x y rest x_fits y_fits = omega arith

pub highs_in_lanes : (n : ℕ) (xs : List ℕ) → length xs ≡ 2 * n → Each1 (λ x. x < 256) xs →
    zip2 bit_and (digits_l 65536 n (number_l 256 xs)) (replicate n 255) ≡ high_bytes xs
highs_in_lanes zero [] even fit = refl
highs_in_lanes (suc n) [] even fit = absurd (omega arith)
highs_in_lanes n (x ∷ []) even fit = absurd (omega arith)
highs_in_lanes zero (x ∷ y ∷ xs) even fit = absurd (omega arith)
highs_in_lanes (suc n) (x ∷ y ∷ xs) even fit =
    let rest : ℕ = number_l 256 xs in
    let head : bit_and ((x + 256 * (y + 256 * rest)) % 65536) 255 ≡ x = first_of x y rest fit.0 fit.1.0 in
    let tail : (x + 256 * (y + 256 * rest)) / 65536 ≡ rest = rest_of x y rest fit.0 fit.1.0 in
    ap (λ b. b ∷ zip2 bit_and (digits_l 65536 n ((x + 256 * (y + 256 * rest)) / 65536)) (replicate n 255)) head
    ∙ ap (λ r. x ∷ zip2 bit_and (digits_l 65536 n r) (replicate n 255)) tail
    ∙ ap (λ l. x ∷ l) (highs_in_lanes n xs (omega arith) fit.1.1)

pub lows_in_lanes : (n : ℕ) (xs : List ℕ) → length xs ≡ 2 * n → Each1 (λ x. x < 256) xs →
    zip2 (λ x k. x / 2 ^ k) (digits_l 65536 n (number_l 256 xs)) (replicate n 8) ≡ low_bytes xs
lows_in_lanes zero [] even fit = refl
lows_in_lanes (suc n) [] even fit = absurd (omega arith)
lows_in_lanes n (x ∷ []) even fit = absurd (omega arith)
lows_in_lanes zero (x ∷ y ∷ xs) even fit = absurd (omega arith)
lows_in_lanes (suc n) (x ∷ y ∷ xs) even fit =
    let rest : ℕ = number_l 256 xs in
    let head : (x + 256 * (y + 256 * rest)) % 65536 / 256 ≡ y = second_of x y rest fit.0 fit.1.0 in
    let tail : (x + 256 * (y + 256 * rest)) / 65536 ≡ rest = rest_of x y rest fit.0 fit.1.0 in
    ap (λ b. b ∷ zip2 (λ x k. x / 2 ^ k) (digits_l 65536 n ((x + 256 * (y + 256 * rest)) / 65536)) (replicate n 8)) head
    ∙ ap (λ r. y ∷ zip2 (λ x k. x / 2 ^ k) (digits_l 65536 n r) (replicate n 8)) tail
    ∙ ap (λ l. y ∷ l) (lows_in_lanes n xs (omega arith) fit.1.1)

-- the bytes of a vector
pub vector_bytes : (xs : List ℕ) (at : ℕ) → ((k : ℕ) → Fits w8 (get_or xs k 0)) → Each1 (λ x. x < 256) (chunk at 32 xs)
vector_bytes xs at fits = below_from_Fits w8 (chunk at 32 xs) (chunk-fits w8 at 32 xs fits)

-- one more byte in each lane
pub lanes_grow : (at : ℕ) (xs ys : List ℕ) → Each1 (λ x. 32 * x ≤ 255 * at) xs → Each1 (λ y. y < 256) ys → Each1 (λ x. 32 * x ≤ 255 * (at + 32)) (zip2 (λ x y. x + y) xs ys)
lanes_grow at [] ys few bytes = tt
lanes_grow at (x ∷ xs) [] few bytes = tt
lanes_grow at (x ∷ xs) (y ∷ ys) few bytes = (omega (arith, few.0, bytes.0), lanes_grow at xs ys few.1 bytes.1)

pub lanes_hold : (at : ℕ) (xs ys : List ℕ) → at + 32 ≤ 8192 → Each1 (λ x. 32 * x ≤ 255 * at) xs → Each1 (λ y. y < 256) ys → Each2 (λ x y. Fits w16 (x + y)) xs ys
lanes_hold at [] ys room few bytes = tt
lanes_hold at (x ∷ xs) [] room few bytes = tt
lanes_hold at (x ∷ xs) (y ∷ ys) room few bytes = (record { fits = omega (arith, few.0, bytes.0) }, lanes_hold at xs ys room few.1 bytes.1)

pub lanes_are_words : (at : ℕ) (xs : List ℕ) → at ≤ 8192 → Each1 (λ x. 32 * x ≤ 255 * at) xs → Each1 (λ x. x ≤ 65535) xs
lanes_are_words at [] room few = tt
lanes_are_words at (x ∷ xs) room few = (omega (arith, few.0), lanes_are_words at xs room few.1)

-- numbers in wider lanes
pub same_lanes : (xs : List ℕ) → map (λ x. x) xs ≡ xs
same_lanes [] = refl
same_lanes (x ∷ xs) = ap (λ l. x ∷ l) (same_lanes xs)

-- what two vectors of lanes are, with the next bytes added
pub record Step (at : ℕ) (lanes bytes sums : List ℕ) : Type 0 where
  pub summed : sum_l sums ≡ sum_l lanes + sum_l bytes
  pub few : Each1 (λ x. 32 * x ≤ 255 * (at + 32)) sums
  pub whole : length sums ≡ 16

pub step : (at : ℕ) (lanes bytes sums : List ℕ) → sums ≡ zip2 (λ x y. x + y) lanes bytes → length lanes ≡ 16 → length bytes ≡ 16 →
    Each1 (λ x. 32 * x ≤ 255 * at) lanes → Each1 (λ y. y < 256) bytes → Step at lanes bytes sums
step at lanes bytes sums is lanes_whole bytes_whole few fit = record {
  summed = ap sum_l is ∙ sum-zip2 lanes bytes (lanes_whole ∙ sym bytes_whole);
  few = subst (λ (l : List ℕ). Each1 (λ x. 32 * x ≤ 255 * (at + 32)) l) (sym is) (lanes_grow at lanes bytes few fit);
  whole = ap length is ∙ length-zip2 (λ x y. x + y) lanes bytes (lanes_whole ∙ sym bytes_whole) ∙ lanes_whole;
}

-- the bytes of the words in a vector
pub record Halves (bytes : List ℕ) : Type 0 where
  pub whole : length bytes ≡ 16
  pub fit : Each1 (λ y. y < 256) bytes

pub highs_of_chunk : (xs : List ℕ) (at : ℕ) → ((k : ℕ) → Fits w8 (get_or xs k 0)) → at + 32 ≤ length xs → (bytes : List ℕ) → bytes ≡ high_bytes (chunk at 32 xs) → Halves bytes
highs_of_chunk xs at fits room bytes is = record {
  whole = ap length is ∙ length-high_bytes 16 (chunk at 32 xs) (length-chunk at 32 xs room);
  fit = subst (λ (l : List ℕ). Each1 (λ y. y < 256) l) (sym is) (high_bytes_bound (λ y. y < 256) (chunk at 32 xs) (vector_bytes xs at fits));
}

pub lows_of_chunk : (xs : List ℕ) (at : ℕ) → ((k : ℕ) → Fits w8 (get_or xs k 0)) → at + 32 ≤ length xs → (bytes : List ℕ) → bytes ≡ low_bytes (chunk at 32 xs) → Halves bytes
lows_of_chunk xs at fits room bytes is = record {
  whole = ap length is ∙ length-low_bytes 16 (chunk at 32 xs) (length-chunk at 32 xs room);
  fit = subst (λ (l : List ℕ). Each1 (λ y. y < 256) l) (sym is) (low_bytes_bound (λ y. y < 256) (chunk at 32 xs) (vector_bytes xs at fits));
}

same_count : (at : ℕ) → 8192 ≡ at + 8192 - at
same_count at = omega arith

-- a whole block and what follows it
pub block_then : (at : ℕ) (xs : List ℕ) → at + 8192 ≤ length xs →
    word_sum (drop at xs) ≡ word_sum (take (at + 8192 - at) (drop at xs)) + word_sum (drop (at + 8192) xs)
block_then at xs room =
    ap word_sum (chunk-drop at 8192 xs)
    ∙ word_sum-append 4096 (chunk at 8192 xs) (drop (at + 8192) xs) (length-chunk at 8192 xs room)
    ∙ ap (λ n. word_sum (take n (drop at xs)) + word_sum (drop (at + 8192) xs)) (same_count at)
