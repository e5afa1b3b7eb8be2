-- What is laid out: written field by field, in one way only, and read again.
use Rattle.std.proofs.Common.{◌≡◌, ℕ, suc, zero, ◌+◌, ◌-◌, ◌^◌, ◌<◌, ◌≤◌, Bool, true, false, not, ◌⊎◌, inl, inr, ⊎_elim, ◌||◌, leb, eqb, List, [], ◌∷◌, ◌++◌, length, get_or, take, drop, replicate, refl, sym, ap, ◌∙◌, subst, arith, length-append, length-take, length-drop, add-zero, zero-add}
use Rattle.std.specs.Int.{w64, from_le_bytes, bytes_low_first}
use Rattle.std.specs.List.{AllByRecursion, slice_range}
use Rattle.std.proofs.lemmas.Bool.{cases_Bool, false≢true, not-true, not-false, or_parts, or_cases, or_left, or_right, and_parts, and_from, and_cases, leb-true, leb-false, ltb-true, ltb-false, eqb-true, eq-eqb, false_from_ne_true}
use Rattle.std.specs.Str.{bytes_eq}
use Rattle.std.proofs.lemmas.Slice.Eq.{bytes_eq-Decides}
use Rattle.std.proofs.lemmas.List.{ext_get_or, take_at, drop_at, get_or-take, get_or-drop, length-take-le, get_or_append_left, get_or-append_right, get_or-replicate, length-replicate}
use Rattle.std.proofs.lemmas.Nat.{from_le_bytes-to_le_bytes_2, from_le_bytes-to_le_bytes_4, from_le_bytes-to_le_bytes_8}
use Rattle.field_layout.specs.Layout.{Field, Entry, field_at, entry, bytes_in, number_in, Holds, has_byte, is_named, is_zero_from, is_zero_elsewhere, fields_of, IsLaidOut, is_apart, is_apart_from, overwritten}

-- ---- bytes that belong to no field

pub zero_at : (fields : List Field) (j : ℕ) (bytes : List ℕ) (k : ℕ) → is_zero_from fields j bytes ≡ true → is_named fields (j + k) ≡ false → get_or bytes k 0 ≡ 0
zero_at fields j [] k zeros unnamed = refl
zero_at fields j (b ∷ bytes) zero zeros unnamed =
    let here = or_cases (is_named fields j) (eqb b 0) (and_parts _ _ zeros).0 in
    ⊎_elim (λ named. absurd (false≢true (sym unnamed ∙ ap (is_named fields) (add-zero j) ∙ named))) (λ is. eqb-true b 0 is) here
zero_at fields j (b ∷ bytes) (suc k) zeros unnamed =
    let moved : j + 1 + k ≡ j + suc k = omega arith in
    zero_at fields (j + 1) bytes k (and_parts _ _ zeros).1 (ap (is_named fields) moved ∙ unnamed)

pub zero_from : (fields : List Field) (j : ℕ) (bytes : List ℕ) → ((k : ℕ) → k < length bytes → is_named fields (j + k) ≡ false → get_or bytes k 0 ≡ 0) → is_zero_from fields j bytes ≡ true
zero_from fields j [] each = refl
zero_from fields j (b ∷ bytes) each =
    let moved : (k : ℕ) → j + suc k ≡ j + 1 + k = λ k. omega arith in
    and_from _ _ here (zero_from fields (j + 1) bytes (λ k lt unnamed. each (suc k) (omega arith) (ap (is_named fields) (moved k) ∙ unnamed))) where
      here : (is_named fields j || eqb b 0) ≡ true
      here = ⊎_elim (λ named. or_left _ _ named) (λ unnamed. or_right _ _ (eq-eqb b 0 (each 0 (omega arith) (ap (is_named fields) (add-zero j) ∙ unnamed)))) (cases_Bool (is_named fields j))

pub zero_elsewhere_at : (fields : List Field) (bytes : List ℕ) (k : ℕ) → is_zero_elsewhere fields bytes ≡ true → is_named fields k ≡ false → get_or bytes k 0 ≡ 0
unfolding is_zero_elsewhere
zero_elsewhere_at fields bytes k zeros unnamed = zero_at fields 0 bytes k zeros (ap (is_named fields) (zero-add k) ∙ unnamed)

pub zero_elsewhere_from : (fields : List Field) (bytes : List ℕ) → ((k : ℕ) → k < length bytes → is_named fields k ≡ false → get_or bytes k 0 ≡ 0) → is_zero_elsewhere fields bytes ≡ true
unfolding is_zero_elsewhere
zero_elsewhere_from fields bytes each = zero_from fields 0 bytes (λ k lt unnamed. each k lt (ap (is_named fields) (sym (zero-add k)) ∙ unnamed))

-- ---- the bytes of a field, by their places

has_byte-within : (place width k : ℕ) → has_byte (field_at place width) k ≡ true → (place ≤ k) × (k < place + width)
has_byte-within place width k has = (leb-true _ _ (and_parts _ _ has).0, ltb-true _ _ (and_parts _ _ has).1)

has_byte-outside : (place width k : ℕ) → has_byte (field_at place width) k ≡ false → (k < place) ⊎ (place + width ≤ k)
has_byte-outside place width k has = ⊎_elim (λ before. inl (leb-false _ _ before)) (λ after. inr (ltb-false _ _ after)) (and_cases _ _ has)

get_or-slice : (bytes : List ℕ) (place width k : ℕ) → place ≤ k → k < place + width → get_or (slice_range bytes place (place + width)) (k - place) 0 ≡ get_or bytes k 0
get_or-slice bytes place width k le lt =
    let inside : k - place < place + width - place = omega arith in
    let back : place + (k - place) ≡ k = omega arith in
    get_or-take _ (drop place bytes) _ 0 inside ∙ get_or-drop place bytes (k - place) 0 ∙ ap (λ n. get_or bytes n 0) back

same_slices : (a b : List ℕ) (place width : ℕ) → length a ≡ length b → ((k : ℕ) → place ≤ k → k < place + width → get_or a k 0 ≡ get_or b k 0) → slice_range a place (place + width) ≡ slice_range b place (place + width)
same_slices a b place width len each = ext_get_or 0 _ _ lengths at where
  lengths : length (slice_range a place (place + width)) ≡ length (slice_range b place (place + width))
  lengths = omega (arith, length-take (place + width - place) (drop place a), length-take (place + width - place) (drop place b), length-drop place a, length-drop place b)

  at : (i : ℕ) → i < length (slice_range a place (place + width)) → get_or (slice_range a place (place + width)) i 0 ≡ get_or (slice_range b place (place + width)) i 0
  at i lt =
      let inside : i < place + width - place = omega (arith, length-take (place + width - place) (drop place a)) in
      get_or-take _ (drop place a) i 0 inside ∙ get_or-drop place a i 0 ∙ each (place + i) (omega arith) (omega arith) ∙ sym (get_or-drop place b i 0) ∙ sym (get_or-take _ (drop place b) i 0 inside)

-- ---- one layout of given numbers

same_at : (table : List Entry) (a b : List ℕ) (k : ℕ) → AllByRecursion (Holds a) table → AllByRecursion (Holds b) table → is_named (fields_of table) k ≡ true → get_or a k 0 ≡ get_or b k 0
same_at [] a b k held_a held_b named = absurd (false≢true named)
same_at (e ∷ table) a b k held_a held_b named = ⊎_elim here (λ later. same_at table a b k held_a.1 held_b.1 later) (or_cases _ _ named) where
  here : has_byte e.field k ≡ true → get_or a k 0 ≡ get_or b k 0
  here has =
      let within = has_byte-within e.field.place e.field.width k has in
      sym (get_or-slice a e.field.place e.field.width k within.0 within.1) ∙ ap (λ bytes. get_or bytes (k - e.field.place) 0) (held_a.0.written ∙ sym held_b.0.written) ∙ get_or-slice b e.field.place e.field.width k within.0 within.1

pub same_bytes : {size : ℕ} {table : List Entry} {a b : List ℕ} → IsLaidOut size table a → IsLaidOut size table b → a ≡ b
same_bytes {size} {table} {a} {b} x y = ext_get_or 0 a b (x.whole ∙ sym y.whole) at where
  at : (k : ℕ) → k < length a → get_or a k 0 ≡ get_or b k 0
  at k lt = ⊎_elim (λ named. same_at table a b k x.held y.held named) (λ unnamed. zero_elsewhere_at (fields_of table) a k x.others unnamed ∙ sym (zero_elsewhere_at (fields_of table) b k y.others unnamed)) (cases_Bool (is_named (fields_of table) k))

-- bytes that hold the same numbers and differ have another byte that is not zero
pub not_zero_elsewhere : {size : ℕ} {table : List Entry} {a b : List ℕ} → IsLaidOut size table a → length b ≡ size → AllByRecursion (Holds b) table → (a ≡ b → ⊥) → is_zero_elsewhere (fields_of table) b ≡ false
not_zero_elsewhere {size} {table} {a} {b} x whole held differs =
    false_from_ne_true _ (λ zeros. let y : IsLaidOut size table b = record { whole = whole; held = held; others = zeros } in differs (same_bytes x y))

-- ---- one field more

length-low_first : (i k n : ℕ) → length (bytes_low_first i k n) ≡ k
length-low_first i zero n = refl
length-low_first i (suc k) n = ap suc (length-low_first (suc i) k n)

length-overwritten : (old new : List ℕ) (place : ℕ) → place + length new ≤ length old → length (overwritten old place new) ≡ length old
length-overwritten old new place fits =
    omega (arith, length-append (take place old) (new ++ drop (place + length new) old), length-append new (drop (place + length new) old), length-take place old, length-drop (place + length new) old)

get_or-overwritten_other : (old new : List ℕ) (place k : ℕ) → place + length new ≤ length old → (k < place) ⊎ (place + length new ≤ k) → get_or (overwritten old place new) k 0 ≡ get_or old k 0
get_or-overwritten_other old new place k fits outside = ⊎_elim before after outside where
  front : length (take place old) ≡ place
  front = length-take-le place old (omega arith)

  before : k < place → get_or (overwritten old place new) k 0 ≡ get_or old k 0
  before lt = get_or_append_left (take place old) (new ++ drop (place + length new) old) 0 k (omega (arith, front)) ∙ get_or-take place old k 0 lt

  after : place + length new ≤ k → get_or (overwritten old place new) k 0 ≡ get_or old k 0
  after le =
      let back : place + length new + (k - place - length new) ≡ k = omega arith in
      get_or-append_right (take place old) (new ++ drop (place + length new) old) place k 0 front (omega arith)
      ∙ get_or-append_right new (drop (place + length new) old) (length new) (k - place) 0 refl (omega arith)
      ∙ get_or-drop (place + length new) old (k - place - length new) 0
      ∙ ap (λ n. get_or old n 0) back

slice-overwritten : (old new : List ℕ) (place : ℕ) → place + length new ≤ length old → slice_range (overwritten old place new) place (place + length new) ≡ new
slice-overwritten old new place fits =
    let width : length new ≡ place + length new - place = omega arith in
    ap (take (place + length new - place)) (drop_at (take place old) (new ++ drop (place + length new) old) place (length-take-le place old (omega arith)))
    ∙ take_at new (drop (place + length new) old) (place + length new - place) width

named-push : (table : List Entry) (e : Entry) (k : ℕ) → is_named (fields_of (table ++ e ∷ [])) k ≡ false → (is_named (fields_of table) k ≡ false) × (has_byte e.field k ≡ false)
named-push [] e k unnamed = (refl, (or_parts _ _ unnamed).0)
named-push (d ∷ table) e k unnamed =
    let parts = or_parts (has_byte d.field k) (is_named (fields_of (table ++ e ∷ [])) k) unnamed in
    let later = named-push table e k parts.1 in
    (rw (parts.0, later.0) refl, later.1)

all-push : (P : Entry → Type 0) (table : List Entry) (e : Entry) → AllByRecursion P table → P e → AllByRecursion P (table ++ e ∷ [])
all-push P [] e before here = (here, tt)
all-push P (d ∷ table) e before here = (before.0, all-push P table e before.1 here)

-- what is written apart from the fields leaves them as they are
still_held : (table : List Entry) (old new : List ℕ) (place : ℕ) → place + length new ≤ length old → is_apart_from (fields_of table) (field_at place (length new)) ≡ true → AllByRecursion (Holds old) table → AllByRecursion (Holds (overwritten old place new)) table
still_held [] old new place fits apart held = tt
still_held (e ∷ table) old new place fits apart held = (record { fits = held.0.fits; written = same ∙ held.0.written }, still_held table old new place fits parts.1 held.1) where
  parts : (is_apart e.field (field_at place (length new)) ≡ true) × (is_apart_from (fields_of table) (field_at place (length new)) ≡ true)
  parts = and_parts _ _ apart

  outside : (k : ℕ) → e.field.place ≤ k → k < e.field.place + e.field.width → (k < place) ⊎ (place + length new ≤ k)
  outside k le lt = ⊎_elim before after (or_cases _ _ parts.0) where
    before : leb (e.field.place + e.field.width) place ≡ true → (k < place) ⊎ (place + length new ≤ k)
    before is = inl (omega (arith, leb-true _ _ is))

    after : leb (place + length new) e.field.place ≡ true → (k < place) ⊎ (place + length new ≤ k)
    after is = inr (omega (arith, leb-true _ _ is))

  same : bytes_in (overwritten old place new) e.field ≡ bytes_in old e.field
  same = same_slices (overwritten old place new) old e.field.place e.field.width (length-overwritten old new place fits) (λ k le lt. get_or-overwritten_other old new place k fits (outside k le lt))

laid_over : (size place : ℕ) (table : List Entry) (old new : List ℕ) (value : ℕ) → IsLaidOut size table old → is_apart_from (fields_of table) (field_at place (length new)) ≡ true → place + length new ≤ length old → value < 256 ^ length new → new ≡ bytes_low_first 0 (length new) value → IsLaidOut size (table ++ entry place (length new) value ∷ []) (overwritten old place new)
laid_over size place table old new value laid apart fits small is = record { whole = length-overwritten old new place fits ∙ laid.whole; held = all-push (Holds (overwritten old place new)) table _ (still_held table old new place fits apart laid.held) here; others = zero_elsewhere_from _ _ at } where
  here : Holds (overwritten old place new) (entry place (length new) value)
  here = record { fits = small; written = slice-overwritten old new place fits ∙ is }

  at : (k : ℕ) → k < length (overwritten old place new) → is_named (fields_of (table ++ entry place (length new) value ∷ [])) k ≡ false → get_or (overwritten old place new) k 0 ≡ 0
  at k lt unnamed =
      let parts = named-push table (entry place (length new) value) k unnamed in
      get_or-overwritten_other old new place k fits (has_byte-outside place (length new) k parts.1) ∙ zero_elsewhere_at (fields_of table) old k laid.others parts.0

-- a number written into a header that is laid out so far
pub laid_out_more : (place width value : ℕ) (old new : List ℕ) → new ≡ overwritten old place (bytes_low_first 0 width value) → place + width ≤ length old → value < 256 ^ width → (size : ℕ) (table : List Entry) → IsLaidOut size table old → is_apart_from (fields_of table) (field_at place width) ≡ true → IsLaidOut size (table ++ entry place width value ∷ []) new
laid_out_more place width value old new is fits small size table laid apart =
    let number : List ℕ = bytes_low_first 0 width value in
    let long : length number ≡ width = length-low_first 0 width value in
    let At : ℕ → Type 0 = λ w. IsLaidOut size (table ++ entry place w value ∷ []) (overwritten old place number) in
    let over : At (length number) = laid_over size place table old number value laid (ap (λ w. is_apart_from (fields_of table) (field_at place w)) long ∙ apart) (omega arith) (subst (λ w. value < 256 ^ w) (sym long) small) (ap (λ w. bytes_low_first 0 w value) (sym long)) in
    subst (λ bytes. IsLaidOut size (table ++ entry place width value ∷ []) bytes) (sym is) (subst At long over)

-- ---- the number that a field holds, by its width

pub number_in-1 : (bytes : List ℕ) (place value : ℕ) → Holds bytes (entry place 1 value) → number_in bytes (field_at place 1) ≡ value
unfolding number_in
number_in-1 bytes place value holds = ap (from_le_bytes w64) holds.written ∙ omega (arith, holds.fits)

pub number_in-2 : (bytes : List ℕ) (place value : ℕ) → Holds bytes (entry place 2 value) → number_in bytes (field_at place 2) ≡ value
unfolding number_in
number_in-2 bytes place value holds = ap (from_le_bytes w64) holds.written ∙ omega (arith, holds.fits, from_le_bytes-to_le_bytes_2 value holds.fits)

pub number_in-4 : (bytes : List ℕ) (place value : ℕ) → Holds bytes (entry place 4 value) → number_in bytes (field_at place 4) ≡ value
unfolding number_in
number_in-4 bytes place value holds = ap (from_le_bytes w64) holds.written ∙ omega (arith, holds.fits, from_le_bytes-to_le_bytes_4 value holds.fits)

pub number_in-8 : (bytes : List ℕ) (place value : ℕ) → Holds bytes (entry place 8 value) → number_in bytes (field_at place 8) ≡ value
unfolding number_in
number_in-8 bytes place value holds = ap (from_le_bytes w64) holds.written ∙ omega (arith, holds.fits, from_le_bytes-to_le_bytes_8 value holds.fits)

-- ---- a message's fields, before any is written

pub blank_of : (size : ℕ) → IsLaidOut size [] (replicate size 0)
blank_of size = record { whole = length-replicate {A = ℕ} size 0; held = tt; others = zero_elsewhere_from [] _ (λ k lt unnamed. get_or-replicate size k 0 0 (omega (arith, length-replicate {A = ℕ} size 0))) }

pub blank : IsLaidOut 48 [] (replicate 48 0)
blank = blank_of 48

-- what `!=` tells of two lists of bytes
pub same_from_ne : (a b : List ℕ) {r : Bool} → r ≡ not (bytes_eq a b) → r ≡ false → a ≡ b
same_from_ne a b is equal = (bytes_eq-Decides a b).0 (not-false _ (sym is ∙ equal))

pub differ_from_ne : (a b : List ℕ) {r : Bool} → r ≡ not (bytes_eq a b) → r ≡ true → b ≡ a → ⊥
differ_from_ne a b is different same = false≢true (sym (not-true _ (sym is ∙ different)) ∙ (bytes_eq-Decides a b).1 (sym same))

-- a byte that belongs to no field is the number 0
byte_as_number : (bytes : List ℕ) (k : ℕ) → get_or bytes k 0 ≡ 0 → from_le_bytes w64 (take 1 (drop k bytes)) ≡ 0
byte_as_number [] zero is = refl
byte_as_number [] (suc k) is = refl
byte_as_number (b ∷ bytes) zero is = omega (arith, is)
byte_as_number (b ∷ bytes) (suc k) is = byte_as_number bytes k is

pub number_at_zero : {size : ℕ} {table : List Entry} {bytes : List ℕ} → IsLaidOut size table bytes → (k : ℕ) → is_named (fields_of table) k ≡ false → number_in bytes (field_at k 1) ≡ 0
unfolding number_in
number_at_zero {size} {table} {bytes} laid k unnamed =
    let one : k + 1 - k ≡ 1 = omega arith in
    ap (λ n. from_le_bytes w64 (take n (drop k bytes))) one ∙ byte_as_number bytes k (zero_elsewhere_at (fields_of table) bytes k laid.others unnamed)
