-- Finding a row by a name.
use Rattle.std.proofs.Common.{◌≡◌, ℕ, Bool, true, false, ◌&&◌, List, [], ◌∷◌, length, Option, Some, None, IfSome, if◌then◌else◌, refl, ap}
use Rattle.std.specs.List.{list_all}
use Rattle.std.specs.Option.{option_or}
use Rattle.std.specs.Str.{bytes_eq}
use Rattle.std.proofs.lemmas.Bool.{false≢true}
use Rattle.std.proofs.lemmas.Slice.Eq.{HasBytesAt, text_from_reads}
use Rattle.asm_syntax.specs.Rows.{select}

-- by its bytes
pub select_same : {X : Type 0} (name text : List ℕ) (rows : List (List ℕ × X)) → length name ≡ length text → HasBytesAt name 0 text → select name rows ≡ select text rows
select_same name text rows same_length same_bytes = ap (λ w. select w rows) (text_from_reads name text same_length same_bytes)

-- what each row passes
abbrev pub all_pass : {X : Type 0} → (X → Bool) → List (List ℕ × X) → Bool
all_pass passes rows = list_all (λ row. passes row.1) rows

abbrev pub Passes : {X : Type 0} → (X → Bool) → Option X → Type 0
Passes passes found = IfSome found (λ x. passes x ≡ true)

-- is passed by the row that is found
pub select_passes : {X : Type 0} (passes : X → Bool) (name : List ℕ) (rows : List (List ℕ × X)) → all_pass passes rows ≡ true → Passes passes (select name rows)
select_passes passes name [] all = tt
select_passes passes name (row ∷ rows) all = at (bytes_eq name row.0) (passes row.1) refl all (select_passes passes name rows)
  where
    at : (same first : Bool) → passes row.1 ≡ first → (first && all_pass passes rows) ≡ true → (all_pass passes rows ≡ true → Passes passes (select name rows)) → Passes passes (if same then Some row.1 else select name rows)
    at true true test all rest = test
    at false true test all rest = rest all
    at same false test all rest = absurd (false≢true all)

pub or_passes : {X : Type 0} (passes : X → Bool) (first second : Option X) → Passes passes first → Passes passes second → Passes passes (option_or first second)
or_passes passes (Some x) second holds other = holds
or_passes passes None second holds other = other
