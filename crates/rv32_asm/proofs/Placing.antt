-- One line more behind those that have been laid out.
use Rattle.std.proofs.Common.{◌≡◌, ℕ, ◌+◌, Bool, true, false, ◌||◌, cond, List, [], ◌∷◌, ◌++◌, sum_by, Option, Some, None, is_some, refl, sym, ap, ◌∙◌, arith, add-zero, append_assoc, append-nil}
use Rattle.std.proofs.lemmas.List.Sums.{sum_by-cons, sum_by_push}
use Rattle.std.specs.List.{list_any}
use Rattle.std.specs.Option.{option_or, option_map_or}
use Rattle.std.specs.Str.{bytes_eq}
use Rattle.asm_syntax.specs.declared.line.Line.{Line}
use Rattle.rv32_asm.specs.LabelMap.{place_in, with_place}
use Rattle.rv32_asm.specs.LaidOut.{IsLaidOut}
use Rattle.rv32_asm.specs.Layout.{size_of, start, address_after, has_label, place_from, place_of, repeats_label, placed_after}
use Rattle.rv32_asm.specs.declared.layout.Layout.{Layout}
use Rattle.rv32_asm.specs.declared.placed.Placed.{Placed}

-- the bytes of lines
abbrev pub sizes : List Line → ℕ
sizes = sum_by (λ line. size_of line.content)

-- a place that one line more may give to a label
abbrev pub from_line : List ℕ → Line → ℕ → Option ℕ
from_line name line at = cond (has_label name line) (Some at) None

chosen : (b : Bool) (at : ℕ) (rest found : Option ℕ) → cond b (Some at) (option_or rest found) ≡ option_or (cond b (Some at) rest) found
chosen true at rest found = refl
chosen false at rest found = refl

place_from-push : (at : ℕ) (name : List ℕ) (lines : List Line) (line : Line)
    → place_from at name (lines ++ line ∷ []) ≡ option_or (place_from at name lines) (from_line name line (at + sizes lines))
unfolding place_from
place_from-push at name [] line = ap (from_line name line) (sym (add-zero at))
place_from-push at name (first ∷ more) line =
    let here = at + size_of first.content in
    let e : here + sizes more ≡ at + sizes (first ∷ more) = omega (arith, sum_by-cons (λ (l : Line). size_of l.content) first more) in
    ap (cond (has_label name first) (Some at)) (place_from-push here name more line ∙ ap (λ n. option_or (place_from here name more) (from_line name line n)) e)
    ∙ chosen (has_label name first) at (place_from here name more) (from_line name line (at + sizes (first ∷ more)))

either : (b : Bool) (at : ℕ) (rest : Option ℕ) (any : Bool) → is_some rest ≡ any → is_some (cond b (Some at) rest) ≡ (b || any)
either true at rest any e = refl
either false at rest any e = e

-- a label has a place where a line has it
known_label : (at : ℕ) (name : List ℕ) (lines : List Line) → is_some (place_from at name lines) ≡ list_any (has_label name) lines
unfolding place_from
known_label at name [] = refl
known_label at name (line ∷ more) =
    either (has_label name line) at (place_from (at + size_of line.content) name more) (list_any (has_label name) more) (known_label (at + size_of line.content) name more)

abbrev pub placed_line : List Line → Line → Placed
placed_line before line = record { content = line.content; address = address_after before; twice = repeats_label before line }

placed_after-push : (before lines : List Line) (line : Line)
    → placed_after before (lines ++ line ∷ []) ≡ placed_after before lines ++ placed_line (before ++ lines) line ∷ []
unfolding placed_after
placed_after-push before [] line = ap (λ b. placed_line b line ∷ []) (sym (append-nil before))
placed_after-push before (first ∷ more) line =
    ap (λ rest. placed_line before first ∷ rest) (placed_after-push (before ++ first ∷ []) more line ∙ ap (λ b. placed_after (before ++ first ∷ []) more ++ placed_line b line ∷ []) (append_assoc before (first ∷ []) more))

address_after-push : (before : List Line) (line : Line) → address_after (before ++ line ∷ []) ≡ address_after before + size_of line.content
address_after-push before line = omega (arith, sum_by_push (λ (l : Line). size_of l.content) before line)

abbrev pub entry : Line → ℕ → Bool → Placed
entry line address twice = record { content = line.content; address = address; twice = twice }

entry_is : (before : List Line) (line : Line) (address : ℕ) (twice : Bool) → address ≡ address_after before → twice ≡ repeats_label before line
    → entry line address twice ≡ placed_line before line
entry_is before line address twice address_is twice_is = ap (λ a. entry line a twice) address_is ∙ ap (entry line (address_after before)) twice_is

or_none : (o : Option ℕ) → o ≡ option_or o None
or_none None = refl
or_none (Some x) = refl

module _ (before : List Line) (line : Line) (old new : Layout) (laid_out : IsLaidOut before old) where
  added : (twice : Bool) → twice ≡ repeats_label before line → new.lines ≡ old.lines ++ entry line old.end twice ∷ []
      → ((name : List ℕ) → place_in new.labels name ≡ option_or (place_in old.labels name) (from_line name line old.end))
      → new.end ≡ old.end + size_of line.content → IsLaidOut (before ++ line ∷ []) new
  added twice twice_is lines places end = record {
    lines_are = lines ∙ ap (λ e. old.lines ++ e ∷ []) (entry_is before line old.end twice laid_out.end_is twice_is) ∙ ap (λ xs. xs ++ placed_line before line ∷ []) laid_out.lines_are ∙ sym (placed_after-push [] before line);
    places_are = λ name. places name ∙ ap (λ o. option_or o (from_line name line old.end)) (laid_out.places_are name) ∙ ap (λ n. option_or (place_of before name) (from_line name line n)) laid_out.end_is ∙ sym (place_from-push start name before line);
    end_is = end ∙ ap (λ n. n + size_of line.content) laid_out.end_is ∙ sym (address_after-push before line);
  }

  -- a line with a label
  pub added_with : (label : List ℕ) (twice : Bool) → line.label ≡ Some label → twice ≡ is_some (place_in old.labels label) → new.lines ≡ old.lines ++ entry line old.end twice ∷ []
      → ((name : List ℕ) → place_in new.labels name ≡ with_place (place_in old.labels) label old.end name)
      → new.end ≡ old.end + size_of line.content → IsLaidOut (before ++ line ∷ []) new
  added_with label twice label_is twice_is lines places end =
      added twice
      (twice_is ∙ ap is_some (laid_out.places_are label) ∙ known_label start label before ∙ sym (ap (λ o. option_map_or (λ name. list_any (has_label name) before) o false) label_is))
      lines
      (λ name. places name ∙ ap (λ o. option_or (place_in old.labels name) (cond (option_map_or (bytes_eq name) o false) (Some old.end) None)) (sym label_is))
      end

  -- a line without one
  pub added_without : (twice : Bool) → line.label ≡ None → twice ≡ false → new.lines ≡ old.lines ++ entry line old.end twice ∷ [] → new.labels ≡ old.labels
      → new.end ≡ old.end + size_of line.content → IsLaidOut (before ++ line ∷ []) new
  added_without twice label_is twice_is lines labels end =
      added twice
      (twice_is ∙ sym (ap (λ o. option_map_or (λ name. list_any (has_label name) before) o false) label_is))
      lines
      (λ name. ap (λ l. place_in l name) labels ∙ or_none (place_in old.labels name) ∙ ap (λ o. option_or (place_in old.labels name) (cond (option_map_or (bytes_eq name) o false) (Some old.end) None)) (sym label_is))
      end
