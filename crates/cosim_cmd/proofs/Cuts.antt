-- A text that is written in pieces.
use Rattle.std.proofs.Common.{◌≡◌, ℕ, ◌+◌, ◌-◌, ◌≤◌, List, ◌++◌, length, take, drop, Option, Some, None, ap, sym, ◌∙◌, append_assoc}
use Rattle.std.proofs.Math.Seq.{take-append-add, take-length}
use Rattle.std.proofs.lemmas.List.{take-append-drop, length-take-le, length-drop}
use Rattle.std.specs.Prelude.{option_map}
use Rattle.cs_base.specs.Outside.{written_after}
use Rattle.cosim_cmd.specs.Written.{Appends}

take_further : (text : List ℕ) (done n : ℕ) → done ≤ length text → take done text ++ take n (drop done text) ≡ take (done + n) text
take_further text done n within =
    sym (take-append-add (take done text) (drop done text) n) ∙ ap (λ k. take (k + n) (take done text ++ drop done text)) (length-take-le done text within) ∙ ap (λ whole. take (done + n) whole) (take-append-drop done text)

-- the slice of all that is left
pub take_rest : (text : List ℕ) (done : ℕ) → take (length text - done) (drop done text) ≡ drop done text
take_rest text done = ap (λ k. take k (drop done text)) (sym (length-drop done text)) ∙ take-length (drop done text)

-- one piece more
pub Appends-more : (before now after : Option (List ℕ)) (text piece : List ℕ) (done n : ℕ) → done ≤ length text → piece ≡ drop done text → Appends before now (take done text) → after ≡ option_map (written_after n piece) now → Appends before after (take (done + n) text)
Appends-more None now after text piece done n within same begun taken = taken ∙ ap (option_map (written_after n piece)) begun
Appends-more (Some written) now after text piece done n within same begun taken =
    taken ∙ ap (option_map (written_after n piece)) begun ∙ ap (λ p. Some ((written ++ take done text) ++ take n p)) same ∙ ap Some (append_assoc written (take done text) (take n (drop done text)) ∙ ap (λ more. written ++ more) (take_further text done n within))
