-- The first pass under way: the lines that have been laid out, and the rest of the source.
use Rattle.std.proofs.Common.{◌≡◌, ℕ, ◌+◌, ◌*◌, ◌^◌, ◌≤◌, ◌<◌, List, [], ◌∷◌, ◌++◌, length, map, refl, sym, ap, ◌∙◌, subst, arith, append_assoc}
use Rattle.std.proofs.lemmas.List.{append-nil}
use Rattle.asm_syntax.specs.Lines.{line_of}
use Rattle.asm_syntax.specs.declared.line.Line.{Line}
use Rattle.rv32_asm.specs.LaidOut.{IsLaidOut}
use Rattle.rv32_asm.specs.Layout.{start}
use Rattle.cs_base.specs.Lines.{lines_of}
use Rattle.rv32_asm.specs.declared.layout.Layout.{Layout}

abbrev pub parsed : List ℕ → List Line
parsed source = map line_of (lines_of source)

pub record IsUnderWay (source rest : List ℕ) (layout : Layout) : Type 0 where
  pub done : List Line
  pub laid_out : IsLaidOut done layout
  pub rest_is : done ++ parsed rest ≡ parsed source
  pub room : layout.end + 2 ^ 32 * length rest ≤ start + 2 ^ 32 * length source

pub begun : (source : List ℕ) (layout : Layout) → IsLaidOut [] layout → IsUnderWay source source layout
begun source layout laid_out = record {
  done = [];
  laid_out = laid_out;
  rest_is = refl;
  room = let e = laid_out.end_is in omega (arith, e);
}

pub advanced : (source rest bytes more : List ℕ) (line : Line) (old new : Layout) → IsUnderWay source rest old
    → lines_of rest ≡ bytes ∷ lines_of more → length more < length rest → line ≡ line_of bytes
    → ((before : List Line) → IsLaidOut before old → IsLaidOut (before ++ line ∷ []) new) → new.end ≤ old.end + 2 ^ 32
    → IsUnderWay source more new
advanced source rest bytes more line old new way lines shorter line_is adds grown = record {
  done = way.done ++ line ∷ [];
  laid_out = adds way.done way.laid_out;
  rest_is = append_assoc way.done (line ∷ []) (parsed more) ∙ ap (λ l. way.done ++ l ∷ parsed more) line_is ∙ ap (λ ls. way.done ++ map line_of ls) (sym lines) ∙ way.rest_is;
  room = let r = way.room in omega (arith, r);
}

none_left : (rest : List ℕ) → length rest ≡ 0 → rest ≡ []
none_left [] empty = refl
none_left (byte ∷ more) empty = absurd (omega arith)

pub finished : (source rest : List ℕ) (layout : Layout) → IsUnderWay source rest layout → length rest ≡ 0 → IsLaidOut (parsed source) layout
unfolding lines_of
finished source rest layout way empty =
    subst (λ lines. IsLaidOut lines layout) (sym (append-nil way.done) ∙ ap (λ r. way.done ++ parsed r) (sym (none_left rest empty)) ∙ way.rest_is) way.laid_out
