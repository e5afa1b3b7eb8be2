-- What the first pass over a source has found.
use Rattle.std.specs.Prelude.{◌≡◌, ℕ, List}
use Rattle.asm_syntax.specs.declared.line.Line.{Line}
use Rattle.rv32_asm.specs.LabelMap.{place_in}
use Rattle.rv32_asm.specs.Layout.{address_after, placed, place_of}
use Rattle.rv32_asm.specs.declared.layout.Layout.{Layout}

-- the layout is that of these lines
pub record IsLaidOut (lines : List Line) (layout : Layout) : Type 0 where
  pub lines_are : layout.lines ≡ placed lines
  pub places_are : (name : List ℕ) → place_in layout.labels name ≡ place_of lines name
  pub end_is : layout.end ≡ address_after lines
