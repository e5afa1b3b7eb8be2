use Rattle.std.proofs.Common.{refl}
use Rattle.rv32_asm.specs.Layout.{place_from, placed_after}
use Rattle.rv32_asm.proofs.layout.Layout.new.Goals as goal

pub returns : goal.returns
unfolding placed_after place_from
returns c = record { lines_are = c.new.ensures; places_are = c.new-2.ensures; end_is = refl }
