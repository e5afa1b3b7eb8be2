use Rattle.std.proofs.Common.{refl}
use Rattle.rv32_core.specs.Parts.{core_of}
use Rattle.rv32_core.proofs.state.Core.from_parts.Goals as goal

-- the parts have passed the test
pub returns : goal.returns
unfolding core_of
returns c = (c.if-not-is_valid.ensures.0 refl, cc)
