use Rattle.std.proofs.Common.{arith}
use Rattle.load_gen.proofs.Systems.{switch_name}
use Rattle.load_gen.proofs.components.first_switch.Goals as goal

pub name-requires : goal.name-requires
name-requires c = switch_name 0 (omega arith)
