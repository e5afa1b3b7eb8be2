use Rattle.std.proofs.Common.{arith}
use Rattle.load_gen.proofs.Systems.{switch_name}
use Rattle.load_gen.proofs.components.second_switch.Goals as goal

pub name-requires : goal.name-requires
name-requires c = switch_name 1 (omega arith)
