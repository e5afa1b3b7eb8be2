use Rattle.load_gen.proofs.Systems.{adapter_name}
use Rattle.load_gen.proofs.components.adapter.Goals as goal

pub name-requires : goal.name-requires
name-requires c = adapter_name c.args.number c.requires
