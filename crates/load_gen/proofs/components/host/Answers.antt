use Rattle.load_gen.proofs.Systems.{host_name}
use Rattle.load_gen.proofs.components.host.Goals as goal

pub name-requires : goal.name-requires
name-requires c = host_name c.args.number c.requires
