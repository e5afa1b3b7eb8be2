use Rattle.std.proofs.Common.{rules}
use Rattle.toml.proofs.Views.{has_items-view}
use Rattle.topology_file.proofs.faults.has_items.Goals as goal

pub returns : goal.returns
returns c = rw (has_items-view c.args.array.now.items) (search rules)
