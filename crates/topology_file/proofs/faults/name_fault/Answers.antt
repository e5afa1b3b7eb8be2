use Rattle.std.proofs.Common.{rules}
use Rattle.topology_file.proofs.Names.{is_among-names_of}
use Rattle.topology_file.proofs.faults.name_fault.Goals as goal

pub returns : goal.returns
returns c = rw is_among-names_of (search rules)
