use Rattle.std.proofs.Common.{rules}
use Rattle.topology_file.proofs.Names.{component_named-names_of}
use Rattle.topology_file.proofs.link.component_named.Goals as goal

pub returns-in-Some-clause-named : goal.returns-in-Some-clause-named
returns-in-Some-clause-named c = rw component_named-names_of (search rules)

pub returns-in-None-clause-named : goal.returns-in-None-clause-named
returns-in-None-clause-named c = rw component_named-names_of (search rules)
