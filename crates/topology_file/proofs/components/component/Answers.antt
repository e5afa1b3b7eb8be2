use Rattle.std.proofs.Common.{◌≡◌, None, rules}
use Rattle.toml.specs.View.{view}
use Rattle.topology_file.specs.Ports.{names_of}
use Rattle.topology_file.specs.Faults.{component_fault}
use Rattle.topology_file.proofs.Validity.{faultless}
use Rattle.topology_file.proofs.components.component.Goals as goal

pub component-requires : goal.component-requires
component-requires c =
    let none : component_fault (names_of c.args.components.now) (view c.args.entry.now) ≡ None = search rules in
    (faultless (names_of c.args.components.now) (view c.args.entry.now) none).valid
