use Rattle.std.proofs.Common.{◌≡◌}
use Rattle.toml.specs.View.{members_view}
use Rattle.topology_file.specs.Faults.{are_known}
use Rattle.topology_file.proofs.faults.are_known.Given as goal

abbrev pub invariant-loop-name : goal.invariant-loop-name
invariant-loop-name l = are_known l.keys (members_view l.name-iterator) ≡ are_known l.keys (members_view l.entries.entries)
