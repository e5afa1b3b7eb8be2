use Rattle.std.proofs.Common.{◌≡◌, ◌-◌, not}
use Rattle.std.specs.List.{list_all, range_with_len}
use Rattle.topology_file.specs.Links.{is_free}
use Rattle.topology_file.proofs.free_ports.are_joined.Given as goal

abbrev pub invariant-loop-port : goal.invariant-loop-port
invariant-loop-port l = list_all (λ port. not (is_free l.joined.links (record { component = l.component; port = port }))) (range_with_len l.port (l.count - l.port)) ≡ list_all (λ port. not (is_free l.joined.links (record { component = l.component; port = port }))) (range_with_len 0 l.count)
