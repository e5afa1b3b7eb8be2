use Rattle.std.proofs.Common.{◌≡◌, ◌++◌, map}
use Rattle.load_gen.specs.Load.{member_of, below, host, adapter}
use Rattle.load_gen.proofs.components.components.Given as goal

abbrev pub invariant-hosts : goal.invariant-hosts
invariant-hosts l = map member_of l.components ≡ map host (below l.number)

abbrev pub invariant-adapters : goal.invariant-adapters
invariant-adapters l = map member_of l.components ≡ map host (below l.n) ++ map adapter (below l.number)
