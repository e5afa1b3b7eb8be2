use Rattle.std.proofs.Common.{◌≡◌, ◌++◌, map}
use Rattle.load_gen.specs.Load.{below, bus, cable}
use Rattle.load_gen.proofs.links.links.Given as goal

abbrev pub invariant-buses : goal.invariant-buses
invariant-buses l = l.links ≡ map (bus l.n) (below l.number)

abbrev pub invariant-cables : goal.invariant-cables
invariant-cables l = l.links ≡ map (bus l.n) (below l.n) ++ map (cable l.n) (below l.number)
