use Rattle.std.proofs.Common.{◌≡◌, None, fold, take}
use Rattle.toml.specs.View.{view}
use Rattle.topology_file.specs.Reasons.{lesser}
use Rattle.topology_file.specs.Faults.{key_fault}
use Rattle.topology_file.proofs.faults.keys_fault.Given as goal

abbrev pub invariant-loop-key : goal.invariant-loop-key
invariant-loop-key l = l.found ≡ fold (λ found key. lesser found (key_fault (view l.entry) key)) None (take l.key-index l.keys)
