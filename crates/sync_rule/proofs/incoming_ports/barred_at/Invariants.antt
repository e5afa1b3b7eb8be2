use Rattle.std.proofs.Common.{ℕ, ◌<◌}
use Rattle.sync_rule.specs.ManyPorts.{Bars}
use Rattle.sync_rule.proofs.incoming_ports.barred_at.Given as goal

abbrev pub invariant-loop-port : goal.invariant-loop-port
invariant-loop-port l = (p : ℕ) → p < l.port → Bars l.items l.needed p → ⊥
