use Rattle.std.proofs.Common.{length, ◌≡◌, ◌++◌}
use Rattle.std.specs.Prelude.{reverse}
use Rattle.device_api.specs.World.{logged_at}
use Rattle.device_api.proofs.component.log_all.Given as goal

abbrev pub invariant-lines : goal.invariant-lines
invariant-lines l = l.log ++ logged_at l.t (reverse l.lines) ≡ l.initial.log ++ logged_at l.t l.fn.lines

abbrev pub decreases-lines : goal.decreases-lines
decreases-lines l = length l.lines
