use Rattle.std.proofs.Common.{◌≡◌, map}
use Rattle.global_model.proofs.global_run.finish.Given as goal

abbrev pub invariant-loop-component : goal.invariant-loop-component
invariant-loop-component g l = l.lists ≡ map (λ component. component.log) l.yielded
