use Rattle.pair_tests.proofs.stepped.walk.Goals as goal

pub loop-step-preserved : goal.loop-step-preserved
loop-step-preserved g c = let so_far = c.loop-step.invariant in (so_far.0, so_far.1, so_far.2, c.each_step_keeps_a_mesh_standing.ensures so_far.0 so_far.1 so_far.2 c.loop-step.mesh c.step.new.self _ _ so_far.3 c.in_ok-done.ensures)
