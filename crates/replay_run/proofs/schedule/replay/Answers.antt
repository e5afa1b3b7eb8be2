use Rattle.std.proofs.Common.{arith, subst, sym}
use Rattle.std.proofs.lemmas.Bool.{eqb-true}
use Rattle.replay_run.specs.Replayed.{Makes}
use Rattle.replay_run.proofs.Taken.{one_taken, all_taken, made_keeps}
use Rattle.replay_run.proofs.schedule.replay.Goals as goal

pub lines-preserved : goal.lines-preserved
lines-preserved g c =
    let b = g.V.Device.behaviour in
    let line = c.first_line.result.0.now in
    let made = subst (Makes b line c.lines.now c.make.new.mesh) c.if-not-branch.false c.in_ok-make.ensures in
    let so_far = c.lines.invariant in
    (one_taken b c.args.schedule.now c.args.mesh c.lines.now c.make.new.mesh c.lines.rest.now line c.first_line.result.1.now c.lines.number so_far.0 c.first_line.ensures.lines made, made_keeps b g.V.Device.settled c.each_step_keeps_a_mesh_standing.ensures line c.lines.now c.make.new.mesh made so_far.1, omega (arith, c.first_line.ensures.shorter, so_far.2))

pub returns-clause-replayed : goal.returns-clause-replayed
returns-clause-replayed g c = all_taken g.V.Device.behaviour c.args.schedule.now c.args.mesh c.lines.now c.lines.rest.now c.lines.number (eqb-true _ _ (sym c.lines-test.ensures)) c.lines.invariant.0
