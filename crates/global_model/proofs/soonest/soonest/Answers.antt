use Rattle.std.proofs.Common.{ap, ◌∙◌, ◌+◌}
use Rattle.moment_tree.specs.Dues.{sooner}
use Rattle.global_model.specs.Turn.{inputs_of}
use Rattle.global_model.proofs.FirstTimes.{soonest_more, soonest_over}
use Rattle.global_model.proofs.soonest.soonest.Goals as goal

pub filled-preserved : goal.filled-preserved
filled-preserved c =
    let queues = inputs_of c.args.inboxes.now c.args.component in
    let looked = soonest_more c.args.late c.filled.port queues c.filled.next c.sooner-next.result c.filled.invariant.soonest (c.sooner-next.ensures ∙ ap (sooner c.filled.next) c.first_at.ensures) in
    let next = c.filled_from-port-in-filled.ensures in
    record { soonest = soonest_over c.args.late (c.filled.port + 1) c.filled_from-port-in-filled.result queues c.sooner-next.result looked next.later next.idle; within = next.within }
