use Rattle.crew_members.specs.Staffing.{as_hands}
use Rattle.crew_members.proofs.InStaff.{next_there, one_turned, staffed_one}
use Rattle.crew_members.proofs.staffing.staffed.Goals as goal

pub workers-preserved : goal.workers-preserved
workers-preserved g c =
    let there = next_there as_hands c.args.workers.items c.workers.number c.workers.left c.pop.new.self c.workers.made.items c.in-Some.worker c.workers.invariant c.in-Some.ensures.last in
    one_turned as_hands c.args.workers.items c.workers.number c.workers.left c.pop.new.self c.workers.made.items c.in-Some.worker c.workers.invariant c.in-Some.ensures.last c.push.new.self.items c.new.result (staffed_one c.args.workers.items c.requires.unused c.workers.number c.in-Some.worker there c.into_members.result.items c.into_members.ensures c.in_ok-hands.hands.items c.in_ok-hands.ensures c.new.result c.new.ensures) c.in_ok-push.ensures.items
