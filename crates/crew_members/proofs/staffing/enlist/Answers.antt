use Rattle.std.proofs.Common.{get_or, refl}
use Rattle.crew_members.specs.Hands.{component_of, sending_of, receiving_of}
use Rattle.crew_members.proofs.InStaff.{joined, one_more}
use Rattle.crew_members.proofs.staffing.enlist.Goals as goal

pub returns-clause-components : goal.returns-clause-components
returns-clause-components g c = joined component_of c.args.place c.args.hand c.args.workers.now _ (one_more c.args.workers.now c.args.place c.requires c.args.hand c.index-workers-place.result (get_or c.args.workers.now c.args.place c.index-workers-place.result) c.add.new.self refl c.in_ok-add.ensures.number c.in_ok-add.ensures.members c.in_ok-add.ensures.fault)

pub returns-clause-sending : goal.returns-clause-sending
returns-clause-sending g c = joined sending_of c.args.place c.args.hand c.args.workers.now _ (one_more c.args.workers.now c.args.place c.requires c.args.hand c.index-workers-place.result (get_or c.args.workers.now c.args.place c.index-workers-place.result) c.add.new.self refl c.in_ok-add.ensures.number c.in_ok-add.ensures.members c.in_ok-add.ensures.fault)

pub returns-clause-receiving : goal.returns-clause-receiving
returns-clause-receiving g c = joined receiving_of c.args.place c.args.hand c.args.workers.now _ (one_more c.args.workers.now c.args.place c.requires c.args.hand c.index-workers-place.result (get_or c.args.workers.now c.args.place c.index-workers-place.result) c.add.new.self refl c.in_ok-add.ensures.number c.in_ok-add.ensures.members c.in_ok-add.ensures.fault)
