use Rattle.proxy_crew.proofs.Taken.{last_taken}
use Rattle.proxy_crew.proofs.dismissing.last_at.Goals as goal

pub returns : goal.returns
returns g c = last_taken c.args.place c.args.workers.now c.requires c.index-workers-place.result c.take_last.new.self c.in-Some.last c.in-Some.ensures.last c.in-Some.ensures.number c.in-Some.ensures.fault
