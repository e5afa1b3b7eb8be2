use Rattle.worker_rounds.proofs.Working.{none_did, all_on, sound_then, none_kept}
use Rattle.worker_rounds.proofs.run.run_all.Goals as goal
use Rattle.std.proofs.Common.{◌≡◌, None, rules}

pub loop-init : goal.loop-init
loop-init g c = record { worked = none_did g.M.Member.does g.M.Member.fails g.M.Member.fits c.args.workers.now c.requires; sound = c.requires }

pub returns-in-Some-first_fault-clause-worked : goal.returns-in-Some-first_fault-clause-worked
returns-in-Some-first_fault-clause-worked g c = all_on g.M.Member.does g.M.Member.fails g.M.Member.fits c.args.workers.now c.loop.workers c.work_all.new.workers c.loop.invariant.worked c.loop.invariant.sound c.work_all.ensures

pub loop-preserved : goal.loop-preserved
loop-preserved g c =
    let none : c.first_fault.result ≡ None = search rules in
    record {
      worked = all_on g.M.Member.does g.M.Member.fails g.M.Member.fits c.args.workers.now c.loop.workers c.work_all.new.workers c.loop.invariant.worked c.loop.invariant.sound c.work_all.ensures;
      sound = sound_then g.M.Member.does g.M.Member.fails g.M.Member.fits c.loop.workers c.work_all.new.workers c.work_all.ensures (none_kept c.work_all.new.workers c.first_fault.result c.first_fault.ensures none);
    }
