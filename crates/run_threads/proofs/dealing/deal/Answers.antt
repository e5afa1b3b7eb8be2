use Rattle.run_threads.proofs.Dealt.{deal_step, numbered_step}
use Rattle.run_threads.proofs.dealing.deal.Goals as goal

pub returns-clause-dealt : goal.returns-clause-dealt
returns-clause-dealt g c = deal_step c.args.workers.now c.args.number c.args.member _ c.add.new.self c.requires c.in_ok-add.ensures.members c.in_ok-add.ensures.fault

pub returns-clause-numbered : goal.returns-clause-numbered
returns-clause-numbered g c = numbered_step c.args.workers.now c.args.number _ c.add.new.self c.requires c.in_ok-add.ensures.number
