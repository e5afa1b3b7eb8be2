use Rattle.std.proofs.Common.{◌≡◌, None, rules}
use Rattle.worker_rounds.proofs.Working.{none_worked, worked_on, none_if}
use Rattle.worker_rounds.proofs.worker.Worker.work.Goals as goal

pub loop-init : goal.loop-init
loop-init g c = record { worked = none_worked g.M.Member.does g.M.Member.fails g.M.Member.turns g.M.Member.still g.M.Member.fits g.met.M.Member.keeps c.args.self.now c.requires; sound = c.requires }

pub returns-then-is_some : goal.returns-then-is_some
returns-then-is_some g c = worked_on g.M.Member.does g.M.Member.fails g.M.Member.turns g.M.Member.still g.M.Member.fits g.met.M.Member.keeps c.args.self.now c.loop.self c.round-end.new.self c.round-end.result c.loop.invariant.worked c.loop.invariant.sound c.round-end.ensures.number c.round-end.ensures.rounded

pub returns-then-quiet-quiet_rounds : goal.returns-then-quiet-quiet_rounds
returns-then-quiet-quiet_rounds g c = worked_on g.M.Member.does g.M.Member.fails g.M.Member.turns g.M.Member.still g.M.Member.fits g.met.M.Member.keeps c.args.self.now c.loop.self c.round-end.new.self c.round-end.result c.loop.invariant.worked c.loop.invariant.sound c.round-end.ensures.number c.round-end.ensures.rounded

pub returns-then-over : goal.returns-then-over
returns-then-over g c = worked_on g.M.Member.does g.M.Member.fails g.M.Member.turns g.M.Member.still g.M.Member.fits g.met.M.Member.keeps c.args.self.now c.loop.self c.round-end.new.self c.round-end.result c.loop.invariant.worked c.loop.invariant.sound c.round-end.ensures.number c.round-end.ensures.rounded

pub loop-preserved : goal.loop-preserved
loop-preserved g c =
    let worked = worked_on g.M.Member.does g.M.Member.fails g.M.Member.turns g.M.Member.still g.M.Member.fits g.met.M.Member.keeps c.args.self.now c.loop.self c.round-end.new.self c.round-end.result c.loop.invariant.worked c.loop.invariant.sound c.round-end.ensures.number c.round-end.ensures.rounded in
    let none : c.round-end.new.self.fault ≡ None = none_if c.round-end.new.self.fault (search rules) in
    record { worked = worked; sound = worked.sound none }
