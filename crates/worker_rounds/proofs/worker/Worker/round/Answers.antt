use Rattle.std.proofs.Common.{refl, rules}
use Rattle.std.proofs.lemmas.List.{with_items_is, places}
use Rattle.worker_rounds.proofs.Working.{quiet_round, spent_round, faulted_round}
use Rattle.worker_rounds.proofs.worker.Worker.round.Goals as goal

pub returns-in-Ok-true-clause-rounded : goal.returns-in-Ok-true-clause-rounded
returns-in-Ok-true-clause-rounded g c = quiet_round g.M.Member.does g.M.Member.fails g.M.Member.turns g.M.Member.still c.args.self.now _ c.passes.new.members (search rules) (with_items_is c.self.inside.members c.passes.new.members (search (rules, places))) (search rules)

pub returns-in-Ok-false-clause-rounded : goal.returns-in-Ok-false-clause-rounded
returns-in-Ok-false-clause-rounded g c = spent_round g.M.Member.does g.M.Member.fails g.M.Member.turns g.M.Member.still c.args.self.now _ c.passes.new.members (search rules) (with_items_is c.self.inside.members c.passes.new.members (search (rules, places))) (search rules)

pub returns-in-Err-clause-rounded : goal.returns-in-Err-clause-rounded
returns-in-Err-clause-rounded g c = faulted_round g.M.Member.does g.M.Member.fails g.M.Member.turns g.M.Member.still c.args.self.now _ c.passes.new.members c.in-Err.fault (search rules) (with_items_is c.self.inside.members c.passes.new.members (search (rules, places))) refl
