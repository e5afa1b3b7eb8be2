use Rattle.moment_tree.proofs.Views.{root_there, root_first, root_none}
use Rattle.moment_tree.proofs.agenda.Agenda.first.Goals as goal

pub returns-clause-there : goal.returns-clause-there
returns-clause-there c = root_there c.self.inside.components c.self.inside.keys.items c.self.invariant c.args.self.now c.self.view_is c.index.result.now c.index.ensures c.entry.result (c.entry.ensures.some, c.entry.ensures.none)

pub returns-clause-first : goal.returns-clause-first
returns-clause-first c = root_first c.self.inside.components c.self.inside.keys.items c.self.invariant c.args.self.now c.self.view_is c.index.result.now c.index.ensures c.entry.result (c.entry.ensures.some, c.entry.ensures.none)

pub returns-clause-none : goal.returns-clause-none
returns-clause-none c = root_none c.self.inside.components c.self.inside.keys.items c.self.invariant c.args.self.now c.self.view_is c.index.result.now c.index.ensures c.entry.result (c.entry.ensures.some, c.entry.ensures.none)
