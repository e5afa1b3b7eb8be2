use Rattle.std.proofs.Common.{ℕ, ◌<◌, ◌≤◌, ◌+◌, ◌≢◌, get_or, subst}
use Rattle.moment_tree.specs.Keys.{IsAnother}
use Rattle.moment_tree.proofs.Views.{but_there, but_other, root_another, but_first, but_none, root_low}
use Rattle.moment_tree.proofs.agenda.Agenda.first_but.Goals as goal

pub returns-then-index-self-clause-first : goal.returns-then-index-self-clause-first
returns-then-index-self-clause-first c = but_first c.self.inside.components c.self.inside.keys.items c.self.invariant c.args.self.now c.self.view_is c.args.component c.least_beside.result (subst (λ keys. (d : ℕ) → d < c.self.inside.components → d ≢ c.args.component → c.least_beside.result ≤ get_or keys (c.self.inside.components + d) 0) c.as_slice.ensures.value c.least_beside.ensures.low) c.entry.result (c.entry.ensures.some, c.entry.ensures.none)

pub returns-then-index-self-clause-none : goal.returns-then-index-self-clause-none
returns-then-index-self-clause-none c = but_none c.self.inside.components c.self.inside.keys.items c.self.invariant c.args.self.now c.self.view_is c.args.component c.least_beside.result (subst (λ keys. (d : ℕ) → d < c.self.inside.components → d ≢ c.args.component → c.least_beside.result ≤ get_or keys (c.self.inside.components + d) 0) c.as_slice.ensures.value c.least_beside.ensures.low) c.entry.result (c.entry.ensures.some, c.entry.ensures.none)

pub returns-clause-first : goal.returns-clause-first
returns-clause-first c = but_first c.self.inside.components c.self.inside.keys.items c.self.invariant c.args.self.now c.self.view_is c.args.component c.index.result.now (root_low c.self.inside.components c.self.inside.keys.items c.self.invariant c.args.self.now c.self.view_is c.args.component c.index.result.now c.index.ensures) c.entry-2.result (c.entry-2.ensures.some, c.entry-2.ensures.none)

pub returns-clause-none : goal.returns-clause-none
returns-clause-none c = but_none c.self.inside.components c.self.inside.keys.items c.self.invariant c.args.self.now c.self.view_is c.args.component c.index.result.now (root_low c.self.inside.components c.self.inside.keys.items c.self.invariant c.args.self.now c.self.view_is c.args.component c.index.result.now c.index.ensures) c.entry-2.result (c.entry-2.ensures.some, c.entry-2.ensures.none)

pub returns-then-index-self-clause-there : goal.returns-then-index-self-clause-there
returns-then-index-self-clause-there c = but_there c.self.inside.components c.self.inside.keys.items c.self.invariant c.args.self.now c.self.view_is c.args.component c.least_beside.result (subst (λ keys. IsAnother c.self.inside.components c.args.component keys c.least_beside.result) c.as_slice.ensures.value c.least_beside.ensures.another) c.entry.result (c.entry.ensures.some, c.entry.ensures.none)

pub returns-clause-there : goal.returns-clause-there
returns-clause-there c = but_there c.self.inside.components c.self.inside.keys.items c.self.invariant c.args.self.now c.self.view_is c.args.component c.index.result.now (root_another c.self.inside.components c.self.inside.keys.items c.self.invariant c.args.self.now c.self.view_is c.args.component c.index.result.now c.if-index-self.false c.index.ensures) c.entry-2.result (c.entry-2.ensures.some, c.entry-2.ensures.none)

pub returns-then-index-self-clause-other : goal.returns-then-index-self-clause-other
returns-then-index-self-clause-other c = but_other c.self.inside.components c.self.inside.keys.items c.self.invariant c.args.self.now c.self.view_is c.args.component c.least_beside.result (subst (λ keys. IsAnother c.self.inside.components c.args.component keys c.least_beside.result) c.as_slice.ensures.value c.least_beside.ensures.another) c.entry.result (c.entry.ensures.some, c.entry.ensures.none)

pub returns-clause-other : goal.returns-clause-other
returns-clause-other c = but_other c.self.inside.components c.self.inside.keys.items c.self.invariant c.args.self.now c.self.view_is c.args.component c.index.result.now (root_another c.self.inside.components c.self.inside.keys.items c.self.invariant c.args.self.now c.self.view_is c.args.component c.index.result.now c.if-index-self.false c.index.ensures) c.entry-2.result (c.entry-2.ensures.some, c.entry-2.ensures.none)
