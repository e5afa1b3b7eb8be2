use Rattle.std.proofs.Common.{refl, ap}
use Rattle.std.specs.Prelude.{reverse}
use Rattle.global_model.proofs.PostLaws.{posts_start, posts_over}
use Rattle.global_model.proofs.Counting.{counting_starts, counting_over}
use Rattle.global_model.proofs.post.post.Goals as goal

pub returns-then-is_empty-clause-arrives : goal.returns-then-is_empty-clause-arrives
returns-then-is_empty-clause-arrives c =
    let sends = c.args.sends.now in
    let nothing = c.is_empty.ensures.0 c.if-is_empty.true in
    (posts_over (posts_start c.args.routes.now c.args.from c.args.t sends (reverse sends) c.args.inboxes.now c.args.agenda.now refl c.requires.routed) (ap reverse nothing)).0

pub returns-then-is_empty-clause-noted : goal.returns-then-is_empty-clause-noted
returns-then-is_empty-clause-noted c =
    let sends = c.args.sends.now in
    let nothing = c.is_empty.ensures.0 c.if-is_empty.true in
    (posts_over (posts_start c.args.routes.now c.args.from c.args.t sends (reverse sends) c.args.inboxes.now c.args.agenda.now refl c.requires.routed) (ap reverse nothing)).1

pub returns-then-is_empty-clause-counted : goal.returns-then-is_empty-clause-counted
returns-then-is_empty-clause-counted c =
    let sends = c.args.sends.now in
    let nothing = c.is_empty.ensures.0 c.if-is_empty.true in
    counting_over (counting_starts c.args.routes.now c.args.from c.args.t sends (reverse sends) c.args.tallies.now refl) (ap reverse nothing)
