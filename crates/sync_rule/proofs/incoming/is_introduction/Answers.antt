use Rattle.sync_rule.proofs.Intros.{is_introduction}
use Rattle.sync_rule.proofs.incoming.is_introduction.Goals as goal

pub returns-then-picoseconds-eq0 : goal.returns-then-picoseconds-eq0
returns-then-picoseconds-eq0 c = is_introduction c.args.message.now c.args.plan c.in-Intro.intro c.expected-wanted.result c.partner.result c.picoseconds.result c.in-Intro.is c.picoseconds.ensures c.if-picoseconds-eq0.true c.expected-wanted.ensures c.partner.ensures c.same_intro.result c.same_intro.ensures
