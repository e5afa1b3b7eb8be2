use Rattle.std.proofs.Common.{sym}
use Rattle.switch_sim.proofs.relay.log_news.Goals as goal

pub returns-in_ok-line-clause-lines : goal.returns-in_ok-line-clause-lines
returns-in_ok-line-clause-lines c = rw c.if-news.true (rw (sym c.in_ok-line.ensures) c.line_text.ensures.ok)
