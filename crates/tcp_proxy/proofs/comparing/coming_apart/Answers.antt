use Rattle.std.proofs.Common.{sym, ◌∙◌}
use Rattle.tcp_proxy.proofs.Parting.{comes_apart, never_apart}
use Rattle.tcp_proxy.proofs.comparing.coming_apart.Goals as goal

pub returns-in-Some : goal.returns-in-Some
returns-in-Some c = comes_apart c.args.sent.now c.args.got.now c.in-Some.at (sym c.first_difference.ensures.place ∙ c.in-Some.is)

pub returns-in-None : goal.returns-in-None
returns-in-None c = never_apart c.args.sent.now c.args.got.now (sym c.first_difference.ensures.place ∙ c.in-None.is)
