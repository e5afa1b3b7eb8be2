use Rattle.proxy_members.proofs.Outgoing.{fit_first}
use Rattle.proxy_members.proofs.out_member.OutMember.new.Goals as goal

pub returns-clause-fits : goal.returns-clause-fits
returns-clause-fits g c = fit_first g.O.WireOut.seen (record { channel = c.args.channel; proxy = c.new.result; near = c.args.near }) c.requires.unused c.new.ensures.kept c.new.ensures.told
