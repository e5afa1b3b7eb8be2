use Rattle.proxy_members.proofs.Incoming.{fit_holds}
use Rattle.proxy_members.proofs.laws.a_receiving_end_pushes_what_it_keeps.Goals as goal

pub returns : goal.returns
returns g c = λ member fits. fit_holds g.I.WireIn.seen member fits
