use Rattle.crew_members.proofs.ThreeSorts.{sending_rounds}
use Rattle.crew_members.proofs.laws.rounds_of_sending_ends.Goals as goal

pub returns : goal.returns
returns g c = sending_rounds g.C.Member.does g.O.Member.does g.I.Member.does g.C.Member.fails g.O.Member.fails g.I.Member.fails g.C.Member.fits g.O.Member.fits g.I.Member.fits g.C.Member.ended g.O.Member.ended g.I.Member.ended
