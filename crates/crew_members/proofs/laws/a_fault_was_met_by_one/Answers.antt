use Rattle.crew_members.specs.Hands.{HandIs}
use Rattle.crew_members.proofs.ThreeSorts.{faults_met}
use Rattle.crew_members.proofs.laws.a_fault_was_met_by_one.Goals as goal

pub returns : goal.returns
returns g c = λ old new worked. faults_met g.C.Member.does g.O.Member.does g.I.Member.does g.C.Member.fails g.O.Member.fails g.I.Member.fails (HandIs g.C.Member.fits g.O.Member.fits g.I.Member.fits) old new worked
