use Rattle.proxy_crew.proofs.Standing.{keep_components, are_sound}
use Rattle.proxy_crew.proofs.Meeting.{rounds_keep_ends}
use Rattle.proxy_crew.proofs.laws.ends_stay_engaged.Goals as goal

pub returns-clause-components : goal.returns-clause-components
returns-clause-components g c = keep_components

pub returns-clause-sound : goal.returns-clause-sound
returns-clause-sound g c = are_sound g.C.Member.fits g.O.WireOut.seen g.I.WireIn.seen

pub returns-clause-rounds : goal.returns-clause-rounds
returns-clause-rounds g c = rounds_keep_ends g.C.Member.does g.C.Member.fails g.C.Member.fits g.O.WireOut.seen g.I.WireIn.seen
