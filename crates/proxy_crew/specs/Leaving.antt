-- The last members of workers.
use Rattle.std.specs.Prelude.{ℕ, ◌<◌, ◌%◌, List, length}
use Rattle.crew_members.specs.declared.hand.Hand.TheVariants.{Sending, Receiving}
use Rattle.crew_members.specs.Staffing.{OneMore}
use Rattle.proxy_members.specs.declared.in_member.InMember.{InMember}
use Rattle.proxy_members.specs.declared.out_member.OutMember.{OutMember}
use Rattle.worker_rounds.specs.Rounds.{Work}
use Rattle.proxy_crew.specs.declared.route.Route.{Route}
use Rattle.proxy_crew.specs.Engaging.{Workers}

-- the worker at this place has a last member
pub record HasLast {M : Type 0} (place : ℕ) (workers : List (Work M)) : Type 0 where
  pub last : M
  pub others : List (Work M)
  pub came : OneMore place last others workers

-- both ends of a channel came to workers, the sending end first
pub record BothCame {C O I : Type 0} (route : Route) (sending : OutMember O)
    (receiving : InMember I) (old new : Workers C O I) : Type 0 where
  pub mid : Workers C O I
  pub sent : OneMore (route.sender % length new) (Sending sending) old mid
  pub received : OneMore (route.receiver % length new) (Receiving receiving) mid new

-- they were the last to come, and there are workers
pub record HaveComeLast {C O I : Type 0} (route : Route) (workers : Workers C O I) : Type 0 where
  pub some : 0 < length workers
  pub sending : OutMember O
  pub receiving : InMember I
  pub others : Workers C O I
  pub came : BothCame route sending receiving others workers
