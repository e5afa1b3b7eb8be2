-- The ends of channels that go by proxy, behind the components on their workers, and what rounds make of
-- them.
use Rattle.std.specs.Prelude.{ℕ, ◌≡◌, ◌<◌, ◌%◌, ◌++◌, ◌∷◌, [], List, length, map, slice_get, slice_index_or, Some, All}
use Rattle.cs_base.specs.Wires.{OutSeen, InSeen}
use Rattle.crew_members.specs.declared.hand.Hand.{Hand}
use Rattle.crew_members.specs.declared.hand.Hand.TheVariants.{Sending, Receiving}
use Rattle.crew_members.specs.Faring.{OneFailed}
use Rattle.crew_members.specs.Hands.{HandIs, HandDid, HandFailed, component_of}
use Rattle.crew_members.specs.Sorts.{among}
use Rattle.crew_members.specs.Staffing.{as_hands, OneMore}
use Rattle.proxy_members.specs.declared.in_member.InMember.{InMember}
use Rattle.proxy_members.specs.declared.out_member.OutMember.{OutMember}
use Rattle.proxy_members.specs.Inward.{InFits, InHolds, InDid, InFailed, InWent, InSays}
use Rattle.proxy_members.specs.Outward.{OutFits, OutDid, OutFailed, OutWent, OutSays}
use Rattle.worker_rounds.specs.Crew.{AreSound, AllWorked}
use Rattle.worker_rounds.specs.Rounds.{Work}
use Rattle.worker_rounds.specs.declared.mesh_bad.MeshBad.{MeshBad}
use Rattle.proxy_crew.specs.declared.proxied.Proxied.{Proxied}

-- the workers of a run that has components and channels by proxy
abbrev pub Workers : Type 0 → Type 0 → Type 0 → Type 0
Workers C O I = List (Work (Hand C (OutMember O) (InMember I)))

-- workers with components, behind which the ends of channels came: of each channel, in order, the sending
-- end came to the worker of its sender, and then the receiving end to that of its receiver
pub data AreEngaged {C O I : Type 0} (parts : List (Work C)) : List (Proxied O I) → Workers C O I
    → Type 0 where
  none_came : (workers : Workers C O I) → workers ≡ map as_hands parts
      → AreEngaged parts [] workers
  one_came : (before : List (Proxied O I)) (one : Proxied O I) (old mid new : Workers C O I)
      → AreEngaged parts before old
      → OneMore (one.route.sender % length parts) (Sending one.sending) old mid
      → OneMore (one.route.receiver % length parts) (Receiving one.receiving) mid new
      → AreEngaged parts (before ++ one ∷ []) new

-- both ends of a channel may make a turn
pub record EndsFit {O I : Type 0} (out : O → OutSeen) (wire : I → InSeen)
    (one : Proxied O I) : Type 0 where
  pub sending : OutFits out one.sending
  pub receiving : InFits wire one.receiving

-- what became of both ends of a channel in rounds
pub record HasFared {O I : Type 0} (out : O → OutSeen) (wire : I → InSeen)
    (before after : Proxied O I) : Type 0 where
  pub route : after.route ≡ before.route
  pub sending : OutWent before.sending after.sending
  pub receiving : InWent before.receiving after.receiving
  pub frames : OutFits out before.sending → OutFits out after.sending
  pub pushed : InFits wire before.receiving → InHolds wire after.receiving

-- so it is with each of these channels
pub record HaveFared {O I : Type 0} (out : O → OutSeen) (wire : I → InSeen)
    (before after : List (Proxied O I)) : Type 0 where
  pub as_many : length after ≡ length before
  pub each : (k : ℕ) (a b : Proxied O I) → slice_get before k ≡ Some a → slice_get after k ≡ Some b
      → HasFared out wire a b

-- who met a fault: the component of a worker, or an end of a channel, which tells its cause
pub data IsMetBy {C O I : Type 0} (does : C → C → Type 0) (fails : C → MeshBad → C → Type 0)
    (out : O → OutSeen) (wire : I → InSeen) (old new : List C) (ends : List (Proxied O I))
    (fault : MeshBad) : Type 0 where
  by_component : OneFailed does fails old new fault → IsMetBy does fails out wire old new ends fault
  by_sending : (k : ℕ) (one : Proxied O I) → slice_get ends k ≡ Some one
      → OutSays out one.sending fault → IsMetBy does fails out wire old new ends fault
  by_receiving : (k : ℕ) (one : Proxied O I) → slice_get ends k ≡ Some one
      → InSays wire one.receiving fault → IsMetBy does fails out wire old new ends fault

-- the workers after rounds: the same ends stand behind the components, and of each fault it is known who
-- met it
pub record StayEngaged {C O I : Type 0} (does : C → C → Type 0) (fails : C → MeshBad → C → Type 0)
    (out : O → OutSeen) (wire : I → InSeen) (before : List (Proxied O I))
    (old new : Workers C O I) : Type 0 where
  pub ends : List (Proxied O I)
  pub engaged : AreEngaged (among component_of new) ends new
  pub fared : HaveFared out wire before ends
  pub met : All (EndsFit out wire) before → (w : ℕ) (d : Work C)
      (e : Work (Hand C (OutMember O) (InMember I))) (fault : MeshBad) → w < length old
      → (slice_index_or new w e).fault ≡ Some fault
      → IsMetBy does fails out wire (slice_index_or (among component_of old) w d).members
      (slice_index_or (among component_of new) w d).members ends fault

-- what rounds of all members make of them
abbrev pub RoundsKeepEnds : {C O I : Type 0} → (C → C → Type 0) → (C → MeshBad → C → Type 0)
    → (C → Type 0) → (O → OutSeen) → (I → InSeen) → Type 0
RoundsKeepEnds {C} {O} {I} does fails fits out wire = (parts : List (Work C))
    (ends : List (Proxied O I)) (old new : Workers C O I) → AreEngaged parts ends old
    → AllWorked (HandDid does (OutDid out) (InDid wire)) (HandFailed fails (OutFailed out) (InFailed wire))
    (HandIs fits (OutFits out) (InFits wire)) old new
    → StayEngaged does fails out wire ends old new

-- the components of such workers are those that were there
abbrev pub EngagedKeepComponents : Type 0 → Type 0 → Type 0 → Type 0
EngagedKeepComponents C O I = (parts : List (Work C)) (ends : List (Proxied O I))
    (workers : Workers C O I) → AreEngaged parts ends workers → among component_of workers ≡ parts

-- where the components and the ends may make turns, all members may
abbrev pub EngagedAreSound : {C O I : Type 0} → (C → Type 0) → (O → OutSeen) → (I → InSeen) → Type 0
EngagedAreSound {C} {O} {I} fits out wire = (parts : List (Work C)) (ends : List (Proxied O I))
    (workers : Workers C O I) → AreEngaged parts ends workers → AreSound fits parts
    → All (EndsFit out wire) ends
    → AreSound (HandIs fits (OutFits out) (InFits wire)) workers
