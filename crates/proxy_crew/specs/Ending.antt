-- What is left of channels that go by proxy.
use Rattle.std.specs.Prelude.{ℕ, ◌≡◌, ◌≤◌, [], List, length, map, vec_capacity}
use Rattle.cs_base.specs.declared.wire_end.WireEnd.{WireEnd}
use Rattle.crew_members.specs.Staffing.{as_hands}
use Rattle.proxy_members.specs.declared.in_member.InMember.{InMember}
use Rattle.proxy_members.specs.declared.out_member.OutMember.{OutMember}
use Rattle.slot_queue.specs.Ends.{Sender, Receiver}
use Rattle.worker_rounds.specs.Rounds.{Work}
use Rattle.proxy_crew.specs.declared.dismissing.Dismissed.{Dismissed}
use Rattle.proxy_crew.specs.declared.proxied.Proxied.{Proxied}
use Rattle.proxy_crew.specs.declared.route.Route.{Route}
use Rattle.proxy_crew.specs.Dialing.{route_of}
use Rattle.proxy_crew.specs.Engaging.{Workers, AreEngaged}

-- a channel's number, both ends of its wire, the bytes that were to go and those that came
abbrev pub wire_end_of : {O I : Type 0} → OutMember O → InMember I → WireEnd O I
wire_end_of sending receiving = record {
  channel = sending.channel;
  out = sending.proxy.wire;
  wire = receiving.proxy.wire;
  sent = sending.proxy.kept;
  got = receiving.proxy.kept;
}

abbrev pub end_of : {O I : Type 0} → Proxied O I → WireEnd O I
end_of one = wire_end_of one.sending one.receiving

-- the side of the near queue out of which a channel's messages were taken, and that of the far queue into
-- which they were put
abbrev pub near_side : {O I : Type 0} → Proxied O I → Receiver
near_side one = one.sending.near.seat

abbrev pub far_side : {O I : Type 0} → Proxied O I → Sender
far_side one = one.receiving.far.seat

-- nothing yet, with room for what is left of so many channels
pub record HasRoom {O I : Type 0} (count : ℕ) (left : Dismissed O I) : Type 0 where
  pub no_ends : left.ends.items ≡ []
  pub for_ends : count ≤ vec_capacity left.ends
  pub none_near : left.near.items ≡ []
  pub for_near : count ≤ vec_capacity left.near
  pub none_far : left.far.items ≡ []
  pub for_far : count ≤ vec_capacity left.far

-- what is left of these channels, in their order
pub record AreLeft {O I : Type 0} (ends : List (Proxied O I)) (left : Dismissed O I) : Type 0 where
  pub ends_are : left.ends.items ≡ map end_of ends
  pub near_are : left.near.items ≡ map near_side ends
  pub far_are : left.far.items ≡ map far_side ends

-- the ends of these channels stand behind components, and there is room for what is left of them
pub record MayDismiss {C O I : Type 0} (workers : Workers C O I) (routes : List Route)
    (left : Dismissed O I) : Type 0 where
  pub parts : List (Work C)
  pub ends : List (Proxied O I)
  pub engaged : AreEngaged parts ends workers
  pub routes_are : map route_of ends ≡ routes
  pub room : HasRoom (length routes) left

-- the ends were taken off the workers, to which the components are left
pub record HasDismissed {C O I : Type 0} (parts : List (Work C)) (ends : List (Proxied O I))
    (workers : Workers C O I) (left : Dismissed O I) : Type 0 where
  pub workers_are : workers ≡ map as_hands parts
  pub left_are : AreLeft ends left

-- whichever channels these were
abbrev pub Dismisses : {C O I : Type 0} → List Route → Workers C O I → Workers C O I → Dismissed O I
    → Type 0
Dismisses {C} {O} {I} routes old new left = (parts : List (Work C)) (ends : List (Proxied O I))
    → AreEngaged parts ends old → map route_of ends ≡ routes → HasDismissed parts ends new left
