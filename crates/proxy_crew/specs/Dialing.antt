-- The channels of a run that go by proxy, once each is dialed; and what the dialer tells of that.
use Rattle.std.specs.Prelude.{ℕ, ◌≡◌, ◌≤◌, ◌+◌, ◌++◌, ◌∷◌, [], List, length, map, take, slice_get, option_map, Some, All, Result, Ok, Err}
use Rattle.cs_base.specs.declared.dialer.DialBad.{DialBad}
use Rattle.cs_base.specs.declared.dialer.DialBad.TheVariants as dial
use Rattle.cs_base.specs.declared.port_kind.PortKind.{PortKind}
use Rattle.cs_base.specs.Outside.{Rose}
use Rattle.cs_base.specs.Wires.{DialerSeen, OutSeen, InSeen, IsFreshOut, IsFreshIn}
use Rattle.proxy_members.specs.declared.in_member.InMember.{InMember}
use Rattle.proxy_members.specs.declared.out_member.OutMember.{OutMember}
use Rattle.proxy_members.specs.Inward.{InFits}
use Rattle.proxy_members.specs.Outward.{OutFits}
use Rattle.slot_queue.specs.declared.ends.RxEnd.{RxEnd}
use Rattle.slot_queue.specs.declared.ends.TxEnd.{TxEnd}
use Rattle.proxy_crew.specs.declared.build_bad.BuildBad.{BuildBad}
use Rattle.proxy_crew.specs.declared.build_bad.BuildBad.TheVariants.{Lost, NoMemory}
use Rattle.proxy_crew.specs.declared.proxied.Proxied.{Proxied}
use Rattle.proxy_crew.specs.declared.route.Route.{Route}

-- the parts of a channel
abbrev pub channel_of : Route → ℕ
channel_of route = route.channel

abbrev pub kind_of : Route → PortKind
kind_of route = route.kind

abbrev pub route_of : {O I : Type 0} → Proxied O I → Route
route_of made = made.route

abbrev pub near_end_of : {O I : Type 0} → Proxied O I → RxEnd
near_end_of made = made.sending.near

abbrev pub far_end_of : {O I : Type 0} → Proxied O I → TxEnd
far_end_of made = made.receiving.far

-- a sending end of a channel before its first turn, over a wire that has taken nothing
pub record IsNewSending {O : Type 0} (seen : O → OutSeen) (channel : ℕ)
    (end : OutMember O) : Type 0 where
  pub channel_is : end.channel ≡ channel
  pub wire : IsFreshOut (seen end.proxy.wire)
  pub kept : end.proxy.kept ≡ []
  pub fits : OutFits seen end

-- a receiving end of a channel before its first turn, over a wire that has given nothing
pub record IsNewReceiving {I : Type 0} (seen : I → InSeen) (channel : ℕ)
    (end : InMember I) : Type 0 where
  pub channel_is : end.channel ≡ channel
  pub wire : IsFreshIn (seen end.proxy.wire)
  pub kept : end.proxy.kept ≡ []
  pub fits : InFits seen end

-- both ends of a channel before their first turns
pub record AreNewEnds {O I : Type 0} (out : O → OutSeen) (wire : I → InSeen)
    (made : Proxied O I) : Type 0 where
  pub sending : IsNewSending out made.route.channel made.sending
  pub receiving : IsNewReceiving wire made.route.channel made.receiving

-- this channel, with these ends of its queues
pub record IsDialed {O I : Type 0} (out : O → OutSeen) (wire : I → InSeen) (route : Route)
    (near : RxEnd) (far : TxEnd) (made : Proxied O I) : Type 0 where
  pub new : AreNewEnds out wire made
  pub route_is : made.route ≡ route
  pub near_is : made.sending.near ≡ near
  pub far_is : made.receiving.far ≡ far

-- these channels, with these ends of their queues, in order
pub record AreDialed {O I : Type 0} (out : O → OutSeen) (wire : I → InSeen) (routes : List Route)
    (near : List RxEnd) (far : List TxEnd) (made : List (Proxied O I)) : Type 0 where
  pub new : All (AreNewEnds out wire) made
  pub routes_are : map route_of made ≡ routes
  pub near_are : map near_end_of made ≡ near
  pub far_are : map far_end_of made ≡ far

-- these channels were dialed, each once, in this order, and no dial failed
pub record DialedAll (channels : List ℕ) (old new : DialerSeen) : Type 0 where
  pub dialed : new.dialed ≡ option_map (λ before. before ++ channels) old.dialed
  pub no_fault : new.faults ≡ old.faults

-- the first of them were dialed so, and the last dial, of this one, failed
pub record DialFailed (channels : List ℕ) (channel : ℕ) (old new : DialerSeen) : Type 0 where
  pub place : ℕ
  pub there : slice_get channels place ≡ Some channel
  pub dialed : new.dialed ≡ option_map (λ before. before ++ take (place + 1) channels) old.dialed
  pub failed : Rose old.faults new.faults

-- the first of them were dialed so
pub record DialedSome (channels : List ℕ) (old new : DialerSeen) : Type 0 where
  pub count : ℕ
  pub within : count ≤ length channels
  pub dialed : new.dialed ≡ option_map (λ before. before ++ take count channels) old.dialed
  pub never_falls : old.faults ≤ new.faults

-- the one dial of this channel failed
pub record FailedOnce (channel named : ℕ) (old new : DialerSeen) : Type 0 where
  pub named_is : named ≡ channel
  pub dialed : new.dialed ≡ option_map (λ before. before ++ channel ∷ []) old.dialed
  pub failed : Rose old.faults new.faults

-- nothing was dialed
pub record DialedNone (old new : DialerSeen) : Type 0 where
  pub dialed : new.dialed ≡ old.dialed
  pub never_falls : old.faults ≤ new.faults

-- what the dialer tells where this channel could not be had
abbrev pub FailTells : BuildBad → ℕ → DialerSeen → DialerSeen → Type 0
FailTells (Lost named) channel old new = FailedOnce channel named old new
FailTells NoMemory channel old new = DialedNone old new

-- what the dialer tells where this channel was to be dialed
abbrev pub OneTells : {T : Type 0} → Result T BuildBad → ℕ → DialerSeen → DialerSeen → Type 0
OneTells (Ok made) channel old new = DialedAll (channel ∷ []) old new
OneTells (Err bad) channel old new = FailTells bad channel old new

-- what the dialer tells where these channels were to be dialed
abbrev pub DialTells : {T : Type 0} → Result T BuildBad → List ℕ → DialerSeen → DialerSeen → Type 0
DialTells (Ok made) channels old new = DialedAll channels old new
DialTells (Err (Lost channel)) channels old new = DialFailed channels channel old new
DialTells (Err NoMemory) channels old new = DialedSome channels old new

-- what a failed dial of a channel is for the whole crew
abbrev pub bad_of : ℕ → DialBad → BuildBad
bad_of channel dial.Failed = Lost channel
bad_of channel dial.NoMemory = NoMemory
