-- The lists for which a carrier stands.
use Rattle.std.specs.Prelude.{◌≡◌, ◌≤◌, List, []}
use Rattle.sb_message.specs.declared.message.Msg.{Msg}
use Rattle.port_queue.specs.Plain.{Plain, StandsFor, StandsForSent, StandsForReceived}
use Rattle.framed_channel.specs.Channel as channel
use Rattle.framed_channel.specs.Standing.{CarriesFor}
use Rattle.framed_channel.specs.Standing as framed
use Rattle.mesh_channel.specs.declared.carrier.Carrier.{Carrier}
use Rattle.mesh_channel.specs.declared.carrier.Carrier.TheVariants.{Direct, Framed}

-- the end that sends stands for a list sent, and the one that receives for a list received
abbrev pub StandsSent : Carrier → List Msg → Type 0
StandsSent (Direct q) sent = StandsForSent q sent
StandsSent (Framed c) sent = framed.CarriesSent c sent

abbrev pub StandsReceived : Carrier → List Msg → Type 0
StandsReceived (Direct q) received = StandsForReceived q received
StandsReceived (Framed c) received = framed.CarriesReceived c received

-- a queue that has a place at least and stands for both lists
pub record IsQueueFor (q : Plain) (sent received : List Msg) : Type 0 where
  pub place : 1 ≤ q.slots
  pub stands : StandsFor q sent received

-- a channel over a byte stream that carries both lists and has a place at least at its near end
pub record IsChannelFor (c : channel.Framed) (sent received : List Msg) : Type 0 where
  pub place : 1 ≤ c.near.slots
  pub carries : CarriesFor c sent received

-- what was sent on it and received from it
abbrev pub Carries : Carrier → List Msg → List Msg → Type 0
Carries (Direct q) sent received = IsQueueFor q sent received
Carries (Framed c) sent received = IsChannelFor c sent received

-- nothing is under way on it: its queues, its pipe and what was read are empty
pub record IsIdleChannel (c : channel.Framed) : Type 0 where
  pub near : c.near.held ≡ []
  pub pipe : c.pipe ≡ []
  pub read : c.frames.place.waiting ≡ []
  pub far : c.far.held ≡ []

abbrev pub IsIdle : Carrier → Type 0
IsIdle (Direct q) = q.held ≡ []
IsIdle (Framed c) = IsIdleChannel c

pub record IsCarrying (carrier : Carrier) : Type 0 where
  pub sent : List Msg
  pub received : List Msg
  pub both : Carries carrier sent received
