-- The laws of a channel over a byte stream.
use Rattle.std.specs.Prelude.{ℕ, ◌≡◌, ◌≢◌, ◌≤◌, List, [], ◌∷◌, ◌++◌}
use Rattle.cs_base.specs.declared.port_kind.PortKind.{PortKind}
use Rattle.sb_message.specs.declared.message.Msg.{Msg}
use Rattle.sb_message.specs.Stream.{IsStream}
use Rattle.framed_channel.specs.Channel.{Framed, IsUnused}
use Rattle.framed_channel.specs.Steps.{Takes, Moves, Puts, Sends, Gives, Ran}
use Rattle.framed_channel.specs.Standing.{CarriesFor}
use Rattle.framed_channel.specs.UnderWay.{IsUnderWay, NothingIsLost, CanGoOn}

-- after whatever steps from an unused channel on, it carries what was sent and received, and
-- nothing is lost
pub record RanWell (sent received : List Msg) (c : Framed) : Type 0 where
  pub carries : CarriesFor c sent received
  pub whole : NothingIsLost c sent received

abbrev pub RunWell : Type 0
RunWell = (kind : PortKind) (slots : ℕ) (a b : Framed) (sent received : List Msg)
    → 1 ≤ slots → IsUnused kind slots a → Ran a sent received b → RanWell sent received b

-- each step keeps a channel carrying; a take, a move and a put for the same lists
pub record KeepsCarrying (a : Framed) (sent received : List Msg) : Type 0 where
  pub take : (b : Framed) → Takes a b → CarriesFor b sent received
  pub move : (b : Framed) (n : ℕ) → Moves n a b → CarriesFor b sent received
  pub put : (b : Framed) → Puts a b → CarriesFor b sent received
  pub send : (b : Framed) (m : Msg) → IsStream a.near.kind (sent ++ m ∷ []) → Sends a m b
      → CarriesFor b (sent ++ m ∷ []) received
  pub receipt : (b : Framed) (m : Msg) → Gives a m b → CarriesFor b sent (received ++ m ∷ [])

abbrev pub BeginCarrying : Type 0
BeginCarrying = (kind : PortKind) (slots : ℕ) (c : Framed)
    → 1 ≤ slots → IsUnused kind slots c → CarriesFor c [] []

abbrev pub GoOnCarrying : Type 0
GoOnCarrying = (c : Framed) (sent received : List Msg)
    → CarriesFor c sent received → KeepsCarrying c sent received

-- a channel is read in one way
abbrev pub HasOneUnderWay : Framed → Type 0
HasOneUnderWay c = (one other : List Msg) → IsUnderWay c one → IsUnderWay c other → one ≡ other

-- while not all that was sent has been received, some step is enabled
abbrev pub AreNeverStuck : Type 0
AreNeverStuck = (c : Framed) (sent received : List Msg)
    → CarriesFor c sent received → sent ≢ received → CanGoOn c
