-- How many steps of a channel over a byte stream are left, each byte that moves counted as one.
use Rattle.std.specs.Prelude.{ℕ, ◌≡◌, ◌+◌, ◌*◌, List, [], ◌∷◌, ◌++◌, length}
use Rattle.sb_message.specs.declared.message.Body.{Body}
use Rattle.sb_message.specs.declared.message.Body.TheVariants as body
use Rattle.sb_message.specs.declared.message.Msg.{Msg}
use Rattle.sb_message.specs.Stream.{IsStream}
use Rattle.pcie_proto.specs.FromDevice as dev
use Rattle.pcie_proto.specs.FromHost as host
use Rattle.mem_proto.specs.Spelling as mem
use Rattle.access_proto.specs.Spelling as access
use Rattle.framed_channel.specs.Channel.{Framed}
use Rattle.framed_channel.specs.Steps.{Takes, Moves, Puts, Sends, Gives}
use Rattle.framed_channel.specs.Standing.{CarriesFor, CarriesSent}
use Rattle.framed_channel.specs.UnderWay.{InBytes}

-- how many bytes follow the header of a message
abbrev pub payload_size : Body → ℕ
payload_size body.Sync = 0
payload_size (body.Intro intro) = 0
payload_size (body.Dev message) = length (dev.payload_of message)
payload_size (body.Host message) = length (host.payload_of message)
payload_size (body.Mem message) = length (access.payload_of (mem.access_of message))
payload_size (body.Eth frame) = length frame

-- how many bytes a message's frame has
abbrev pub frame_size : Msg → ℕ
frame_size message = 68 + payload_size message.body

-- for each message of a near queue a take, the bytes of its frame, a put and a receipt
abbrev pub left_near : List Msg → ℕ
left_near [] = 0
left_near (message ∷ more) = 3 + frame_size message + left_near more

-- and the bytes in the pipe, a put and a receipt for what was taken and not put, and a receipt for what was put
pub record IsLeft (c : Framed) (n : ℕ) : Type 0 where
  pub inside : List Msg
  pub in_bytes : InBytes c inside
  pub is : n ≡ left_near c.near.held + (length c.pipe
      + (2 * (length c.frames.place.waiting + length inside) + length c.far.held))

-- what is left of one channel is so much more than what is left of another
abbrev pub FallsBy : ℕ → Framed → Framed → Type 0
FallsBy k a b = (n rest : ℕ) → IsLeft a n → IsLeft b rest → n ≡ rest + k

-- by how much each step of a channel lowers what is left, and by how much a message that is sent raises it
pub record CountsDown (a : Framed) : Type 0 where
  pub take : (b : Framed) → Takes a b → FallsBy 1 a b
  pub move : (b : Framed) (n : ℕ) → Moves n a b → FallsBy n a b
  pub put : (b : Framed) → Puts a b → FallsBy 1 a b
  pub receipt : (b : Framed) (m : Msg) → Gives a m b → FallsBy 1 a b
  pub send : (b : Framed) (m : Msg) (sent : List Msg) → IsStream a.near.kind (sent ++ m ∷ [])
      → CarriesSent a sent → Sends a m b → FallsBy (3 + frame_size m) b a

-- each channel that carries counts down, something is left of it, and nothing only where all that was sent is received
pub record IsCounted (c : Framed) (sent received : List Msg) : Type 0 where
  pub number : ℕ
  pub is_left : IsLeft c number
  pub counts : CountsDown c
  pub none : number ≡ 0 → sent ≡ received

abbrev pub AreCounted : Type 0
AreCounted = (c : Framed) (sent received : List Msg) → CarriesFor c sent received
    → IsCounted c sent received
