-- How many steps are left between the two ends of a carrier, each byte that moves counted as one.
use Rattle.std.specs.Prelude.{ℕ, ◌≡◌, ◌<◌, ◌+◌, ◌-◌, List, [], ◌∷◌, ◌++◌, length}
use Rattle.sb_message.specs.declared.message.Msg.{Msg}
use Rattle.framed_channel.specs.Left.{frame_size}
use Rattle.mesh_channel.specs.declared.carrier.Carrier.{Carrier}
use Rattle.mesh_channel.specs.declared.carrier.Carrier.TheVariants.{Direct, Framed}
use Rattle.mesh_channel.specs.Carrier.{Pushes, Pops, MayTake, MayMove, MayPut, Takes, Moves, Puts}
use Rattle.mesh_channel.specs.Standing.{Carries}

-- how many bytes the frames of these messages have
abbrev pub frames_size : List Msg → ℕ
frames_size [] = 0
frames_size (message ∷ more) = frame_size message + frames_size more

-- what is to be done with a message between the ends: a take, the bytes of its frame, and a put
abbrev pub work_of : Carrier → Msg → ℕ
work_of (Direct q) message = 0
work_of (Framed c) message = 2 + frame_size message

-- what is left where these messages were sent and not received: for each of the near queue a take and
-- the bytes of its frame, the bytes in the pipe, and a put for each that isn't in the far queue
abbrev pub left_between : Carrier → List Msg → ℕ
left_between (Direct q) held = 0
left_between (Framed c) held =
    length c.near.held + (frames_size c.near.held + (length c.pipe + (length held - length c.far.held)))

-- by how much each step lowers what is left, and that a message that is sent raises it by what is to
-- be done with it, while one that is received changes nothing
pub record CountsDown (a : Carrier) (held : List Msg) : Type 0 where
  pub take : (b : Carrier) → Takes a b → left_between a held ≡ left_between b held + 1
  pub move : (b : Carrier) (n : ℕ) → Moves n a b → left_between a held ≡ left_between b held + n
  pub put : (b : Carrier) → Puts a b → left_between a held ≡ left_between b held + 1
  pub send : (b : Carrier) (m : Msg) → Pushes a m b
      → left_between b (held ++ m ∷ []) ≡ left_between a held + work_of a m
  pub receipt : (b : Carrier) (m : Msg) (rest : List Msg) → Pops a m b → held ≡ m ∷ rest
      → left_between b rest ≡ left_between a held
  pub none : held ≡ [] → left_between a held ≡ 0

-- while a take, a move or a put is enabled, something is left
pub record IsBusy (a : Carrier) (held : List Msg) : Type 0 where
  pub take : MayTake a → 0 < left_between a held
  pub move : (n : ℕ) → MayMove n a → 0 < left_between a held
  pub put : MayPut a → 0 < left_between a held

-- of each carrier, where these are what was sent and not received
abbrev pub CountDown : Type 0
CountDown = (a : Carrier) (sent received held : List Msg) → Carries a sent received
    → sent ≡ received ++ held → CountsDown a held

abbrev pub AreBusy : Type 0
AreBusy = (a : Carrier) (sent received held : List Msg) → Carries a sent received
    → sent ≡ received ++ held → IsBusy a held
