-- What is under way on a channel over a byte stream.
use Rattle.std.specs.Prelude.{◌≡◌, ◌<◌, List, ◌++◌, length}
use Rattle.sb_message.specs.declared.message.Msg.{Msg}
use Rattle.sb_frame.specs.Frames.{AreFrames}
use Rattle.framed_channel.specs.Channel.{Framed}
use Rattle.framed_channel.specs.Steps.{MayTake, MayMove, MayPut}

-- the messages whose frames are in the pipe, the first perhaps in part
pub record InBytes (c : Framed) (messages : List Msg) : Type 0 where
  pub frames : AreFrames c.near.kind messages (c.frames.begun ++ c.pipe)

-- the messages under way, from the far end on: in the far queue, read, as bytes, and in the near
-- queue
pub record IsUnderWay (c : Framed) (messages : List Msg) : Type 0 where
  pub inside : List Msg
  pub in_bytes : InBytes c inside
  pub is : messages ≡ c.far.held ++ (c.frames.place.waiting ++ (inside ++ c.near.held))

-- what was received, and then what is under way, is what was sent
pub record NothingIsLost (c : Framed) (sent received : List Msg) : Type 0 where
  pub held : List Msg
  pub under_way : IsUnderWay c held
  pub sent_is : sent ≡ received ++ held

-- some step is enabled: a take, the move of a byte, a put, or a receipt
pub data CanGoOn (c : Framed) : Type 0 where
  by_take : MayTake c → CanGoOn c
  by_move : MayMove 1 c → CanGoOn c
  by_put : MayPut c → CanGoOn c
  by_receipt : 0 < length c.far.held → CanGoOn c
