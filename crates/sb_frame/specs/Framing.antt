-- A message as a frame.
use Rattle.std.specs.Prelude.{ℕ, ◌≡◌, ◌-◌, List, ◌++◌, length, take, drop}
use Rattle.std.specs.Int.{bytes_low_first}
use Rattle.sb_message.specs.declared.message.Msg.{Msg}
use Rattle.sb_message.specs.Spelling.{IsSpelled}
use Rattle.sb_frame.specs.Frames.{IsWhole}

-- new is old with the message's frame at its end: the length of its spelling in four bytes, the lowest
-- first, and its spelling
pub record AppendsFrame (message : Msg) (old new : List ℕ) : Type 0 where
  pub frame : List ℕ
  pub whole : IsWhole frame
  pub header : take 4 frame ≡ bytes_low_first 0 4 (length frame - 4)
  pub spelled : IsSpelled message (drop 4 frame)
  pub appended : new ≡ old ++ frame
