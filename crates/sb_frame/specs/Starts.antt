-- What is at the start of some bytes.
use Rattle.std.specs.Prelude.{ℕ, ◌≡◌, ◌≤◌, ◌+◌, ◌⊎◌, true, false, List, ◌++◌, length, take}
use Rattle.sb_frame.specs.declared.start.Start.{Start}
use Rattle.sb_frame.specs.declared.start.Start.TheVariants.{Open, Wrong, Whole}
use Rattle.sb_frame.specs.Frames.{stated, is_length, IsOpen, IsWhole, IsWrongLength}

-- a whole frame, with a message of so many bytes, and then perhaps more
pub record HasFrame (bytes : List ℕ) (size : ℕ) : Type 0 where
  pub size_is : stated bytes ≡ size
  pub in_range : is_length size ≡ true
  pub fits : 4 + size ≤ length bytes

-- four bytes that are the length of no message, and then perhaps more
pub record HasWrongLength (bytes : List ℕ) : Type 0 where
  pub fits : 4 ≤ length bytes
  pub out_of_range : is_length (stated bytes) ≡ false

abbrev pub Begins : List ℕ → Start → Type 0
Begins bytes Open = IsOpen bytes
Begins bytes Wrong = HasWrongLength bytes
Begins bytes (Whole size) = HasFrame bytes size

-- so many bytes of the piece went to the frame that is begun: all of them where it is open still, and else those that
-- decide it
pub record TopsUp (old piece new : List ℕ) (n : ℕ) : Type 0 where
  pub fits : n ≤ length piece
  pub added : new ≡ old ++ take n piece
  pub decided : ((n ≡ length piece) × IsOpen new) ⊎ (IsWrongLength new ⊎ IsWhole new)
