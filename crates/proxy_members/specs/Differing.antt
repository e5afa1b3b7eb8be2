-- The first channel of a run at which what came is not what was sent.
use Rattle.std.specs.Prelude.{ℕ, ◌≡◌, ◌<◌, List, slice_get, Some}
use mathlib.Core.List.{IsPrefix}
use Rattle.cs_base.specs.declared.wire_end.WireEnd.{WireEnd}
use Rattle.lane_kernels.specs.declared.differ.Differ.{Differ}
use Rattle.tcp_proxy.specs.Comparing.{IsFirstDiffer}

-- the ends of channels in the order of their numbers
pub record AreInOrder {O I : Type 0} (ends : List (WireEnd O I)) : Type 0 where
  pub rising : (i j : ℕ) (a b : WireEnd O I) → i < j → slice_get ends i ≡ Some a
      → slice_get ends j ≡ Some b → a.channel < b.channel

-- on each channel what came is a beginning of what was sent
pub record AllAgree {O I : Type 0} (ends : List (WireEnd O I)) : Type 0 where
  pub each : (k : ℕ) (end : WireEnd O I) → slice_get ends k ≡ Some end
      → IsPrefix end.got end.sent

-- so it is on the channels with a lesser number
pub record AgreeBelow {O I : Type 0} (ends : List (WireEnd O I)) (channel : ℕ) : Type 0 where
  pub each : (k : ℕ) (end : WireEnd O I) → slice_get ends k ≡ Some end → end.channel < channel
      → IsPrefix end.got end.sent

-- on this channel what came differs from what was sent, from this place on, and on those before it
-- in the list what came is a beginning of what was sent
pub record IsFirstToDiffer {O I : Type 0} (ends : List (WireEnd O I)) (channel : ℕ)
    (differ : Differ) : Type 0 where
  pub place : ℕ
  pub end : WireEnd O I
  pub there : slice_get ends place ≡ Some end
  pub its_channel : end.channel ≡ channel
  pub differs : IsFirstDiffer end.sent end.got differ
  pub first : (k : ℕ) (other : WireEnd O I) → k < place → slice_get ends k ≡ Some other
      → IsPrefix other.got other.sent
