-- Where what came is not what was sent.
use Rattle.std.specs.Prelude.{ℕ, ◌≡◌, ◌≢◌, List, take, slice_get, Option, Some, MatchOption}
use mathlib.Core.List.{IsPrefix}
use Rattle.lane_kernels.specs.declared.differ.Differ.{Differ}

-- both have the same before this place, and another byte than this, which came, was sent there, or none
pub record Differs (sent got : List ℕ) (at byte : ℕ) : Type 0 where
  pub before : take at got ≡ take at sent
  pub other : slice_get sent at ≢ Some byte

-- the first place at which what came differs from what was sent, and what stands there
pub record IsFirstDiffer (sent got : List ℕ) (d : Differ) : Type 0 where
  pub came : slice_get got d.offset ≡ Some d.got
  pub went : slice_get sent d.offset ≡ d.sent
  pub first : Differs sent got d.offset d.got

-- up to a place the two are the same: where nothing came there, what came is a beginning of what was sent
abbrev pub ComesApart : List ℕ → List ℕ → ℕ → Type 0
ComesApart sent got at = MatchOption (slice_get got at) (IsPrefix got sent) (λ byte. Differs sent got at byte)
