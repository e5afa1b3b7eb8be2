-- Which ports have nothing waiting, a bit for each of the first 32 ports of a component.
use Rattle.std.specs.Prelude.{ℕ, ◌≡◌, ◌≤◌, ◌<◌, List, [], length, slice_get, Some}
use Rattle.std.specs.Int.{bit_at}
use Rattle.sb_message.specs.declared.message.Msg.{Msg}
use Rattle.global_model.specs.Inboxes.{end_at}
use Rattle.global_model.specs.Turn.{queue_at}

-- where a component's mask has a 0, nothing waits
pub record AreMarked (masks : List ℕ) (inboxes : List (List (List Msg))) : Type 0 where
  pub as_many : length masks ≡ length inboxes
  pub idle : (c mask p : ℕ) → slice_get masks c ≡ Some mask → p < 32 → bit_at mask p ≡ 0
      → queue_at inboxes (end_at c p) ≡ []

-- a mask has a 0 for each of the first 32 ports that is one of these
abbrev pub IsUnmarked : ℕ → ℕ → ℕ → Type 0
IsUnmarked mask from to = (p : ℕ) → from ≤ p → p < to → p < 32 → bit_at mask p ≡ 0

-- nothing waits at these ports of component c
abbrev pub AreIdle : List (List (List Msg)) → ℕ → ℕ → ℕ → Type 0
AreIdle inboxes c from to = (p : ℕ) → from ≤ p → p < to → queue_at inboxes (end_at c p) ≡ []
