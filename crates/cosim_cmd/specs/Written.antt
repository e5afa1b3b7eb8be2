-- What a sink got: all of a text, or only its beginning.
use Rattle.std.specs.Prelude.{ℕ, ◌≡◌, ◌≤◌, ◌++◌, List, length, take, Option, option_map, ◌⊎◌}
use Rattle.cs_base.specs.Outside.{SinkSeen, Rose}

-- the text was appended to what is told as written
abbrev pub Appends : Option (List ℕ) → Option (List ℕ) → List ℕ → Type 0
Appends before after text = after ≡ option_map (λ written. written ++ text) before

-- the text was written whole, and no write failed
pub record IsWhole (before after : SinkSeen) (text : List ℕ) : Type 0 where
  pub appended : Appends before.written after.written text
  pub no_fault : after.faults ≡ before.faults

-- the first so many bytes of the text were written, and then a write failed
pub record IsCut (before after : SinkSeen) (text : List ℕ) : Type 0 where
  pub count : ℕ
  pub within : count ≤ length text
  pub begun : Appends before.written after.written (take count text)
  pub failed : Rose before.faults after.faults

-- the text was written, whole, or in part where a write failed
abbrev pub IsAttempted : SinkSeen → SinkSeen → List ℕ → Type 0
IsAttempted before after text = IsWhole before after text ⊎ IsCut before after text
