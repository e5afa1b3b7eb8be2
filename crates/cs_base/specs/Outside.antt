-- What files and sinks tell, and when they may fail.
use Rattle.std.specs.Prelude.{ℕ, ◌≡◌, ◌<◌, ◌⊎◌, ◌+◌, nat_le, List, [], ◌∷◌, ◌++◌, take, if◌then◌else◌, Option, option_map, IfSome, Result, Ok, Err}
use Rattle.cs_base.specs.declared.files.FileBad.{FileBad}
use Rattle.cs_base.specs.declared.files.FileBad.TheVariants as bad

-- what files tell of themselves: what the file of a name holds, where that is told, the names asked for so far, where
-- those are told, and the count of failed reads, which is always known
pub record FilesSeen : Type 0 where
  pub held : List ℕ → Option (List ℕ)
  pub asked : Option (List (List ℕ))
  pub faults : ℕ

-- what a sink tells of itself: the bytes taken so far, where they are told, and the count of failed writes, which is
-- always known
pub record SinkSeen : Type 0 where
  pub written : Option (List ℕ)
  pub faults : ℕ

-- the bytes are those that are told, where any are
abbrev pub IsTold : Option (List ℕ) → List ℕ → Type 0
IsTold told bytes = IfSome told (λ content. bytes ≡ content)

-- a count of faults rose: it is greater than before, or stands at its last value
abbrev pub Rose : ℕ → ℕ → Type 0
Rose before after = (before < after) ⊎ (after ≡ 18446744073709551615)

-- the names asked for after a read of one more: it is told unless memory was wanting
abbrev pub asked_after : {T : Type 0} → Result T FileBad → List ℕ → List (List ℕ) → List (List ℕ)
asked_after (Ok content) name names = names ++ name ∷ []
asked_after (Err bad.Failed) name names = names ++ name ∷ []
asked_after (Err bad.NoMemory) name names = names

-- a read asked for a name, as far as that is told
abbrev pub AsksFor : {T : Type 0} → Result T FileBad → List ℕ → FilesSeen → FilesSeen → Type 0
AsksFor result name before after = after.asked ≡ option_map (asked_after result name) before.asked

-- a read failed: the count of faults rose
abbrev pub FailsOnce : FilesSeen → FilesSeen → Type 0
FailsOnce before after = Rose before.faults after.faults

-- what a sink tells as written after n bytes more were taken
abbrev pub written_after : ℕ → List ℕ → List ℕ → List ℕ
written_after n bytes written = written ++ take n bytes

-- one more, but never past the last value of a counter
abbrev pub one_more : ℕ → ℕ
one_more n = if nat_le 18446744073709551615 n then 18446744073709551615 else n + 1
