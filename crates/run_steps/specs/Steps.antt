-- How a schedule spells the steps of a mesh: a line for each step.
use Rattle.std.specs.Prelude.{ℕ, ◌≡◌, ◌≢◌, ◌<◌, ◌^◌, ◌==◌, Bool, ◌++◌, List, ◌∷◌, Option, Some, None, codes, decimal}
use Rattle.std.specs.List.{AllZip}
use Rattle.cs_base.specs.Lines.{lines_of}
use Rattle.run_steps.specs.declared.step.Step.{Step}
use Rattle.run_steps.specs.declared.step.Step.TheVariants.{Event, Send, Poll, Take, Move, Put}

abbrev pub step_text : Step → List ℕ
step_text (Event c) = codes "event " ++ decimal c
step_text (Send k) = codes "send " ++ decimal k
step_text (Poll k) = codes "poll " ++ decimal k
step_text (Take k) = codes "take " ++ decimal k
step_text (Move k n) = codes "move " ++ (decimal k ++ 32 ∷ decimal n)
step_text (Put k) = codes "put " ++ decimal k

-- the numbers of components and channels have 32 bits, a count of bytes has 64
abbrev pub IsInRange : Step → Type 0
IsInRange (Event c) = c < 2 ^ 32
IsInRange (Send k) = k < 2 ^ 32
IsInRange (Poll k) = k < 2 ^ 32
IsInRange (Take k) = k < 2 ^ 32
IsInRange (Move k n) = (k < 2 ^ 32) × (n < 2 ^ 64)
IsInRange (Put k) = k < 2 ^ 32

-- a line is the step that it spells, or none
abbrev pub IsStepOf : List ℕ → Option Step → Type 0
IsStepOf line (Some step) = IsInRange step × (line ≡ step_text step)
IsStepOf line None = (step : Step) → IsInRange step → line ≢ step_text step

-- a schedule's lines, each a step or none
abbrev pub IsSchedule : List ℕ → List (Option Step) → Type 0
IsSchedule bytes steps = AllZip IsStepOf (lines_of bytes) steps

abbrev pub OneStepALine : Type 0
OneStepALine = (line : List ℕ) (a b : Option Step) → IsStepOf line a → IsStepOf line b → a ≡ b

-- ---- parts of a line

-- digits spell a number below a limit, or none
abbrev pub IsNumber : ℕ → List ℕ → Option ℕ → Type 0
IsNumber limit digits (Some n) = (n < limit) × (digits ≡ decimal n)
IsNumber limit digits None = (n : ℕ) → n < limit → digits ≢ decimal n

-- a line is a word with a number of 32 bits behind it
abbrev pub IsNumbered : List ℕ → List ℕ → Option ℕ → Type 0
IsNumbered line word (Some n) = (n < 2 ^ 32) × (line ≡ word ++ decimal n)
IsNumbered line word None = (n : ℕ) → n < 2 ^ 32 → line ≢ word ++ decimal n

abbrev pub is_space : ℕ → Bool
is_space byte = byte == 32

-- a line is a move of so many bytes on a channel
abbrev pub IsMove : List ℕ → Option (ℕ × ℕ) → Type 0
IsMove line (Some (k, n)) = IsInRange (Move k n) × (line ≡ step_text (Move k n))
IsMove line None = (k n : ℕ) → IsInRange (Move k n) → line ≢ step_text (Move k n)
