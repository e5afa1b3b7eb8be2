-- The exit status and the line of each refusal.
use Rattle.std.specs.Prelude.{ℕ, List, ⊤}
use Rattle.cosim_cmd.specs.declared.breaks.Break.{Break}
use Rattle.cosim_cmd.specs.declared.breaks.Break.TheVariants as broken
use Rattle.cosim_cmd.specs.declared.refusal.Fault.{Fault}
use Rattle.cosim_cmd.specs.declared.refusal.Fault.TheVariants as fault
use Rattle.cosim_cmd.specs.declared.refusal.OutputBad.{OutputBad}
use Rattle.cosim_cmd.specs.declared.refusal.OutputBad.TheVariants as bad
use Rattle.cosim_cmd.specs.declared.refusal.Refusal.{Refusal}
use Rattle.cosim_cmd.specs.declared.refusal.Refusal.TheVariants as refused
use Rattle.cosim_cmd.specs.Lines.{memory_line, usage_line, out_line}

-- the exit status
abbrev pub break_status : Break → ℕ
break_status (broken.Lost channel) = 6
break_status (broken.Peer channel offset reason) = 7
break_status (broken.Differs channel offset) = 8

abbrev pub output_status : OutputBad → ℕ
output_status bad.NoMemory = 1
output_status (bad.File line) = 3
output_status (bad.Topology line) = 4
output_status (bad.Image line) = 5
output_status (bad.Broken cause line) = break_status cause
output_status (bad.Schedule line) = 10
output_status (bad.Asm line) = 11

abbrev pub status_of : Refusal → ℕ
status_of refused.NoMemory = 1
status_of refused.Usage = 2
status_of refused.Out = 9
status_of (refused.NoOutput bad) = output_status bad

-- the line
abbrev pub output_line : OutputBad → List ℕ
output_line bad.NoMemory = memory_line
output_line (bad.File line) = line
output_line (bad.Topology line) = line
output_line (bad.Image line) = line
output_line (bad.Broken cause line) = line
output_line (bad.Schedule line) = line
output_line (bad.Asm line) = line

abbrev pub line_of : Refusal → List ℕ
line_of refused.NoMemory = memory_line
line_of refused.Usage = usage_line
line_of refused.Out = out_line
line_of (refused.NoOutput bad) = output_line bad

-- a fault whose line is as it must be
abbrev pub IsFault : (List ℕ → Type 0) → Fault → Type 0
IsFault Line (fault.Line line) = Line line
IsFault Line fault.NoMemory = ⊤

-- the refusal for a file that can't be read
abbrev pub unread_of : Fault → OutputBad
unread_of (fault.Line line) = bad.File line
unread_of fault.NoMemory = bad.NoMemory

-- the refusal for a program that is too long, and for a schedule that can't be replayed
abbrev pub too_long_of : Fault → OutputBad
too_long_of (fault.Line line) = bad.Image line
too_long_of fault.NoMemory = bad.NoMemory

abbrev pub unplayed_of : Fault → OutputBad
unplayed_of (fault.Line line) = bad.Schedule line
unplayed_of fault.NoMemory = bad.NoMemory
