-- The six lines that sum a run up.
use Rattle.std.specs.Prelude.{ℕ, List, ◌++◌, length, codes, decimal, sum_by}
use Rattle.device_api.specs.declared.counts.Count.{Count}
use Rattle.device_api.specs.declared.logs.Line.{Line}
use Rattle.device_api.specs.Counts.{counted}
use Rattle.topology_file.specs.declared.topology.Topology.{Topology}

-- the lines of all logs; the null messages and the events of all channels
abbrev pub lines_in : List (List Line) → ℕ
lines_in logs = counted (sum_by (λ (log : List Line). length log) logs)

abbrev pub syncs_in : List Count → ℕ
syncs_in counts = counted (sum_by (λ (count : Count). count.syncs) counts)

abbrev pub sends_in : List Count → ℕ
sends_in counts = counted (sum_by (λ (count : Count). count.sends) counts)

-- a word and a number
abbrev pub entry : List ℕ → ℕ → List ℕ
entry word number = word ++ codes " " ++ decimal number ++ codes "\n"

-- how many stations, components and links there are, and what the run of the topology has left
abbrev pub summary : ℕ → Topology → List (List Line) → List Count → List ℕ
summary stations t logs counts =
    entry (codes "load") stations
    ++ entry (codes "components") (length t.components)
    ++ entry (codes "links") (length t.wiring.links)
    ++ entry (codes "lines") (lines_in logs)
    ++ entry (codes "syncs") (syncs_in counts)
    ++ entry (codes "sends") (sends_in counts)
