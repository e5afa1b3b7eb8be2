-- What `load` writes: the summary of the run of a system of stations, or that system as a topology file.
use Rattle.std.specs.Prelude.{ℕ, Bool, true, false, List}
use Rattle.load_run.specs.Load.{IsSummary, IsLoadText}

abbrev pub IsLoaded : (stations : ℕ) (as_text : Bool) → List ℕ → Type 0
IsLoaded stations true text = IsLoadText stations text
IsLoaded stations false text = IsSummary stations text
