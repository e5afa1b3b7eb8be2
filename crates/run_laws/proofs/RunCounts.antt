-- The global run has one run for each component.
use Rattle.std.proofs.Common.{◌≡◌, ℕ, zero, suc, Option, Some, None, length, slice_get, refl, ◌∙◌}
use Rattle.std.proofs.lemmas.List.{length-set, length-map}
use Rattle.device_api.specs.World.{World, Run, Network, start_run, after, react, arrivals_for, turn_of, slot, global_until}

module _ {S : Type 0} (net : Network S) where
  turn_runs : (t c : ℕ) (w : World S) (found : Option (Run S)) → length (turn_of net t c w found).runs ≡ length w.runs
  turn_runs t c w None = refl
  turn_runs t c w (Some run) = length-set w.runs c (after t run (react net.behaviour t (arrivals_for net t c w) run.state))

  slot_runs : (t c : ℕ) (w : World S) → length (slot net t c w).runs ≡ length w.runs
  unfolding slot
  slot_runs t zero w = refl
  slot_runs t (suc c) w = turn_runs t c (slot net t c w) (slice_get (slot net t c w).runs c) ∙ slot_runs t c w

  pub run_count : (t : ℕ) → length (global_until net t).runs ≡ length net.starts
  unfolding global_until
  run_count zero = length-map net.starts start_run
  run_count (suc t) = slot_runs t (length net.starts) (global_until net t) ∙ run_count t
