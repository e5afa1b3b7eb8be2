-- The logs of the global run: one for each component, of lines before its end.
use Rattle.std.proofs.Common.{ℕ, ◌≡◌, ◌<◌, ◌≤◌, zero, suc, List, Option, Some, None, length, refl, subst, ◌∙◌, arith}
use Rattle.std.specs.Prelude.{All, slice_get}
use Rattle.std.proofs.lemmas.List.Elements.{All-append, All-map, All-set}
use Rattle.std.proofs.lemmas.List.{length-map}
use Rattle.std.proofs.lemmas.Option.{slice_get_within, get_or_from_slice_get}
use Rattle.device_api.specs.declared.logs.Line.{Line}
use Rattle.device_api.specs.World.{World, Run, Network, start_run, after, logged_at, react, arrivals_for, turn_of, slot, global_until, log_in, log_of, logs_of}
use Rattle.run_laws.proofs.RunCounts.{run_count}
use Rattle.log_join.specs.Before.{IsBefore, AreBefore}

-- each run's lines are before a time
abbrev LoggedBefore : {S : Type 0} → ℕ → List (Run S) → Type 0
LoggedBefore {S} t runs = All (λ (run : Run S). IsBefore t run.log) runs

module _ {S : Type 0} (net : Network S) where
  later : (t u : ℕ) (runs : List (Run S)) → t ≤ u → LoggedBefore t runs → LoggedBefore u runs
  later t u runs le before k d within i e in_log = (let lt = before k d within i e in_log in omega arith)

  -- lines that are logged at t are before the next moment
  logged_at-before : (t : ℕ) (lines : List (List ℕ)) → IsBefore (suc t) (logged_at t lines)
  logged_at-before t lines = All-map (λ (line : Line). line.at < suc t) (λ text. record { at = t; text = text }) lines (λ k d within. omega arith)

  turn-before : (t c : ℕ) (w : World S) (found : Option (Run S)) → slice_get w.runs c ≡ found → LoggedBefore (suc t) w.runs → LoggedBefore (suc t) (turn_of net t c w found).runs
  turn-before t c w None at before = before
  turn-before t c w (Some run) at before =
      let r = react net.behaviour t (arrivals_for net t c w) run.state in
      let run_before : IsBefore (suc t) run.log = subst (λ (r : Run S). IsBefore (suc t) r.log) (get_or_from_slice_get w.runs c run run at) (before c run (slice_get_within w.runs c run at)) in
      All-set (λ (run : Run S). IsBefore (suc t) run.log) w.runs c (after t run r) (All-append (λ (line : Line). line.at < suc t) run.log (logged_at t r.lines) run_before (logged_at-before t r.lines)) before

  slot-before : (t c : ℕ) (w : World S) → LoggedBefore (suc t) w.runs → LoggedBefore (suc t) (slot net t c w).runs
  unfolding slot
  slot-before t zero w before = before
  slot-before t (suc c) w before = turn-before t c (slot net t c w) (slice_get (slot net t c w).runs c) refl (slot-before t c w before)

  global_until-before : (t : ℕ) → LoggedBefore t (global_until net t).runs
  unfolding global_until
  global_until-before zero = All-map (λ (run : Run S). IsBefore 0 run.log) start_run net.starts (λ k d within i e in_log. absurd (omega (arith, in_log)))
  global_until-before (suc t) = slot-before t (length net.starts) (global_until net t) (later t (suc t) (global_until net t).runs (omega arith) (global_until-before t))

  pub logs_of-before : (t : ℕ) → AreBefore t (logs_of (global_until net t))
  logs_of-before t = All-map (IsBefore t) (λ (run : Run S). run.log) (global_until net t).runs (global_until-before t)

  log_in-before : (t c : ℕ) (found : Option (Run S)) → slice_get (global_until net t).runs c ≡ found → IsBefore t (log_in found)
  log_in-before t c None at = λ k d within. absurd (omega (arith, within))
  log_in-before t c (Some run) at =
      let runs = (global_until net t).runs in
      subst (λ (r : Run S). IsBefore t r.log) (get_or_from_slice_get runs c run run at) (global_until-before t c run (slice_get_within runs c run at))

  pub log_of-before : (t c : ℕ) → IsBefore t (log_of c (global_until net t))
  log_of-before t c = log_in-before t c (slice_get (global_until net t).runs c) refl

  -- there is one log for each component
  pub length-logs_of : (t : ℕ) → length (logs_of (global_until net t)) ≡ length net.starts
  length-logs_of t = length-map (global_until net t).runs (λ (run : Run S). run.log) ∙ run_count net t
