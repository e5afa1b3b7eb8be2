-- A run at its own time.
use Rattle.std.specs.Prelude.{ℕ, ◌≤◌, ◌^◌, Option, Some, None}
use Rattle.std.proofs.Common.{sym, subst, arith}
use Rattle.device_api.specs.Behaviour.{Behaviour}
use Rattle.global_model.specs.declared.global_run.Global.{Global}
use Rattle.global_model.specs.Runs.{IsAt}
use Rattle.global_model.specs.Step.{late_of}
use Rattle.global_model.specs.UnderWay.{System}

pub at_own_time : {S : Type 0} {b : Behaviour S} {settled : S → ℕ → Type 0} {system : System S} {t : ℕ} {run : Global S} → IsAt b settled system t run → IsAt b settled system run.time run
at_own_time {b = b} {settled = settled} {system = system} {run = run} at = subst (λ u. IsAt b settled system u run) (sym at.time_is) at

pub late_short : (due : Option ℕ) → late_of due ≤ 10 ^ 15
late_short None = omega arith
late_short (Some u) = omega arith
