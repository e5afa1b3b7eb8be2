-- A runner that stands at some position.
use Rattle.std.specs.Prelude.{ℕ, List}
use Rattle.sb_message.specs.declared.message.Msg.{Msg}
use Rattle.device_api.specs.Behaviour.{Behaviour}
use Rattle.device_api.specs.Position.{Position}
use Rattle.sync_rule.specs.declared.runner.Runner.{Runner}
use Rattle.sync_laws.specs.Stands.{Stands}

pub record StandsSomewhere {V : Type 0} (b : Behaviour V) (settled : V → ℕ → Type 0) (start : V) (received sent : ℕ → List Msg) (r : Runner V) : Type 0 where
  pub position : Position
  pub stands : Stands b settled start position received sent r
