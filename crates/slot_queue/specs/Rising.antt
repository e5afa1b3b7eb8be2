-- A stream that goes on.
use Rattle.std.specs.Prelude.{ℕ, ◌≤◌, List}
use Rattle.std.specs.List.{AllByRecursion}
use Rattle.cs_base.specs.declared.port_kind.PortKind.{PortKind}
use Rattle.sb_message.specs.declared.message.Msg.{Msg}
use Rattle.sb_message.specs.Stream.{IsStream}

-- a stream in which no timestamp is after this time
pub record IsRising (kind : PortKind) (messages : List Msg) (at : ℕ) : Type 0 where
  pub stream : IsStream kind messages
  pub reached : AllByRecursion (λ (message : Msg). message.at ≤ at) messages
