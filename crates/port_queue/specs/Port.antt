-- What a port may send next.
use Rattle.std.specs.Prelude.{List, [], ◌∷◌, ◌++◌}
use Rattle.cs_base.specs.declared.port_kind.PortKind.{PortKind}
use Rattle.sb_message.specs.declared.message.Msg.{Msg}
use Rattle.sb_message.specs.Stream.{IsStream}

-- a message may be sent next: of a list for which the port stands, with the message at its end, the stream rule holds
pub record IsNextSent (kind : PortKind) (stands : List Msg → Type 0) (m : Msg) : Type 0 where
  pub sent : List Msg
  pub is_sent : stands sent
  pub streams : IsStream kind (sent ++ m ∷ [])
