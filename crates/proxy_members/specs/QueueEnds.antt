-- What the ends of slot queues are and do as ports.
use Rattle.std.specs.Prelude.{◌≡◌, List}
use Rattle.cs_base.specs.declared.port_kind.PortKind.{PortKind}
use Rattle.sb_message.specs.declared.message.Msg.{Msg}
use Rattle.slot_queue.specs.declared.ends.TxEnd.{TxEnd}
use Rattle.slot_queue.specs.declared.ends.RxEnd.{RxEnd}
use Rattle.slot_queue.specs.Ends.{Pushed, Refused, Popped, Emptied}

abbrev pub tx_kind : TxEnd → PortKind
tx_kind end = end.seat.kind

abbrev pub tx_stands : TxEnd → List Msg → Type 0
tx_stands end sent = end.seat.sent ≡ sent

abbrev pub tx_pushes : TxEnd → Msg → TxEnd → Type 0
tx_pushes old m new = Pushed old.seat m new.seat

abbrev pub tx_refuses : TxEnd → TxEnd → Type 0
tx_refuses old new = Refused old.seat new.seat

abbrev pub rx_kind : RxEnd → PortKind
rx_kind end = end.seat.kind

abbrev pub rx_stands : RxEnd → List Msg → Type 0
rx_stands end received = end.seat.received ≡ received

abbrev pub rx_pops : RxEnd → Msg → RxEnd → Type 0
rx_pops old m new = Popped old.seat m new.seat

abbrev pub rx_empties : RxEnd → RxEnd → Type 0
rx_empties old new = Emptied old.seat new.seat
