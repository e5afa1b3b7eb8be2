-- A component on a worker: its driver, and its channels by the numbers of its ports.
use Rattle.std.specs.Prelude.{ℕ, ◌≡◌, ◌+◌, ◌%◌, ◌^◌, List, Option, Some, None, slice_get}
use Rattle.cs_base.specs.declared.peer_reason.PeerReason.TheVariants.{Intro}
use Rattle.cs_base.specs.declared.port_kind.PortKind.{PortKind}
use Rattle.device_api.specs.Behaviour.{Behaviour}
use Rattle.sb_message.specs.declared.message.Msg.{Msg}
use Rattle.slot_queue.specs.declared.ends.TxEnd.{TxEnd}
use Rattle.slot_queue.specs.declared.ends.RxEnd.{RxEnd}
use Rattle.slot_queue.specs.Ends.{Pushed, Refused, Popped, Emptied}
use Rattle.std.specs.declared.result.Result.TheVariants.{Ok}
use Rattle.sync_rule.specs.declared.run_bad.RunBad.{RunBad}
use Rattle.sync_rule.specs.declared.run_bad.RunBad.TheVariants.{WrongIntro, NoMemory}
use Rattle.sync_drive.specs.declared.turn.Turn.{Turn}
use Rattle.sync_drive.specs.Standing.{StandsFrom, IsFit}
use Rattle.sync_drive.specs.Turns.{Turned, Failed, still_after}
use Rattle.worker_rounds.specs.declared.mesh_bad.MeshBad.{MeshBad}
use Rattle.worker_rounds.specs.declared.mesh_bad.MeshBad.TheVariants as mesh_bad
use Rattle.run_threads.specs.declared.part.Part.{Part}

-- what the ends of slot queues are and do as ports
abbrev pub tx_kind : TxEnd → PortKind
tx_kind end = end.seat.kind

abbrev pub tx_stands : TxEnd → List Msg → Type 0
tx_stands end sent = end.seat.sent ≡ sent

abbrev pub tx_pushes : TxEnd → Msg → TxEnd → Type 0
tx_pushes old m new = Pushed old.seat m new.seat

abbrev pub tx_refuses : TxEnd → TxEnd → Type 0
tx_refuses old new = Refused old.seat new.seat

abbrev pub rx_kind : RxEnd → PortKind
rx_kind end = end.seat.kind

abbrev pub rx_stands : RxEnd → List Msg → Type 0
rx_stands end received = end.seat.received ≡ received

abbrev pub rx_pops : RxEnd → Msg → RxEnd → Type 0
rx_pops old m new = Popped old.seat m new.seat

abbrev pub rx_empties : RxEnd → RxEnd → Type 0
rx_empties old new = Emptied old.seat new.seat

-- its runner and its ends stand for the same lists by port, from some start
abbrev pub PartFits : {V : Type 0} → Behaviour V → (V → ℕ → Type 0) → Part V → Type 0
PartFits b settled part = IsFit b settled tx_kind tx_stands rx_kind rx_stands part.driver.runner
    part.driver.txs.items part.driver.rxs.items

abbrev pub PartStands : {V : Type 0} → Behaviour V → (V → ℕ → Type 0) → V → Part V → Type 0
PartStands b settled start part = StandsFrom b settled tx_kind tx_stands rx_kind rx_stands start
    part.driver.runner part.driver.txs.items part.driver.rxs.items

-- it made one turn
pub record PartDid {V : Type 0} (b : Behaviour V) (settled : V → ℕ → Type 0)
    (old new : Part V) : Type 0 where
  pub component : new.component ≡ old.component
  pub departures : new.departures ≡ old.departures
  pub arrivals : new.arrivals ≡ old.arrivals
  pub turn : Turn
  pub turned : Turned b tx_pushes tx_refuses rx_pops rx_empties
      old.driver.runner old.driver.txs.items old.driver.rxs.items
      new.driver.runner new.driver.txs.items new.driver.rxs.items turn
  pub turns : new.driver.turns ≡ (old.driver.turns + 1) % 2 ^ 64
  pub still : new.driver.still ≡ still_after (Ok turn) old.driver.still
  pub fit : PartFits b settled new

-- a number of a list, or 0 where the list has none
abbrev pub number_or : Option ℕ → ℕ
number_or None = 0
number_or (Some number) = number

-- a turn failed, and changed nothing but the driver
pub record PartBroke {V : Type 0} (old new : Part V) (bad : RunBad) : Type 0 where
  pub component : new.component ≡ old.component
  pub departures : new.departures ≡ old.departures
  pub arrivals : new.arrivals ≡ old.arrivals
  pub failed : Failed tx_pushes tx_refuses rx_pops rx_empties
      old.driver.runner old.driver.txs.items old.driver.rxs.items
      new.driver.runner new.driver.txs.items new.driver.rxs.items bad

-- a turn met a fault: want of memory, or a wrong introduction on the channel that comes in at a
-- port
pub data PartFailed {V : Type 0} (old : Part V) : MeshBad → Part V → Type 0 where
  was_memory : (new : Part V) → PartBroke old new NoMemory → PartFailed old mesh_bad.NoMemory new
  was_introduction : (new : Part V) (port : ℕ) (found : Msg)
      → PartBroke old new (WrongIntro port found)
      → PartFailed old (mesh_bad.Peer (number_or (slice_get old.arrivals port)) 0 Intro) new
