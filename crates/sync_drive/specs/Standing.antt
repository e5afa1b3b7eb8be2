-- What stands between two turns of a driver: its runner, and its ends of channels, stand for the
-- same lists by port.
use Rattle.std.specs.Prelude.{ℕ, ◌≡◌, List, [], ◌∷◌, length, slice_get, Some}
use Rattle.cs_base.specs.Plan.{partner}
use Rattle.cs_base.specs.declared.port_kind.PortKind.{PortKind}
use Rattle.sb_message.specs.declared.message.Msg.{Msg}
use Rattle.device_api.specs.Behaviour.{Behaviour}
use Rattle.device_api.specs.Position.{Position}
use Rattle.run_laws.specs.NextEvent.{with_port}
use Rattle.sync_rule.specs.declared.run_bad.RunBad.{RunBad}
use Rattle.sync_rule.specs.declared.run_bad.RunBad.TheVariants.{WrongIntro, NoMemory}
use Rattle.sync_rule.specs.declared.runner.Runner.{Runner}
use Rattle.sync_rule.specs.Steps.{IsIntroduction}
use Rattle.sync_laws.specs.Stands.{Stands}

-- ends of the channels at ports of these kinds: one for each port, of the kind that receives its
-- messages, and it stands for the list of its port
pub record EndsStand {E : Type 0} (receiver : PortKind → PortKind) (kind : E → PortKind)
    (stands : E → List Msg → Type 0) (ports : List PortKind) (lists : ℕ → List Msg)
    (ends : List E) : Type 0 where
  pub as_many : length ends ≡ length ports
  pub kinds : (p : ℕ) (one : E) (port : PortKind) → slice_get ends p ≡ Some one
      → slice_get ports p ≡ Some port → kind one ≡ receiver port
  pub each : (p : ℕ) (one : E) → slice_get ends p ≡ Some one → stands one (lists p)

-- the sending ends, which the partners of the ports receive from, and the receiving ends
abbrev pub TxsStand : {T : Type 0} → (T → PortKind) → (T → List Msg → Type 0) → List PortKind
    → (ℕ → List Msg) → List T → Type 0
TxsStand kind stands ports sent txs = EndsStand partner kind stands ports sent txs

abbrev pub RxsStand : {R : Type 0} → (R → PortKind) → (R → List Msg → Type 0) → List PortKind
    → (ℕ → List Msg) → List R → Type 0
RxsStand kind stands ports received rxs = EndsStand (λ port. port) kind stands ports received rxs

-- a runner and its sending ends stand, whatever was sent
pub record SentOn {V T : Type 0} (b : Behaviour V) (settled : V → ℕ → Type 0)
    (kind : T → PortKind) (stands : T → List Msg → Type 0) (start : V) (position : Position)
    (received : ℕ → List Msg) (r : Runner V) (txs : List T) : Type 0 where
  pub sent : ℕ → List Msg
  pub runner : Stands b settled start position received sent r
  pub ends : TxsStand kind stands (b.ports start) sent txs

-- a runner and its receiving ends stand, whatever was received
pub record HeardOn {V R : Type 0} (b : Behaviour V) (settled : V → ℕ → Type 0)
    (kind : R → PortKind) (stands : R → List Msg → Type 0) (start : V) (position : Position)
    (sent : ℕ → List Msg) (r : Runner V) (rxs : List R) : Type 0 where
  pub received : ℕ → List Msg
  pub runner : Stands b settled start position received sent r
  pub ends : RxsStand kind stands (b.ports start) received rxs

-- the same from some start and at some position
pub record SendsStand {V T : Type 0} (b : Behaviour V) (settled : V → ℕ → Type 0)
    (kind : T → PortKind) (stands : T → List Msg → Type 0)
    (r : Runner V) (txs : List T) : Type 0 where
  pub start : V
  pub position : Position
  pub received : ℕ → List Msg
  pub now : SentOn b settled kind stands start position received r txs

pub record PollsStand {V R : Type 0} (b : Behaviour V) (settled : V → ℕ → Type 0)
    (kind : R → PortKind) (stands : R → List Msg → Type 0)
    (r : Runner V) (rxs : List R) : Type 0 where
  pub start : V
  pub position : Position
  pub sent : ℕ → List Msg
  pub now : HeardOn b settled kind stands start position sent r rxs

-- a runner, from the start of its component, and its ends stand, whatever was sent and received
pub record StandsFrom {V T R : Type 0} (b : Behaviour V) (settled : V → ℕ → Type 0)
    (tx_kind : T → PortKind) (tx_stands : T → List Msg → Type 0)
    (rx_kind : R → PortKind) (rx_stands : R → List Msg → Type 0)
    (start : V) (r : Runner V) (txs : List T) (rxs : List R) : Type 0 where
  pub position : Position
  pub received : ℕ → List Msg
  pub sent : ℕ → List Msg
  pub runner : Stands b settled start position received sent r
  pub out : TxsStand tx_kind tx_stands (b.ports start) sent txs
  pub into : RxsStand rx_kind rx_stands (b.ports start) received rxs

-- they do so from some start
pub record IsFit {V T R : Type 0} (b : Behaviour V) (settled : V → ℕ → Type 0)
    (tx_kind : T → PortKind) (tx_stands : T → List Msg → Type 0)
    (rx_kind : R → PortKind) (rx_stands : R → List Msg → Type 0)
    (r : Runner V) (txs : List T) (rxs : List R) : Type 0 where
  pub start : V
  pub stands : StandsFrom b settled tx_kind tx_stands rx_kind rx_stands start r txs rxs

-- what the receiving ends stand for after a turn that failed, by what a runner had received:
-- nothing else where there was no memory; at the port of a wrong introduction that one message
-- alone, which was the first
pub data IntoFailed {V R : Type 0} (kind : R → PortKind) (stands : R → List Msg → Type 0)
    (ports : List PortKind) (r : Runner V) (received : ℕ → List Msg)
    (rxs : List R) : RunBad → Type 0 where
  as_received : RxsStand kind stands ports received rxs
      → IntoFailed kind stands ports r received rxs NoMemory
  wrongly_introduced : (port : ℕ) (found : Msg) → received port ≡ []
      → (IsIntroduction r port found → ⊥)
      → RxsStand kind stands ports (with_port port (found ∷ []) received) rxs
      → IntoFailed kind stands ports r received rxs (WrongIntro port found)

-- what still stands after a turn that failed: the ends, and the runner as it was after the last
-- move that it made
pub record FailedFrom {V T R : Type 0} (b : Behaviour V) (settled : V → ℕ → Type 0)
    (tx_kind : T → PortKind) (tx_stands : T → List Msg → Type 0)
    (rx_kind : R → PortKind) (rx_stands : R → List Msg → Type 0)
    (start : V) (old : Runner V) (txs : List T) (rxs : List R) (bad : RunBad) : Type 0 where
  pub position : Position
  pub received : ℕ → List Msg
  pub sent : ℕ → List Msg
  pub last : Runner V
  pub runner : Stands b settled start position received sent last
  pub out : TxsStand tx_kind tx_stands (b.ports start) sent txs
  pub into : IntoFailed rx_kind rx_stands (b.ports start) old received rxs bad
