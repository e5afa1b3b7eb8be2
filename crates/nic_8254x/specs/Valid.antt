-- Where the engines of an adapter can be.
use Rattle.std.specs.Prelude.{ℕ, ◌≡◌, ◌+◌, ◌≤◌, ◌<◌, ◌⊎◌, List, length, ⊤}
use Rattle.nic_rings.specs.Descriptors.{tx_desc_of}
use Rattle.nic_8254x.specs.declared.state.RxStep.{RxStep}
use Rattle.nic_8254x.specs.declared.state.RxStep.TheVariants as rx
use Rattle.nic_8254x.specs.declared.state.TxStep.{TxStep}
use Rattle.nic_8254x.specs.declared.state.TxStep.TheVariants as tx
use Rattle.nic_8254x.specs.Receiving.{first}

-- a part of the first frame, after what earlier descriptors hold of it
pub record IsPart (frame : List ℕ) (filled part : ℕ) : Type 0 where
  pub some : 1 ≤ part
  pub few : part ≤ 16384
  pub within : filled + part ≤ length frame

abbrev pub IsRxStep : List ℕ → ℕ → RxStep → Type 0
IsRxStep frame filled rx.Idle = ⊤
IsRxStep frame filled (rx.Read id place) = filled < length frame
IsRxStep frame filled (rx.Data id place address part done) = IsPart frame filled part × (done < part)
IsRxStep frame filled (rx.Back id part) = IsPart frame filled part

abbrev pub IsTxStep : TxStep → Type 0
IsTxStep tx.Idle = ⊤
IsTxStep (tx.Read id place) = ⊤
IsTxStep (tx.Data id place descriptor done) = done < (tx_desc_of descriptor).length
IsTxStep (tx.Back id) = ⊤

-- what earlier descriptors hold of the first one is not all of it
pub record IsAdapter (queue : List (List ℕ)) (filled : ℕ) (receiving : RxStep) (sending : TxStep) : Type 0 where
  pub begun : (filled ≡ 0) ⊎ (filled < length (first queue))
  pub rx_step : IsRxStep (first queue) filled receiving
  pub tx_step : IsTxStep sending
