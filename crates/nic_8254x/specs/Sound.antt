-- What is so of each adapter before and after each event.
use Rattle.std.specs.Prelude.{ℕ, ◌≡◌, ◌≢◌, ◌≤◌, ◌<◌, length, Option, Some, None, IfSome}
use Rattle.nic_regs.specs.Registers.{line_of}
use Rattle.nic_8254x.specs.declared.state.RxStep.{RxStep}
use Rattle.nic_8254x.specs.declared.state.RxStep.TheVariants as rx
use Rattle.nic_8254x.specs.declared.state.TxStep.{TxStep}
use Rattle.nic_8254x.specs.declared.state.TxStep.TheVariants as tx
use Rattle.nic_8254x.specs.State.{Adapter}

-- the id of what the receive engine asked for last
abbrev pub rx_id : RxStep → Option ℕ
rx_id rx.Idle = None
rx_id (rx.Read id place) = Some id
rx_id (rx.Data id place address part done) = Some id
rx_id (rx.Back id part) = Some id

-- the id of what the transmit engine asked for last
abbrev pub tx_id : TxStep → Option ℕ
tx_id tx.Idle = None
tx_id (tx.Read id place) = Some id
tx_id (tx.Data id place descriptor done) = Some id
tx_id (tx.Back id) = Some id

-- ids that were given, to each engine its own
pub record AreIds (next_id : ℕ) (receiving sending : Option ℕ) : Type 0 where
  pub rx : IfSome receiving (λ id. id < next_id)
  pub tx : IfSome sending (λ id. id < next_id)
  pub apart : IfSome receiving (λ id. IfSome sending (λ other. id ≢ other))

-- the queue has 64 places
pub record IsOrdered (s : Adapter) : Type 0 where
  pub few : length s.queue ≤ 64
  pub ids : AreIds s.next_id (rx_id s.receiving) (tx_id s.sending)

-- the facts of an adapter that stay whatever arrives: they depend on no time, and its line was told
pub record IsSettledAdapter (s : Adapter) (x : ℕ) : Type 0 where
  pub ordered : IsOrdered s
  pub told : s.told ≡ line_of s.regs
