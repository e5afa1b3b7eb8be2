-- What an adapter is: its registers, the frames that wait to be received, and where its two engines are.
use Rattle.std.specs.Prelude.{ℕ, ◌-◌, ◌^◌, Bool, false, List, [], nat_lt}
use Rattle.nic_regs.specs.Registers as registers
use Rattle.nic_regs.specs.Registers.{Registers}
use Rattle.nic_8254x.specs.declared.state.RxStep.{RxStep}
use Rattle.nic_8254x.specs.declared.state.RxStep.TheVariants as rx
use Rattle.nic_8254x.specs.declared.state.TxStep.{TxStep}
use Rattle.nic_8254x.specs.declared.state.TxStep.TheVariants as tx

-- `queue` has the frames that arrived, the first one first, and `filled` counts the bytes of the first one that earlier
-- descriptors hold; `work` is what was read so far of the frame that is sent; ids count over both engines; `told` is
-- the level of the interrupt line that was last told
pub record Adapter : Type 0 where
  pub regs : Registers
  pub queue : List (List ℕ)
  pub filled : ℕ
  pub receiving : RxStep
  pub work : List ℕ
  pub sending : TxStep
  pub next_id : ℕ
  pub told : Bool

abbrev pub started : List ℕ → Adapter
started mac = record {
  regs = registers.started mac;
  queue = [];
  filled = 0;
  receiving = rx.Idle;
  work = [];
  sending = tx.Idle;
  next_id = 0;
  told = false;
}

-- the last number is no id
abbrev pub has_id : Adapter → Bool
has_id s = nat_lt s.next_id (2 ^ 64 - 1)

-- a reset drops the frames that wait and are in work, and what was asked for
abbrev pub dropped : Adapter → Adapter
dropped s = record s { queue = []; filled = 0; receiving = rx.Idle; work = []; sending = tx.Idle }
