-- Pipes and what makes them, as contracts see them: which calls fail is told, and the bytes are not.
use Rattle.std.specs.Prelude.{ℕ, Bool, false, List, Some, None}
use Rattle.cs_base.specs.Wires.{DialerSeen, OutSeen, InSeen}
use Rattle.pipe_wires.specs.declared.plan.PipePlan.{PipePlan}

-- a sending end: the numbers of the sends that fail, how many were made, and its counts
pub record SendingPipe : Type 0 where
  pub failing : List ℕ
  pub calls : ℕ
  pub faults : ℕ
  pub idles : ℕ

abbrev pub out_seen : SendingPipe → OutSeen
out_seen p = record { taken = None; faults = p.faults; idles = p.idles }

-- one on which sends of these numbers will fail
abbrev pub new_out : List ℕ → SendingPipe
new_out failing = record { failing = failing; calls = 0; faults = 0; idles = 0 }

-- a receiving end: the numbers of the receipts that fail, how many were made before the end, its counts, and whether its
-- end was given
pub record ReceivingPipe : Type 0 where
  pub failing : List ℕ
  pub calls : ℕ
  pub faults : ℕ
  pub idles : ℕ
  pub ended : Bool

abbrev pub in_seen : ReceivingPipe → InSeen
in_seen p = record { given = None; faults = p.faults; idles = p.idles; ended = p.ended }

-- one on which receipts of these numbers will fail
abbrev pub new_in : List ℕ → ReceivingPipe
new_in failing = record { failing = failing; calls = 0; faults = 0; idles = 0; ended = false }

-- a dialer: what is planned for the next pipes, the channels of which the dial fails, those dialed and the count of
-- faults
pub record PipeDials : Type 0 where
  pub plans : List PipePlan
  pub failing : List ℕ
  pub dialed : List ℕ
  pub faults : ℕ

abbrev pub dialer_seen : PipeDials → DialerSeen
dialer_seen d = record { dialed = Some d.dialed; faults = d.faults }
