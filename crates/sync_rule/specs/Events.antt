-- Events in a row.
use Rattle.std.specs.Prelude.{ℕ, ◌≡◌, ◌≤◌, ◌<◌, ◌+◌, List, []}
use Rattle.device_api.specs.Behaviour.{Behaviour}
use Rattle.sync_rule.specs.declared.next.Next.{Next}
use Rattle.sync_rule.specs.declared.runner.Runner.{Runner}
use Rattle.sync_rule.specs.Ports.{In, Out}
use Rattle.sync_rule.specs.Soonest.{IsTimed}
use Rattle.sync_rule.specs.Times.{timer_of, head_of, quiet_of}
use Rattle.sync_rule.specs.Next.{IsEnabled, IsReady}
use Rattle.sync_rule.specs.Steps.{Processed}

-- so many events were processed, one after another
pub data EventsRan {V : Type 0} (b : Behaviour V) (old : Runner V) : ℕ → Runner V → Type 0 where
  none_ran : EventsRan b old 0 old
  one_more : (n : ℕ) (mid new : Runner V) → EventsRan b old n mid → Processed b mid new → EventsRan b old (n + 1) new

-- after any number of events a runner may go on
pub record IsReadyThroughout {V : Type 0} (b : Behaviour V) (settled : V → ℕ → Type 0) (r : Runner V) : Type 0 where
  pub after : (n : ℕ) (mid : Runner V) → EventsRan b r n mid → IsReady b settled mid

-- so many events were processed, no more than asked for, and fewer only where the next may not be processed
pub record RanUpTo {V : Type 0} (b : Behaviour V) (old new : Runner V) (most n : ℕ) : Type 0 where
  pub ran : EventsRan b old n new
  pub within : n ≤ most
  pub stopped : n < most → (next : Next) → IsEnabled b new next → ⊥

-- some events were processed, no more than asked for
pub record RanOn {V : Type 0} (b : Behaviour V) (old new : Runner V) (most n : ℕ) : Type 0 where
  pub ran : EventsRan b old n new
  pub some : 0 < n
  pub within : n ≤ most

-- a tick sends nothing
abbrev pub TicksSilently : {V : Type 0} → Behaviour V → Runner V → ℕ → Type 0
TicksSilently b r t = (b.tick r.device t).sends ≡ []

-- until a time only the device may be due: no null message is, no message waits to be taken, none can still come in, and
-- the run has not ended
pub record IsCalm (ins : List In) (outs : List Out) (end until : ℕ) : Type 0 where
  pub timers : (p t : ℕ) → IsTimed timer_of outs p t → until ≤ t
  pub heads : (p t : ℕ) → IsTimed head_of ins p t → until ≤ t
  pub quiet : (p bound : ℕ) → IsTimed quiet_of ins p bound → until ≤ bound
  pub in_run : until ≤ end
