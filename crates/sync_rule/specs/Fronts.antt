-- What one look at a component's ports and its device tells, and what follows from it.
use Rattle.std.specs.Prelude.{length, MatchOption}
use Rattle.device_api.specs.Behaviour.{Behaviour}
use Rattle.sync_rule.specs.declared.next.Next.{Next}
use Rattle.sync_rule.specs.declared.front.Front.{Front}
use Rattle.sync_rule.specs.declared.runner.Runner.{Runner}
use Rattle.sync_rule.specs.Soonest.{Soonest}
use Rattle.sync_rule.specs.Times.{quiet_of}
use Rattle.sync_rule.specs.ManyPorts.{WaitBelow}
use Rattle.sync_rule.specs.Next.{IsPending, IsNext}

-- nothing is pending
abbrev pub IsIdleFront : {V : Type 0} → Behaviour V → Runner V → Type 0
IsIdleFront b r = (next : Next) → IsPending b r next → ⊥

-- a look tells what is next, the least bound of the ports where nothing waits, and whether a message waits to be sent
pub record IsFront {V : Type 0} (b : Behaviour V) (r : Runner V) (front : Front) : Type 0 where
  pub next : MatchOption front.next (IsIdleFront b r) (IsNext b r)
  pub quiet : Soonest quiet_of r.incoming (length r.incoming) front.quiet
  pub waits : WaitBelow r.outgoing (length r.outgoing) front.waits
