-- Times: of a port's next null message, of the first message that waits, of the bound where nothing waits, of events.
use Rattle.std.specs.Prelude.{ℕ, ◌+◌, List, [], ◌∷◌, Option, Some, None}
use Rattle.sb_message.specs.declared.message.Msg.{Msg}
use Rattle.sync_rule.specs.declared.next.Next.{Next}
use Rattle.sync_rule.specs.declared.next.Next.TheVariants.{Sync, Take, Tick}
use Rattle.sync_rule.specs.Ports.{In, Out}

-- when a port's null message is due
abbrev pub timer_of : Out → Option ℕ
timer_of o = Some o.sync_due

-- the time of the first message that waits; None where none does
abbrev pub head_time : List Msg → Option ℕ
head_time [] = None
head_time (m ∷ more) = Some m.at

abbrev pub head_of : In → Option ℕ
head_of i = head_time i.inbox

-- how far a port has heard where nothing waits
abbrev pub quiet_bound : List Msg → ℕ → Option ℕ
quiet_bound [] bound = Some bound
quiet_bound (m ∷ more) bound = None

abbrev pub quiet_of : In → Option ℕ
quiet_of i = quiet_bound i.inbox i.bound

-- when an event happens
abbrev pub time_of : Next → ℕ
time_of (Sync port u) = u
time_of (Take port t) = t
time_of (Tick t) = t

-- how far a port where nothing waits must have heard for an event: for a null message to its time, else past it
abbrev pub needed_for : Next → ℕ
needed_for (Sync port u) = u
needed_for (Take port t) = t + 1
needed_for (Tick t) = t + 1
