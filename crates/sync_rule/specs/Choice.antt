-- The first of what is pending: null messages before messages before the tick, where they are at one time.
use Rattle.std.specs.Prelude.{ℕ, nat_le, Option, Some, None, if◌then◌else◌}
use Rattle.sync_rule.specs.declared.next.Next.{Next}
use Rattle.sync_rule.specs.declared.next.Next.TheVariants.{Sync, Take, Tick}
use Rattle.sync_rule.specs.declared.timer.Timer.{Timer}
use Rattle.sync_rule.specs.Times.{time_of}

abbrev pub take_or_tick : Timer → ℕ → Next
take_or_tick head due = if nat_le head.at due then Take head.port head.at else Tick due

abbrev pub earlier_of : Option Timer → Option ℕ → Option Next
earlier_of None None = None
earlier_of (Some head) None = Some (Take head.port head.at)
earlier_of None (Some due) = Some (Tick due)
earlier_of (Some head) (Some due) = Some (take_or_tick head due)

abbrev pub sync_or_later : Timer → Next → Next
sync_or_later timer later = if nat_le timer.at (time_of later) then Sync timer.port timer.at else later

abbrev pub sync_or : Timer → Option Next → Option Next
sync_or timer None = Some (Sync timer.port timer.at)
sync_or timer (Some later) = Some (sync_or_later timer later)

abbrev pub chosen_of : Option Timer → Option Next → Option Next
chosen_of None later = later
chosen_of (Some timer) later = sync_or timer later

abbrev pub chosen : Option Timer → Option Timer → Option ℕ → Option Next
chosen timer head due = chosen_of timer (earlier_of head due)
