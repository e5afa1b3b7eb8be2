-- What a look tells of what may be done: the event that may be processed, whether all is done, and how far the ports
-- must have heard.
use Rattle.std.specs.Prelude.{ℕ, nat_lt, nat_le, Bool, true, if◌then◌else◌, Option, Some, None, not, ◌&&◌}
use Rattle.sync_rule.specs.declared.next.Next.{Next}
use Rattle.sync_rule.specs.declared.timer.Timer.{Timer}
use Rattle.sync_rule.specs.Times.{time_of, needed_for}

-- whether the ports where nothing waits, whose least bound is given, have heard so far
abbrev pub has_heard : Option Timer → ℕ → Bool
has_heard None needed = true
has_heard (Some quiet) needed = nat_le needed quiet.at

-- the next event, if it is before the end and the ports have heard far enough
abbrev pub enabled_next : Next → Option Timer → ℕ → Option Next
enabled_next next quiet end = if nat_lt (time_of next) end then (if has_heard quiet (needed_for next) then Some next else None) else None

abbrev pub enabled_of : Option Next → Option Timer → ℕ → Option Next
enabled_of None quiet end = None
enabled_of (Some next) quiet end = enabled_next next quiet end

abbrev pub enabled : Bool → Option Next → Option Timer → ℕ → Option Next
enabled waits next quiet end = if waits then None else enabled_of next quiet end

-- whether nothing is next before the end
abbrev pub is_over : Option Next → ℕ → Bool
is_over None end = true
is_over (Some next) end = nat_le end (time_of next)

-- whether all is done: nothing waits to be sent, nothing is next before the end, and the ports have heard as far
abbrev pub is_all_done : Bool → Option Next → Option Timer → ℕ → Bool
is_all_done waits next quiet end = not waits && (is_over next end && has_heard quiet end)

-- how far they must have heard
abbrev pub needed_at : Option Next → ℕ → ℕ
needed_at None end = end
needed_at (Some next) end = if nat_lt (time_of next) end then needed_for next else end

-- the lesser of a time and a timer's, if there is one
abbrev pub lesser_of : ℕ → Option Timer → ℕ
lesser_of time None = time
lesser_of time (Some timer) = if nat_lt timer.at time then timer.at else time

-- until when only the device may be due
abbrev pub calm_until : Option Timer → Option Timer → Option Timer → ℕ → ℕ
calm_until timer head quiet end = lesser_of (lesser_of (lesser_of end timer) head) quiet
