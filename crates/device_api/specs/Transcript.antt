-- All messages of a channel: the introduction, null messages by the timer rule, and the sends.
use Rattle.std.specs.Prelude.{ℕ, ◌≤◌, ◌==◌, ◌+◌, zero, suc, nat_lt, if◌then◌else◌, List, [], ◌∷◌, ◌++◌, filter, ⊤}
use Rattle.cs_base.specs.declared.port_kind.PortKind.{PortKind}
use Rattle.sb_intro.specs.Expected.{expected}
use Rattle.sb_message.specs.Receivable.{is_event}
use Rattle.sb_message.specs.declared.message.Body.TheVariants.{Sync, Intro}
use Rattle.sb_message.specs.declared.message.Msg.{Msg}
use Rattle.device_api.specs.Channels.{Channel}
use Rattle.device_api.specs.World.{Sent, stamp}

-- the first message of a channel, whose sending port is of this kind
abbrev pub introduction : PortKind → Channel → Msg
introduction kind ch = record { at = 0; body = Intro (expected kind ch.latency ch.interval) }

-- a null message that is sent at u
abbrev pub null_message : Channel → ℕ → Msg
null_message ch u = record { at = u + ch.latency; body = Sync }

-- sends as messages with their timestamps, after what was sent on the channel before
unfoldable pub stamped_after : Channel → List Sent → List Sent → List Msg
stamped_after ch before [] = []
stamped_after ch before (s ∷ more) = record { at = stamp ch before s; body = s.body } ∷ stamped_after ch (before ++ s ∷ []) more

-- all sends on a channel as messages
abbrev pub stamped : Channel → List Sent → List Msg
stamped ch sends = stamped_after ch [] sends

-- the sends made before u, and those made at u
abbrev pub sends_before : ℕ → List Sent → List Sent
sends_before u sends = filter (λ s. nat_lt s.time u) sends

abbrev pub sends_at : ℕ → List Sent → List Sent
sends_at u sends = filter (λ s. s.time == u) sends

-- the messages of a channel so far, and when its next null message is due
pub record Script : Type 0 where
  pub messages : List Msg
  pub sync_due : ℕ

-- a null message, where it is due at u
abbrev pub sync_if_due : Channel → ℕ → ℕ → List Msg
sync_if_due ch u due = if due == u then null_message ch u ∷ [] else []

-- the timer: a null message is due when nothing was sent for the interval
abbrev pub due_after : Channel → ℕ → ℕ → List Msg → ℕ
due_after ch u due [] = due
due_after ch u due (m ∷ more) = u + ch.interval

-- a script and then some messages that are sent at u
abbrev pub with_messages : Channel → ℕ → Script → List Msg → Script
with_messages ch u so_far new = record { messages = so_far.messages ++ new; sync_due = due_after ch u so_far.sync_due new }

-- the messages of all moments before a time; at each moment a null message that is due stands before the sends
unfoldable pub script : PortKind → Channel → List Sent → ℕ → Script
script kind ch sends zero = record { messages = introduction kind ch ∷ []; sync_due = 0 }
script kind ch sends (suc u) = let so_far = script kind ch sends u in with_messages ch u so_far (sync_if_due ch u so_far.sync_due ++ stamped_after ch (sends_before u sends) (sends_at u sends))

-- the transcript of a list of sends, for all moments before a time
abbrev pub transcript : PortKind → Channel → List Sent → ℕ → List Msg
transcript kind ch sends end = (script kind ch sends end).messages

-- the events among messages: neither the introduction nor null messages
abbrev pub bodies : List Msg → List Msg
bodies messages = filter (λ m. is_event m.body) messages

-- the timestamp of the last message; `low` where there is none
unfoldable pub bound_from : ℕ → List Msg → ℕ
bound_from low [] = low
bound_from low (m ∷ more) = bound_from m.at more

-- how far in time a receiver has heard: the timestamp of the last message that it received, 0 before
abbrev pub bound_of : List Msg → ℕ
bound_of received = bound_from 0 received

-- the timestamps never fall, from `low` on
unfoldable pub RisesFrom : ℕ → List Msg → Type 0
RisesFrom low [] = ⊤
RisesFrom low (m ∷ more) = (low ≤ m.at) × RisesFrom m.at more
