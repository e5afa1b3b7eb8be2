-- The order of a component's events, and runs that stop after one of them.
use Rattle.std.specs.Prelude.{ℕ, ◌==◌, zero, suc, Bool, false, nat_lt, nat_le, ◌&&◌, ◌||◌, if◌then◌else◌, List, [], ◌∷◌, ◌++◌, length, filter, Option, Some, None}
use Rattle.cs_base.specs.declared.port_kind.PortKind.{PortKind}
use Rattle.sb_message.specs.declared.message.Msg.{Msg}
use Rattle.device_api.specs.Behaviour.{Behaviour, Reaction}
use Rattle.device_api.specs.Channels.{Channel}
use Rattle.device_api.specs.World.{Arrival, Run, Sent, start_run, after, followed_by, take_all, tick_if_due, rest, arrivals}
use Rattle.device_api.specs.Transcript.{Script, introduction, sync_if_due, stamped_after, sends_before, sends_at, with_messages, bodies, bound_of}

-- the place of an event in a component's order: its time, its phase (null messages, messages, tick), its port,
-- and its number among the messages of that port
pub record Key : Type 0 where
  pub time : ℕ
  pub phase : ℕ
  pub port : ℕ
  pub number : ℕ

abbrev pub sync_key : ℕ → ℕ → Key
sync_key u port = record { time = u; phase = 0; port = port; number = 0 }

abbrev pub message_key : ℕ → ℕ → ℕ → Key
message_key t port number = record { time = t; phase = 1; port = port; number = number }

abbrev pub tick_key : ℕ → Key
tick_key t = record { time = t; phase = 2; port = 0; number = 0 }

-- compares one part of two keys, and what follows where it is the same
abbrev pub by_part : ℕ → ℕ → Bool → Bool
by_part x y following = nat_lt x y || ((x == y) && following)

-- keys go by their first differing part
abbrev pub is_at_most : Key → Key → Bool
is_at_most k last = by_part k.time last.time (by_part k.phase last.phase (by_part k.port last.port (nat_le k.number last.number)))

-- how far a component has come: the key of its last event, None before the first
abbrev pub Position : Type 0
Position = Option Key

-- whether an event was processed by then
abbrev pub is_reached : Position → Key → Bool
is_reached None k = false
is_reached (Some last) k = is_at_most k last

-- of what arrives at t, what was taken by then
abbrev pub arrivals_upto : Position → ℕ → List Arrival → List Arrival
arrivals_upto position t arrived = filter (λ a. is_reached position (message_key t a.port a.number)) arrived

-- a device ticks where it is due at t and the tick was reached
abbrev pub tick_upto : {S : Type 0} → Behaviour S → Position → ℕ → S → Reaction S
tick_upto b position t s = if is_reached position (tick_key t) then tick_if_due b t s else rest s

-- one moment of a device, up to a position
abbrev pub react_upto : {S : Type 0} → Behaviour S → Position → ℕ → List Arrival → S → Reaction S
react_upto b position t arrived s = followed_by (take_all b t (arrivals_upto position t arrived) s) (tick_upto b position t)

-- the run of one component by itself up to a position, in all moments before a time
unfoldable pub local_upto : {S : Type 0} → Behaviour S → ℕ → (ℕ → List Msg) → S → Position → ℕ → Run S
local_upto b ports inputs s position zero = start_run s
local_upto b ports inputs s position (suc t) = let so_far = local_upto b ports inputs s position t in after t so_far (react_upto b position t (arrivals t inputs ports) so_far.state)

-- a null message, where it is due at u and was reached
abbrev pub sync_upto : Channel → Position → ℕ → ℕ → List Msg
sync_upto ch position u due = if is_reached position (sync_key u ch.from.port) then sync_if_due ch u due else []

-- the messages of a channel up to a position of its sender, whose sends up to there are given
unfoldable pub script_upto : PortKind → Channel → List Sent → Position → ℕ → Script
script_upto kind ch sends position zero = record { messages = introduction kind ch ∷ []; sync_due = 0 }
script_upto kind ch sends position (suc u) = let so_far = script_upto kind ch sends position u in with_messages ch u so_far (sync_upto ch position u so_far.sync_due ++ stamped_after ch (sends_before u sends) (sends_at u sends))

-- the transcript up to a position
abbrev pub transcript_upto : PortKind → Channel → List Sent → Position → ℕ → List Msg
transcript_upto kind ch sends position end = (script_upto kind ch sends position end).messages

-- the least key that a message can have which is still to come in on a channel
abbrev pub next_key : Channel → List Msg → Key
next_key ch received = message_key (bound_of received) ch.to.port (length (bodies received))
