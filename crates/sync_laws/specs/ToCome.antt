-- What is left of a run of all components: the events, sends and receipts that are to come until all is processed, sent and
-- received. Which they are is known, since the run that they belong to is the global run.
use Rattle.std.specs.Prelude.{ℕ, ◌+◌, ◌-◌, zero, suc, List, [], ◌∷◌, length, count_by}
use Rattle.cs_base.specs.Plan.{End}
use Rattle.sb_message.specs.declared.message.Msg.{Msg}
use Rattle.device_api.specs.Behaviour.{Behaviour, Reaction}
use Rattle.device_api.specs.Channels.{Channel, channels}
use Rattle.device_api.specs.Counts.{is_sync}
use Rattle.device_api.specs.GlobalCounts.{messages_of}
use Rattle.device_api.specs.Position.{Position}
use Rattle.device_api.specs.World.{Network, global_until, log_of}
use Rattle.run_laws.specs.Upto.{local_run_upto}
use Rattle.sync_rule.specs.declared.runner.Runner.{Runner}
use Rattle.sync_laws.specs.Whole.{made_by}

-- a device that logs one line at each take and each tick, and does else what it did: the lines of its log are its events
abbrev pub with_one_line : {S : Type 0} → Reaction S → Reaction S
with_one_line r = record { state = r.state; sends = r.sends; lines = [] ∷ [] }

abbrev pub tallied : {S : Type 0} → Behaviour S → Behaviour S
tallied b = record { ports = b.ports; due = b.due; take = λ s t port body. with_one_line (b.take s t port body); tick = λ s t. with_one_line (b.tick s t) }

abbrev pub tallied_network : {S : Type 0} → Network S → Network S
tallied_network net = record { behaviour = tallied net.behaviour; starts = net.starts; links = net.links }

-- how many takes and ticks a component has before the end in the global run, and up to a position in its own run
abbrev pub events_in_run : {S : Type 0} → Network S → ℕ → ℕ → ℕ
events_in_run net end c = length (log_of c (global_until (tallied_network net) end))

abbrev pub events_upto : {S : Type 0} → Network S → (End → List Msg) → ℕ → S → Position → ℕ → ℕ
events_upto net received c s position end = length (local_run_upto (tallied_network net) received c s position end).log

-- how many of some messages are null messages
abbrev pub syncs_among : List Msg → ℕ
syncs_among messages = count_by (λ (m : Msg). is_sync m.body) messages

-- the sum of a number for each element and its place
unfoldable pub total : {X : Type 0} → (ℕ → X → ℕ) → List X → ℕ
total f [] = 0
total f (x ∷ xs) = f 0 x + total (λ i. f (suc i)) xs

-- the takes and ticks of a component that are to come
abbrev pub events_to_come : {S : Type 0} → Network S → ℕ → (ℕ → Position) → (End → List Msg) → ℕ → S → ℕ
events_to_come net end positions received c s = events_in_run net end c - events_upto net received c s (positions c) end

-- of a channel, whose messages in the global run are told: the null messages that are to be made, the messages that are to be
-- sent, and those that are to be received
abbrev pub syncs_to_come : List Msg → List Msg → ℕ
syncs_to_come whole made = syncs_among whole - syncs_among made

abbrev pub as_many_to_come : List Msg → List Msg → ℕ
as_many_to_come whole so_far = length whole - length so_far

abbrev pub messages_to_come : {S : Type 0} → Network S → ℕ → (End → List Msg) → (End → List Msg) → List (Runner S) → Channel → ℕ
messages_to_come net end received sent runners ch = syncs_to_come (messages_of net end ch) (made_by sent runners ch.from) + as_many_to_come (messages_of net end ch) (sent ch.from) + as_many_to_come (messages_of net end ch) (received ch.to)

-- what is left: each event, each send and each receipt takes one step
abbrev pub left : {S : Type 0} → Network S → ℕ → (ℕ → Position) → (End → List Msg) → (End → List Msg) → List (Runner S) → ℕ
left net end positions received sent runners = total (events_to_come net end positions received) net.starts + total (λ k ch. messages_to_come net end received sent runners ch) (channels net.links)
