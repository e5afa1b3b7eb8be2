-- What goes on the channels in the global run.
use Rattle.std.specs.Prelude.{ℕ, List, [], map, Option, Some, None}
use Rattle.cs_base.specs.declared.port_kind.PortKind.{PortKind}
use Rattle.cs_base.specs.Plan.{kind_at}
use Rattle.sb_message.specs.declared.message.Msg.{Msg}
use Rattle.device_api.specs.declared.counts.Count.{Count}
use Rattle.device_api.specs.Channels.{Channel, channels}
use Rattle.device_api.specs.World.{Network, sends_on, global_until}
use Rattle.device_api.specs.Transcript.{transcript}
use Rattle.device_api.specs.Counts.{count_of}

-- the transcript of the global run's sends on a channel, whose sending port is of some kind
abbrev pub messages_by : {S : Type 0} → Network S → ℕ → Channel → Option PortKind → List Msg
messages_by net end ch None = []
messages_by net end ch (Some kind) = transcript kind ch (sends_on ch (global_until net end)) end

-- all messages of a channel in the moments before a time
abbrev pub messages_of : {S : Type 0} → Network S → ℕ → Channel → List Msg
messages_of net end ch = messages_by net end ch (kind_at (map net.behaviour.ports net.starts) ch.from)

-- how many messages of each sort go on each channel, by the channels' numbers
abbrev pub counts_of : {S : Type 0} → Network S → ℕ → List Count
counts_of net end = map (λ ch. count_of (messages_of net end ch)) (channels net.links)
