-- The messages that would go between components in the global run, if each arrived.
use Rattle.std.specs.Prelude.{ℕ, List, [], find, Option, Some, None}
use Rattle.cs_base.specs.Plan.{End, same_end}
use Rattle.sb_message.specs.declared.message.Msg.{Msg}
use Rattle.device_api.specs.Channels.{Channel, channels}
use Rattle.device_api.specs.World.{Network, out_of}
use Rattle.device_api.specs.GlobalCounts.{messages_of}

-- the channel that leads into a port
abbrev pub into : List Channel → End → Option Channel
into chs end = find (λ ch. same_end ch.to end) chs

abbrev pub messages_on : {S : Type 0} → Network S → ℕ → Option Channel → List Msg
messages_on net end None = []
messages_on net end (Some ch) = messages_of net end ch

-- what a port sends, and what it receives
abbrev pub global_sent : {S : Type 0} → Network S → ℕ → End → List Msg
global_sent net end port = messages_on net end (out_of (channels net.links) port)

abbrev pub global_received : {S : Type 0} → Network S → ℕ → End → List Msg
global_received net end port = messages_on net end (into (channels net.links) port)
