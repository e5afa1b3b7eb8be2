-- What runners on local clocks have to do with the global run.
use Rattle.std.specs.Prelude.{ℕ, ◌≡◌, List, slice_get, Some}
use Rattle.cs_base.specs.declared.port_kind.PortKind.{PortKind}
use Rattle.cs_base.specs.Plan.{End}
use Rattle.sb_message.specs.declared.message.Msg.{Msg}
use Rattle.device_api.specs.Channels.{Channel, channels}
use Rattle.device_api.specs.Counts.{count_of}
use Rattle.device_api.specs.Transcript.{transcript}
use Rattle.device_api.specs.World.{Network, global_until, log_of, sends_on}
use Rattle.run_laws.specs.LocalRuns.{IsPrefix}
use Rattle.run_laws.specs.Wired.{IsChannel}
use Rattle.sync_rule.specs.declared.runner.Runner.{Runner}
use Rattle.sync_rule.specs.Ports.{Out}

-- the transcript of what the global run sends on a channel
abbrev pub global_transcript : {V : Type 0} → Network V → ℕ → PortKind → Channel → List Msg
global_transcript net end kind ch = transcript kind ch (sends_on ch (global_until net end)) end

-- what was logged and sent begins what is logged and sent in the global run, and on each channel the first part of what was
-- sent was received
pub record BeginsGlobalRun {V : Type 0} (net : Network V) (end : ℕ) (received sent : End → List Msg) (runners : List (Runner V)) : Type 0 where
  pub logs : (c : ℕ) (start : V) (r : Runner V) → slice_get net.starts c ≡ Some start → slice_get runners c ≡ Some r → IsPrefix r.log (log_of c (global_until net end))
  pub transcripts : (ch : Channel) (start : V) (kind : PortKind) → IsChannel net ch start kind → IsPrefix (sent ch.from) (global_transcript net end kind ch)
  pub delivered : (k : ℕ) (ch : Channel) → slice_get (channels net.links) k ≡ Some ch → IsPrefix (received ch.to) (sent ch.from)

-- what was logged and sent is what is logged and sent in the global run, and each port has counted that
pub record IsGlobalRun {V : Type 0} (net : Network V) (end : ℕ) (sent : End → List Msg) (runners : List (Runner V)) : Type 0 where
  pub logs : (c : ℕ) (start : V) (r : Runner V) → slice_get net.starts c ≡ Some start → slice_get runners c ≡ Some r → r.log ≡ log_of c (global_until net end)
  pub transcripts : (ch : Channel) (start : V) (kind : PortKind) → IsChannel net ch start kind → sent ch.from ≡ global_transcript net end kind ch
  pub counts : (ch : Channel) (start : V) (kind : PortKind) → IsChannel net ch start kind → (r : Runner V) (o : Out) → slice_get runners ch.from.component ≡ Some r → slice_get r.outgoing ch.from.port ≡ Some o → o.count ≡ count_of (global_transcript net end kind ch)
