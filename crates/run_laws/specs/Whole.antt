-- Runs and transcripts up to a position that are whole, since nothing is left before the end.
use Rattle.std.specs.Prelude.{ℕ, ◌≡◌, ◌≤◌, List}
use Rattle.cs_base.specs.declared.port_kind.PortKind.{PortKind}
use Rattle.sb_message.specs.declared.message.Msg.{Msg}
use Rattle.device_api.specs.Behaviour.{Behaviour}
use Rattle.device_api.specs.Channels.{Channel}
use Rattle.device_api.specs.World.{Run, Sent, sends_by}
use Rattle.device_api.specs.Local.{local_until}
use Rattle.device_api.specs.Transcript.{script, bound_of}
use Rattle.device_api.specs.Position.{Position, local_upto, script_upto}
use Rattle.run_laws.specs.Wired.{SendsEvents}
use Rattle.run_laws.specs.NextEvent.{AreInboxes, IsNothingLeft, local_script}

-- where nothing is left before the end, the run up to the position is the whole run
abbrev pub IsWholeRun : {S : Type 0} → Behaviour S → ℕ → (ℕ → List Msg) → S → Position → ℕ → Type 0
IsWholeRun b ports inputs s position end = (handled inbox : ℕ → List Msg) → AreInboxes position ports inputs handled inbox → IsNothingLeft b ports inbox (local_upto b ports inputs s position end).state end → local_upto b ports inputs s position end ≡ local_until b ports inputs s end

-- where the next null message isn't before the end, the transcript up to the position is the whole transcript
abbrev pub IsWholeScript : {S : Type 0} → Run S → Position → ℕ → PortKind → Channel → Type 0
IsWholeScript run position end kind ch = end ≤ (local_script kind ch run position end).sync_due → local_script kind ch run position end ≡ script kind ch (sends_by ch.from.port run.sent) end

abbrev pub AreWholeRuns : Type 0 → Type 0
AreWholeRuns S = (b : Behaviour S) (ports : ℕ) (inputs : ℕ → List Msg) (s : S) (position : Position) (end : ℕ) → IsWholeRun b ports inputs s position end

abbrev pub AreWholeScripts : Type 0 → Type 0
AreWholeScripts S = (b : Behaviour S) (ports : ℕ) (inputs : ℕ → List Msg) (s : S) (position : Position) (end : ℕ) (kind : PortKind) (ch : Channel) → SendsEvents b → IsWholeScript (local_upto b ports inputs s position end) position end kind ch

-- the next null message of a transcript isn't after its last timestamp
abbrev pub TimersAreWithin : Type 0
TimersAreWithin = (kind : PortKind) (ch : Channel) (sends : List Sent) (position : Position) (end : ℕ) → ch.interval ≤ ch.latency → (script_upto kind ch sends position end).sync_due ≤ bound_of (script_upto kind ch sends position end).messages
