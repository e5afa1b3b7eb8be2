-- Components that have each come to some position, and the messages that they have made so far.
use Rattle.std.specs.Prelude.{ℕ, ◌≡◌, false, List, length}
use Rattle.cs_base.specs.declared.port_kind.PortKind.{PortKind}
use Rattle.cs_base.specs.Plan.{End}
use Rattle.sb_message.specs.declared.message.Msg.{Msg}
use Rattle.device_api.specs.Channels.{Channel}
use Rattle.device_api.specs.World.{Network, Run, sends_by}
use Rattle.device_api.specs.Transcript.{bodies}
use Rattle.device_api.specs.Position.{Position, is_reached, local_upto, transcript_upto, next_key}
use Rattle.run_laws.specs.Wired.{IsChannel}
use Rattle.run_laws.specs.LocalRuns.{IsPrefix}

-- the run of the component by itself that starts in s up to a position, on what its ports received
abbrev pub local_run_upto : {S : Type 0} → Network S → (End → List Msg) → ℕ → S → Position → ℕ → Run S
local_run_upto net received c s position end = local_upto net.behaviour (length (net.behaviour.ports s)) (λ port. bodies (received (record { component = c; port = port }))) s position end

-- each component ran by itself up to its position on what it received so far; `made` has what each port made so
-- far, whether or not it left the component, and `received` what each port received of it
pub record AreLocalRunsUpto {S : Type 0} (net : Network S) (position : ℕ → Position) (made received : End → List Msg) (end : ℕ) : Type 0 where
  -- what was received on a channel is the first part of what was made for it
  pub in_transit : (ch : Channel) (s : S) (kind : PortKind) → IsChannel net ch s kind → IsPrefix (received ch.to) (made ch.from)
  -- no message can still come in before a position: the least key that it could have was not reached
  pub nothing_missed : (ch : Channel) (s : S) (kind : PortKind) → IsChannel net ch s kind → is_reached (position ch.to.component) (next_key ch (received ch.to)) ≡ false
  -- each port made the transcript of its component's run up to its position, on what that component received
  pub by_local_runs : (ch : Channel) (s : S) (kind : PortKind) → IsChannel net ch s kind → made ch.from ≡ transcript_upto kind ch (sends_by ch.from.port (local_run_upto net received ch.from.component s (position ch.from.component) end).sent) (position ch.from.component) end
