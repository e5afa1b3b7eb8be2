-- Components that each run by themselves, and the messages that went between them.
use Rattle.std.specs.Prelude.{ℕ, ◌≡◌, ◌≤◌, List, ◌++◌, length}
use Rattle.cs_base.specs.declared.port_kind.PortKind.{PortKind}
use Rattle.cs_base.specs.Plan.{End}
use Rattle.sb_message.specs.declared.message.Msg.{Msg}
use Rattle.device_api.specs.Channels.{Channel}
use Rattle.device_api.specs.World.{Network, Run, sends_by}
use Rattle.device_api.specs.Local.{local_until}
use Rattle.device_api.specs.Transcript.{transcript, bodies, bound_of}
use Rattle.run_laws.specs.Wired.{IsChannel}

-- the first messages of a list
pub record IsPrefix {A : Type 0} (front whole : List A) : Type 0 where
  pub rest : List A
  pub whole_is : whole ≡ front ++ rest

-- what was received on a channel of what was sent on it, up to a time
pub record IsDelivered (sent received : List Msg) (end : ℕ) : Type 0 where
  -- nothing else was received, and in the order of sending
  pub in_transit : IsPrefix received sent
  -- the last message received is not before the end
  pub reached : end ≤ bound_of received

-- the run of the component by itself that starts in s, on what its ports received
abbrev pub local_run : {S : Type 0} → Network S → (End → List Msg) → ℕ → S → ℕ → Run S
local_run net received c s end = local_until net.behaviour (length (net.behaviour.ports s)) (λ port. bodies (received (record { component = c; port = port }))) s end

-- each component ran by itself on what it received; `sent` and `received` have the messages by the port that
-- sent or received them
pub record AreLocalRuns {S : Type 0} (net : Network S) (sent received : End → List Msg) (end : ℕ) : Type 0 where
  -- on each channel what was sent was received as far as the end
  pub delivered : (ch : Channel) (s : S) (kind : PortKind) → IsChannel net ch s kind → IsDelivered (sent ch.from) (received ch.to) end
  -- each port sent the transcript of its component's run on what that component received
  pub by_local_runs : (ch : Channel) (s : S) (kind : PortKind) → IsChannel net ch s kind → sent ch.from ≡ transcript kind ch (sends_by ch.from.port (local_run net received ch.from.component s end).sent) end
