-- The run of one component by itself, on given timed bodies at each of its ports.
use Rattle.std.specs.Prelude.{ℕ, zero, suc, List}
use Rattle.sb_message.specs.declared.message.Msg.{Msg}
use Rattle.device_api.specs.Behaviour.{Behaviour}
use Rattle.device_api.specs.World.{Run, start_run, after, react, arrivals}

-- all moments before a time of a component with so many ports; `inputs` has what comes in at each port
unfoldable pub local_until : {S : Type 0} → Behaviour S → ℕ → (ℕ → List Msg) → S → ℕ → Run S
local_until b ports inputs s zero = start_run s
local_until b ports inputs s (suc t) = let so_far = local_until b ports inputs s t in after t so_far (react b t (arrivals t inputs ports) so_far.state)
