-- Beacons as parts: what is kept of one, and the beacon of a configuration that parts make.
use Rattle.std.specs.Prelude.{ℕ, ◌≡◌, ◌≤◌, ◌<◌, ◌-◌}
use Rattle.cs_base.specs.declared.beacon_config.BeaconConfig.{BeaconConfig}
use Rattle.device_api.specs.declared.beacon.BeaconParts.{BeaconParts}
use Rattle.device_api.specs.Behaviour.{IsNotPast}
use Rattle.device_api.specs.Beacon.{BeaconState, started, time_of, beacon_due}

-- the parts of a beacon
abbrev pub parts_of : BeaconState → BeaconParts
parts_of s = record { sent = s.sent }

-- a beacon of a configuration that has sent as many frames as the parts say
abbrev pub resumed : BeaconConfig → BeaconParts → BeaconState
resumed config parts = record (started config) { sent = parts.sent }

-- the beacon was started with this configuration
abbrev pub IsOf : BeaconConfig → BeaconState → Type 0
IsOf config s = record s { sent = 0 } ≡ started config

-- a beacon may stand so before all events at `at`: it has sent no more frames than it has, the last one before
-- `at`, and the next one isn't due before `at`
pub record StandsBefore (at : ℕ) (s : BeaconState) : Type 0 where
  pub no_more : s.sent ≤ s.count
  pub last_before : 1 ≤ s.sent → time_of s (s.sent - 1) < at
  pub next_not_past : IsNotPast at (beacon_due s)

-- with the configuration that the beacon was started with, its parts are such as it has before all events at `at`
abbrev pub ArePartsValid : (at : ℕ) → BeaconState → Type 0
ArePartsValid at s = (config : BeaconConfig) → IsOf config s → StandsBefore at (resumed config (parts_of s))

-- with that configuration its parts make it again
abbrev pub MakeItAgain : BeaconState → Type 0
MakeItAgain s = (config : BeaconConfig) → IsOf config s → resumed config (parts_of s) ≡ s
