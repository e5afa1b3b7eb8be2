-- What a run of a topology's devices leaves.
use Rattle.std.specs.Prelude.{◌≡◌, List, map}
use Rattle.device_api.specs.declared.counts.Outcome.{Outcome}
use Rattle.device_set.specs.declared.any_device.AnyDevice.{AnyDevice}
use Rattle.device_set.specs.AnyKind.{any_device}
use Rattle.global_model.specs.Runs.{HasLogsOf, HasCountsOf}
use Rattle.topology_file.specs.declared.topology.Topology.{Topology}

-- it is what the global run of these devices leaves
pub record IsOutcomeOf (t : Topology) (devices : List AnyDevice) (outcome : Outcome) : Type 0 where
  pub matches : map any_device.ports devices ≡ t.wiring.kinds
  pub logs : HasLogsOf any_device devices t.wiring outcome
  pub counts : HasCountsOf any_device devices t.wiring outcome
