-- Where a mesh has come: its components, what carries its channels, and where those lead.
use Rattle.std.specs.Prelude.{List}
use Rattle.cs_base.specs.Plan.{End}
use Rattle.device_api.specs.Channels.{Channel}
use Rattle.mesh_channel.specs.declared.carrier.Carrier.{Carrier}
use Rattle.sync_rule.specs.declared.runner.Runner.{Runner}
use Rattle.mesh_core.specs.declared.way.Seat.{Seat}
use Rattle.mesh_core.specs.declared.way.Way.{Way}

-- a port of a component
abbrev pub seat_of : End → Seat
seat_of end = record { component = end.component; port = end.port }

-- from which port a channel leads to which
abbrev pub way_of : Channel → Way
way_of ch = record { from = seat_of ch.from; to = seat_of ch.to }

-- the runners of all components, and by the numbers of channels where each leads and what carries it between its ends
pub record State (V : Type 0) : Type 0 where
  pub runners : List (Runner V)
  pub ways : List Way
  pub carriers : List Carrier
