-- What a mesh leaves: the logs of its components, and how many messages were made for each channel.
use Rattle.std.specs.Prelude.{ℕ, ◌≡◌, ◌≤◌, List, [], map, Option, Some, None, slice_get, vec_capacity}
use Rattle.device_api.specs.declared.counts.Count.{Count}
use Rattle.device_api.specs.declared.logs.Line.{Line}
use Rattle.sync_rule.specs.declared.runner.Runner.{Runner}
use Rattle.sync_rule.specs.Ports.{Out}
use Rattle.mesh_core.specs.declared.outcome.Room.{Room}
use Rattle.mesh_core.specs.declared.way.Seat.{Seat}
use Rattle.mesh_core.specs.declared.way.Way.{Way}
use Rattle.mesh_core.specs.State.{State}

-- how many messages a component has made for each of its ports
abbrev pub counts_by_port : {V : Type 0} → Runner V → List Count
counts_by_port r = map (λ (o : Out). o.count) r.outgoing

-- of lists by component and port, the count of one port; each port that sends on a channel has one
abbrev pub count_or_none : Option Count → Count
count_or_none None = record { syncs = 0; sends = 0 }
count_or_none (Some count) = count

abbrev pub count_among : Option (List Count) → ℕ → Count
count_among None port = count_or_none None
count_among (Some counts) port = count_or_none (slice_get counts port)

abbrev pub count_at : List (List Count) → Seat → Count
count_at by_port seat = count_among (slice_get by_port seat.component) seat.port

-- by channel, the counts of the ports out of which they lead
abbrev pub counts_along : List Way → List (List Count) → List Count
counts_along ways by_port = map (λ (way : Way). count_at by_port way.from) ways

-- the logs of all components of a mesh, and the counts of its channels, by their numbers
abbrev pub logs_left : {V : Type 0} → State V → List (List Line)
logs_left mesh = map (λ r. r.log) mesh.runners

abbrev pub counts_left : {V : Type 0} → State V → List Count
counts_left mesh = counts_along mesh.ways (map counts_by_port mesh.runners)

-- lists with room for what so many components and channels leave, and nothing in them
pub record IsRoomFor (components channels : ℕ) (room : Room) : Type 0 where
  pub no_logs : room.logs.items ≡ []
  pub no_counts_by_port : room.by_port.items ≡ []
  pub no_counts : room.counts.items ≡ []
  pub for_logs : components ≤ vec_capacity room.logs
  pub for_counts_by_port : components ≤ vec_capacity room.by_port
  pub for_counts : channels ≤ vec_capacity room.counts
