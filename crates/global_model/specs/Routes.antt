-- Where what a port sends arrives, how long it travels, and along which channel.
use Rattle.std.specs.Prelude.{ℕ, suc, ◌≡◌, ◌<◌, if◌then◌else◌, List, [], ◌∷◌, slice_get, Option, Some, IsSome, option_map}
use Rattle.cs_base.specs.declared.link.Link.{Link}
use Rattle.cs_base.specs.declared.port_kind.PortKind.{PortKind}
use Rattle.cs_base.specs.Plan.{End, same_end, kind_at}
use Rattle.device_api.specs.Channels.{Channel, channels}
use Rattle.device_api.specs.World.{out_of}
use Rattle.global_model.specs.declared.routes.Route.{Route}
use Rattle.global_model.specs.Inboxes.{port_of, end_at}

-- along channel k
abbrev pub route_along : ℕ → Channel → Route
route_along k ch = record { component = ch.to.component; port = ch.to.port; latency = ch.latency; channel = k }

-- the number of the first channel that leads out of a port
abbrev pub number_out : List Channel → End → ℕ
number_out [] e = 0
number_out (ch ∷ more) e = if same_end ch.from e then 0 else suc (number_out more e)

-- along the channel that leads out of a port; None where there is none
abbrev pub route_from : List Link → End → Option Route
route_from links e = option_map (route_along (number_out (channels links) e)) (out_of (channels links) e)

-- each port has its route
abbrev pub AreRoutes : List (List PortKind) → List Link → List (List (Option Route)) → Type 0
AreRoutes kinds links routes = (e : End) → IsSome (kind_at kinds e) → port_of routes e ≡ Some (route_from links e)

-- each of the first so many ports of component c has its route
abbrev pub AreRoutesOf : ℕ → ℕ → List Link → List (Option Route) → Type 0
AreRoutesOf c ports links routes = (p : ℕ) → p < ports → slice_get routes p ≡ Some (route_from links (end_at c p))
