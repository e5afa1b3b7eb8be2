-- The channels that go by proxy, with what they join.
use Rattle.std.specs.Prelude.{ℕ, ◌+◌, ◌++◌, ◌∷◌, [], List}
use Rattle.cs_base.specs.declared.link.Link.{Link}
use Rattle.cs_base.specs.declared.port_kind.PortKind.{PortKind}
use Rattle.cs_base.specs.Plan.{End, first_end, second_end, kind_at}
use Rattle.mesh_core.specs.Start.{kind_or}
use Rattle.proxy_crew.specs.declared.route.Route.{Route}
use Rattle.run_threads.specs.Proxied.{only_proxied}

-- a channel with this number from a port to a port
abbrev pub route_along : List (List PortKind) → ℕ → End → End → Route
route_along kinds k from to = record {
  channel = k;
  kind = kind_or (kind_at kinds to);
  sender = from.component;
  receiver = to.component;
}

-- those of links, of which the first channel has this number
unfoldable pub routes_from : List (List PortKind) → ℕ → List Link → List Route
routes_from kinds k [] = []
routes_from kinds k (link ∷ more) = only_proxied link.via
    (route_along kinds k (first_end link) (second_end link)
    ∷ route_along kinds (k + 1) (second_end link) (first_end link) ∷ [])
    ++ routes_from kinds (k + 2) more

abbrev pub routes_of : List (List PortKind) → List Link → List Route
routes_of kinds links = routes_from kinds 0 links
