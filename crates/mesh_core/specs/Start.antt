-- A mesh at its start.
use Rattle.std.specs.Prelude.{ℕ, suc, List, [], ◌∷◌, map, Option, Some, None, option_map}
use Rattle.cs_base.specs.declared.link.Link.{Link}
use Rattle.cs_base.specs.declared.port_kind.PortKind.{PortKind}
use Rattle.cs_base.specs.declared.port_kind.PortKind.TheVariants.{Eth}
use Rattle.cs_base.specs.Plan.{End, first_end, second_end, kind_at}
use Rattle.device_api.specs.Behaviour.{Behaviour}
use Rattle.device_api.specs.Channels.{Channel, channels}
use Rattle.device_api.specs.World.{out_of}
use Rattle.port_queue.specs.Plain.{Plain}
use Rattle.sync_rule.specs.declared.port_plan.PortPlan.{PortPlan}
use Rattle.sync_rule.specs.declared.runner.Runner.{Runner}
use Rattle.sync_rule.specs.Steps.{started}
use Rattle.mesh_core.specs.declared.build.Times.{Times}
use Rattle.mesh_channel.specs.declared.carrier.Carrier.{Carrier}
use Rattle.mesh_channel.specs.Carrier.{unused}
use Rattle.mesh_core.specs.State.{State, way_of}

-- what is made of each element of a list and its number, the first one having number n
unfoldable pub numbered : {X Y : Type 0} → (ℕ → X → Y) → ℕ → List X → List Y
numbered f n [] = []
numbered f n (x ∷ xs) = f n x ∷ numbered f (suc n) xs

-- two things that are made of each element of a list
unfoldable pub two_each : {X Y : Type 0} → (X → Y) → (X → Y) → List X → List Y
two_each f g [] = []
two_each f g (x ∷ xs) = f x ∷ (g x ∷ two_each f g xs)

-- the times of the channel that leads out of a port; each port of a wiring has one
abbrev pub times_along : Channel → Times
times_along ch = record { latency = ch.latency; interval = ch.interval }

abbrev pub times_from : List Link → End → Option Times
times_from links end = option_map times_along (out_of (channels links) end)

abbrev pub planned : PortKind → Option Times → PortPlan
planned kind None = record { kind = kind; latency = 0; interval = 0 }
planned kind (Some times) = record { kind = kind; latency = times.latency; interval = times.interval }

abbrev pub plan_at : List Link → ℕ → ℕ → PortKind → PortPlan
plan_at links c p kind = planned kind (times_from links (record { component = c; port = p }))

abbrev pub plans_of : List Link → ℕ → List PortKind → List PortPlan
plans_of links c kinds = numbered (plan_at links c) 0 kinds

-- a component's runner
abbrev pub first_runner : {V : Type 0} → Behaviour V → List Link → ℕ → ℕ → V → Runner V
first_runner b links end c device = started device (plans_of links c (b.ports device)) end

abbrev pub first_runners : {V : Type 0} → Behaviour V → List Link → ℕ → List V → List (Runner V)
first_runners b links end devices = numbered (first_runner b links end) 0 devices

-- the kind of a port, which is there in a wiring
abbrev pub kind_or : Option PortKind → PortKind
kind_or None = Eth
kind_or (Some kind) = kind

-- the queue of a channel to a port, where no link goes by proxy
abbrev pub queue_to : List (List PortKind) → ℕ → End → Plain
queue_to kinds slots to = record { kind = kind_or (kind_at kinds to); slots = slots; held = [] }

-- the queues of the two channels of each link
abbrev pub queues_of : List (List PortKind) → List Link → List Plain
queues_of kinds links = two_each (λ link. queue_to kinds link.slots (second_end link)) (λ link. queue_to kinds link.slots (first_end link)) links

-- what carries a channel of a link to a port
abbrev pub carrier_to : List (List PortKind) → Link → End → Carrier
carrier_to kinds link to = unused link.via (kind_or (kind_at kinds to)) link.slots

-- what carries the two channels of each link
abbrev pub carriers_of : List (List PortKind) → List Link → List Carrier
carriers_of kinds links = two_each (λ link. carrier_to kinds link (second_end link)) (λ link. carrier_to kinds link (first_end link)) links

-- the mesh of devices that are joined by links
abbrev pub first_mesh : {V : Type 0} → Behaviour V → List V → List Link → ℕ → State V
first_mesh b devices links end = record { runners = first_runners b links end devices; ways = map way_of (channels links); carriers = carriers_of (map b.ports devices) links }
