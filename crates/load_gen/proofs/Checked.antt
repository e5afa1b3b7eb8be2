-- What makes a system a topology, as tests of its number of stations, and each of the thirty systems passes them.
use Rattle.std.proofs.Common.{◌≡◌, ℕ, ◌+◌, ◌^◌, Bool, true, false, ◌&&◌, eqb, List, [], ◌∷◌, ◌++◌, map, length, Option, Some, None, refl, replicate, decimal}
use Rattle.std.specs.Prelude.{nat_le}
use Rattle.std.specs.List.{list_all, range_with_len}
use Rattle.std.specs.Fmt.{digits}
use Rattle.cs_base.specs.Names.{is_name}
use Rattle.cs_base.specs.Plan.{uses_of, kind_at, joins, first_end, second_end}
use Rattle.cs_base.specs.declared.link.Link.{Link}
use Rattle.cs_base.specs.declared.port_kind.PortKind.{PortKind}
use Rattle.cs_base.specs.declared.port_kind.PortKind.TheVariants.{Eth, PcieDev, PcieHost, MemDev, MemHost}
use Rattle.topology_file.specs.Ports.{are_new}
use Rattle.load_gen.specs.Load.{Setup, Host, Nic, Switch, Beacon, Memory, Member, members, links}

abbrev pub ports : Setup → List PortKind
ports (Host ram cycle pcie mem hart image) = replicate pcie PcieHost ++ replicate mem MemHost
ports (Nic mac) = PcieDev ∷ Eth ∷ []
ports (Switch count age) = replicate count Eth
ports Beacon = Eth ∷ []
ports Memory = MemDev ∷ []

abbrev pub kinds : ℕ → List (List PortKind)
kinds n = map (λ (m : Member). ports m.setup) (members n)

abbrev pub names : ℕ → List (List ℕ)
names n = map (λ (m : Member). m.name) (members n)

-- ---- the tests

-- each port of a component from p on is in one link
abbrev pub are_used : List Link → ℕ → ℕ → List PortKind → Bool
are_used ls c p [] = true
are_used ls c p (kind ∷ more) = eqb (uses_of ls (record { component = c; port = p })) 1 && are_used ls c (p + 1) more

-- so are those of all components from c on
abbrev pub all_used : List Link → ℕ → List (List PortKind) → Bool
all_used ls c [] = true
all_used ls c (ports ∷ more) = are_used ls c 0 ports && all_used ls (c + 1) more

abbrev pub is_limited : Link → Bool
is_limited l = nat_le l.latency (10 ^ 12) && (nat_le 1 l.interval && (nat_le l.interval l.latency && (nat_le 1 l.slots && nat_le l.slots 1024)))

abbrev pub they_join : Option PortKind → Option PortKind → Bool
they_join (Some a) (Some b) = joins a b
they_join (Some a) None = false
they_join None _ = false

abbrev pub is_joined : List (List PortKind) → Link → Bool
is_joined ks l = is_limited l && they_join (kind_at ks (first_end l)) (kind_at ks (second_end l))

abbrev pub is_sized : List (List PortKind) → List Link → Bool
is_sized ks ls = nat_le 1 (length ks) && (nat_le (length ks) 64 && (list_all (λ (ports : List PortKind). nat_le (length ports) 32) ks && nat_le (length ls) 1024))

abbrev pub used : ℕ → Bool
used n = all_used (links n) 0 (kinds n)

abbrev pub joined : ℕ → Bool
joined n = list_all (is_joined (kinds n)) (links n)

abbrev pub sized : ℕ → Bool
sized n = is_sized (kinds n) (links n)

abbrev pub new : ℕ → Bool
new n = are_new [] (names n)

abbrev pub host_named : ℕ → Bool
host_named i = is_name (104 ∷ decimal i)

abbrev pub adapter_named : ℕ → Bool
adapter_named i = is_name (110 ∷ decimal i)

abbrev pub switch_named : ℕ → Bool
switch_named i = is_name (115 ∷ decimal i)

-- ---- thirty times

pub all_are_used : list_all used (range_with_len 1 30) ≡ true
all_are_used = refl

pub all_are_joined : list_all joined (range_with_len 1 30) ≡ true
all_are_joined = refl

pub all_are_sized : list_all sized (range_with_len 1 30) ≡ true
all_are_sized = refl

pub all_are_new : list_all new (range_with_len 1 30) ≡ true
unfolding digits
all_are_new = refl

pub hosts_are_named : list_all host_named (range_with_len 0 30) ≡ true
unfolding digits
hosts_are_named = refl

pub adapters_are_named : list_all adapter_named (range_with_len 0 30) ≡ true
unfolding digits
adapters_are_named = refl

pub switches_are_named : list_all switch_named (range_with_len 0 2) ≡ true
unfolding digits
switches_are_named = refl
