-- The systems of 1 to 30 stations are topologies.
use Rattle.std.proofs.Common.{◌≡◌, ◌≢◌, lit≤, inl, inr, ℕ, ◌+◌, ◌<◌, ◌≤◌, ◌^◌, Bool, true, false, ◌&&◌, List, [], ◌∷◌, map, length, suc, zero, Option, Some, refl, sym, add-zero, ap, ap₂, subst, ◌∙◌, arith, decimal, is_some, option_map, All}
use Rattle.std.specs.Prelude.{nat_le, slice_get}
use Rattle.std.specs.List.{list_all, range_with_len}
use Rattle.std.proofs.lemmas.Bool.Decides.{nat_tests, Decides-eqb, eqb_tells}
use Rattle.cs_base.specs.Names.{is_name}
use Rattle.cs_base.specs.Plan.{uses_of, kind_at, partner, first_end, second_end, Joins, InOneLink, IsPlan}
use Rattle.cs_base.specs.declared.link.Link.{Link}
use Rattle.cs_base.specs.declared.port_kind.PortKind.{PortKind}
use Rattle.cs_base.specs.declared.port_kind.PortKind.TheVariants.{Eth, PcieDev, PcieHost, MemDev, MemHost}
use Rattle.topology_file.specs.declared.config.Config.{Config}
use Rattle.topology_file.specs.declared.config.Config.TheVariants as config
use Rattle.topology_file.specs.declared.component.Component.{Component}
use Rattle.topology_file.specs.Ports.{ports_of, kinds_of, names_of, are_new, IsTopology}
use Rattle.load_gen.specs.Load.{Member, setup_of, member_of, members, links}
use Rattle.load_gen.proofs.Checked.{ports, kinds, names, are_used, all_used, is_limited, they_join, is_joined, used, joined, sized, new, host_named, adapter_named, switch_named, all_are_used, all_are_joined, all_are_sized, all_are_new, hosts_are_named, adapters_are_named, switches_are_named}

-- ---- tests that hold of both

pub both_left : (a b : Bool) → (a && b) ≡ true → a ≡ true
both_left true b h = refl
both_left false b h = h

pub both_right : (a b : Bool) → (a && b) ≡ true → b ≡ true
both_right true b h = h
both_right false b h = cc

pub le_from : (m n : ℕ) → nat_le m n ≡ true → m ≤ n
le_from m n h = grind (arith, nat_tests)

-- a test that holds of some numbers in a row holds of each
pub each : (test : ℕ → Bool) (a count n : ℕ) → list_all test (range_with_len a count) ≡ true → a ≤ n → n < a + count → test n ≡ true
each test a zero n all from below = absurd (omega arith)
each test a (suc count) n all from below =
    elim (eqb_tells a n) [
      | inl same ↦ subst (λ i. test i ≡ true) same.1 (both_left (test a) _ all)
      | inr differ ↦ let apart : a ≢ n = differ.1 in each test (a + 1) count n (both_right (test a) _ all) (omega arith) (omega arith)
    ]

-- ---- each port is in one link

one_on : (a b : ℕ) → a + 1 + b ≡ a + suc b
one_on a b = omega arith

module _ (ls : List Link) where
  port_used : (c p : ℕ) (ks : List PortKind) → are_used ls c p ks ≡ true → (i : ℕ) → is_some (slice_get ks i) ≡ true → uses_of ls (record { component = c; port = p + i }) ≡ 1
  port_used c p [] all i there = cc
  port_used c p (k ∷ ks) all zero there =
      let here = (Decides-eqb (uses_of ls (record { component = c; port = p })) 1).0 (both_left _ _ all) in
      let same : p ≡ p + 0 = sym (add-zero p) in
      subst (λ q. uses_of ls (record { component = c; port = q }) ≡ 1) same here
  port_used c p (k ∷ ks) all (suc i) there =
      subst (λ q. uses_of ls (record { component = c; port = q }) ≡ 1) (one_on p i) (port_used c (p + 1) ks (both_right _ _ all) i there)

  component_used : (c : ℕ) (kss : List (List PortKind)) → all_used ls c kss ≡ true → (j i : ℕ) → is_some (kind_at kss (record { component = j; port = i })) ≡ true → uses_of ls (record { component = c + j; port = i }) ≡ 1
  component_used c [] all j i there = cc
  component_used c (ks ∷ kss) all zero i there =
      let here = port_used c 0 ks (both_left _ _ all) i there in
      let first : c ≡ c + 0 = sym (add-zero c) in
      let same : 0 + i ≡ i = omega arith in
      subst (λ d. uses_of ls (record { component = d; port = i }) ≡ 1) first (subst (λ q. uses_of ls (record { component = c; port = q }) ≡ 1) same here)
  component_used c (ks ∷ kss) all (suc j) i there =
      subst (λ d. uses_of ls (record { component = d; port = i }) ≡ 1) (one_on c j) (component_used (c + 1) kss (both_right _ _ all) j i there)

  in_one_link : (kss : List (List PortKind)) → all_used ls 0 kss ≡ true → InOneLink kss ls
  in_one_link kss all = λ end there.
      let here = component_used 0 kss all end.component end.port there in
      let same : 0 + end.component ≡ end.component = omega arith in
      subst (λ d. uses_of ls (record { component = d; port = end.port }) ≡ 1) same here

-- ---- links join

they_are_partners : (a b : Option PortKind) → they_join a b ≡ true → (is_some a ≡ true) × (b ≡ option_map partner a)
they_are_partners (Some Eth) (Some Eth) h = (refl, refl)
they_are_partners (Some PcieDev) (Some PcieHost) h = (refl, refl)
they_are_partners (Some PcieHost) (Some PcieDev) h = (refl, refl)
they_are_partners (Some MemDev) (Some MemHost) h = (refl, refl)
they_are_partners (Some MemHost) (Some MemDev) h = (refl, refl)
they_are_partners _ _ h = cc

link_joins : (kss : List (List PortKind)) (l : Link) → is_joined kss l ≡ true → Joins kss l
link_joins kss l h =
    let limits = both_left (is_limited l) _ h in
    let rest = both_right (nat_le l.latency (10 ^ 12)) _ limits in
    let rest2 = both_right (nat_le 1 l.interval) _ rest in
    let rest3 = both_right (nat_le l.interval l.latency) _ rest2 in
    let partners = they_are_partners (kind_at kss (first_end l)) (kind_at kss (second_end l)) (both_right (is_limited l) _ h) in
    record {
      limits = record {
        short_latency = le_from _ _ (both_left (nat_le l.latency (10 ^ 12)) _ limits);
        some_interval = le_from _ _ (both_left (nat_le 1 l.interval) _ rest);
        interval_in_latency = le_from _ _ (both_left (nat_le l.interval l.latency) _ rest2);
        some_slot = le_from _ _ (both_left (nat_le 1 l.slots) _ rest3);
        few_slots = le_from _ _ (both_right (nat_le 1 l.slots) _ rest3);
      };
      ports = record { from_port = partners.0; to_partner = partners.1 };
    }

all_cons : {X : Type 0} (P : X → Type 0) (x : X) (xs : List X) → P x → All P xs → All P (x ∷ xs)
all_cons P x xs here more zero d within = here
all_cons P x xs here more (suc k) d within = more k d (omega arith)

-- what a test says of each element holds of all
all_from : {X : Type 0} (test : X → Bool) (P : X → Type 0) → ((x : X) → test x ≡ true → P x) → (xs : List X) → list_all test xs ≡ true → All P xs
all_from test P means [] all = λ k d within. absurd (omega arith)
all_from test P means (x ∷ xs) all = all_cons P x xs (means x (both_left (test x) _ all)) (all_from test P means xs (both_right (test x) _ all))

-- ---- a system

module _ (n : ℕ) (least : 1 ≤ n) (most : n ≤ 30) where
  pub plan : IsPlan 100000000 (kinds n) (links n)
  plan =
      let size = each sized 1 30 n all_are_sized least (omega arith) in
      let few = both_right (nat_le 1 (length (kinds n))) _ size in
      let rest = both_right (nat_le (length (kinds n)) 64) _ few in
      record {
        sized = record {
          some_time = lit≤ tt;
          short_time = lit≤ tt;
          some_component = le_from _ _ (both_left (nat_le 1 (length (kinds n))) _ size);
          few_components = le_from _ _ (both_left (nat_le (length (kinds n)) 64) _ few);
          few_ports = all_from (λ (ports : List PortKind). nat_le (length ports) 32) (λ (ports : List PortKind). length ports ≤ 32) (λ ports h. le_from _ _ h) (kinds n) (both_left (list_all (λ (ports : List PortKind). nat_le (length ports) 32) (kinds n)) _ rest);
          few_links = le_from _ _ (both_right (list_all (λ (ports : List PortKind). nat_le (length ports) 32) (kinds n)) _ rest);
        };
        links_join = all_from (is_joined (kinds n)) (Joins (kinds n)) (link_joins (kinds n)) (links n) (each joined 1 30 n all_are_joined least (omega arith));
        in_one_link = in_one_link (links n) (kinds n) (each used 1 30 n all_are_used least (omega arith));
      }

  pub names_differ : are_new [] (names n) ≡ true
  names_differ = each new 1 30 n all_are_new least (omega arith)

-- ---- components as members

ports_of-setup : (c : Config) → ports_of c ≡ ports (setup_of c)
ports_of-setup (config.Host c) = refl
ports_of-setup (config.Nic c) = refl
ports_of-setup (config.Switch c) = refl
ports_of-setup (config.Beacon c) = refl
ports_of-setup (config.Memory c) = refl

kinds_of-members : (cs : List Component) → kinds_of cs ≡ map (λ (m : Member). ports m.setup) (map member_of cs)
kinds_of-members [] = refl
kinds_of-members (c ∷ cs) = ap₂ (λ (p : List PortKind) (ps : List (List PortKind)). p ∷ ps) (ports_of-setup c.config) (kinds_of-members cs)

names_of-members : (cs : List Component) → names_of cs ≡ map (λ (m : Member). m.name) (map member_of cs)
names_of-members [] = refl
names_of-members (c ∷ cs) = ap (λ names. c.name ∷ names) (names_of-members cs)

module _ (n : ℕ) (cs : List Component) (are : map member_of cs ≡ members n) where
  pub kinds_are : kinds_of cs ≡ kinds n
  kinds_are = kinds_of-members cs ∙ ap (map (λ (m : Member). ports m.setup)) are

  pub names_are : names_of cs ≡ names n
  names_are = names_of-members cs ∙ ap (map (λ (m : Member). m.name)) are

-- components, kinds and links of a system
module _ (n : ℕ) (least : 1 ≤ n) (most : n ≤ 30) (cs : List Component) (ks : List (List PortKind)) (ls : List Link) (are : map member_of cs ≡ members n) (ks_are : ks ≡ kinds_of cs) (ls_are : ls ≡ links n) where
  pub is_plan : IsPlan 100000000 ks ls
  is_plan = subst (λ kinds. IsPlan 100000000 kinds ls) (sym (ks_are ∙ kinds_are n cs are)) (subst (λ links. IsPlan 100000000 (kinds n) links) (sym ls_are) (plan n least most))

  pub is_topology : IsTopology cs ks
  is_topology = record {
    names_differ = ap (are_new []) (names_are n cs are) ∙ names_differ n least most;
    kinds_of_ports = ks_are;
  }

-- ---- names

pub host_name : (i : ℕ) → i < 30 → is_name (104 ∷ decimal i) ≡ true
host_name i within = each host_named 0 30 i hosts_are_named (omega arith) (omega arith)

pub adapter_name : (i : ℕ) → i < 30 → is_name (110 ∷ decimal i) ≡ true
adapter_name i within = each adapter_named 0 30 i adapters_are_named (omega arith) (omega arith)

pub switch_name : (i : ℕ) → i < 2 → is_name (115 ∷ decimal i) ≡ true
switch_name i within = each switch_named 0 2 i switches_are_named (omega arith) (omega arith)
