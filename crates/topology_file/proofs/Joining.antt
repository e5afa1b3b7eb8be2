-- Links without a fault join ports of partners, each port once at most.
use Rattle.std.proofs.Common.{◌≡◌, ℕ, ◌+◌, ◌≤◌, Bool, true, false, not, cond, ◌&&◌, nat_le, List, [], ◌∷◌, ◌++◌, map, Option, Some, None, refl, ap, sym, ◌∙◌, subst, arith}
use Rattle.std.specs.Prelude.{is_some, option_map, ◌==◌}
use Rattle.std.specs.Option.{option_or}
use Rattle.std.specs.List.{AllByRecursion}
use Rattle.std.proofs.lemmas.Bool.{and_parts, false≢true}
use Rattle.std.proofs.lemmas.Bool.Decides.{nat_tests}
use Rattle.std.proofs.lemmas.List.Sums.{sum_by_push}
use Rattle.std.proofs.Common.{append_assoc, append-nil}
use Rattle.toml.specs.Data.{Data}
use Rattle.cs_base.specs.declared.link.Link.{Link}
use Rattle.cs_base.specs.declared.port_kind.PortKind.{PortKind}
use Rattle.cs_base.specs.declared.port_kind.PortKind.TheVariants.{Eth, PcieDev, PcieHost, MemDev, MemHost}
use Rattle.cs_base.specs.Plan.{End, same_end, first_end, second_end, uses_in, uses_of, kind_at, partner, joins as are_partners, Joins}
use Rattle.topology_file.specs.declared.reason.Entry.TheVariants as entry
use Rattle.topology_file.specs.declared.reason.TopoReason.TheVariants.{WrongType, KindsDoNotJoin, PortTwice, IntervalPastLatency}
use Rattle.topology_file.specs.Keys.{link_keys}
use Rattle.topology_file.specs.Faults.{own_fault, is_table}
use Rattle.topology_file.specs.Links.{link_of, link_fault, names_fault, join_fault, twice_fault, ports_join_fault, interval_fault, is_free}
use Rattle.topology_file.specs.Refusals.{at_entry, links_refusal}
use Rattle.topology_file.specs.Valid.{IsValidLink}
use Rattle.topology_file.proofs.Sound.{or_none, unless_none}
use Rattle.topology_file.proofs.Validity.{passed, valid_link}
use Rattle.topology_file.proofs.Answering.{at_entry_none}

partner_is : (a b : PortKind) → are_partners a b ≡ true → b ≡ partner a
partner_is Eth Eth holds = refl
partner_is PcieDev PcieHost holds = refl
partner_is PcieHost PcieDev holds = refl
partner_is MemDev MemHost holds = refl
partner_is MemHost MemDev holds = refl
partner_is a b holds = absurd (false≢true holds)

join_partners : (a b : Option PortKind) → ports_join_fault a b ≡ None → (is_some a ≡ true) × (b ≡ option_map partner a)
join_partners None b none = cc
join_partners (Some a) None none = cc
join_partners (Some a) (Some b) none = (refl, ap Some (partner_is a b (unless_none _ KindsDoNotJoin none)))

same_end_is : (x y : End) → same_end x y ≡ true → x ≡ y
same_end_is x y same =
    let (components, ports) = and_parts (x.component == y.component) (x.port == y.port) same in
    let p : x.component ≡ y.component = grind (arith, nat_tests) in
    let q : x.port ≡ y.port = grind (arith, nat_tests) in
    λ i. record { component = p i; port = q i }

-- the links so far: each joins partners, and no port is used twice
pub record AreOnce (kinds : List (List PortKind)) (links : List Link) : Type 0 where
  pub join : AllByRecursion (Joins kinds) links
  pub once : (end : End) → uses_of links end ≤ 1

all_push : {A : Type 0} (P : A → Type 0) (xs : List A) (x : A) → AllByRecursion P xs → P x → AllByRecursion P (xs ++ x ∷ [])
all_push P [] x all last = (last, tt)
all_push P (y ∷ ys) x all last = (all.0, all_push P ys x all.1 last)

once_more : (n : ℕ) (first second : Bool) → n ≤ 1 → (first ≡ true → n ≡ 0) → (second ≡ true → n ≡ 0) → (first ≡ true → second ≡ true → ⊥) → n + (cond first 1 0 + cond second 1 0) ≤ 1
once_more n true true few at_first at_second apart = absurd (apart refl refl)
once_more n true false few at_first at_second apart = omega (arith, at_first refl)
once_more n false true few at_first at_second apart = omega (arith, at_second refl)
once_more n false false few at_first at_second apart = omega arith

free_is : (links : List Link) (end : End) → is_free links end ≡ true → uses_of links end ≡ 0
free_is links end free = grind (arith, nat_tests)

not_both : (b : Bool) → not b ≡ true → b ≡ true → ⊥
not_both true holds both = false≢true holds
not_both false holds both = false≢true both

once_pushed : (links : List Link) (link : Link) → ((end : End) → uses_of links end ≤ 1) → twice_fault links link ≡ None → (end : End) → uses_of (links ++ link ∷ []) end ≤ 1
once_pushed links link once none end =
    let x = first_end link in
    let y = second_end link in
    let (both_free, apart) = and_parts (is_free links x && is_free links y) (not (same_end x y)) (unless_none _ PortTwice none) in
    let (x_free, y_free) = and_parts (is_free links x) (is_free links y) both_free in
    let At : ℕ → Type 0 = λ n. n ≤ 1 in
    let at_x : same_end end x ≡ true → uses_of links end ≡ 0 = λ same. ap (uses_of links) (same_end_is end x same) ∙ free_is links x x_free in
    let at_y : same_end end y ≡ true → uses_of links end ≡ 0 = λ same. ap (uses_of links) (same_end_is end y same) ∙ free_is links y y_free in
    let differ : same_end end x ≡ true → same_end end y ≡ true → ⊥ = λ to_x to_y. not_both (same_end x y) apart (ap (λ e. same_end e y) (sym (same_end_is end x to_x)) ∙ to_y) in
    subst At (sym (sum_by_push (λ link. uses_in link end) links link)) (once_more (uses_of links end) (same_end end x) (same_end end y) (once end) at_x at_y differ)

-- one more link without a fault
pub one_more_once : (names : List (List ℕ)) (kinds : List (List PortKind)) (links : List Link) (d : Data) → link_fault names kinds links d ≡ None → AreOnce kinds links → AreOnce kinds (links ++ link_of names d ∷ [])
one_more_once names kinds links d none once =
    let link = link_of names d in
    let faults = (passed (is_table d) (option_or (own_fault link_keys d) (option_or (names_fault names d) (join_fault kinds links link))) WrongType none).1 in
    let (own, ends) = or_none (own_fault link_keys d) (option_or (names_fault names d) (join_fault kinds links link)) faults in
    let (_, join_none) = or_none (names_fault names d) (join_fault kinds links link) ends in
    let (twice, rest) = or_none (twice_fault links link) (option_or (ports_join_fault (kind_at kinds (first_end link)) (kind_at kinds (second_end link))) (interval_fault link)) join_none in
    let (ports, interval) = or_none (ports_join_fault (kind_at kinds (first_end link)) (kind_at kinds (second_end link))) (interval_fault link) rest in
    let valid : IsValidLink d = valid_link d own in
    let short : nat_le link.interval link.latency ≡ true = unless_none _ IntervalPastLatency interval in
    let partners = join_partners (kind_at kinds (first_end link)) (kind_at kinds (second_end link)) ports in
    let joins : Joins kinds link = record {
      limits = record {
        short_latency = valid.short_latency;
        some_interval = valid.some_interval;
        interval_in_latency = grind (arith, nat_tests);
        some_slot = valid.some_slot;
        few_slots = valid.few_slots;
      };
      ports = record { from_port = partners.0; to_partner = partners.1 };
    } in
    record {
      join = all_push (Joins kinds) links link once.join joins;
      once = once_pushed links link once.once twice;
    }

-- all links of a document without a fault
pub all_once : (names : List (List ℕ)) (kinds : List (List PortKind)) (number : ℕ) (links : List Link) (ds : List Data) → links_refusal names kinds number links ds ≡ None → AreOnce kinds links → AreOnce kinds (links ++ map (link_of names) ds)
all_once names kinds number links [] none once = rw append-nil once
all_once names kinds number links (d ∷ ds) none once =
    let link = link_of names d in
    let (here, rest) = or_none (at_entry (entry.Link number) (link_fault names kinds links d)) (links_refusal names kinds (number + 1) (links ++ link ∷ []) ds) none in
    let pushed = one_more_once names kinds links d (at_entry_none (entry.Link number) _ here) once in
    let Once : List Link → Type 0 = λ links. AreOnce kinds links in
    subst Once (append_assoc links (link ∷ []) (map (link_of names) ds)) (all_once names kinds (number + 1) (links ++ link ∷ []) ds rest pushed)
