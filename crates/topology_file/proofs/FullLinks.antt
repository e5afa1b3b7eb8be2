-- The entries of links in the full table are refused for nothing, and spell the links.
use Rattle.std.proofs.Common.{◌≡◌, ℕ, zero, suc, ◌+◌, ◌^◌, ◌<◌, ◌≤◌, Bool, true, false, cond, List, [], ◌∷◌, ◌++◌, length, map, get_or, Option, Some, None, refl, ap, sym, ◌∙◌, subst, arith, append_assoc}
use Rattle.std.specs.Prelude.{is_some, option_map, unwrap_or}
use Rattle.std.specs.List.{AllByRecursion}
use Rattle.std.proofs.lemmas.Bool.{false≢true}
use Rattle.std.proofs.lemmas.Bool.Decides.{nat_tests}
use Rattle.std.proofs.lemmas.List.Sums.{sum_by-append, sum_by-cons}
use Rattle.cs_base.specs.declared.link.Link.{Link}
use Rattle.cs_base.specs.declared.port_kind.PortKind.{PortKind}
use Rattle.cs_base.specs.declared.port_kind.PortKind.TheVariants.{Eth, PcieDev, PcieHost, MemDev, MemHost}
use Rattle.cs_base.specs.declared.port_kind.Via.{Via}
use Rattle.cs_base.specs.declared.port_kind.Via.TheVariants.{Queue, Proxy}
use Rattle.cs_base.specs.Plan.{End, same_end, first_end, second_end, uses_in, uses_of, kind_at, partner, joins as are_partners, IsWithinLimits, Joins}
use Rattle.topology_file.specs.declared.form.Form.TheVariants as form
use Rattle.topology_file.specs.declared.reason.Entry.TheVariants as entry
use Rattle.topology_file.specs.declared.reason.TopoReason.TheVariants.{KindsDoNotJoin}
use Rattle.toml.specs.Data.{string}
use Rattle.topology_file.specs.Keys.{link_keys}
use Rattle.topology_file.specs.Fields.{via_named}
use Rattle.topology_file.specs.Faults.{unless, value_fault, own_fault}
use Rattle.topology_file.specs.Links.{component_named, link_of, names_fault, twice_fault, ports_join_fault, interval_fault, join_fault, link_fault}
use Rattle.topology_file.specs.Refusals.{at_entry, links_refusal}
use Rattle.topology_file.specs.Full.{via_text, full_link}
use Rattle.topology_file.proofs.FreePorts.{within_ports, end_at}
use Rattle.topology_file.proofs.Passing.{nat_passes, within_passes, own_passes, none_or}

-- ---- ports

pub record HasPlace (kinds : List (List PortKind)) (component port : ℕ) : Type 0 where
  pub component_there : component < length kinds
  pub port_there : port ≤ 31

-- a port that is there has a component and a small number
pub has_place : (kinds : List (List PortKind)) (component port : ℕ) → is_some (kind_at kinds (end_at component port)) ≡ true → AllByRecursion (λ (ports : List PortKind). length ports ≤ 32) kinds → HasPlace kinds component port
has_place [] component port there few = absurd (false≢true there)
has_place (ports ∷ kinds) zero port there few = record { component_there = omega arith; port_there = omega (arith, within_ports ports port there, few.0) }
has_place (ports ∷ kinds) (suc component) port there few =
    let place = has_place kinds component port there few.1 in
    record { component_there = omega (arith, place.component_there); port_there = place.port_there }

partners_join : (x : PortKind) → unless (are_partners x (partner x)) KindsDoNotJoin ≡ None
partners_join Eth = refl
partners_join PcieDev = refl
partners_join PcieHost = refl
partners_join MemDev = refl
partners_join MemHost = refl

ports_join : (a b : Option PortKind) → is_some a ≡ true → b ≡ option_map partner a → ports_join_fault a b ≡ None
ports_join None b there is = absurd (false≢true there)
ports_join (Some x) b there is = ap (ports_join_fault (Some x)) is ∙ partners_join x

partner_there : (a b : Option PortKind) → is_some a ≡ true → b ≡ option_map partner a → is_some b ≡ true
partner_there None b there is = absurd (false≢true there)
partner_there (Some x) b there is = ap is_some is

-- ---- a link's ends are in no other link

same_itself : (end : End) → same_end end end ≡ true
same_itself end = grind (arith, nat_tests)

counted_once : (before after : ℕ) (b : Bool) → before + ((1 + cond b 1 0) + after) ≡ 1 → (before ≡ 0) × (b ≡ false)
counted_once before after true once = absurd (omega (arith, once))
counted_once before after false once = (omega (arith, once), refl)

counted_second : (before after : ℕ) (b : Bool) → before + ((cond b 1 0 + 1) + after) ≡ 1 → before ≡ 0
counted_second before after true once = absurd (omega (arith, once))
counted_second before after false once = omega (arith, once)

-- how often an end is used among all links
uses_split : (earlier rest : List Link) (link : Link) (end : End) → uses_of (earlier ++ link ∷ rest) end ≡ uses_of earlier end + (uses_in link end + uses_of rest end)
uses_split earlier rest link end =
    let uses = λ (link : Link). uses_in link end in
    sum_by-append uses earlier (link ∷ rest) ∙ ap (λ n. uses_of earlier end + n) (sum_by-cons uses link rest)

twice_passes : (earlier rest : List Link) (link : Link) → uses_of (earlier ++ link ∷ rest) (first_end link) ≡ 1 → uses_of (earlier ++ link ∷ rest) (second_end link) ≡ 1 → twice_fault earlier link ≡ None
twice_passes earlier rest link once_first once_second =
    let x = first_end link in
    let y = second_end link in
    let At_x : Bool → Type 0 = λ b. uses_of earlier x + ((cond b 1 0 + cond (same_end x y) 1 0) + uses_of rest x) ≡ 1 in
    let At_y : Bool → Type 0 = λ b. uses_of earlier y + ((cond (same_end y x) 1 0 + cond b 1 0) + uses_of rest y) ≡ 1 in
    let (none_before, apart) = counted_once (uses_of earlier x) (uses_of rest x) (same_end x y) (subst At_x (same_itself x) (sym (uses_split earlier rest link x) ∙ once_first)) in
    let none_before_y = counted_second (uses_of earlier y) (uses_of rest y) (same_end y x) (subst At_y (same_itself y) (sym (uses_split earlier rest link y) ∙ once_second)) in
    rw (none_before, none_before_y, apart)

-- ---- values

via_passes : (via : Via) → value_fault form.Via (string (via_text via)) ≡ None
via_passes Queue = refl
via_passes Proxy = refl

via_read : (via : Via) → unwrap_or (via_named (via_text via)) Queue ≡ via
via_read Queue = refl
via_read Proxy = refl

own_link_passes : (names : List (List ℕ)) (link : Link) → IsWithinLimits link → link.a_port ≤ 31 → link.b_port ≤ 31 → own_fault link_keys (full_link names link) ≡ None
own_link_passes names link limits a_port b_port =
    own_passes link_keys (full_link names link) refl (
      refl,
      (
        within_passes 0 31 link.a_port (omega arith) a_port,
        (
          refl,
          (
            within_passes 0 31 link.b_port (omega arith) b_port,
            (
              within_passes 1 (10 ^ 12) link.latency (omega (arith, limits.some_interval, limits.interval_in_latency)) limits.short_latency,
              (
                within_passes 1 (10 ^ 12) link.interval limits.some_interval (omega (arith, limits.interval_in_latency, limits.short_latency)),
                (
                  within_passes 1 1024 link.slots limits.some_slot limits.few_slots,
                  (
                    via_passes link.via,
                    tt,
                  ),
                ),
              ),
            ),
          ),
        ),
      ),
    )

-- ---- among components of these names and ports

module _ (names : List (List ℕ)) (kinds : List (List PortKind)) (named : (k : ℕ) → k < length kinds → component_named names (get_or names k []) ≡ Some k) (few_ports : AllByRecursion (λ (ports : List PortKind). length ports ≤ 32) kinds) where
  first_place : (link : Link) → Joins kinds link → HasPlace kinds link.a link.a_port
  first_place link joins = has_place kinds link.a link.a_port joins.ports.from_port few_ports

  second_place : (link : Link) → Joins kinds link → HasPlace kinds link.b link.b_port
  second_place link joins =
      has_place kinds link.b link.b_port (partner_there (kind_at kinds (first_end link)) (kind_at kinds (second_end link)) joins.ports.from_port joins.ports.to_partner) few_ports

  -- the entry of a link spells it
  link_spelled : (link : Link) → Joins kinds link → link_of names (full_link names link) ≡ link
  link_spelled link joins =
      let a = named link.a (first_place link joins).component_there in
      let b = named link.b (second_place link joins).component_there in
      let via = via_read link.via in
      λ i. record {
        a = unwrap_or (a i) 0;
        a_port = link.a_port;
        b = unwrap_or (b i) 0;
        b_port = link.b_port;
        latency = link.latency;
        interval = link.interval;
        slots = link.slots;
        via = via i;
      }

  names_pass : (link : Link) → Joins kinds link → names_fault names (full_link names link) ≡ None
  names_pass link joins = rw (named link.a (first_place link joins).component_there, named link.b (second_place link joins).component_there)

  join_passes : (earlier rest : List Link) (link : Link) → Joins kinds link → uses_of (earlier ++ link ∷ rest) (first_end link) ≡ 1 → uses_of (earlier ++ link ∷ rest) (second_end link) ≡ 1 → join_fault kinds earlier link ≡ None
  join_passes earlier rest link joins once_first once_second =
      let short : interval_fault link ≡ None = rw (nat_passes link.interval link.latency joins.limits.interval_in_latency) in
      none_or _ _ (twice_passes earlier rest link once_first once_second) (none_or _ _ (ports_join (kind_at kinds (first_end link)) (kind_at kinds (second_end link)) joins.ports.from_port joins.ports.to_partner) short)

  link_passes : (earlier rest : List Link) (link : Link) → Joins kinds link → ((end : End) → is_some (kind_at kinds end) ≡ true → uses_of (earlier ++ link ∷ rest) end ≡ 1) → link_fault names kinds earlier (full_link names link) ≡ None
  link_passes earlier rest link joins once =
      let second_there = partner_there (kind_at kinds (first_end link)) (kind_at kinds (second_end link)) joins.ports.from_port joins.ports.to_partner in
      let own = own_link_passes names link joins.limits (first_place link joins).port_there (second_place link joins).port_there in
      let join : join_fault kinds earlier (link_of names (full_link names link)) ≡ None =
      ap (join_fault kinds earlier) (link_spelled link joins) ∙ join_passes earlier rest link joins (once (first_end link) joins.ports.from_port) (once (second_end link) second_there) in
      none_or _ _ own (none_or _ _ (names_pass link joins) join)

  pub links_pass : (number : ℕ) (earlier links : List Link) → AllByRecursion (Joins kinds) links → ((end : End) → is_some (kind_at kinds end) ≡ true → uses_of (earlier ++ links) end ≡ 1) → links_refusal names kinds number earlier (map (full_link names) links) ≡ None
  links_pass number earlier [] join once = refl
  links_pass number earlier (link ∷ links) join once =
      let here = link_passes earlier links link join.0 once in
      let once_more : (end : End) → is_some (kind_at kinds end) ≡ true → uses_of ((earlier ++ link ∷ []) ++ links) end ≡ 1 =
      λ end there. ap (λ all. uses_of all end) (append_assoc earlier (link ∷ []) links) ∙ once end there in
      let rest = links_pass (number + 1) (earlier ++ link ∷ []) links join.1 once_more in
      none_or _ _ (ap (at_entry (entry.Link number)) here) (ap (λ next. links_refusal names kinds (number + 1) (earlier ++ next ∷ []) (map (full_link names) links)) (link_spelled link join.0) ∙ rest)

  pub links_spelled : (links : List Link) → AllByRecursion (Joins kinds) links → map (link_of names) (map (full_link names) links) ≡ links
  links_spelled [] join = refl
  links_spelled (link ∷ links) join =
      ap (λ first. first ∷ map (link_of names) (map (full_link names) links)) (link_spelled link join.0) ∙ ap (λ rest. link ∷ rest) (links_spelled links join.1)
