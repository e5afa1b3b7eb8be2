-- Along the channels of a wiring.
use Rattle.std.specs.Prelude.{ℕ, ◌≡◌, ◌==◌, ◌+◌, ◌≤◌, ◌^◌, Bool, true, false, if◌then◌else◌, ◌||◌, ◌&&◌, List, [], ◌∷◌, Option, Some, None, All, option_map, refl}
use Rattle.std.proofs.lemmas.Bool.{false≢true}
use Rattle.std.proofs.lemmas.Bool.Decides.{nat_tests}
use Rattle.std.proofs.lemmas.List.Elements.{All-head, All-tail}
use Rattle.std.proofs.lemmas.List.Sums.{sum_by-cons}
use Rattle.std.proofs.Common.{sym, ap, ◌∙◌, arith, cond, subst}
use Rattle.cs_base.specs.declared.link.Link.{Link}
use Rattle.cs_base.specs.declared.port_kind.PortKind.{PortKind}
use Rattle.cs_base.specs.declared.port_kind.PortKind.TheVariants.{Eth, PcieDev, PcieHost, MemDev, MemHost}
use Rattle.cs_base.specs.Plan.{End, same_end, first_end, second_end, uses_in, uses_of, kind_at, partner, Joins}
use Rattle.device_api.specs.Channels.{Channel, channels}
use Rattle.device_api.specs.World.{out_of}
use Rattle.global_model.specs.UnderWay.{touches, latency_at}
use Rattle.global_model.proofs.Nested.{same_end_is}
use Rattle.global_model.proofs.TurnLaws.{same_end_itself}

partner_twice : (kind : Option PortKind) → option_map partner (option_map partner kind) ≡ kind
partner_twice None = refl
partner_twice (Some Eth) = refl
partner_twice (Some PcieDev) = refl
partner_twice (Some PcieHost) = refl
partner_twice (Some MemDev) = refl
partner_twice (Some MemHost) = refl

-- what is known of a channel out of a port
pub record IsWay (kinds : List (List PortKind)) (from : End) (ch : Channel) : Type 0 where
  pub some_latency : 1 ≤ ch.latency
  pub short_latency : ch.latency ≤ 10 ^ 12
  pub to_partner : kind_at kinds ch.to ≡ option_map partner (kind_at kinds from)

pub way_out : (kinds : List (List PortKind)) (links : List Link) (from : End) (ch : Channel) → All (Joins kinds) links → out_of (channels links) from ≡ Some ch → IsWay kinds from ch
way_out kinds [] from ch joins is = absurd cc
way_out kinds (link ∷ more) from ch joins is = at (same_end (first_end link) from) refl is (λ found. way_out kinds more from ch (All-tail (Joins kinds) link more joins) found)
  where
    joined : Joins kinds link
    joined = All-head (Joins kinds) link more joins

    forth : Channel
    forth = record { from = first_end link; to = second_end link; latency = link.latency; interval = link.interval }

    back : Channel
    back = record { from = second_end link; to = first_end link; latency = link.latency; interval = link.interval }

    some : 1 ≤ link.latency
    some = let low : 1 ≤ link.interval = joined.limits.some_interval in let high : link.interval ≤ link.latency = joined.limits.interval_in_latency in omega arith

    way_forth : IsWay kinds (first_end link) (record { from = first_end link; to = second_end link; latency = link.latency; interval = link.interval })
    way_forth = record { some_latency = some; short_latency = joined.limits.short_latency; to_partner = joined.ports.to_partner }

    way_back : IsWay kinds (second_end link) (record { from = second_end link; to = first_end link; latency = link.latency; interval = link.interval })
    way_back = record { some_latency = some; short_latency = joined.limits.short_latency; to_partner = sym (partner_twice (kind_at kinds (first_end link))) ∙ ap (option_map partner) (sym joined.ports.to_partner) }

    at_second : (second : Bool) → same_end (second_end link) from ≡ second → cond second (Some (record { from = second_end link; to = first_end link; latency = link.latency; interval = link.interval })) (out_of (channels more) from) ≡ Some ch → (out_of (channels more) from ≡ Some ch → IsWay kinds from ch) → IsWay kinds from ch
    at_second true same found more_ways =
        let is_back : record { from = second_end link; to = first_end link; latency = link.latency; interval = link.interval } ≡ ch = cc in
        subst (λ e. IsWay kinds e ch) (same_end_is (second_end link) from same) (subst (IsWay kinds (second_end link)) is_back way_back)
    at_second false differs found more_ways = more_ways found

    at : (first : Bool) → same_end (first_end link) from ≡ first → cond first (Some (record { from = first_end link; to = second_end link; latency = link.latency; interval = link.interval })) (cond (same_end (second_end link) from) (Some (record { from = second_end link; to = first_end link; latency = link.latency; interval = link.interval })) (out_of (channels more) from)) ≡ Some ch → (out_of (channels more) from ≡ Some ch → IsWay kinds from ch) → IsWay kinds from ch
    at true same found more_ways =
        let is_forth : record { from = first_end link; to = second_end link; latency = link.latency; interval = link.interval } ≡ ch = cc in
        subst (λ e. IsWay kinds e ch) (same_end_is (first_end link) from same) (subst (IsWay kinds (first_end link)) is_forth way_forth)
    at false differs found more_ways = at_second (same_end (second_end link) from) refl found more_ways

touches_first : (link : Link) → touches link (first_end link) ≡ true
touches_first link = ap (λ first. first || same_end (second_end link) (first_end link)) (same_end_itself (first_end link))

touches_second : (link : Link) → touches link (second_end link) ≡ true
touches_second link = at (same_end (first_end link) (second_end link)) (same_end_itself (second_end link))
  where
    at : (first : Bool) → same_end (second_end link) (second_end link) ≡ true → (first || same_end (second_end link) (second_end link)) ≡ true
    at true same = refl
    at false same = same

ones : (a b : Bool) → (a || b) ≡ true → 1 ≤ (if a then 1 else 0) + (if b then 1 else 0)
ones true true is = omega arith
ones true false is = omega arith
ones false true is = omega arith
ones false false is = absurd (false≢true is)

test_flip : (x y : ℕ) → (x == y) ≡ (y == x)
test_flip x y = grind (arith, nat_tests)

pub same_end_flip : (x y : End) → same_end x y ≡ same_end y x
same_end_flip x y = ap (λ first. first && (x.port == y.port)) (test_flip x.component y.component) ∙ ap (λ second. (y.component == x.component) && second) (test_flip x.port y.port)

-- an end of a link is used by it
uses_touched : (link : Link) (e : End) → touches link e ≡ true → 1 ≤ uses_in link e
uses_touched link e touched = ones (same_end e (first_end link)) (same_end e (second_end link)) (ap (λ first. first || same_end e (second_end link)) (same_end_flip e (first_end link)) ∙ ap (λ second. same_end (first_end link) e || second) (same_end_flip e (second_end link)) ∙ touched)

abbrev pub forth : Link → Channel
forth link = record { from = first_end link; to = second_end link; latency = link.latency; interval = link.interval }

abbrev pub back : Link → Channel
back link = record { from = second_end link; to = first_end link; latency = link.latency; interval = link.interval }

-- a channel out of a port is one of the first link, or one of the others
way_cases : (P : Type 0) (link : Link) (more : List Link) (from : End) (ch : Channel) → out_of (channels (link ∷ more)) from ≡ Some ch → (forth link ≡ ch → P) → (back link ≡ ch → P) → (out_of (channels more) from ≡ Some ch → P) → P
way_cases P link more from ch is by_forth by_back by_others = at (same_end (first_end link) from) (same_end (second_end link) from) is
  where
    at : (first second : Bool) → cond first (Some (forth link)) (cond second (Some (back link)) (out_of (channels more) from)) ≡ Some ch → P
    at true second found = by_forth (let same : forth link ≡ ch = cc in same)
    at false true found = by_back (let same : back link ≡ ch = cc in same)
    at false false found = by_others found

pub uses_more : (link : Link) (more : List Link) (e : End) → uses_of (link ∷ more) e ≡ uses_in link e + uses_of more e
uses_more link more e = sum_by-cons (λ l. uses_in l e) link more

-- where a channel leads, a link has its end
uses_way : (links : List Link) (from : End) (ch : Channel) → out_of (channels links) from ≡ Some ch → 1 ≤ uses_of links ch.to
uses_way [] from ch is = absurd cc
uses_way (link ∷ more) from ch is = way_cases (1 ≤ uses_of (link ∷ more) ch.to) link more from ch is
    (λ same. by_link (subst (λ x. touches link x.to ≡ true) same (touches_second link)))
    (λ same. by_link (subst (λ x. touches link x.to ≡ true) same (touches_first link)))
    (λ found. (let others : 1 ≤ uses_of more ch.to = uses_way more from ch found in omega (arith, uses_more link more ch.to, others)))
  where
    by_link : touches link ch.to ≡ true → 1 ≤ uses_of (link ∷ more) ch.to
    by_link touched = let used : 1 ≤ uses_in link ch.to = uses_touched link ch.to touched in omega (arith, uses_more link more ch.to, used)

-- the latency of the one link at a channel's end is the channel's
pub latency_way : (links : List Link) (from : End) (ch : Channel) → uses_of links ch.to ≤ 1 → out_of (channels links) from ≡ Some ch → ch.latency ≡ latency_at links ch.to
unfolding latency_at
latency_way [] from ch one is = absurd cc
latency_way (link ∷ more) from ch one is = way_cases (ch.latency ≡ latency_at (link ∷ more) ch.to) link more from ch is
    (λ same. by_link (subst (λ x. link.latency ≡ x.latency) same refl) (subst (λ x. touches link x.to ≡ true) same (touches_second link)))
    (λ same. by_link (subst (λ x. link.latency ≡ x.latency) same refl) (subst (λ x. touches link x.to ≡ true) same (touches_first link)))
    (λ found. others (uses_way more from ch found) (λ few. latency_way more from ch few found))
  where
    by_link : link.latency ≡ ch.latency → touches link ch.to ≡ true → ch.latency ≡ (if touches link ch.to then link.latency else latency_at more ch.to)
    by_link same touched = sym same ∙ sym (ap (λ here. if here then link.latency else latency_at more ch.to) touched)

    others : 1 ≤ uses_of more ch.to → (uses_of more ch.to ≤ 1 → ch.latency ≡ latency_at more ch.to) → ch.latency ≡ (if touches link ch.to then link.latency else latency_at more ch.to)
    others used latency = at (touches link ch.to) refl
      where
        at : (touched : Bool) → touches link ch.to ≡ touched → ch.latency ≡ (if touched then link.latency else latency_at more ch.to)
        at true is = let here : 1 ≤ uses_in link ch.to = uses_touched link ch.to is in absurd (omega (arith, uses_more link more ch.to, here, used, one))
        at false is = latency (omega (arith, uses_more link more ch.to, one))
