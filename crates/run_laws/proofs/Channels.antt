-- The channels of a network that is wired: each port has one in and one out.
use Rattle.std.proofs.Common.{◌≡◌, ℕ, zero, suc, ◌≤◌, Bool, true, false, cond, eqb, ◌&&◌, List, [], ◌∷◌, length, filter, Option, Some, None, option_and_then, option_map, slice_get, refl, sym, ap, ap₂, ◌∙◌, subst, arith, is_some, map, add_comm, ◌+◌}
use Rattle.std.proofs.lemmas.Bool.{and_parts, and_from, eqb-true, eq-eqb, false≢true}
use Rattle.std.proofs.lemmas.Bool.Decides.{nat_tests}
use Rattle.std.proofs.lemmas.List.Sums.{sum_by-cons}
use Rattle.std.proofs.lemmas.List.Elements.{recursion_from_All, filter_agree}
use Rattle.std.specs.List.{AllByRecursion}
use Rattle.std.proofs.lemmas.Option.{none-some, same_Some, slice_get-map}
use Rattle.cs_base.specs.declared.link.Link.{Link}
use Rattle.cs_base.specs.declared.port_kind.PortKind.{PortKind}
use Rattle.cs_base.specs.Plan.{End, same_end, first_end, second_end, uses_in, uses_of, kind_at, partner, Joins}
use Rattle.device_api.specs.Channels.{Channel, channels}
use Rattle.device_api.specs.World.{Network, out_of}
use Rattle.run_laws.specs.GlobalMessages.{into}
use Rattle.run_laws.specs.Wired.{IsWired, IsChannel}
use Rattle.run_laws.proofs.Lists.{IsFound, some_found, only_kept, first_found}

-- two ends are the same where the test says so
pub same_from_test : (x y : End) → same_end x y ≡ true → x ≡ y
same_from_test x y passes = let parts : (eqb x.component y.component ≡ true) × (eqb x.port y.port ≡ true) = and_parts _ _ passes in ap₂ (λ c p. record { component = c; port = p }) (eqb-true _ _ parts.0) (eqb-true _ _ parts.1)

pub test_same : (x : End) → same_end x x ≡ true
test_same x = and_from (eqb x.component x.component) (eqb x.port x.port) (eq-eqb _ _ refl) (eq-eqb _ _ refl)

pub test_differs : (x y : End) → (x ≡ y → ⊥) → same_end x y ≡ false
test_differs x y differ = at (same_end x y) refl
  where
    at : (b : Bool) → same_end x y ≡ b → b ≡ false
    at true e = absurd (differ (same_from_test x y e))
    at false e = refl

eqb_turned : (m n : ℕ) → eqb m n ≡ eqb n m
eqb_turned m n = grind (arith, nat_tests)

pub test_turned : (x y : End) → same_end x y ≡ same_end y x
test_turned x y = ap₂ ◌&&◌ (eqb_turned x.component y.component) (eqb_turned x.port y.port)

-- two elements that are kept or not
two_kept : {X : Type 0} (a b : Bool) (x y : X) (l : List X) → length (cond a (x ∷ cond b (y ∷ l) l) (cond b (y ∷ l) l)) ≡ (cond a 1 0 + cond b 1 0) + length l
two_kept true true x y l = omega arith
two_kept true false x y l = omega arith
two_kept false true x y l = omega arith
two_kept false false x y l = omega arith

-- as many channels come in at an end, and as many go out, as ends of links are that end
count_in : (links : List Link) (end : End) → length (filter (λ ch. same_end end ch.to) (channels links)) ≡ uses_of links end
count_in [] end = refl
count_in (link ∷ more) end = two_kept second first _ _ (filter (λ ch. same_end end ch.to) (channels more)) ∙ ap₂ ◌+◌ (add_comm (cond second 1 0) (cond first 1 0)) (count_in more end) ∙ sym (sum_by-cons (λ link. uses_in link end) link more)
  where
    first : Bool
    first = same_end end (first_end link)

    second : Bool
    second = same_end end (second_end link)

count_out : (links : List Link) (end : End) → length (filter (λ ch. same_end ch.from end) (channels links)) ≡ uses_of links end
count_out [] end = refl
count_out (link ∷ more) end = two_kept (same_end (first_end link) end) (same_end (second_end link) end) _ _ (filter (λ ch. same_end ch.from end) (channels more)) ∙ ap₂ ◌+◌ (ap₂ (λ a b. cond a 1 0 + cond b 1 0) (test_turned (first_end link) end) (test_turned (second_end link) end)) (count_out more end) ∙ sym (sum_by-cons (λ link. uses_in link end) link more)

-- there is a port at an end
abbrev pub IsPort : {S : Type 0} → Network S → End → Type 0
IsPort net end = is_some (kind_at (map net.behaviour.ports net.starts) end) ≡ true

-- what holds of a channel since its link is joined
pub record IsJoinedChannel {S : Type 0} (net : Network S) (ch : Channel) : Type 0 where
  pub at_sender : IsPort net ch.from
  pub at_receiver : IsPort net ch.to
  pub interval_least : 1 ≤ ch.interval
  pub interval_most : ch.interval ≤ ch.latency

second_port : {S : Type 0} (net : Network S) (link : Link) → Joins (map net.behaviour.ports net.starts) link → IsPort net (second_end link)
second_port net link joins = at (kind_at (map net.behaviour.ports net.starts) (first_end link)) joins.ports.from_port joins.ports.to_partner
  where
    at : (o : Option PortKind) → is_some o ≡ true → kind_at (map net.behaviour.ports net.starts) (second_end link) ≡ option_map partner o → IsPort net (second_end link)
    at None none e = absurd (false≢true none)
    at (Some kind) some e = ap is_some e

all_joined : {S : Type 0} (net : Network S) (links : List Link) → AllByRecursion (Joins (map net.behaviour.ports net.starts)) links → (k : ℕ) (ch : Channel) → slice_get (channels links) k ≡ Some ch → IsJoinedChannel net ch
all_joined net [] joined k ch is = absurd (none-some ch is)
all_joined net (link ∷ more) joined zero ch is = subst (IsJoinedChannel net) (same_Some _ ch is) (record { at_sender = joined.0.ports.from_port; at_receiver = second_port net link joined.0; interval_least = joined.0.limits.some_interval; interval_most = joined.0.limits.interval_in_latency })
all_joined net (link ∷ more) joined (suc zero) ch is = subst (IsJoinedChannel net) (same_Some _ ch is) (record { at_sender = second_port net link joined.0; at_receiver = joined.0.ports.from_port; interval_least = joined.0.limits.some_interval; interval_most = joined.0.limits.interval_in_latency })
all_joined net (link ∷ more) joined (suc (suc k)) ch is = all_joined net more joined.1 k ch is

-- whose port it is
pub record IsOwned {S : Type 0} (net : Network S) (end : End) : Type 0 where
  pub start : S
  pub owner : slice_get net.starts end.component ≡ Some start
  pub kind : PortKind
  pub there : slice_get (net.behaviour.ports start) end.port ≡ Some kind

pub owned : {S : Type 0} (net : Network S) (end : End) → IsPort net end → IsOwned net end
owned {S} net end port = at (slice_get net.starts end.component) refl (ap (λ o. is_some (option_and_then (λ ports. slice_get ports end.port) o)) (sym (slice_get-map net.behaviour.ports net.starts end.component)) ∙ port)
  where
    in_ports : (s : S) → slice_get net.starts end.component ≡ Some s → (o : Option PortKind) → slice_get (net.behaviour.ports s) end.port ≡ o → is_some o ≡ true → IsOwned net end
    in_ports s is None none there = absurd (false≢true there)
    in_ports s is (Some kind) at_port there = record { start = s; owner = is; kind = kind; there = at_port }

    at : (o : Option S) → slice_get net.starts end.component ≡ o → is_some (option_and_then (λ ports. slice_get ports end.port) (option_map net.behaviour.ports o)) ≡ true → IsOwned net end
    at None is none = absurd (false≢true none)
    at (Some s) is there = in_ports s is (slice_get (net.behaviour.ports s) end.port) refl there

-- a port of a component that starts in s
pub port_there : {S : Type 0} (net : Network S) (c port : ℕ) (s : S) (kind : PortKind) → slice_get net.starts c ≡ Some s → slice_get (net.behaviour.ports s) port ≡ Some kind → IsPort net (record { component = c; port = port })
port_there net c port s kind starts there = ap (λ o. is_some (option_and_then (λ ports. slice_get ports port) o)) (slice_get-map net.behaviour.ports net.starts c ∙ ap (λ o. option_map net.behaviour.ports o) starts) ∙ ap is_some there

module _ {S : Type 0} {last : ℕ} (net : Network S) (wired : IsWired net last) where
  pub channel_joined : (k : ℕ) (ch : Channel) → slice_get (channels net.links) k ≡ Some ch → IsJoinedChannel net ch
  channel_joined k ch is = all_joined net net.links (recursion_from_All _ _ wired.links_join) k ch is

  -- of all channels one alone comes from the port that a channel comes from, and one alone goes to where it goes
  pub out_alone : (k : ℕ) (ch : Channel) → slice_get (channels net.links) k ≡ Some ch → filter (λ x. same_end x.from ch.from) (channels net.links) ≡ ch ∷ []
  out_alone k ch is = only_kept (λ x. same_end x.from ch.from) (channels net.links) k ch is (test_same ch.from) (count_out net.links ch.from ∙ wired.in_one_link ch.from (channel_joined k ch is).at_sender)

  pub in_alone : (k : ℕ) (ch : Channel) → slice_get (channels net.links) k ≡ Some ch → filter (λ x. same_end x.to ch.to) (channels net.links) ≡ ch ∷ []
  in_alone k ch is = filter_agree (λ x. same_end x.to ch.to) (λ x. same_end ch.to x.to) (λ x. test_turned x.to ch.to) (channels net.links) ∙ only_kept (λ x. same_end ch.to x.to) (channels net.links) k ch is (test_same ch.to) (count_in net.links ch.to ∙ wired.in_one_link ch.to (channel_joined k ch is).at_receiver)

  pub out_is : (k : ℕ) (ch : Channel) → slice_get (channels net.links) k ≡ Some ch → out_of (channels net.links) ch.from ≡ Some ch
  out_is k ch is = first_found (λ x. same_end x.from ch.from) (channels net.links) ch [] (out_alone k ch is)

  pub in_is : (k : ℕ) (ch : Channel) → slice_get (channels net.links) k ≡ Some ch → into (channels net.links) ch.to ≡ Some ch
  in_is k ch is = first_found (λ x. same_end x.to ch.to) (channels net.links) ch [] (in_alone k ch is)

  -- no other channel comes in where a channel comes in
  pub only_in : (k : ℕ) (ch : Channel) → slice_get (channels net.links) k ≡ Some ch → (k' : ℕ) (ch' : Channel) → slice_get (channels net.links) k' ≡ Some ch' → ch'.to ≡ ch.to → ch' ≡ ch
  only_in k ch is k' ch' is' same = same_Some ch' ch (sym (ap (into (channels net.links)) (sym same) ∙ in_is k' ch' is') ∙ in_is k ch is)

  -- a channel comes in at each port
  pub record ComesIn (end : End) : Type 0 where
    pub channel : Channel
    pub number : ℕ
    pub at_number : slice_get (channels net.links) number ≡ Some channel
    pub comes_to : channel.to ≡ end

  pub comes_in : (end : End) → IsPort net end → ComesIn end
  comes_in end port = let there : (ch : Channel) × IsFound (λ x. same_end end x.to) (channels net.links) ch = some_found (λ x. same_end end x.to) (channels net.links) (let one : length (filter (λ x. same_end end x.to) (channels net.links)) ≡ 1 = count_in net.links end ∙ wired.in_one_link end port in omega arith) in record { channel = there.0; number = there.1.place; at_number = there.1.there; comes_to = sym (same_from_test end there.0.to there.1.passes) }

  -- the component that sends on a channel
  pub sender_of : (k : ℕ) (ch : Channel) → slice_get (channels net.links) k ≡ Some ch → (s : S) × (kind : PortKind) × IsChannel net ch s kind
  sender_of k ch is = let sender : IsOwned net ch.from = owned net ch.from (channel_joined k ch is).at_sender in (sender.start, sender.kind, record { number = k; at_number = is; sender = sender.owner; sending_port = sender.there })
