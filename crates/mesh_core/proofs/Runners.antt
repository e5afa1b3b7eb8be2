-- The runners of all components, made one after another.
use Rattle.std.proofs.Common.{◌≡◌, ℕ, zero, suc, ◌+◌, ◌<◌, List, [], ◌∷◌, ◌++◌, length, map, reverse, Option, Some, None, option_map, slice_get, get_or, refl, sym, ap, ap₂, ◌∙◌, subst, arith, append_assoc, append-nil}
use Rattle.std.specs.Prelude.{All}
use Rattle.std.proofs.lemmas.List.{reverse-append, reverse-reverse}
use Rattle.std.proofs.lemmas.List.Elements.{All-nil, All-cons, All-head, All-tail}
use Rattle.std.proofs.lemmas.Option.{none-some, same_Some, slice_get-map, slice_get_read}
use Rattle.cs_base.specs.declared.link.Link.{Link}
use Rattle.cs_base.specs.declared.port_kind.PortKind.{PortKind}
use Rattle.cs_base.specs.Plan.{End, IsPlan, Joins, IsWithinLimits}
use Rattle.device_api.specs.Behaviour.{Behaviour}
use Rattle.device_api.specs.Channels.{Channel, channels}
use Rattle.device_api.specs.World.{out_of}
use Rattle.global_model.specs.Step.{network}
use Rattle.global_model.proofs.Ways.{way_out}
use Rattle.run_laws.proofs.Channels.{ComesIn, comes_in, port_there, channel_joined, out_is}
use Rattle.sync_rule.specs.declared.port_plan.PortPlan.{PortPlan}
use Rattle.sync_rule.specs.declared.runner.Runner.{Runner}
use Rattle.sync_rule.specs.Ports.{IsPlanned}
use Rattle.mesh_core.specs.Start.{numbered, times_along, planned, plan_at, plans_of, first_runner, first_runners}
use Rattle.mesh_core.specs.Building.{IsBuilding}

-- NUMBERED LISTS

numbered-append : {X Y : Type 0} (f : ℕ → X → Y) (n : ℕ) (xs : List X) (x : X) → numbered f n (xs ++ x ∷ []) ≡ numbered f n xs ++ f (length xs + n) x ∷ []
unfolding numbered
numbered-append f n [] x = ap (λ k. f k x ∷ []) (let same : n ≡ 0 + n = omega arith in same)
numbered-append f n (y ∷ ys) x = ap (λ l. f n y ∷ l) (numbered-append f (suc n) ys x ∙ ap (λ k. numbered f (suc n) ys ++ f k x ∷ []) (let same : length ys + suc n ≡ suc (length ys) + n = omega arith in same))

pub length-numbered : {X Y : Type 0} (f : ℕ → X → Y) (n : ℕ) (xs : List X) → length (numbered f n xs) ≡ length xs
unfolding numbered
length-numbered f n [] = refl
length-numbered f n (x ∷ xs) = ap suc (length-numbered f (suc n) xs)

pub numbered_at : {X Y : Type 0} (f : ℕ → X → Y) (n i : ℕ) (xs : List X) → slice_get (numbered f n xs) i ≡ option_map (f (i + n)) (slice_get xs i)
unfolding numbered
numbered_at f n i [] = refl
numbered_at f n zero (x ∷ xs) = ap (λ k. Some (f k x)) (let same : n ≡ 0 + n = omega arith in same)
numbered_at f n (suc i) (x ∷ xs) = numbered_at f (suc n) i xs ∙ ap (λ k. option_map (f k) (slice_get xs i)) (let same : i + suc n ≡ suc i + n = omega arith in same)

each_numbered : {X Y : Type 0} (P : Y → Type 0) (f : ℕ → X → Y) (n : ℕ) (xs : List X) → ((i : ℕ) (x : X) → slice_get xs i ≡ Some x → P (f (i + n) x)) → All P (numbered f n xs)
unfolding numbered
each_numbered P f n [] each = All-nil P
each_numbered P f n (x ∷ xs) each = All-cons P (f n x) (numbered f (suc n) xs) (subst (λ k. P (f k x)) (let same : 0 + n ≡ n = omega arith in same) (each 0 x refl)) (each_numbered P f (suc n) xs (λ i y is. subst (λ k. P (f k y)) (let same : suc i + n ≡ i + suc n = omega arith in same) (each (suc i) y is)))

pub kinds_kept : (links : List Link) (c n : ℕ) (kinds : List PortKind) → map (λ (plan : PortPlan). plan.kind) (numbered (plan_at links c) n kinds) ≡ kinds
unfolding numbered
kinds_kept links c n [] = refl
kinds_kept links c n (kind ∷ more) = ap₂ (λ k l. k ∷ l) (at (option_map times_along (out_of (channels links) (record { component = c; port = n })))) (kinds_kept links c (suc n) more)
  where
    at : (times : Option _) → (planned kind times).kind ≡ kind
    at None = refl
    at (Some t) = refl

-- PLANS

-- the channel back
abbrev pub turned : Channel → Channel
turned ch = record { from = ch.to; to = ch.from; latency = ch.latency; interval = ch.interval }

pub record IsThere (links : List Link) (ch : Channel) : Type 0 where
  pub number : ℕ
  pub at : slice_get (channels links) number ≡ Some ch

pub back_there : (links : List Link) (k : ℕ) (ch : Channel) → slice_get (channels links) k ≡ Some ch → IsThere links (turned ch)
back_there [] k ch is = absurd (none-some ch is)
back_there (link ∷ more) zero ch is = record { number = 1; at = ap (λ (x : Channel). Some (turned x)) (same_Some _ ch is) }
back_there (link ∷ more) (suc zero) ch is = record { number = 0; at = ap (λ (x : Channel). Some (turned x)) (same_Some _ ch is) }
back_there (link ∷ more) (suc (suc k)) ch is = let there : IsThere more (turned ch) = back_there more k ch is in record { number = suc (suc there.number); at = there.at }

module _ {V : Type 0} (b : Behaviour V) (starts : List V) (links : List Link) (end : ℕ) (wired : IsPlan end (map b.ports starts) links) where
  -- the plan of a port is that of the channel out of it
  pub plan_is : (k : ℕ) (ch : Channel) → slice_get (channels links) k ≡ Some ch → (kind : PortKind) → plan_at links ch.from.component ch.from.port kind ≡ record { kind = kind; latency = ch.latency; interval = ch.interval }
  plan_is k ch is kind = ap (λ o. planned kind (option_map times_along o)) (out_is (network b starts links) wired k ch is)

  pub plan_back : (k : ℕ) (ch : Channel) → slice_get (channels links) k ≡ Some ch → (kind : PortKind) → plan_at links ch.to.component ch.to.port kind ≡ record { kind = kind; latency = ch.latency; interval = ch.interval }
  plan_back k ch is kind = (let there : IsThere links (turned ch) = back_there links k ch is in plan_is there.number (turned ch) there.at kind)

  is_planned : (k : ℕ) (ch : Channel) → slice_get (channels links) k ≡ Some ch → (kind : PortKind) → IsPlanned (plan_at links ch.to.component ch.to.port kind)
  is_planned k ch is kind = subst IsPlanned (sym (plan_back k ch is kind)) (record {
    some_interval = (channel_joined (network b starts links) wired k ch is).interval_least;
    in_time = (channel_joined (network b starts links) wired k ch is).interval_most;
    short = (way_out (map b.ports starts) links ch.from ch wired.links_join (out_is (network b starts links) wired k ch is)).short_latency;
  })

  pub all_planned : (c : ℕ) (start : V) → slice_get starts c ≡ Some start → All IsPlanned (plans_of links c (b.ports start))
  all_planned c start there = each_numbered IsPlanned (plan_at links c) 0 (b.ports start) (λ p kind is. subst (λ q. IsPlanned (plan_at links c q kind)) (let same : p ≡ p + 0 = omega arith in same) (at p kind is))
    where
      at : (p : ℕ) (kind : PortKind) → slice_get (b.ports start) p ≡ Some kind → IsPlanned (plan_at links c p kind)
      at p kind is = (let way : ComesIn (network b starts links) wired (record { component = c; port = p }) = comes_in (network b starts links) wired (record { component = c; port = p }) (port_there (network b starts links) c p start kind there is) in subst (λ (e : End). IsPlanned (plan_at links e.component e.port kind)) way.comes_to (is_planned way.number way.channel way.at_number kind))

-- BUILDING

at_middle : {X : Type 0} (xs : List X) (x : X) (ys : List X) → slice_get (xs ++ x ∷ ys) (length xs) ≡ Some x
at_middle [] x ys = refl
at_middle (y ∷ xs) x ys = at_middle xs x ys

pub all_in : {X : Type 0} (P : X → Type 0) (xs : List X) → All P xs → (i : ℕ) (x : X) → slice_get xs i ≡ Some x → P x
all_in P [] all i x is = absurd (none-some x is)
all_in P (y ∷ ys) all zero x is = subst P (same_Some y x is) (All-head P y ys all)
all_in P (y ∷ ys) all (suc i) x is = all_in P ys (All-tail P y ys all) i x is

pub within_limits : (kinds : List (List PortKind)) (links : List Link) → All (Joins kinds) links → All IsWithinLimits links
within_limits kinds [] joins = All-nil IsWithinLimits
within_limits kinds (link ∷ more) joins = All-cons IsWithinLimits link more (All-head (Joins kinds) link more joins).limits (within_limits kinds more (All-tail (Joins kinds) link more joins))

module _ {V : Type 0} (b : Behaviour V) (links : List Link) (end : ℕ) (all : List V) where
  pub building_starts : (runners : List (Runner V)) (left : List V) → runners ≡ [] → left ≡ reverse all → IsBuilding b links end all runners left
  unfolding numbered
  building_starts runners left none is = record { done = []; whole = ap reverse is ∙ reverse-reverse all; built = none }

  pub building_ends : (runners : List (Runner V)) (left : List V) → IsBuilding b links end all runners left → left ≡ [] → runners ≡ first_runners b links end all
  building_ends runners left building none = building.built ∙ ap (first_runners b links end) (sym (append-nil building.done) ∙ ap (λ l. building.done ++ reverse l) (sym none) ∙ building.whole)

  module _ (runners : List (Runner V)) (left left' : List V) (x : V) (building : IsBuilding b links end all runners left) (first : left ≡ left' ++ x ∷ []) where
    whole_now : building.done ++ x ∷ reverse left' ≡ all
    whole_now = ap (λ l. building.done ++ l) (sym (ap reverse first ∙ reverse-append left' (x ∷ []))) ∙ building.whole

    count : length runners ≡ length building.done
    count = ap length building.built ∙ length-numbered (first_runner b links end) 0 building.done

    pub next_is : slice_get all (length runners) ≡ Some x
    next_is = ap₂ slice_get (sym whole_now) count ∙ at_middle building.done x (reverse left')

    pub building_more : (r : Runner V) (runners' : List (Runner V)) → runners' ≡ runners ++ r ∷ [] → r ≡ first_runner b links end (length runners) x → IsBuilding b links end all runners' left'
    building_more r runners' pushed is = record {
      done = building.done ++ x ∷ [];
      whole = append_assoc building.done (x ∷ []) (reverse left') ∙ whole_now;
      built = pushed ∙ ap₂ (λ l y. l ++ y ∷ []) building.built (is ∙ ap (λ n. first_runner b links end n x) (count ∙ (let same : length building.done ≡ length building.done + 0 = omega arith in same))) ∙ sym (numbered-append (first_runner b links end) 0 building.done x);
    }

    pub kinds_next : (kinds : List (List PortKind)) → map b.ports all ≡ kinds → slice_get kinds (length runners) ≡ Some (b.ports x)
    kinds_next kinds matches = ap (λ l. slice_get l (length runners)) (sym matches) ∙ slice_get-map b.ports all (length runners) ∙ ap (option_map b.ports) next_is

    pub settled_next : (settled : V → ℕ → Type 0) → All (λ device. settled device 0) all → settled x 0
    settled_next settled starts = all_in (λ device. settled device 0) all starts (length runners) x next_is

    pub planned_next : (kinds : List (List PortKind)) → map b.ports all ≡ kinds → IsPlan end kinds links → All IsPlanned (plans_of links (length runners) (b.ports x))
    planned_next kinds matches joined = all_planned b all links end (subst (λ k. IsPlan end k links) (sym matches) joined) (length runners) x next_is

-- the plans that were made of the kinds that were read are those of the device's ports
pub plans_are : (kinds : List (List PortKind)) (c : ℕ) (links : List Link) (read seen ports : List PortKind) (plans : List PortPlan) → c < length kinds → slice_get kinds c ≡ Some ports → read ≡ get_or kinds c read → seen ≡ read → plans ≡ plans_of links c seen → plans ≡ plans_of links c ports
plans_are kinds c links read seen ports plans lt there is same made = made ∙ ap (plans_of links c) (same ∙ same_Some read ports (sym (slice_get_read kinds (length kinds) c read refl lt is) ∙ there))
