-- Whoever says what is to come of a mesh says the same. A mesh whose channels all go by queues runs to its end by steps that
-- lead somewhere, and each weighs the same for whoever says what is to come; and of any mesh such a one is made, whose queues
-- hold what is under way.
use Rattle.std.proofs.Common.{◌≡◌, ℕ, zero, suc, ◌+◌, ◌-◌, ◌≤◌, ◌⊎◌, inl, inr, List, [], ◌∷◌, length, map, Option, Some, None, slice_get, refl, sym, ap, ap₂, ◌∙◌, subst, arith}
use Rattle.std.specs.Prelude.{slice_set}
use Rattle.std.proofs.lemmas.List.{length-map}
use Rattle.std.proofs.lemmas.Option.{same_Some}
use Rattle.cs_base.specs.declared.link.Link.{Link}
use Rattle.cs_base.specs.Plan.{kind_at}
use Rattle.sb_message.specs.declared.message.Msg.{Msg}
use Rattle.device_api.specs.Behaviour.{Behaviour, IsLawful}
use Rattle.device_api.specs.Channels.{Channel, channels}
use Rattle.device_api.specs.GlobalCounts.{messages_of}
use Rattle.global_model.specs.Step.{network}
use Rattle.port_queue.specs.Plain.{Plain, IsSent}
use Rattle.run_steps.specs.declared.step.Step.{Step}
use Rattle.run_steps.specs.declared.step.Step.TheVariants.{Event, Send, Poll, Take, Move, Put}
use Rattle.sync_laws.specs.ToCome.{total, left}
use Rattle.sync_laws.proofs.Changed.{get_mapped}
use Rattle.sync_laws.proofs.Nothing.{nothing_left}
use Rattle.sync_laws.proofs.Totals.{total_none, total_same}
use Rattle.mesh_channel.specs.declared.carrier.Carrier.{Carrier}
use Rattle.mesh_channel.specs.declared.carrier.Carrier.TheVariants.{Direct, Framed}
use Rattle.mesh_channel.specs.Carrier.{kind_sent, Pushes, Pops, MayTake, MayMove, MayPut}
use Rattle.mesh_channel.specs.Left.{left_between}
use Rattle.mesh_channel.specs.Standing.{Carries}
use Rattle.mesh_channel.proofs.Counted.{one_under_way}
use Rattle.mesh_core.specs.Laws.{CanStep}
use Rattle.mesh_core.specs.Start.{kind_or}
use Rattle.mesh_core.specs.State.{State, way_of}
use Rattle.mesh_core.specs.Steps.{Enables}
use Rattle.mesh_core.specs.MeshOf.{IsMeshOf, HasCarrier}
use Rattle.mesh_core.specs.ToCome.{steps_to_come, IsOver, work_to_come}
use Rattle.mesh_core.proofs.Ends.{mapped_at}
use Rattle.mesh_core.proofs.Ending.{received_all, sent_whole}
use Rattle.mesh_core.proofs.Going.{step_or_over}
use Rattle.mesh_core.proofs.Kept.{Then, weighted_of, event_kept, send_kept, receive_kept}
use Rattle.mesh_core.proofs.Outcomes.{same_lists}
use Rattle.mesh_core.proofs.Work.{by_weight, weights_at, weight_of, weight_is, work_at, total_alike, total_plus}

-- ---- meshes whose channels all go by queues

abbrev IsQueue : Carrier → Type 0
IsQueue (Direct q) = Unit {0}
IsQueue (Framed c) = ⊥

abbrev ArePlain : List Carrier → Type 0
ArePlain carriers = (k : ℕ) (carrier : Carrier) → slice_get carriers k ≡ Some carrier → IsQueue carrier

set_plain : (carriers : List Carrier) (k : ℕ) (a b : Carrier) → slice_get carriers k ≡ Some a → ArePlain carriers → IsQueue b → ArePlain (slice_set carriers k b)
set_plain (c ∷ cs) zero a b there plain is zero carrier at = subst IsQueue (same_Some b carrier at) is
set_plain (c ∷ cs) zero a b there plain is (suc i) carrier at = plain (suc i) carrier at
set_plain (c ∷ cs) (suc k) a b there plain is zero carrier at = plain zero carrier at
set_plain (c ∷ cs) (suc k) a b there plain is (suc i) carrier at = set_plain cs k a b there (λ j. plain (suc j)) is i carrier at
set_plain [] k a b there plain is i carrier at = plain i carrier at

pushed_plain : (a b : Carrier) (m : Msg) → IsQueue a → Pushes a m b → IsQueue b
pushed_plain (Direct a) (Direct b) m is pushes = tt
pushed_plain (Direct a) (Framed b) m is pushes = pushes
pushed_plain (Framed a) b m is pushes = absurd is

popped_plain : (a b : Carrier) (m : Msg) → IsQueue a → Pops a m b → IsQueue b
popped_plain (Direct a) (Direct b) m is pops = tt
popped_plain (Direct a) (Framed b) m is pops = pops
popped_plain (Framed a) b m is pops = absurd is

none_taken : (a : Carrier) → IsQueue a → MayTake a → ⊥
none_taken (Direct q) is may = may
none_taken (Framed c) is may = is

none_moved : (n : ℕ) (a : Carrier) → IsQueue a → MayMove n a → ⊥
none_moved n (Direct q) is may = may
none_moved n (Framed c) is may = is

none_put : (a : Carrier) → IsQueue a → MayPut a → ⊥
none_put (Direct q) is may = may
none_put (Framed c) is may = is

fewer : (x y v n : ℕ) → x ≡ y + v → 1 ≤ v → x ≤ suc n → y ≤ n
fewer x y v n falls some most = omega arith

never : (x y v : ℕ) → x ≡ y + v → 1 ≤ v → x ≤ 0 → ⊥
never x y v falls some most = omega arith

both_same : (x x' y y' v : ℕ) → x ≡ y + v → x' ≡ y' + v → y ≡ y' → x ≡ x'
both_same x x' y y' v first second same = omega arith

module _ {V : Type 0} (b : Behaviour V) (settled : V → ℕ → Type 0) (lawful : IsLawful b settled) (w : ℕ → Msg → ℕ) where
  none_weighs : (starts : List V) (links : List Link) (end : ℕ) (mesh : State V) (of : IsMeshOf b settled starts links end mesh) → IsOver b mesh → weighted_of w of ≡ 0
  none_weighs starts links end mesh of over =
      let none : left (network b starts links) end of.positions of.received of.sent mesh.runners ≡ 0 = nothing_left (network b starts links) settled end of.positions of.received of.sent of.held mesh.runners of.whole of.wired lawful over.ended (received_all b settled starts links end mesh of over) in
      let weights : total (weights_at (network b starts links) end w of.sent) (channels links) ≡ 0 = total_none (weights_at (network b starts links) end w of.sent) (channels links) (λ k ch is. (let same : by_weight w k (of.sent ch.from) ≡ by_weight w k (messages_of (network b starts links) end ch) = ap (by_weight w k) (sent_whole b settled lawful starts links end mesh of over.ended k ch is) in omega arith)) in
      omega arith

  -- a step leads to a mesh whose channels all go by queues, of which as much less is to come for whoever says it
  record Descends (mesh : State V) : Type 0 where
    next : State V
    plain : ArePlain next.carriers
    weight : ℕ
    some : 1 ≤ weight
    falls : (starts : List V) (links : List Link) (end : ℕ) (of : IsMeshOf b settled starts links end mesh) → (of' : IsMeshOf b settled starts links end next) × (weighted_of w of ≡ weighted_of w of' + weight)

  descends : (mesh : State V) → ArePlain mesh.carriers → (step : Step) → Enables b step mesh → Descends mesh
  descends mesh plain (Event c) at = record {
    next = at.next;
    plain = subst (λ (m : State V). ArePlain m.carriers) (sym at.leads.is) plain;
    weight = 1;
    some = omega arith;
    falls = λ starts links end of. (let then : Then b settled lawful starts links end mesh of (Event c) (λ w. 1) at.next = event_kept b settled lawful starts links end mesh of c at.next at.leads in (then.of', then.weighted w));
  }
  descends mesh plain (Send k) at = record {
    next = at.next;
    plain = subst (λ (m : State V). ArePlain m.carriers) (sym at.leads.is) (set_plain mesh.carriers k at.leads.carrier at.leads.after at.leads.line.between plain (pushed_plain at.leads.carrier at.leads.after at.leads.m (plain k at.leads.carrier at.leads.line.between) at.leads.pushed));
    weight = 1 + w k at.leads.m;
    some = omega arith;
    falls = λ starts links end of. (let then : Then b settled lawful starts links end mesh of (Send k) (λ w. 1 + w k at.leads.m) at.next = send_kept b settled lawful starts links end mesh of k at.next at.leads in (then.of', then.weighted w));
  }
  descends mesh plain (Poll k) at = record {
    next = at.next;
    plain = subst (λ (m : State V). ArePlain m.carriers) (sym at.leads.is) (set_plain mesh.carriers k at.leads.carrier at.leads.after at.leads.line.between plain (popped_plain at.leads.carrier at.leads.after at.leads.m (plain k at.leads.carrier at.leads.line.between) at.leads.popped));
    weight = 1;
    some = omega arith;
    falls = λ starts links end of. (let then : Then b settled lawful starts links end mesh of (Poll k) (λ w. 1) at.next = receive_kept b settled lawful starts links end mesh of k at.next at.leads in (then.of', then.weighted w));
  }
  descends mesh plain (Take k) at = absurd (none_taken at.carrier (plain k at.carrier at.line.between) at.enabled)
  descends mesh plain (Move k n) at = absurd (none_moved n at.carrier (plain k at.carrier at.line.between) at.enabled)
  descends mesh plain (Put k) at = absurd (none_put at.carrier (plain k at.carrier at.line.between) at.enabled)

  agree_plain : (n : ℕ) (mesh : State V) → ArePlain mesh.carriers → (starts others : List V) (links other_links : List Link) (end other_end : ℕ) (of : IsMeshOf b settled starts links end mesh) (of' : IsMeshOf b settled others other_links other_end mesh) → weighted_of w of ≤ n → weighted_of w of ≡ weighted_of w of'
  agree_plain zero mesh plain starts others links other_links end other_end of of' most = at (step_or_over b settled starts links end mesh of)
    where
      at : CanStep b mesh ⊎ IsOver b mesh → weighted_of w of ≡ weighted_of w of'
      at (inl can) = (let d : Descends mesh = descends mesh plain can.step can.enabled in let x = d.falls starts links end of in absurd (never (weighted_of w of) (weighted_of w x.0) d.weight x.1 d.some most))
      at (inr over) = none_weighs starts links end mesh of over ∙ sym (none_weighs others other_links other_end mesh of' over)
  agree_plain (suc n) mesh plain starts others links other_links end other_end of of' most = at (agree_plain n) (step_or_over b settled starts links end mesh of)
    where
      at : ((mesh : State V) → ArePlain mesh.carriers → (starts others : List V) (links other_links : List Link) (end other_end : ℕ) (of : IsMeshOf b settled starts links end mesh) (of' : IsMeshOf b settled others other_links other_end mesh) → weighted_of w of ≤ n → weighted_of w of ≡ weighted_of w of') → CanStep b mesh ⊎ IsOver b mesh → weighted_of w of ≡ weighted_of w of'
      at later (inl can) = (let d : Descends mesh = descends mesh plain can.step can.enabled in let x = d.falls starts links end of in let y = d.falls others other_links other_end of' in both_same (weighted_of w of) (weighted_of w of') (weighted_of w x.0) (weighted_of w y.0) d.weight x.1 y.1 (later d.next d.plain starts others links other_links end other_end x.0 y.0 (fewer (weighted_of w of) (weighted_of w x.0) d.weight n x.1 d.some most)))
      at later (inr over) = none_weighs starts links end mesh of over ∙ sym (none_weighs others other_links other_end mesh of' over)

-- ---- the queues that hold what is under way

rule_of : (carrier : Carrier) (sent received : List Msg) → Carries carrier sent received → IsSent (kind_sent carrier) sent
rule_of (Direct q) sent received x = x.stands.is_sent
rule_of (Framed c) sent received x = x.carries.near.is_sent

module _ {V : Type 0} (b : Behaviour V) (settled : V → ℕ → Type 0) (starts : List V) (links : List Link) (end : ℕ) (mesh : State V) (of : IsMeshOf b settled starts links end mesh) where
  abbrev queue_for : Channel → Plain
  queue_for ch = record { kind = kind_or (kind_at (map b.ports starts) ch.to); slots = 1; held = of.held ch.from }

  abbrev pub flat : State V
  flat = record mesh { carriers = map (λ ch. Direct (queue_for ch)) (channels links) }

  module _ (k : ℕ) (ch : Channel) (is : slice_get (channels links) k ≡ Some ch) where
    own : HasCarrier (map b.ports starts) ch k (of.sent ch.from) (of.received ch.to) mesh.carriers
    own = of.carriers k ch is

    kind_is : kind_or (kind_at (map b.ports starts) ch.to) ≡ kind_sent own.carrier
    kind_is = ap kind_or own.kind

    there : slice_get flat.carriers k ≡ Some (Direct (queue_for ch))
    there = get_mapped (λ ch. Direct (queue_for ch)) (channels links) k ch is

  pub of_flat : IsMeshOf b settled starts links end flat
  of_flat = record {
    wired = of.wired;
    positions = of.positions;
    received = of.received;
    sent = of.sent;
    held = of.held;
    whole = of.whole;
    ways = of.ways;
    carriers = λ k ch is. record {
      carrier = Direct (queue_for ch);
      there = there k ch is;
      carries = record {
        place = omega arith;
        stands = record {
          held_between = sym (of.whole.joined k ch is).between;
          is_sent = subst (λ kind. IsSent kind (of.sent ch.from)) (sym (kind_is k ch is)) (rule_of (own k ch is).carrier (of.sent ch.from) (of.received ch.to) (own k ch is).carries);
        };
      };
      kind = (own k ch is).kind ∙ ap Some (sym (kind_is k ch is));
    };
  }

  flat_plain : ArePlain flat.carriers
  flat_plain k carrier is = (let from : (ch : Channel) × (slice_get (channels links) k ≡ Some ch) × (Direct (queue_for ch) ≡ carrier) = mapped_at (λ ch. Direct (queue_for ch)) (channels links) flat.carriers k carrier refl is in subst IsQueue from.2 tt)

  -- what is to come is what is to come of that mesh, each message weighed by its work, and what is between the ends
  abbrev pub works : ℕ → Msg → ℕ
  works k m = weight_of (slice_get mesh.carriers k) m

  abbrev inner : Option Carrier → List Msg → ℕ
  inner None held = 0
  inner (Some carrier) held = left_between carrier held

  abbrev inner_at : ℕ → Channel → ℕ
  inner_at k ch = inner (slice_get mesh.carriers k) (of.held ch.from)

  split_at : (k : ℕ) (ch : Channel) → slice_get (channels links) k ≡ Some ch → work_at (network b starts links) end mesh.carriers of.sent of.held k ch ≡ weights_at (network b starts links) end works of.sent k ch + inner_at k ch
  split_at k ch is =
      let o : HasCarrier (map b.ports starts) ch k (of.sent ch.from) (of.received ch.to) mesh.carriers = own k ch is in
      let whole = messages_of (network b starts links) end ch in
      ap (λ x. work_to_come x whole (of.sent ch.from) (of.held ch.from)) o.there
      ∙ ap₂ (λ x y. (x - y) + left_between o.carrier (of.held ch.from)) (weight_is mesh.carriers k o.carrier o.there whole) (weight_is mesh.carriers k o.carrier o.there (of.sent ch.from))
      ∙ ap (λ x. weights_at (network b starts links) end works of.sent k ch + inner x (of.held ch.from)) (sym o.there)

  plus_assoc : (x y z : ℕ) → x + (y + z) ≡ (x + y) + z
  plus_assoc x y z = omega arith

  pub split : steps_to_come of ≡ weighted_of works of_flat + total inner_at (channels links)
  unfolding of_flat
  split =
      ap (λ n. left (network b starts links) end of.positions of.received of.sent mesh.runners + n) (total_same (work_at (network b starts links) end mesh.carriers of.sent of.held) (λ k ch. weights_at (network b starts links) end works of.sent k ch + inner_at k ch) (channels links) split_at ∙ total_plus (weights_at (network b starts links) end works of.sent) inner_at (channels links))
      ∙ plus_assoc (left (network b starts links) end of.positions of.received of.sent mesh.runners) (total (weights_at (network b starts links) end works of.sent) (channels links)) (total inner_at (channels links))

-- ---- whoever says it

module _ {V : Type 0} (b : Behaviour V) (settled : V → ℕ → Type 0) (lawful : IsLawful b settled) (mesh : State V) (starts others : List V) (links other_links : List Link) (end other_end : ℕ) (of : IsMeshOf b settled starts links end mesh) (of' : IsMeshOf b settled others other_links other_end mesh) where
  as_many : length (channels links) ≡ length (channels other_links)
  as_many = sym (length-map (channels links) way_of) ∙ ap length (sym of.ways ∙ of'.ways) ∙ length-map (channels other_links) way_of

  module _ (k : ℕ) (ch ch' : Channel) (is : slice_get (channels links) k ≡ Some ch) (is' : slice_get (channels other_links) k ≡ Some ch') where
    abbrev mine : HasCarrier (map b.ports starts) ch k (of.sent ch.from) (of.received ch.to) mesh.carriers
    mine = own b settled starts links end mesh of k ch is

    abbrev theirs : HasCarrier (map b.ports others) ch' k (of'.sent ch'.from) (of'.received ch'.to) mesh.carriers
    theirs = own b settled others other_links other_end mesh of' k ch' is'

    one_carrier : mine.carrier ≡ theirs.carrier
    one_carrier = same_Some mine.carrier theirs.carrier (sym mine.there ∙ theirs.there)

    one_held : of.held ch.from ≡ of'.held ch'.from
    one_held = one_under_way theirs.carrier (of.sent ch.from) (of.received ch.to) (of.held ch.from) (of'.sent ch'.from) (of'.received ch'.to) (of'.held ch'.from) (subst (λ c. Carries c (of.sent ch.from) (of.received ch.to)) one_carrier mine.carries) (of.whole.joined k ch is).between theirs.carries (of'.whole.joined k ch' is').between

    one_queue : Direct (queue_for b settled starts links end mesh of ch) ≡ Direct (queue_for b settled others other_links other_end mesh of' ch')
    one_queue = ap₂ (λ kind held. Direct (record { kind = kind; slots = 1; held = held })) (kind_is b settled starts links end mesh of k ch is ∙ ap kind_sent one_carrier ∙ sym (kind_is b settled others other_links other_end mesh of' k ch' is')) one_held

  one_flat : flat b settled starts links end mesh of ≡ flat b settled others other_links other_end mesh of'
  one_flat = ap (λ l. record mesh { carriers = l }) (same_lists (map (λ ch. Direct (queue_for b settled starts links end mesh of ch)) (channels links)) (map (λ ch. Direct (queue_for b settled others other_links other_end mesh of' ch)) (channels other_links)) (length-map (channels links) _ ∙ as_many ∙ sym (length-map (channels other_links) _)) at)
    where
      at : (k : ℕ) (x y : Carrier) → slice_get (map (λ ch. Direct (queue_for b settled starts links end mesh of ch)) (channels links)) k ≡ Some x → slice_get (map (λ ch. Direct (queue_for b settled others other_links other_end mesh of' ch)) (channels other_links)) k ≡ Some y → x ≡ y
      at k x y x_is y_is =
          let from = mapped_at (λ ch. Direct (queue_for b settled starts links end mesh of ch)) (channels links) _ k x refl x_is in
          let other = mapped_at (λ ch. Direct (queue_for b settled others other_links other_end mesh of' ch)) (channels other_links) _ k y refl y_is in
          sym from.2 ∙ one_queue k from.0 other.0 from.1 other.1 ∙ other.2

  abbrev w : ℕ → Msg → ℕ
  w = works b settled starts links end mesh of

  weigh_alike : (m : State V) → flat b settled starts links end mesh of ≡ m → (o : IsMeshOf b settled others other_links other_end m) → weighted_of w (of_flat b settled starts links end mesh of) ≡ weighted_of w o
  weigh_alike m same o = subst (λ (m : State V). (o : IsMeshOf b settled others other_links other_end m) → weighted_of w (of_flat b settled starts links end mesh of) ≡ weighted_of w o) same (λ o. agree_plain b settled lawful w (weighted_of w (of_flat b settled starts links end mesh of)) (flat b settled starts links end mesh of) (flat_plain b settled starts links end mesh of) starts others links other_links end other_end (of_flat b settled starts links end mesh of) o (omega arith)) o

  inner_alike : total (inner_at b settled starts links end mesh of) (channels links) ≡ total (inner_at b settled others other_links other_end mesh of') (channels other_links)
  inner_alike = total_alike (inner_at b settled starts links end mesh of) (inner_at b settled others other_links other_end mesh of') (channels links) (channels other_links) as_many (λ k ch ch' is is'. ap (λ held. inner b settled starts links end mesh of (slice_get mesh.carriers k) held) (one_held k ch ch' is is'))

  pub same_number : steps_to_come of ≡ steps_to_come of'
  same_number = split b settled starts links end mesh of ∙ ap₂ ◌+◌ (weigh_alike (flat b settled others other_links other_end mesh of') one_flat (of_flat b settled others other_links other_end mesh of')) inner_alike ∙ sym (split b settled others other_links other_end mesh of')
