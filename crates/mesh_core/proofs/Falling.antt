-- Each step lowers what is to come by as much as it counts; that is one number of the mesh alone, and 0 where all is processed
-- and received.
use Rattle.std.proofs.Common.{◌≡◌, ℕ, ◌+◌, ◌-◌, ◌<◌, ◌≤◌, ◌⊎◌, inl, inr, List, Some, slice_get, sym, ap, ◌∙◌, subst, arith}
use Rattle.std.proofs.lemmas.Option.{same_Some}
use Rattle.cs_base.specs.declared.link.Link.{Link}
use Rattle.device_api.specs.Behaviour.{Behaviour, IsLawful}
use Rattle.device_api.specs.Channels.{Channel, channels}
use Rattle.device_api.specs.GlobalCounts.{messages_of}
use Rattle.global_model.specs.Step.{network}
use Rattle.run_steps.specs.declared.step.Step.{Step}
use Rattle.run_steps.specs.declared.step.Step.TheVariants.{Event, Send, Poll, Take, Move, Put}
use Rattle.sync_laws.specs.ToCome.{total}
use Rattle.sync_laws.proofs.Nothing.{nothing_left}
use Rattle.sync_laws.proofs.Totals.{total_none}
use Rattle.mesh_channel.specs.declared.carrier.Carrier.{Carrier}
use Rattle.mesh_channel.specs.Left.{left_between, IsBusy}
use Rattle.mesh_channel.specs.Standing.{Carries}
use Rattle.mesh_channel.proofs.Counted.{counts, busy}
use Rattle.mesh_core.specs.Laws.{CanStep}
use Rattle.mesh_core.specs.State.{State}
use Rattle.mesh_core.specs.Steps.{Enables}
use Rattle.mesh_core.specs.MeshOf.{IsMeshOf, HasCarrier}
use Rattle.mesh_core.specs.ToCome.{steps_to_come, work_on, work_to_come, IsOneLess, StepsLowerIt, IsOver, NoneIsToCome, IsOneNumber}
use Rattle.mesh_core.proofs.Ending.{received_all, sent_whole}
use Rattle.mesh_core.proofs.Ends.{IsChannelAt, channel_at}
use Rattle.mesh_core.proofs.Flat.{same_number}
use Rattle.mesh_core.proofs.Going.{step_or_over}
use Rattle.mesh_core.proofs.Kept.{step_falls}
use Rattle.mesh_core.proofs.Work.{work_at, total_least}

one_more_is_some : (n m : ℕ) → n ≡ 0 → n ≡ m + 1 → ⊥
one_more_is_some n m none some = omega arith

some_is_some : (n m k : ℕ) → n ≡ 0 → m ≤ k → 0 < m → n ≡ k → ⊥
some_is_some n m k none most some is = omega arith

two_none : (a b : ℕ) → a ≡ 0 → b ≡ 0 → a + b ≡ 0
two_none a b x y = omega arith

module _ {V : Type 0} (b : Behaviour V) (settled : V → ℕ → Type 0) (lawful : IsLawful b settled) where
  pub lowers : StepsLowerIt b settled
  lowers starts links end old new step of leads = step_falls b settled lawful starts links end old of step new leads

  module _ (starts : List V) (links : List Link) (end : ℕ) (mesh : State V) (of : IsMeshOf b settled starts links end mesh) where
    none_over : IsOver b mesh → steps_to_come of ≡ 0
    none_over over = two_none _ _ (nothing_left (network b starts links) settled end of.positions of.received of.sent of.held mesh.runners of.whole of.wired lawful over.ended (received_all b settled starts links end mesh of over)) (total_none (work_at (network b starts links) end mesh.carriers of.sent of.held) (channels links) no_work)
      where
        no_work : (k : ℕ) (ch : Channel) → slice_get (channels links) k ≡ Some ch → work_at (network b starts links) end mesh.carriers of.sent of.held k ch ≡ 0
        no_work k ch is =
            let own : HasCarrier _ ch k (of.sent ch.from) (of.received ch.to) mesh.carriers = of.carriers k ch is in
            let whole = messages_of (network b starts links) end ch in
            let sent : work_on own.carrier (of.sent ch.from) ≡ work_on own.carrier whole = ap (work_on own.carrier) (sent_whole b settled lawful starts links end mesh of over.ended k ch is) in
            let between : left_between own.carrier (of.held ch.from) ≡ 0 = (counts own.carrier (of.sent ch.from) (of.received ch.to) (of.held ch.from) own.carries (of.whole.joined k ch is).between).none (received_all b settled starts links end mesh of over k ch is) in
            ap (λ x. work_to_come x whole (of.sent ch.from) (of.held ch.from)) own.there ∙ (let none : (work_on own.carrier whole - work_on own.carrier (of.sent ch.from)) + left_between own.carrier (of.held ch.from) ≡ 0 = omega arith in none)

    -- a step between the ends of a channel has work to do
    at_work : (k : ℕ) (ch : Channel) (is : slice_get (channels links) k ≡ Some ch) (carrier : Carrier) → slice_get mesh.carriers k ≡ Some carrier → (IsBusy carrier (of.held ch.from) → 0 < left_between carrier (of.held ch.from)) → steps_to_come of ≡ 0 → ⊥
    at_work k ch is carrier there some none =
        let own : HasCarrier _ ch k (of.sent ch.from) (of.received ch.to) mesh.carriers = of.carriers k ch is in
        let carries : Carries carrier (of.sent ch.from) (of.received ch.to) = subst (λ c. Carries c (of.sent ch.from) (of.received ch.to)) (same_Some own.carrier carrier (sym own.there ∙ there)) own.carries in
        let works : 0 < left_between carrier (of.held ch.from) = some (busy carrier (of.sent ch.from) (of.received ch.to) (of.held ch.from) carries (of.whole.joined k ch is).between) in
        let here : work_at (network b starts links) end mesh.carriers of.sent of.held k ch ≡ work_to_come (Some carrier) (messages_of (network b starts links) end ch) (of.sent ch.from) (of.held ch.from) = ap (λ x. work_to_come x (messages_of (network b starts links) end ch) (of.sent ch.from) (of.held ch.from)) there in
        let least : work_at (network b starts links) end mesh.carriers of.sent of.held k ch ≤ total (work_at (network b starts links) end mesh.carriers of.sent of.held) (channels links) = total_least (work_at (network b starts links) end mesh.carriers of.sent of.held) (channels links) k ch is in
        omega (arith, none, works, here, least)

    is_some : (step : Step) → Enables b step mesh → steps_to_come of ≡ 0 → ⊥
    is_some (Event c) at none = (let less : IsOneLess b settled starts links end (steps_to_come of) (Event c) at.next = lowers starts links end mesh at.next (Event c) of at.leads in one_more_is_some (steps_to_come of) (steps_to_come less.of) none less.one_less)
    is_some (Send k) at none = (let less : IsOneLess b settled starts links end (steps_to_come of) (Send k) at.next = lowers starts links end mesh at.next (Send k) of at.leads in one_more_is_some (steps_to_come of) (steps_to_come less.of) none less.one_less)
    is_some (Poll k) at none = (let less : IsOneLess b settled starts links end (steps_to_come of) (Poll k) at.next = lowers starts links end mesh at.next (Poll k) of at.leads in one_more_is_some (steps_to_come of) (steps_to_come less.of) none less.one_less)
    is_some (Take k) at none = (let channel : IsChannelAt b settled starts links end mesh of k at.way = channel_at b settled starts links end mesh of k at.way at.line.leads in at_work k channel.ch channel.at at.carrier at.line.between (λ x. x.take at.enabled) none)
    is_some (Move k n) at none = (let channel : IsChannelAt b settled starts links end mesh of k at.way = channel_at b settled starts links end mesh of k at.way at.line.leads in at_work k channel.ch channel.at at.carrier at.line.between (λ x. x.move n at.enabled) none)
    is_some (Put k) at none = (let channel : IsChannelAt b settled starts links end mesh of k at.way = channel_at b settled starts links end mesh of k at.way at.line.leads in at_work k channel.ch channel.at at.carrier at.line.between (λ x. x.put at.enabled) none)

    over_none : steps_to_come of ≡ 0 → IsOver b mesh
    over_none none = at (step_or_over b settled starts links end mesh of)
      where
        at : CanStep b mesh ⊎ IsOver b mesh → IsOver b mesh
        at (inr over) = over
        at (inl can) = absurd (is_some can.step can.enabled none)

  pub none_to_come : NoneIsToCome b settled
  none_to_come starts links end mesh of = (over_none starts links end mesh of, none_over starts links end mesh of)

  pub one_number : IsOneNumber b settled
  one_number mesh starts others links other_links end other_end of of' = same_number b settled lawful mesh starts others links other_links end other_end of of'
