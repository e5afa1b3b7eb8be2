-- What a mesh's code reads of a channel: the runner at one of its ends, and what carries it.
use Rattle.std.proofs.Common.{◌≡◌, ℕ, ◌<◌, Bool, List, length, get_or, Some, Ok, slice_get, refl, sym, ap, ◌∙◌, subst}
use Rattle.std.proofs.lemmas.Option.{same_Some, slice_get_within, slice_get_read}
use Rattle.sb_message.specs.declared.message.Msg.{Msg}
use Rattle.device_api.specs.Behaviour.{Behaviour}
use Rattle.mesh_channel.specs.declared.carrier.Carrier.{Carrier}
use Rattle.mesh_channel.specs.Carrier.{kind_sent, Pushes, Refuses, Pops, Empties}
use Rattle.mesh_channel.specs.Standing.{StandsSent}
use Rattle.run_steps.specs.declared.step.Step.TheVariants.{Send, Poll}
use Rattle.sync_rule.specs.declared.runner.Runner.{Runner}
use Rattle.sync_rule.specs.Steps.{MaySendNext, Sends, Polls, IsWrongIntro, IsIntroduction, introduced_at}
use Rattle.mesh_core.specs.declared.way.Way.{Way}
use Rattle.mesh_core.specs.State.{State}
use Rattle.mesh_core.specs.MeshOf.{IsMesh}
use Rattle.mesh_core.specs.Steps.{IsLine, Steps, with_line}
use Rattle.mesh_core.proofs.Ends.{HasSender, HasReceiver, sender_in, receiver_in, carrier_there}
use Rattle.mesh_core.proofs.Stepped.{send_steps, poll_steps}

module _ {V : Type 0} (b : Behaviour V) (settled : V → ℕ → Type 0) (runners : List (Runner V)) (ways : List Way) (carriers : List Carrier) (mesh : State V) (view : record { runners = runners; ways = ways; carriers = carriers } ≡ mesh) (is : IsMesh b settled mesh) (k : ℕ) (way : Way) (lt : k < length ways) (read : way ≡ get_or ways k way) where
  abbrev seen : State V
  seen = record { runners = runners; ways = ways; carriers = carriers }

  seen_is : IsMesh b settled seen
  seen_is = subst (IsMesh b settled) (sym view) is

  leads : slice_get ways k ≡ Some way
  leads = slice_get_read ways (length ways) k way refl lt read

  line : HasSender seen k way
  line = sender_in b settled seen seen_is k way leads

  line_in : HasReceiver seen k way
  line_in = receiver_in b settled seen seen_is k way leads

  pub sender_within : way.from.component < length runners
  sender_within = slice_get_within runners way.from.component line.runner line.there

  pub receiver_within : way.to.component < length runners
  receiver_within = slice_get_within runners way.to.component line_in.runner line_in.there

  pub carrier_within : k < length carriers
  carrier_within = carrier_there b settled seen seen_is k way leads

  module _ (carrier : Carrier) (carrier_read : carrier ≡ get_or carriers k carrier) where
    found : slice_get carriers k ≡ Some carrier
    found = slice_get_read carriers (length carriers) k carrier refl carrier_within carrier_read

    at_line : IsLine seen k way carrier
    at_line = record { leads = leads; between = found }

    module _ (r : Runner V) (r_read : r ≡ get_or runners way.from.component r) where
      r_there : slice_get runners way.from.component ≡ Some r
      r_there = slice_get_read runners (length runners) way.from.component r refl sender_within r_read

      pub may_send : MaySendNext r way.from.port (kind_sent carrier) (StandsSent carrier)
      may_send = subst (λ c. MaySendNext r way.from.port (kind_sent c) (StandsSent c)) (same_Some line.carrier carrier (sym line.between ∙ found)) (subst (λ (x : Runner V). MaySendNext x way.from.port (kind_sent line.carrier) (StandsSent line.carrier)) (same_Some line.runner r (sym line.there ∙ r_there)) line.may_send)

      pub has_sent : (r' : Runner V) (carrier' : Carrier) (moved : Bool) → Sends (λ m. Pushes carrier m carrier') (Refuses carrier carrier') (carrier' ≡ carrier) r r' way.from.port moved → Steps b (Send k) mesh (with_line seen way.from.component r' k carrier') moved
      has_sent r' carrier' moved sends = subst (λ old. Steps b (Send k) old (with_line seen way.from.component r' k carrier') moved) view (send_steps b seen k way carrier carrier' at_line r r' moved r_there sends)

    module _ (r : Runner V) (r_read : r ≡ get_or runners way.to.component r) where
      receiver_there : slice_get runners way.to.component ≡ Some r
      receiver_there = slice_get_read runners (length runners) way.to.component r refl receiver_within r_read

      pub has_received : (r' : Runner V) (carrier' : Carrier) (moved : Bool) → Polls (λ m. Pops carrier m carrier') (Empties carrier carrier') (carrier' ≡ carrier) r r' way.to.port (Ok moved) → Steps b (Poll k) mesh (with_line seen way.to.component r' k carrier') moved
      has_received r' carrier' moved polls = subst (λ old. Steps b (Poll k) old (with_line seen way.to.component r' k carrier') moved) view (poll_steps b seen k way carrier carrier' at_line r r' moved receiver_there polls)

      -- the first message of a channel is never wrong
      pub never_wrong : (carrier' : Carrier) (port : ℕ) (first : Msg) → IsWrongIntro (λ m. Pops carrier m carrier') r way.to.port port first → ⊥
      never_wrong carrier' port first wrong = wrong.wrong (subst (λ (x : Runner V). IsIntroduction x way.to.port first) same (line_in.first_is (ap (λ (x : Runner V). introduced_at (slice_get x.incoming way.to.port)) same ∙ wrong.first) first carrier' (subst (λ c. Pops c first carrier') (sym (same_Some line_in.carrier carrier (sym line_in.between ∙ found))) wrong.popped)))
        where
          same : line_in.runner ≡ r
          same = same_Some line_in.runner r (sym line_in.there ∙ receiver_there)

      pub port_in : way.to.port < length r.incoming
      port_in = subst (λ (x : Runner V). way.to.port < length x.incoming) (same_Some line_in.runner r (sym line_in.there ∙ receiver_there)) (slice_get_within line_in.runner.incoming way.to.port line_in.incoming line_in.in_at)

  pub port_out : (r : Runner V) → r ≡ get_or runners way.from.component r → way.from.port < length r.outgoing
  port_out r r_read = subst (λ (x : Runner V). way.from.port < length x.outgoing) (same_Some line.runner r (sym line.there ∙ slice_get_read runners (length runners) way.from.component r refl sender_within r_read)) (slice_get_within line.runner.outgoing way.from.port line.outgoing line.out_at)
