-- What the calls of a mesh have done, as its steps.
use Rattle.std.proofs.Common.{◌≡◌, ℕ, ◌<◌, ◌≤◌, Bool, true, false, [], ◌∷◌, length, Some, Ok, slice_get, refl, sym, ap, ap₂, ◌∙◌, subst, arith, inl, inr, ◌⊎◌}
use Rattle.std.specs.Prelude.{slice_set}
use Rattle.std.proofs.lemmas.Option.{same_Some, slice_get_within}
use Rattle.device_api.specs.Behaviour.{Behaviour}
use Rattle.mesh_channel.specs.declared.carrier.Carrier.{Carrier}
use Rattle.mesh_channel.specs.Carrier.{Pushes, Refuses, Pops, Empties, MayTake, MayMove, MayPut, Takes, Moves, Puts, Makes}
use Rattle.mesh_channel.specs.Standing.{IsCarrying}
use Rattle.mesh_channel.specs.Laws.{RefusesRightly}
use Rattle.mesh_channel.proofs.Going.{refuses_rightly}
use Rattle.run_steps.specs.declared.step.Step.TheVariants.{Event, Send, Poll, Take, Move, Put}
use Rattle.sync_rule.specs.declared.runner.Runner.{Runner}
use Rattle.sync_rule.specs.ManyPorts.{outbox_in}
use Rattle.sync_rule.specs.Next.{IsEnabled}
use Rattle.sync_rule.specs.Steps.{Processes, Sends, Polls}
use Rattle.sync_rule.proofs.Steps.{set_same}
use Rattle.mesh_core.specs.declared.way.Way.{Way}
use Rattle.mesh_core.specs.State.{State}
use Rattle.mesh_core.specs.Steps.{SendsOn, ReceivesOn, IsLine, IsAt, Steps, with_line, with_carrier}

module _ {V : Type 0} (b : Behaviour V) (mesh : State V) where
  -- no such component, and no such channel
  pub no_component : (c : ℕ) → length mesh.runners ≤ c → Steps b (Event c) mesh mesh false
  no_component c past = record { not_enabled = λ at. (let within : c < length mesh.runners = slice_get_within mesh.runners c at.leads.before at.leads.there in omega arith); unchanged = refl }

  past_ways : (k : ℕ) (way : Way) (carrier : Carrier) → length mesh.ways ≤ k → IsLine mesh k way carrier → ⊥
  past_ways k way carrier past line = (let within : k < length mesh.ways = slice_get_within mesh.ways k way line.leads in omega arith)

  pub no_sender : (k : ℕ) → length mesh.ways ≤ k → Steps b (Send k) mesh mesh false
  no_sender k past = record { not_enabled = λ at. past_ways k at.leads.way at.leads.carrier past at.leads.line; unchanged = refl }

  pub no_receiver : (k : ℕ) → length mesh.ways ≤ k → Steps b (Poll k) mesh mesh false
  no_receiver k past = record { not_enabled = λ at. past_ways k at.leads.way at.leads.carrier past at.leads.line; unchanged = refl }

  pub no_channel : (k : ℕ) (may : Carrier → Type 0) → length mesh.ways ≤ k → IsAt may mesh k → ⊥
  no_channel k may past at = past_ways k at.way at.carrier past at.line

  pub no_take : (k : ℕ) → length mesh.ways ≤ k → Steps b (Take k) mesh mesh false
  no_take k past = record { not_enabled = no_channel k MayTake past; unchanged = refl }

  pub no_move : (k n : ℕ) → length mesh.ways ≤ k → Steps b (Move k n) mesh mesh false
  no_move k n past = record { not_enabled = no_channel k (MayMove n) past; unchanged = refl }

  pub no_put : (k : ℕ) → length mesh.ways ≤ k → Steps b (Put k) mesh mesh false
  no_put k past = record { not_enabled = no_channel k MayPut past; unchanged = refl }

  pub event_steps : (c : ℕ) (r r' : Runner V) (done : Bool) → slice_get mesh.runners c ≡ Some r → Processes b r r' done → Steps b (Event c) mesh (record mesh { runners = slice_set mesh.runners c r' }) done
  event_steps c r r' true there processed = record { before = r; there = there; after = r'; processed = processed; is = refl }
  event_steps c r r' false there idle = record {
    not_enabled = λ at. idle.none at.leads.processed.next (subst (λ x. IsEnabled b x at.leads.processed.next) (same_Some at.leads.before r (sym at.leads.there ∙ there)) at.leads.processed.enabled);
    unchanged = ap (λ l. record mesh { runners = l }) (ap (slice_set mesh.runners c) idle.unchanged ∙ set_same mesh.runners c r there);
  }

  -- a channel, and the runner at one of its ends
  module _ (k : ℕ) (way : Way) (carrier carrier' : Carrier) (line : IsLine mesh k way carrier) where
    rightly : RefusesRightly carrier
    rightly = refuses_rightly carrier

    module _ (r r' : Runner V) where
      -- nothing changed
      kept : (c : ℕ) → slice_get mesh.runners c ≡ Some r → r' ≡ r → carrier' ≡ carrier → with_line mesh c r' k carrier' ≡ mesh
      kept c there same same_carrier = ap₂ (λ runners carriers. record mesh { runners = runners; carriers = carriers }) (ap (slice_set mesh.runners c) same ∙ set_same mesh.runners c r there) (ap (slice_set mesh.carriers k) same_carrier ∙ set_same mesh.carriers k carrier line.between)

      pub send_steps : (moved : Bool) → slice_get mesh.runners way.from.component ≡ Some r → Sends (λ m. Pushes carrier m carrier') (Refuses carrier carrier') (carrier' ≡ carrier) r r' way.from.port moved → Steps b (Send k) mesh (with_line mesh way.from.component r' k carrier') moved
      send_steps true there passes = record {
        way = way;
        carrier = carrier;
        line = line;
        runner = r;
        sender = there;
        m = passes.m;
        more = passes.more;
        waited = passes.waited;
        after = carrier';
        pushed = passes.pushed;
        is = ap (λ x. with_line mesh way.from.component x k carrier') passes.is;
      }
      send_steps false there keeps = record { not_enabled = λ at. nowhere keeps.cause at.next at.leads; unchanged = kept way.from.component there keeps.unchanged (same_carrier keeps.cause) }
        where
          same_carrier : (((outbox_in r.outgoing way.from.port ≡ []) × (carrier' ≡ carrier)) ⊎ Refuses carrier carrier') → carrier' ≡ carrier
          same_carrier (inl empty) = empty.1
          same_carrier (inr full) = rightly.full_keeps carrier' full

          ways_are : (other : State V) (at : SendsOn mesh other k) → at.way ≡ way
          ways_are other at = same_Some at.way way (sym at.line.leads ∙ line.leads)

          carriers_are : (other : State V) (at : SendsOn mesh other k) → at.carrier ≡ carrier
          carriers_are other at = same_Some at.carrier carrier (sym at.line.between ∙ line.between)

          runners_are : (other : State V) (at : SendsOn mesh other k) → at.runner ≡ r
          runners_are other at = same_Some at.runner r (sym at.sender ∙ ap (λ (w : Way). slice_get mesh.runners w.from.component) (ways_are other at) ∙ there)

          nowhere : (((outbox_in r.outgoing way.from.port ≡ []) × (carrier' ≡ carrier)) ⊎ Refuses carrier carrier') → (other : State V) → SendsOn mesh other k → ⊥
          nowhere (inl empty) other at = (let waits : [] ≡ at.m ∷ at.more = sym empty.0 ∙ ap₂ (λ (x : Runner V) (w : Way). outbox_in x.outgoing w.from.port) (sym (runners_are other at)) (sym (ways_are other at)) ∙ at.waited in absurd cc)
          nowhere (inr full) other at = rightly.full carrier' at.after at.m full (subst (λ x. Pushes x at.m at.after) (carriers_are other at) at.pushed)

      pub poll_steps : (moved : Bool) → slice_get mesh.runners way.to.component ≡ Some r → Polls (λ m. Pops carrier m carrier') (Empties carrier carrier') (carrier' ≡ carrier) r r' way.to.port (Ok moved) → Steps b (Poll k) mesh (with_line mesh way.to.component r' k carrier') moved
      poll_steps true there receives = record {
        way = way;
        carrier = carrier;
        line = line;
        m = receives.m;
        after = carrier';
        popped = receives.popped;
        runner = r;
        receiver = there;
        is = ap (λ x. with_line mesh way.to.component x k carrier') receives.is;
      }
      poll_steps false there empty = record { not_enabled = λ at. nowhere at.next at.leads; unchanged = kept way.to.component there empty.1 (rightly.none_keeps carrier' empty.0) }
        where
          nowhere : (other : State V) → ReceivesOn mesh other k → ⊥
          nowhere other at = rightly.none carrier' at.after at.m empty.0 (subst (λ x. Pops x at.m at.after) (same_Some at.carrier carrier (sym at.line.between ∙ line.between)) at.popped)

    -- a step between its ends
    same : carrier' ≡ carrier → with_carrier mesh k carrier' ≡ mesh
    same unchanged = ap (λ l. record mesh { carriers = l }) (ap (slice_set mesh.carriers k) unchanged ∙ set_same mesh.carriers k carrier line.between)

    refused : (may : Carrier → Type 0) → (may carrier → ⊥) → IsAt may mesh k → ⊥
    refused may never at = never (subst may (same_Some at.carrier carrier (sym at.line.between ∙ line.between)) at.enabled)

    pub take_steps : (moved : Bool) → Makes (MayTake carrier) (Takes carrier carrier') carrier carrier' moved → Steps b (Take k) mesh (with_carrier mesh k carrier') moved
    take_steps true made = record { way = way; carrier = carrier; line = line; after = carrier'; made = made.1; is = refl }
    take_steps false kept = record { not_enabled = refused MayTake kept.0; unchanged = same kept.1 }

    pub move_steps : (n : ℕ) (moved : Bool) → IsCarrying carrier → Makes (MayMove n carrier) (Moves n carrier carrier') carrier carrier' moved → Steps b (Move k n) mesh (with_carrier mesh k carrier') moved
    move_steps n true carrying made = record { way = way; carrier = carrier; line = line; after = carrier'; made = record { enabled = made.0; carrying = carrying; moved = made.1 }; is = refl }
    move_steps n false carrying kept = record { not_enabled = refused (MayMove n) kept.0; unchanged = same kept.1 }

    pub put_steps : (moved : Bool) → Makes (MayPut carrier) (Puts carrier carrier') carrier carrier' moved → Steps b (Put k) mesh (with_carrier mesh k carrier') moved
    put_steps true made = record { way = way; carrier = carrier; line = line; after = carrier'; made = made.1; is = refl }
    put_steps false kept = record { not_enabled = refused MayPut kept.0; unchanged = same kept.1 }
