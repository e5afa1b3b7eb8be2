-- What a mesh's code reads of a channel between whose ends a step goes on.
use Rattle.std.proofs.Common.{◌≡◌, ℕ, ◌<◌, Bool, List, length, get_or, Some, slice_get, refl, sym, subst}
use Rattle.std.proofs.lemmas.Option.{slice_get_read}
use Rattle.device_api.specs.Behaviour.{Behaviour}
use Rattle.mesh_channel.specs.declared.carrier.Carrier.{Carrier}
use Rattle.mesh_channel.specs.Carrier.{MayTake, MayMove, MayPut, Takes, Moves, Puts, Makes, bytes_between}
use Rattle.mesh_channel.specs.Standing.{IsCarrying}
use Rattle.run_laws.proofs.Lists.{there_below}
use Rattle.run_steps.specs.declared.step.Step.TheVariants.{Take, Move, Put}
use Rattle.sync_rule.specs.declared.runner.Runner.{Runner}
use Rattle.mesh_core.specs.declared.way.Way.{Way}
use Rattle.mesh_core.specs.State.{State}
use Rattle.mesh_core.specs.MeshOf.{IsMesh}
use Rattle.mesh_core.specs.Steps.{IsLine, Steps, with_carrier}
use Rattle.mesh_core.proofs.Ends.{carrying_in, carrier_there}
use Rattle.mesh_core.specs.Walk.{MovesAll}
use Rattle.mesh_core.proofs.Stepped.{take_steps, move_steps, put_steps}
use Rattle.mesh_core.proofs.Walked.{moves_all}

module _ {V : Type 0} (b : Behaviour V) (settled : V → ℕ → Type 0) (runners : List (Runner V)) (ways : List Way) (carriers : List Carrier) (mesh : State V) (view : record { runners = runners; ways = ways; carriers = carriers } ≡ mesh) (is : IsMesh b settled mesh) (k : ℕ) (lt : k < length ways) where
  abbrev seen : State V
  seen = record { runners = runners; ways = ways; carriers = carriers }

  seen_is : IsMesh b settled seen
  seen_is = subst (IsMesh b settled) (sym view) is

  way : (way : Way) × (slice_get ways k ≡ Some way)
  way = there_below ways k lt

  pub within : k < length carriers
  within = carrier_there b settled seen seen_is k way.0 way.1

  module _ (carrier : Carrier) (read : carrier ≡ get_or carriers k carrier) where
    found : slice_get carriers k ≡ Some carrier
    found = slice_get_read carriers (length carriers) k carrier refl within read

    line : IsLine seen k way.0 carrier
    line = record { leads = way.1; between = found }

    pub carrying : IsCarrying carrier
    carrying = carrying_in b settled seen seen_is k way.0 carrier way.1 found

    pub has_taken : (carrier' : Carrier) (moved : Bool) → Makes (MayTake carrier) (Takes carrier carrier') carrier carrier' moved → Steps b (Take k) mesh (with_carrier seen k carrier') moved
    has_taken carrier' moved made = subst (λ old. Steps b (Take k) old (with_carrier seen k carrier') moved) view (take_steps b seen k way.0 carrier carrier' line moved made)

    pub has_moved : (carrier' : Carrier) (n : ℕ) (moved : Bool) → Makes (MayMove n carrier) (Moves n carrier carrier') carrier carrier' moved → Steps b (Move k n) mesh (with_carrier seen k carrier') moved
    has_moved carrier' n moved made = subst (λ old. Steps b (Move k n) old (with_carrier seen k carrier') moved) view (move_steps b seen k way.0 carrier carrier' line n moved carrying made)

    pub has_put : (carrier' : Carrier) (moved : Bool) → Makes (MayPut carrier) (Puts carrier carrier') carrier carrier' moved → Steps b (Put k) mesh (with_carrier seen k carrier') moved
    has_put carrier' moved made = subst (λ old. Steps b (Put k) old (with_carrier seen k carrier') moved) view (put_steps b seen k way.0 carrier carrier' line moved made)

    pub all_moved : (n : ℕ) → n ≡ bytes_between carrier → (new : State V) (moved : Bool) → Steps b (Move k n) mesh new moved → MovesAll b k mesh new moved
    all_moved n is_all new moved made = moves_all b k n way.0 carrier mesh new moved (subst (λ (m : State V). IsLine m k way.0 carrier) view line) is_all made
