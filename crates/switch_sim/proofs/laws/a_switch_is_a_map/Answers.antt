use Rattle.switch_sim.proofs.Mapped.{map_of, learned_map}
use Rattle.switch_sim.proofs.laws.a_switch_is_a_map.Goals as goal

pub returns-clause-map : goal.returns-clause-map
returns-clause-map c = map_of

pub returns-clause-step : goal.returns-clause-step
returns-clause-step c = λ s t port from mac settled. learned_map s t from port mac settled
