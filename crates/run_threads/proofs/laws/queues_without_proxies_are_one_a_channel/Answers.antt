use Rattle.run_threads.proofs.Doubled.{new_by_queues, one_place}
use Rattle.run_threads.proofs.laws.queues_without_proxies_are_one_a_channel.Goals as goal

pub returns : goal.returns
returns c = record {
  queues = λ kinds links queues producers consumers all new. new_by_queues kinds links queues producers consumers all new;
  places = λ links queues all k below. one_place links queues all k below;
}
