use Rattle.std.proofs.Common.{◌≡◌, length, map}
use Rattle.run_threads.specs.Building.{HaveParts, starts_of}
use Rattle.run_threads.specs.Dealing.{AreNumbered}
use Rattle.run_threads.specs.Queues.{its_sender, its_receiver}
use Rattle.run_threads.specs.Stock.{HaveSides}
use Rattle.run_threads.proofs.InTurn.{AreTaken}
use Rattle.run_threads.proofs.build.deal_all.Given as goal

abbrev pub invariant-runners : goal.invariant-runners
invariant-runners g l = record {
  taken : AreTaken l.fn.runners.items l.component l.left;
  parts : HaveParts g.V.Device.behaviour (starts_of l.fn.runners.items) l.fn.wiring.links l.fn.wiring.end (map (λ queue. queue.now) l.fn.nears) (map (λ queue. queue.now) l.fn.fars) l.component l.workers;
  numbered : AreNumbered l.fn.workers → AreNumbered l.workers;
  froms : l.stock.froms ≡ l.fn.stock.froms;
  tos : l.stock.tos ≡ l.fn.stock.tos;
  senders : HaveSides its_sender (map (λ queue. queue.now) l.fn.nears) l.fn.stock.froms.items l.stock.senders.items l.component;
  receivers : HaveSides its_receiver (map (λ queue. queue.now) l.fn.fars) l.fn.stock.tos.items l.stock.receivers.items l.component;
}

abbrev pub decreases-runners : goal.decreases-runners
decreases-runners g l = length l.left
