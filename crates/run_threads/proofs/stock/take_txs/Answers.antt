use Rattle.std.proofs.Common.{map, sym, subst}
use Rattle.slot_queue.specs.declared.ends.TxEnd.{TxEnd}
use Rattle.run_threads.specs.Numbers.{AreNumbers}
use Rattle.run_threads.specs.Queues.{its_sender}
use Rattle.run_threads.specs.Stock.{AreFresh}
use Rattle.run_threads.proofs.Stocked.{are_there, are_fresh, are_senders, sides_left}
use Rattle.run_threads.proofs.stock.take_txs.Goals as goal

pub take_at-requires : goal.take_at-requires
take_at-requires c =
    let are : AreNumbers c.args.seats.now c.args.component c.args.ports c.as_slice-places.result.now = subst (AreNumbers c.args.seats.now c.args.component c.args.ports) (sym c.as_slice-places.ensures.value) c.in_ok-numbers.ensures in
    are_there its_sender (map (λ queue. queue.now) c.args.queues.now) c.args.seats.now c.args.component c.args.ports c.as_slice-places.result.now are c.args.slots.now c.requires.there

pub tx_ends-requires : goal.tx_ends-requires
tx_ends-requires c =
    let are : AreNumbers c.args.seats.now c.args.component c.args.ports c.as_slice-places.result.now = subst (AreNumbers c.args.seats.now c.args.component c.args.ports) (sym c.as_slice-places.ensures.value) c.in_ok-numbers.ensures in
    are_senders (map (λ queue. queue.now) c.args.queues.now) c.args.seats.now c.args.component c.args.ports c.as_slice-places.result.now are c.args.slots.now c.requires.there c.take_at.new.slots c.in_ok-sides.sides.items c.in_ok-sides.ensures

pub returns-clause-fresh : goal.returns-clause-fresh
returns-clause-fresh c =
    let are : AreNumbers c.args.seats.now c.args.component c.args.ports c.as_slice-places.result.now = subst (AreNumbers c.args.seats.now c.args.component c.args.ports) (sym c.as_slice-places.ensures.value) c.in_ok-numbers.ensures in
    subst (λ numbers. AreFresh (λ (end : TxEnd). end.seat) its_sender (map (λ queue. queue.now) c.args.queues.now) numbers c.in_ok-ends.ends.items) c.as_slice-places.ensures.value (are_fresh its_sender (map (λ queue. queue.now) c.args.queues.now) c.args.seats.now c.args.component c.args.ports c.as_slice-places.result.now are c.args.slots.now c.requires.there c.take_at.new.slots c.in_ok-sides.sides.items c.in_ok-sides.ensures (λ (end : TxEnd). end.seat) c.in_ok-ends.ends.items c.in_ok-ends.ensures)

pub returns-clause-left : goal.returns-clause-left
returns-clause-left c =
    let are : AreNumbers c.args.seats.now c.args.component c.args.ports c.as_slice-places.result.now = subst (AreNumbers c.args.seats.now c.args.component c.args.ports) (sym c.as_slice-places.ensures.value) c.in_ok-numbers.ensures in
    sides_left its_sender (map (λ queue. queue.now) c.args.queues.now) c.args.seats.now c.args.component c.args.ports c.as_slice-places.result.now are c.args.slots.now c.requires.there c.take_at.new.slots c.in_ok-sides.sides.items c.in_ok-sides.ensures
