use Rattle.std.proofs.Common.{rules, ◌≡◌, length, ap, ap₂, sym, ◌∙◌, subst}
use Rattle.std.specs.Prelude.{vec_capacity}
use Rattle.std.proofs.lemmas.List.{with_items_is, places}
use Rattle.slot_queue.specs.declared.ends.TxEnd.{TxEnd}
use Rattle.slot_queue.specs.declared.ends.RxEnd.{RxEnd}
use Rattle.proxy_crew.specs.Ending.{near_side, far_side}
use Rattle.run_threads.specs.Dealing.{PartsCollected}
use Rattle.run_threads.specs.Merging.{vias_of, with_behind, with_before}
use Rattle.run_threads.specs.Parting.{AreFilled, AreSidesIn}
use Rattle.run_threads.specs.Proxied.{near_names, far_names}
use Rattle.run_threads.proofs.Collected.{Collected}
use Rattle.run_threads.proofs.Finished.{own_departures, own_arrivals, room_for_runners, senders_filled, receivers_filled, room_for_outcome, producer_each, consumer_each, is_left, are_seats}
use Rattle.run_threads.proofs.Merged.{room_for_sides}
use Rattle.run_threads.proofs.Regained.{parts_collected}
use Rattle.run_threads.proofs.crew.Crew.finish.Goals as goal

pub open_all-requires-clause-departures : goal.open_all-requires-clause-departures
open_all-requires-clause-departures g c =
    let r = c.requires.dismissed in
    let closing = c.args.self.closing in
    let parts = c.collect_parts.new.parts.items in
    let collected : Collected closing.components r.parts parts = parts_collected closing.components r.parts c.args.self.workers.items parts r.dismissed.workers_are (subst (λ ws. PartsCollected closing.components ws parts) c.as_mut_slice.ensures.value c.collect_parts.ensures) in
    own_departures r.components r.links (near_names r.links r.queues) (far_names r.links r.queues) r.parts closing r.dismissed.seated r.dismissed.room parts collected (length c.as_mut_slice-2.result.now) (ap length c.as_mut_slice-2.ensures.value)

pub open_all-requires-clause-arrivals : goal.open_all-requires-clause-arrivals
open_all-requires-clause-arrivals g c =
    let r = c.requires.dismissed in
    let closing = c.args.self.closing in
    let parts = c.collect_parts.new.parts.items in
    let collected : Collected closing.components r.parts parts = parts_collected closing.components r.parts c.args.self.workers.items parts r.dismissed.workers_are (subst (λ ws. PartsCollected closing.components ws parts) c.as_mut_slice.ensures.value c.collect_parts.ensures) in
    own_arrivals r.components r.links (near_names r.links r.queues) (far_names r.links r.queues) r.parts closing r.dismissed.seated r.dismissed.room parts collected (length c.as_mut_slice-3.result.now) (ap length c.as_mut_slice-3.ensures.value)

pub open_all-requires-clause-room : goal.open_all-requires-clause-room
open_all-requires-clause-room g c =
    let r = c.requires.dismissed in
    let closing = c.args.self.closing in
    let parts = c.collect_parts.new.parts.items in
    let collected : Collected closing.components r.parts parts = parts_collected closing.components r.parts c.args.self.workers.items parts r.dismissed.workers_are (subst (λ ws. PartsCollected closing.components ws parts) c.as_mut_slice.ensures.value c.collect_parts.ensures) in
    room_for_runners r.components r.links (near_names r.links r.queues) (far_names r.links r.queues) r.parts closing r.dismissed.seated r.dismissed.room parts collected

pub producers_in-requires-clause-filled : goal.producers_in-requires-clause-filled
producers_in-requires-clause-filled g c =
    let r = c.requires.dismissed in
    let closing = c.args.self.closing in
    let parts = c.collect_parts.new.parts.items in
    let collected : Collected closing.components r.parts parts = parts_collected closing.components r.parts c.args.self.workers.items parts r.dismissed.workers_are (subst (λ ws. PartsCollected closing.components ws parts) c.as_mut_slice.ensures.value c.collect_parts.ensures) in
    let to_send : length c.open_all.new.senders ≡ length closing.senders.items = c.open_all.ensures.slots_to_send ∙ ap length c.as_mut_slice-2.ensures.value in
    let to_receive : length c.open_all.new.receivers ≡ length closing.receivers.items = c.open_all.ensures.slots_to_receive ∙ ap length c.as_mut_slice-3.ensures.value in
    let senders = with_items_is closing.senders c.open_all.new.senders (search (rules, places)) in
    let receivers = with_items_is closing.receivers c.open_all.new.receivers (search (rules, places)) in
    subst AreFilled (sym senders) (senders_filled r.components r.links (near_names r.links r.queues) (far_names r.links r.queues) r.parts closing r.dismissed.seated r.dismissed.room parts collected c.open_all.new.senders c.open_all.ensures.sending to_send)

pub consumers_in-requires-clause-filled : goal.consumers_in-requires-clause-filled
consumers_in-requires-clause-filled g c =
    let r = c.requires.dismissed in
    let closing = c.args.self.closing in
    let parts = c.collect_parts.new.parts.items in
    let collected : Collected closing.components r.parts parts = parts_collected closing.components r.parts c.args.self.workers.items parts r.dismissed.workers_are (subst (λ ws. PartsCollected closing.components ws parts) c.as_mut_slice.ensures.value c.collect_parts.ensures) in
    let to_send : length c.open_all.new.senders ≡ length closing.senders.items = c.open_all.ensures.slots_to_send ∙ ap length c.as_mut_slice-2.ensures.value in
    let to_receive : length c.open_all.new.receivers ≡ length closing.receivers.items = c.open_all.ensures.slots_to_receive ∙ ap length c.as_mut_slice-3.ensures.value in
    let senders = with_items_is closing.senders c.open_all.new.senders (search (rules, places)) in
    let receivers = with_items_is closing.receivers c.open_all.new.receivers (search (rules, places)) in
    subst AreFilled (sym receivers) (receivers_filled r.components r.links (near_names r.links r.queues) (far_names r.links r.queues) r.parts closing r.dismissed.seated r.dismissed.room parts collected c.open_all.new.receivers c.open_all.ensures.receiving to_receive)

pub outcome_of-outcome-requires : goal.outcome_of-outcome-requires
outcome_of-outcome-requires g c =
    let r = c.requires.dismissed in
    let closing = c.args.self.closing in
    let parts = c.collect_parts.new.parts.items in
    let collected : Collected closing.components r.parts parts = parts_collected closing.components r.parts c.args.self.workers.items parts r.dismissed.workers_are (subst (λ ws. PartsCollected closing.components ws parts) c.as_mut_slice.ensures.value c.collect_parts.ensures) in
    room_for_outcome r.components r.links (near_names r.links r.queues) (far_names r.links r.queues) r.parts closing r.dismissed.seated r.dismissed.room parts collected c.open_all.new.runners.items c.open_all.ensures.runners c.as_slice.result.now c.as_slice.ensures.value

pub merge_behind-requires-clause-room : goal.merge_behind-requires-clause-room
merge_behind-requires-clause-room g c =
    let r = c.requires.dismissed in
    let closing = c.args.self.closing in
    let parts = c.collect_parts.new.parts.items in
    let collected : Collected closing.components r.parts parts = parts_collected closing.components r.parts c.args.self.workers.items parts r.dismissed.workers_are (subst (λ ws. PartsCollected closing.components ws parts) c.as_mut_slice.ensures.value c.collect_parts.ensures) in
    let to_send : length c.open_all.new.senders ≡ length closing.senders.items = c.open_all.ensures.slots_to_send ∙ ap length c.as_mut_slice-2.ensures.value in
    let to_receive : length c.open_all.new.receivers ≡ length closing.receivers.items = c.open_all.ensures.slots_to_receive ∙ ap length c.as_mut_slice-3.ensures.value in
    let senders = with_items_is closing.senders c.open_all.new.senders (search (rules, places)) in
    let receivers = with_items_is closing.receivers c.open_all.new.receivers (search (rules, places)) in
    let outs : AreSidesIn (λ (end : TxEnd). end.seat) c.open_all.new.senders c.producers_in.new.producers.items = subst (λ slots. AreSidesIn (λ (end : TxEnd). end.seat) slots c.producers_in.new.producers.items) senders c.producers_in.ensures in
    let ins : AreSidesIn (λ (end : RxEnd). end.seat) c.open_all.new.receivers c.consumers_in.new.consumers.items = subst (λ slots. AreSidesIn (λ (end : RxEnd). end.seat) slots c.consumers_in.new.consumers.items) receivers c.consumers_in.ensures in
    room_for_sides r.links (λ one. one.receiving.far.seat.queue) (far_names r.links r.queues) r.ends r.dismissed.ends_at.far c.producers_in.new.producers.items c.args.self.dismissed.far.items far_side (producer_each r.components r.links (near_names r.links r.queues) (far_names r.links r.queues) r.parts closing r.dismissed.seated r.dismissed.room parts collected c.open_all.new.senders c.open_all.ensures.sending to_send c.producers_in.new.producers.items outs) r.dismissed.left.far_are (vec_capacity closing.all_producers) r.dismissed.room.for_all_producers

pub merge_before-requires-clause-room : goal.merge_before-requires-clause-room
merge_before-requires-clause-room g c =
    let r = c.requires.dismissed in
    let closing = c.args.self.closing in
    let parts = c.collect_parts.new.parts.items in
    let collected : Collected closing.components r.parts parts = parts_collected closing.components r.parts c.args.self.workers.items parts r.dismissed.workers_are (subst (λ ws. PartsCollected closing.components ws parts) c.as_mut_slice.ensures.value c.collect_parts.ensures) in
    let to_send : length c.open_all.new.senders ≡ length closing.senders.items = c.open_all.ensures.slots_to_send ∙ ap length c.as_mut_slice-2.ensures.value in
    let to_receive : length c.open_all.new.receivers ≡ length closing.receivers.items = c.open_all.ensures.slots_to_receive ∙ ap length c.as_mut_slice-3.ensures.value in
    let senders = with_items_is closing.senders c.open_all.new.senders (search (rules, places)) in
    let receivers = with_items_is closing.receivers c.open_all.new.receivers (search (rules, places)) in
    let outs : AreSidesIn (λ (end : TxEnd). end.seat) c.open_all.new.senders c.producers_in.new.producers.items = subst (λ slots. AreSidesIn (λ (end : TxEnd). end.seat) slots c.producers_in.new.producers.items) senders c.producers_in.ensures in
    let ins : AreSidesIn (λ (end : RxEnd). end.seat) c.open_all.new.receivers c.consumers_in.new.consumers.items = subst (λ slots. AreSidesIn (λ (end : RxEnd). end.seat) slots c.consumers_in.new.consumers.items) receivers c.consumers_in.ensures in
    room_for_sides r.links (λ one. one.sending.near.seat.queue) (near_names r.links r.queues) r.ends r.dismissed.ends_at.near c.consumers_in.new.consumers.items c.args.self.dismissed.near.items near_side (consumer_each r.components r.links (near_names r.links r.queues) (far_names r.links r.queues) r.parts closing r.dismissed.seated r.dismissed.room parts collected c.open_all.new.receivers c.open_all.ensures.receiving to_receive c.consumers_in.new.consumers.items ins) r.dismissed.left.near_are (vec_capacity closing.all_consumers) r.dismissed.room.for_all_consumers

pub returns : goal.returns
returns g c =
    λ components links queues workers ends dismissed. (
    let closing = c.args.self.closing in
    let parts = c.collect_parts.new.parts.items in
    let collected : Collected closing.components workers parts = parts_collected closing.components workers c.args.self.workers.items parts dismissed.workers_are (subst (λ ws. PartsCollected closing.components ws parts) c.as_mut_slice.ensures.value c.collect_parts.ensures) in
    let to_send : length c.open_all.new.senders ≡ length closing.senders.items = c.open_all.ensures.slots_to_send ∙ ap length c.as_mut_slice-2.ensures.value in
    let to_receive : length c.open_all.new.receivers ≡ length closing.receivers.items = c.open_all.ensures.slots_to_receive ∙ ap length c.as_mut_slice-3.ensures.value in
    let senders = with_items_is closing.senders c.open_all.new.senders (search (rules, places)) in
    let receivers = with_items_is closing.receivers c.open_all.new.receivers (search (rules, places)) in
    let outs : AreSidesIn (λ (end : TxEnd). end.seat) c.open_all.new.senders c.producers_in.new.producers.items = subst (λ slots. AreSidesIn (λ (end : TxEnd). end.seat) slots c.producers_in.new.producers.items) senders c.producers_in.ensures in
    let ins : AreSidesIn (λ (end : RxEnd). end.seat) c.open_all.new.receivers c.consumers_in.new.consumers.items = subst (λ slots. AreSidesIn (λ (end : RxEnd). end.seat) slots c.consumers_in.new.consumers.items) receivers c.consumers_in.ensures in
    record {
      senders = c.producers_in.new.producers.items;
      receivers = c.consumers_in.new.consumers.items;
      left = is_left components links (near_names links queues) (far_names links queues) workers closing dismissed.seated dismissed.room parts collected c.open_all.new.runners.items c.open_all.ensures.runners c.open_all.new.senders c.open_all.ensures.sending to_send c.open_all.new.receivers c.open_all.ensures.receiving to_receive c.producers_in.new.producers.items outs c.consumers_in.new.consumers.items ins c.outcome_of-outcome.result.logs.lists c.outcome_of-outcome.result.counts c.as_slice.result.now c.as_slice.ensures.value c.outcome_of-outcome.ensures.logs c.outcome_of-outcome.ensures.counts;
      seats = are_seats components links (near_names links queues) (far_names links queues) workers closing dismissed.seated dismissed.room parts collected c.open_all.new.runners.items c.open_all.ensures.runners c.open_all.new.senders c.open_all.ensures.sending to_send c.open_all.new.receivers c.open_all.ensures.receiving to_receive c.producers_in.new.producers.items outs c.consumers_in.new.consumers.items ins;
      producers_are = c.merge_behind.ensures ∙ ap₂ (λ ls others. with_behind (vias_of ls) c.producers_in.new.producers.items others) (c.as_slice-2.ensures.value ∙ dismissed.room.links_are) dismissed.left.far_are;
      consumers_are = c.merge_before.ensures ∙ ap₂ (λ ls others. with_before (vias_of ls) c.consumers_in.new.consumers.items others) (c.as_slice-3.ensures.value ∙ dismissed.room.links_are) dismissed.left.near_are;
      ends_are = dismissed.left.ends_are;
    })
