use Rattle.std.proofs.Common.{ap, ◌∙◌, reverse}
use Rattle.run_threads.proofs.SeatsTaken.{loosen_starts, loosen_more, loosen_ends}
use Rattle.run_threads.proofs.seats.loosen.Goals as goal

pub items-init : goal.items-init
items-init g c = loosen_starts c.args.items.items _ _ c.new-slots.ensures.items (c.reverse.ensures ∙ ap reverse c.from_vec-left.ensures)

pub items-preserved : goal.items-preserved
items-preserved g c = loosen_more c.args.items.items c.items.slots.items _ c.items.left c.pop.new.self c.in-Some.item c.items.invariant c.in-Some.ensures.last c.in_ok-push.ensures.items

pub returns : goal.returns
returns g c = loosen_ends c.args.items.items _ _ c.items.invariant c.in_default.ensures.none
