use Rattle.std.proofs.Common.{◌≡◌, ◌≤◌, ◌∙◌, length, sym, subst, arith}
use Rattle.thread_run.specs.Closing.{slots_of}
use Rattle.thread_run.proofs.Reserving.{reserved_starts, reserved_more, reserved_all, as_many_rooms}
use Rattle.thread_run.proofs.closing.Rooms.reserve.Goals as goal

pub loop-link-init : goal.loop-link-init
loop-link-init c = reserved_starts c.args.links.now _ c.new-rooms.ensures

pub loop-link-preserved : goal.loop-link-preserved
loop-link-preserved c = reserved_more c.args.links.now c.loop-link.link-index c.loop-link.rooms _ _ c.link-item.result c.loop-link-test.true c.link-item.is c.loop-link.invariant c.in_ok-add_rooms.ensures c.in_ok-add_rooms-2.ensures

pub returns : goal.returns
returns c =
    let links = c.args.links.now in
    let each = reserved_all links c.loop-link.link-index c.loop-link.rooms c.loop-link-test.false c.loop-link.invariant in
    let many : length (slots_of links) ≡ length c.loop-link.rooms = as_many_rooms (slots_of links) c.loop-link.rooms each in
    record { each = each; none_closed = c.in_ok-rests.ensures.items; for_all = (let room = c.in_ok-rests.ensures.exact in let len = c.len.ensures in omega arith) }
