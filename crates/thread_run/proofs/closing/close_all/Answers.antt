use Rattle.std.proofs.Common.{ℕ, reverse, sym, ap, subst}
use Rattle.thread_run.proofs.Closings.{AreClosing, first_of, closed_more, closing_ends}
use Rattle.thread_run.proofs.closing.close_all.Goals as goal

pub queues-preserved : goal.queues-preserved
queues-preserved c =
    subst (λ (n : ℕ). AreClosing c.args.producers.items c.args.consumers.items (reverse c.pop.new.self) (reverse c.pop-in-Some.new.self) (reverse c.pop-in-Some-2.new.self) (reverse c.pop-in-Some-3.new.self) n c.push_reserved.new.self.items) (sym c.push_reserved.ensures.capacity)
    (closed_more c.args.producers.items c.args.consumers.items _ _ _ _ _ _ c.queues.invariant
    c.in-Some.queue (reverse c.pop.new.self) (first_of c.queues.queues c.pop.new.self c.in-Some.queue c.in-Some.ensures.last)
    c.in-Some-pop.producer (reverse c.pop-in-Some.new.self) (first_of c.queues.producers c.pop-in-Some.new.self c.in-Some-pop.producer c.in-Some-pop.ensures.last)
    c.in-Some-pop-2.consumer (reverse c.pop-in-Some-2.new.self) (first_of c.queues.consumers c.pop-in-Some-2.new.self c.in-Some-pop-2.consumer c.in-Some-pop-2.ensures.last)
    c.in-Some-pop-3.room (reverse c.pop-in-Some-3.new.self) (first_of c.queues.rooms c.pop-in-Some-3.new.self c.in-Some-pop-3.room c.in-Some-pop-3.ensures.last)
    c.close.result c.close.ensures.lists.0 c.close.ensures.lists.1 c.close.ensures.rest _ c.push_reserved.ensures.items)

pub returns : goal.returns
returns c = closing_ends c.args.producers.items c.args.consumers.items _ _ _ _ _ _ c.queues.invariant (ap reverse c.in_default.ensures.none)
