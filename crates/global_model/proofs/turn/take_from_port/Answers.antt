use Rattle.std.proofs.Common.{◌∙◌, ap}
use Rattle.global_model.specs.Inboxes.{end_at, with_queue, port_of}
use Rattle.global_model.proofs.TurnLaws.{may_take, takes_port_more, takes_port_fewer, takes_port_starts, takes_port_ends}
use Rattle.global_model.proofs.turn.take_from_port.Goals as goal

pub messages-init : goal.messages-init
messages-init g c = takes_port_starts (end_at c.args.moment.now.component c.args.port) c.args.inboxes.now c.requires.there c.requires.waits c.requires.taking

pub take-requires-clause-receivable : goal.take-requires-clause-receivable
take-requires-clause-receivable g c =
    let first = c.in-Some.ensures.first in
    may_take c.messages.invariant c.in-Some.body first.0 first.1

pub messages-smaller : goal.messages-smaller
messages-smaller g c =
    let first = c.in-Some.ensures.first in
    takes_port_fewer c.messages.invariant c.in-Some.body first.0 c.take_at.new.self first.1 first.2

pub messages-preserved : goal.messages-preserved
messages-preserved g c =
    let first = c.in-Some.ensures.first in
    takes_port_more c.messages.invariant g.met.V.Device.lawful c.requires.in_run c.in-Some.body first.0 c.take.new.self c.take.new.out c.take_at.new.self first.1 first.2 c.in_ok-take.ensures

pub returns-clause-reaction : goal.returns-clause-reaction
returns-clause-reaction g c = (takes_port_ends c.messages.invariant c.in_default.ensures.starts_off).0

pub returns-clause-left : goal.returns-clause-left
returns-clause-left g c = λ e. c.in_default.ensures.none e ∙ c.messages.invariant.others e ∙ ap (λ queue. with_queue (port_of c.args.inboxes.now) (end_at c.args.moment.now.component c.args.port) queue e) (takes_port_ends c.messages.invariant c.in_default.ensures.starts_off).1
