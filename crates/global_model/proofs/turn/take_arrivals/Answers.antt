use Rattle.std.proofs.Common.{subst, ◌<◌, ◌≤◌, ◌+◌}
use Rattle.global_model.proofs.TurnLaws.{takes_arrivals_start, next_there, next_waits, takes_arrivals_more, takes_arrivals_until}
use Rattle.global_model.proofs.turn.take_arrivals.Goals as goal

pub filled-init : goal.filled-init
filled-init g c =
    let first = c.filled_from-port.ensures in
    let starts = takes_arrivals_start c.args.done.now c.requires.waits c.requires.taking c.requires.nothing_sent c.requires.nothing_logged in
    record { takes = takes_arrivals_until 0 c.filled_from-port.result starts first.later (subst (λ n. c.filled_from-port.result ≤ n) c.ports-ports.ensures first.within) first.idle; within = first.within }

pub take_from_port-requires-clause-there : goal.take_from_port-requires-clause-there
take_from_port-requires-clause-there g c = next_there c.filled.invariant.takes (subst (λ n. c.filled.port < n) c.ports-ports.ensures c.filled-test.true)

pub take_from_port-requires-clause-waits : goal.take_from_port-requires-clause-waits
take_from_port-requires-clause-waits g c = next_waits c.filled.invariant.takes (subst (λ n. c.filled.port < n) c.ports-ports.ensures c.filled-test.true)

pub filled-preserved : goal.filled-preserved
filled-preserved g c =
    let gave = c.in_ok-take_from_port.ensures in
    let next = c.filled_from-port-in-filled.ensures in
    let taken = takes_arrivals_more c.filled.invariant.takes (subst (λ n. c.filled.port < n) c.ports-ports.ensures c.filled-test.true) c.take_from_port.new.device c.take_from_port.new.done c.take_from_port.new.inboxes gave.reaction gave.left gave.still_taking in
    record { takes = takes_arrivals_until (c.filled.port + 1) c.filled_from-port-in-filled.result taken next.later (subst (λ n. c.filled_from-port-in-filled.result ≤ n) c.ports-ports.ensures next.within) next.idle; within = next.within }
