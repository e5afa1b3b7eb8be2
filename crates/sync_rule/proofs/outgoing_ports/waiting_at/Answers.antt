use Rattle.std.proofs.Common.{refl, sym, ◌∙◌, arith}
use Rattle.std.proofs.lemmas.Option.{slice_get_read, slice_get_within}
use Rattle.sync_rule.proofs.Waiting.{sent_more, waits_then, sent_then}
use Rattle.sync_rule.proofs.outgoing_ports.waiting_at.Goals as goal

pub returns-then-waits : goal.returns-then-waits
returns-then-waits c = record { waits = record { is = c.index-items-port.result; there = slice_get_read c.args.items.now _ c.loop-port.port c.index-items-port.result refl c.loop-port-test.true c.index-items-port.is; some = waits_then c.index-items-port.result.outbox (sym c.waits.ensures ∙ c.if-waits.true) }; first = c.loop-port.invariant }

pub loop-port-preserved : goal.loop-port-preserved
loop-port-preserved c = sent_more c.args.items.now c.loop-port.port c.index-items-port.result (slice_get_read c.args.items.now _ c.loop-port.port c.index-items-port.result refl c.loop-port-test.true c.index-items-port.is) c.loop-port.invariant (sent_then c.index-items-port.result.outbox (sym c.waits.ensures ∙ c.if-waits.false))

pub returns : goal.returns
returns c = λ p o there. c.loop-port.invariant p o (let below = slice_get_within c.args.items.now p o there in let past = c.loop-port-test.false in omega arith) there
