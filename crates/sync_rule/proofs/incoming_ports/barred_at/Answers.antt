use Rattle.std.proofs.Common.{refl, sym, ◌∙◌, arith}
use Rattle.std.proofs.lemmas.Bool.{false≢true}
use Rattle.std.proofs.lemmas.Option.{slice_get_read}
use Rattle.sync_rule.specs.Times.{quiet_of}
use Rattle.sync_rule.proofs.Chosen.{timed_within}
use Rattle.sync_rule.proofs.Waiting.{bars_at, no_more_bars}
use Rattle.sync_rule.proofs.incoming_ports.barred_at.Goals as goal

pub returns-then-bars : goal.returns-then-bars
returns-then-bars c = record { bars = bars_at c.args.items.now c.loop-port.port c.args.needed c.index-items-port.result (slice_get_read c.args.items.now _ c.loop-port.port c.index-items-port.result refl c.loop-port-test.true c.index-items-port.is) (c.bars.ensures.0 c.if-bars.true); first = c.loop-port.invariant }

pub loop-port-preserved : goal.loop-port-preserved
loop-port-preserved c = no_more_bars c.args.items.now c.loop-port.port c.args.needed c.index-items-port.result (slice_get_read c.args.items.now _ c.loop-port.port c.index-items-port.result refl c.loop-port-test.true c.index-items-port.is) (λ here. false≢true (sym c.if-bars.false ∙ c.bars.ensures.1 here)) c.loop-port.invariant

pub returns : goal.returns
returns c = λ p bars. c.loop-port.invariant p (omega (arith, timed_within quiet_of c.args.items.now p bars.bound bars.quiet, c.loop-port-test.false)) bars
