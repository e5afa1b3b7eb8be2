use Rattle.std.proofs.Common.{arith}
use Rattle.proxy_members.proofs.Agreeing.{found, below, more, all}
use Rattle.proxy_members.proofs.differing.first_that_differs.Goals as goal

pub returns-in-Some-clause-first : goal.returns-in-Some-clause-first
returns-in-Some-clause-first g c = found c.args.ends.now c.loop-end.end-index c.end-item.result c.as_slice.result.now c.as_slice-in-loop-end.result.now c.in-Some.differ (omega arith) c.end-item.is c.as_slice.ensures c.as_slice-in-loop-end.ensures c.in-Some.ensures.differ c.loop-end.invariant

pub returns-in-Some-clause-least : goal.returns-in-Some-clause-least
returns-in-Some-clause-least g c order = below c.args.ends.now c.loop-end.end-index c.end-item.result (omega arith) c.end-item.is c.loop-end.invariant order

pub loop-end-preserved : goal.loop-end-preserved
loop-end-preserved g c = more c.args.ends.now c.loop-end.end-index c.end-item.result c.as_slice.result.now c.as_slice-in-loop-end.result.now c.compare.result (omega arith) c.end-item.is c.as_slice.ensures c.as_slice-in-loop-end.ensures c.compare.ensures.none (λ d e. c.in_default.not-Some d e) c.loop-end.invariant

pub returns-clause-first : goal.returns-clause-first
returns-clause-first g c = all c.args.ends.now c.loop-end.end-index (omega arith) c.loop-end.invariant
