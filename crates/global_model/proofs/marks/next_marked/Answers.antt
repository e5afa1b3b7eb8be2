use Rattle.std.proofs.Common.{arith, ◌<◌, ◌^◌, ◌/◌}
use Rattle.global_model.proofs.PortMarks.{none_marked, unmarked_below}
use Rattle.global_model.proofs.marks.next_marked.Goals as goal

pub returns-then-rest-eq0-clause-unmarked : goal.returns-then-rest-eq0-clause-unmarked
returns-then-rest-eq0-clause-unmarked c = none_marked c.args.mask c.args.from 32 c.if-rest-eq0.true

pub returns-clause-unmarked : goal.returns-clause-unmarked
returns-clause-unmarked c = λ p le lt small.
    let some : 0 < c.args.mask / 2 ^ c.args.from = omega (arith, c.if-rest-eq0.false) in
    unmarked_below c.args.mask c.args.from c.ranges.mask.fits some p le (let is = c.min.ensures in omega arith) small
