use Rattle.std.proofs.Common.{length, refl, subst}
use Rattle.std.specs.List.{All}
use Rattle.std.proofs.lemmas.List.{take_all}
use Rattle.std.proofs.lemmas.Option.{slice_get_read}
use Rattle.log_join.specs.Heads.{IsFrom}
use Rattle.log_join.proofs.Merging.{take_one}
use Rattle.log_join.proofs.merge.merge_room.Goals as goal

pub loop-index-preserved : goal.loop-index-preserved
loop-index-preserved c =
    let logs = c.args.logs.now in
    let log = c.index-logs-index.result in
    let read = slice_get_read logs (length logs) c.loop-index.index log refl c.loop-index-test.true c.index-logs-index.is in
    take_one (IsFrom 0) logs c.loop-index.index log read c.loop-index.invariant (subst (IsFrom 0) c.as_slice.ensures c.in_ok-more.ensures)

pub returns-clause-in_order : goal.returns-clause-in_order
returns-clause-in_order c = subst (All (IsFrom 0)) (take_all c.loop-index.index c.args.logs.now c.loop-index-test.false) c.loop-index.invariant
