use Rattle.std.proofs.Common.{length, refl, ap, ◌∙◌}
use Rattle.std.specs.Prelude.{slice_set}
use Rattle.std.proofs.lemmas.Option.{slice_get_read}
use Rattle.log_join.specs.Heads.{head_time}
use Rattle.log_join.proofs.Merging.{times_more}
use Rattle.log_join.proofs.merge.first_times.Goals as goal

pub loop-index-preserved : goal.loop-index-preserved
loop-index-preserved c =
    let logs = c.args.logs.now in
    let log = c.index-logs-index.result in
    let read = slice_get_read logs (length logs) c.loop-index.index log refl c.loop-index-test.true c.index-logs-index.is in
    let time = c.first_time.ensures ∙ ap head_time c.as_slice.ensures in
    times_more logs c.loop-index.index log c.loop-index.agenda c.set.new.self read c.loop-index.invariant (c.set.ensures ∙ ap (slice_set c.loop-index.agenda c.loop-index.index) time)
