use Rattle.std.proofs.Common.{subst, sym, ap}
use Rattle.std.proofs.lemmas.List.{take_rest}
use Rattle.sb_frame.specs.Starts.{HasFrame, HasWrongLength}
use Rattle.std.proofs.lemmas.Result.{err_from_is_err_and}
use Rattle.sb_frame.specs.declared.frame_bad.FrameBad.TheVariants as bad
use Rattle.sb_frame.specs.Deframing.{Place, StopsIn}
use Rattle.sb_frame.proofs.Pieces.{reading_more, stop_wrong, stop_bad}
use Rattle.sb_frame.proofs.walk.Walk.read.Goals as goal

pub returns-in-Wrong-clause-err : goal.returns-in-Wrong-clause-err
returns-in-Wrong-clause-err c = λ given before r none.
    let at = c.loop-size.self in
    subst (λ start. StopsIn at given before c.args.bytes.now (bad.Length start)) (sym (ap (λ (p : Place). p.offset) c.self.view_is))
    (stop_wrong at given before c.args.bytes.now c.loop-size.at (subst HasWrongLength (take_rest c.args.bytes.now c.loop-size.at) c.in-Wrong.ensures) (c.loop-size.invariant.reached given before r))

pub returns-in_err-accept-in-Whole-clause-err : goal.returns-in_err-accept-in-Whole-clause-err
returns-in_err-accept-in-Whole-clause-err c = λ given before r.
    let failed = c.in_err-accept-in-Whole in
    let p = err_from_is_err_and c.from_residual.result c.from_residual.ensures.1 in
    rw (p.1, p.2) (λ none. stop_bad c.loop-size.self c.accept.new.self given before c.args.bytes.now c.loop-size.at c.in-Whole.size failed.field-0.0 (subst (λ l. HasFrame l c.in-Whole.size) (take_rest c.args.bytes.now c.loop-size.at) c.in-Whole.ensures) failed.ensures.unchanged (failed.ensures.err none) (c.loop-size.invariant.reached given before r))

pub loop-size-preserved : goal.loop-size-preserved
loop-size-preserved c = reading_more c.args.self.now c.loop-size.self c.accept.new.self c.args.bytes.now c.loop-size.at c.in-Whole.size c.loop-size.invariant (subst (λ l. HasFrame l c.in-Whole.size) (take_rest c.args.bytes.now c.loop-size.at) c.in-Whole.ensures) c.in_ok-accept-in-Whole.ensures.ok
