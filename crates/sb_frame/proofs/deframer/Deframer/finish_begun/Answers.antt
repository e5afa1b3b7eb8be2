use Rattle.std.specs.Prelude.{◌++◌, drop}
use Rattle.std.proofs.Common.{subst, sym, ap}
use Rattle.std.proofs.lemmas.List.{take_rest}
use Rattle.std.proofs.lemmas.Result.{err_from_is_err_and}
use Rattle.sb_frame.specs.declared.frame_bad.FrameBad.TheVariants as bad
use Rattle.sb_frame.specs.Faults.{IsBadMessage}
use Rattle.sb_frame.specs.Starts.{HasFrame, HasWrongLength}
use Rattle.sb_frame.specs.Deframing.{Deframing, Accepts, StopsAt, FinishesIn}
use Rattle.sb_frame.proofs.Pieces.{tops_wrong, tops_bad, tops_whole}
use Rattle.sb_frame.proofs.deframer.Deframer.finish_begun.Goals as goal

pub returns-in-Wrong-clause-err : goal.returns-in-Wrong-clause-err
returns-in-Wrong-clause-err c = λ none.
    let place = c.self.inside.walk in
    let piece = c.args.piece.now in
    let wrong = subst HasWrongLength c.as_slice.ensures c.in-Wrong.ensures in
    subst (λ (d : Deframing). StopsAt d.place (d.begun ++ piece) (bad.Length c.offset.result)) c.self.view_is
    (subst (λ start. StopsAt place (c.self.inside.begun ++ piece) (bad.Length start)) (sym c.offset.ensures)
    (tops_wrong place c.self.inside.begun piece c.top_up.new.begun c.in_ok-taken.taken c.in_ok-taken.ensures.ok wrong))

pub returns-in_err-accept-in-Whole-clause-err : goal.returns-in_err-accept-in-Whole-clause-err
returns-in_err-accept-in-Whole-clause-err c =
    let failed = c.in_err-accept-in-Whole in
    let place = c.self.inside.walk in
    let piece = c.args.piece.now in
    let whole = subst (λ l. HasFrame l c.in-Whole.field-0) c.as_slice.ensures c.in-Whole.ensures in
    let p = err_from_is_err_and c.from_residual-in_err-accept-in-Whole.result c.from_residual-in_err-accept-in-Whole.ensures.1 in
    rw (p.1, p.2) (λ none.
    subst (λ (d : Deframing). StopsAt d.place (d.begun ++ piece) failed.field-0.0) c.self.view_is
    (tops_bad place c.self.inside.begun piece c.top_up.new.begun c.in_ok-taken.taken c.in-Whole.field-0 failed.field-0.0 c.in_ok-taken.ensures.ok whole
    (subst (λ l. IsBadMessage place.kind place.last place.offset (drop 4 l) failed.field-0.0) c.as_slice-in-Whole.ensures (subst (λ body. IsBadMessage place.kind place.last place.offset body failed.field-0.0) (take_rest c.as_slice-in-Whole.result.now 4) (failed.ensures.err none)))))

pub returns-in_ok-accept-in-Whole-clause-ok : goal.returns-in_ok-accept-in-Whole-clause-ok
returns-in_ok-accept-in-Whole-clause-ok c =
    let inside = c.self.inside in
    let piece = c.args.piece.now in
    let whole = subst (λ l. HasFrame l c.in-Whole.field-0) c.as_slice.ensures c.in-Whole.ensures in
    let a = subst (λ l. Accepts inside.walk (drop 4 l) c.accept.new.self) c.as_slice-in-Whole.ensures (subst (λ body. Accepts inside.walk body c.accept.new.self) (take_rest c.as_slice-in-Whole.result.now 4) c.in_ok-accept-in-Whole.ensures.ok) in
    let new : Deframing = record { place = c.accept.new.self; begun = c.top_up.new.begun; fault = inside.fault } in
    subst (λ (d : Deframing). FinishesIn d piece new c.in_ok-taken.taken) c.self.view_is
    (tops_whole (record { place = inside.walk; begun = inside.begun; fault = inside.fault }) new piece c.top_up.new.begun c.in_ok-taken.taken c.in-Whole.field-0 c.in_ok-taken.ensures.ok whole a)
