use Rattle.std.proofs.Common.{◌∙◌, ap, ◌++◌, subst, arith}
use Rattle.sb_frame.specs.Frames.{IsOpen, stated}
use Rattle.sb_frame.proofs.Pieces.{topped}
use Rattle.sb_frame.proofs.start.top_up.Goals as goal

pub returns-in_ok-append-in-Open-clause-ok : goal.returns-in_ok-append-in-Open-clause-ok
returns-in_ok-append-in-Open-clause-ok c =
    let opened = subst IsOpen c.as_slice.ensures c.in-Open.ensures in
    let size = c.u32_at-size.ensures.value ∙ ap stated c.as_slice-in-Open.ensures in
    topped c.args.begun.now c.args.piece.now c.append.new.self c.append-in-Open.new.self c.min-header.result c.min-body.result c.u32_at-size.result (omega arith) c.in_ok-append.ensures.ok opened c.if-header-piece.true size (omega arith) c.in_ok-append-in-Open.ensures.ok
