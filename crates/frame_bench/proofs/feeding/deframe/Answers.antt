use Rattle.std.specs.Prelude.{◌-◌}
use Rattle.std.proofs.Common.{◌≡◌, ◌+◌, ◌++◌, ◌∙◌, List, arith, ap, sym, subst, take, drop}
use Rattle.std.proofs.Math.Seq.{take-add}
use Rattle.sb_message.specs.declared.message.Msg.{Msg}
use Rattle.sb_frame.specs.Deframing.{Stands}
use Rattle.frame_bench.proofs.feeding.deframe.Goals as goal

pub pieces-preserved : goal.pieces-preserved
pieces-preserved c =
    let stream = c.args.stream.now in
    let at = c.pieces.at in
    let n = c.min.result in
    let length_is : at + n - at ≡ n = omega arith in
    let longer : take at stream ++ take (at + n - at) (drop at stream) ≡ take (at + n) stream = ap (λ k. take at stream ++ take k (drop at stream)) length_is ∙ sym (take-add at n stream) in
    (omega (arith, c.min.ensures, c.pieces-test.true), subst (λ bytes. (after : List Msg) × Stands c.pass.new.frames bytes after) longer (c.in_ok-taken.ensures (take at stream) c.pieces.invariant.1.0 c.pieces.invariant.1.1))
