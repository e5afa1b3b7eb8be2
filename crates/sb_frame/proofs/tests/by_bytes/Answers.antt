use Rattle.std.specs.Prelude.{◌-◌, []}
use Rattle.std.proofs.Common.{◌≡◌, ◌+◌, ◌++◌, arith, take, drop, length, length-take, length-drop, ap, sym, subst, ◌∙◌}
use Rattle.std.proofs.Math.Seq.{take-add}
use Rattle.sb_frame.specs.Deframing.{Stands}
use Rattle.sb_frame.proofs.tests.by_bytes.Goals as goal

pub feed-requires : goal.feed-requires
feed-requires c =
    let bytes = c.args.bytes.now in
    let at = c.loop-at.at in
    record {
      stream = take at bytes;
      given = [];
      stands = c.loop-at.invariant;
      short = omega (arith, length-take at bytes, length-take (at + 1 - at) (drop at bytes), length-drop at bytes);
    }

pub loop-at-preserved : goal.loop-at-preserved
loop-at-preserved c =
    let bytes = c.args.bytes.now in
    let at = c.loop-at.at in
    let one : at + 1 - at ≡ 1 = omega arith in
    let longer : take at bytes ++ take (at + 1 - at) (drop at bytes) ≡ take (at + 1) bytes = ap (λ n. take at bytes ++ take n (drop at bytes)) one ∙ sym (take-add at 1 bytes) in
    subst (λ l. Stands c.feed.new.self l []) longer (c.feed.ensures.stands (take at bytes) [] c.loop-at.invariant (λ e. c.in_default.not-Err _ e))
