use Rattle.std.specs.Prelude.{[]}
use Rattle.std.proofs.Common.{arith, take, length-take, length-drop}
use Rattle.sb_frame.proofs.tests.in_two.Goals as goal

pub feed-requires-in-Ok : goal.feed-requires-in-Ok
feed-requires-in-Ok c =
    let bytes = c.args.bytes.now in
    let at = c.args.at in
    record {
      stream = take at bytes;
      given = [];
      stands = c.in-Ok.ensures.stands [] [] c.new-deframer.ensures.stands (λ e. cc);
      short = omega (arith, length-take at bytes, length-drop at bytes);
    }
