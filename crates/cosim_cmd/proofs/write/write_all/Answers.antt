use Rattle.std.proofs.Common.{length, ap, ◌∙◌, arith, length-drop}
use Rattle.cosim_cmd.proofs.Cuts.{Appends-more, take_rest}
use Rattle.cosim_cmd.proofs.write.write_all.Goals as goal

pub loop-done-preserved : goal.loop-done-preserved
loop-done-preserved g c =
    let rest = take_rest c.args.bytes.now c.loop-done.done in
    record {
      begun = Appends-more _ _ _ c.args.bytes.now _ _ _ c.loop-done.invariant.within rest c.loop-done.invariant.begun c.in_ok-done.ensures.taken;
      within = omega (arith, c.in_ok-done.ensures.within, ap length rest, length-drop c.loop-done.done c.args.bytes.now);
      no_fault = c.in_ok-done.ensures.no_fault ∙ c.loop-done.invariant.no_fault;
    }
