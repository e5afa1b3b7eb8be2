use Rattle.std.proofs.Common.{◌≡◌, length, ◌-◌, ◌≤◌, take}
use Rattle.cosim_cmd.specs.Written.{Appends}
use Rattle.cosim_cmd.proofs.write.write_all.Given as goal

abbrev pub invariant-loop-done : goal.invariant-loop-done
invariant-loop-done g l =
    let sink = g.K.Sink in
    record {
      begun : Appends (sink.seen l.fn.sink).written (sink.seen l.sink).written (take l.done l.bytes);
      within : l.done ≤ length l.bytes;
      no_fault : (sink.seen l.sink).faults ≡ (sink.seen l.fn.sink).faults;
    }

abbrev pub decreases-loop-done : goal.decreases-loop-done
decreases-loop-done g l = length l.bytes - l.done
