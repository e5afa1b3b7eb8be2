use Rattle.std.proofs.Common.{◌≡◌, take}
use Rattle.cosim_cmd.specs.Inputs.{AsksFor, AreTold}
use Rattle.cosim_cmd.proofs.input.contents.Given as goal

abbrev pub invariant-loop-name : goal.invariant-loop-name
invariant-loop-name g l =
    let files = g.F.Files in
    record {
      asked : AsksFor (take l.name-index l.names) (files.seen l.initial.files) (files.seen l.files);
      told : AreTold (files.seen l.initial.files) (take l.name-index l.names) l.contents;
      kept : (files.seen l.files).held ≡ (files.seen l.initial.files).held;
      no_fault : (files.seen l.files).faults ≡ (files.seen l.initial.files).faults;
    }
