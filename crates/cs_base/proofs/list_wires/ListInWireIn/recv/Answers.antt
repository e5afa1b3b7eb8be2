use Rattle.std.specs.Prelude.{◌≡◌, ◌≤◌, ◌++◌, length, take, drop, Some}
use Rattle.std.proofs.Common.{arith, ap, ◌∙◌}
use Rattle.std.proofs.lemmas.List.{length-take-le}
use Rattle.cs_base.specs.WireForms.{InList}
use Rattle.cs_base.proofs.Given.{given_more}
use Rattle.cs_base.proofs.list_wires.ListInWireIn.recv.Goals as goal

pub returns-then-count-gt0-clause-given : goal.returns-then-count-gt0-clause-given
returns-then-count-gt0-clause-given c =
    let n = c.count_given-count.result in
    let copied = c.copy_from_slice.ensures in
    let fits : n ≤ length c.args.buffer.now = omega arith in
    let long : length c.copy_from_slice.new.self ≡ n = copied.len ∙ length-take-le n c.args.buffer.now fits in
    let written = c.copy_from_slice.new.self ++ drop n c.args.buffer.now in
    let more = given_more c.self.inside.at n c.self.inside.bytes c.as_slice.result.now c.copy_from_slice.new.self (drop n c.args.buffer.now) c.as_slice.ensures long copied.after in
    ap Some (more ∙ ap (λ (w : InList). take w.at w.bytes ++ take n written) c.self.view_is)
