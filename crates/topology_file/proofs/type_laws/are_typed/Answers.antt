use Rattle.std.proofs.Common.{arith}
use Rattle.std.proofs.lemmas.List.{take_all}
use Rattle.std.proofs.lemmas.List.Elements.{All-more}
use Rattle.topology_file.specs.Typed.{IsTyped}
use Rattle.topology_file.proofs.type_laws.are_typed.Goals as goal

pub loop-component-preserved : goal.loop-component-preserved
loop-component-preserved c =
    let here = rw c.component-item.is at c.is_typed.ensures in
    All-more IsTyped c.args.components.now c.loop-component.component-index c.component-item.result (omega arith) c.loop-component.invariant here

pub returns : goal.returns
returns c = rw (take_all c.loop-component.component-index c.args.components.now (omega arith)) at c.loop-component.invariant
