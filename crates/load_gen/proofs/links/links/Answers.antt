use Rattle.load_gen.specs.Load.{bus, cable, below}
use Rattle.std.proofs.Common.{map}
use Rattle.load_gen.proofs.Growing.{one_more, one_more_behind}
use Rattle.load_gen.proofs.links.links.Goals as goal

pub buses-preserved : goal.buses-preserved
buses-preserved c = one_more (bus c.args.n) c.buses.number c.buses.links _ _ c.buses.invariant c.in_ok-push.ensures.ok c.bus.ensures

pub cables-preserved : goal.cables-preserved
cables-preserved c = one_more_behind (cable c.args.n) c.cables.number (map (bus c.args.n) (below c.args.n)) c.cables.links _ _ c.cables.invariant c.in_ok-push-2.ensures.ok c.cable.ensures
