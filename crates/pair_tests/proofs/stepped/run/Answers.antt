use Rattle.std.proofs.Common.{sym, subst}
use Rattle.cs_base.specs.Plan.{IsPlan}
use Rattle.mesh_core.specs.MeshOf.{IsMeshOf}
use Rattle.pair_tests.proofs.stepped.run.Goals as goal

pub serial-requires : goal.serial-requires
serial-requires g c =
    let planned = subst (λ kinds. IsPlan c.args.wiring.now.end kinds c.args.wiring.now.links) (sym c.requires.matches) c.args.wiring.now.valid in
    let stands = c.a_new_mesh_stands.ensures c.args.devices.items c.args.wiring.now.links c.args.wiring.now.end planned c.requires.at_start in
    (c.args.devices.items, c.args.wiring.now.links, c.args.wiring.now.end, subst (IsMeshOf g.V.Device.behaviour g.V.Device.settled c.args.devices.items c.args.wiring.now.links c.args.wiring.now.end) (sym c.in_ok-mesh.ensures) stands)
