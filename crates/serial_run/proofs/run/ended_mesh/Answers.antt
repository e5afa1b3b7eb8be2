use Rattle.serial_run.proofs.Begun.{begun}
use Rattle.serial_run.proofs.run.ended_mesh.Goals as goal

pub serial-requires : goal.serial-requires
serial-requires g c =
    let wiring = c.args.wiring.now in
    let starts = c.args.devices.items in
    (starts, wiring.links, wiring.end, begun g.V.Device.behaviour g.V.Device.settled c.a_new_mesh_stands.ensures starts wiring.kinds wiring.links wiring.end c.requires.matches wiring.valid c.requires.at_start c.in_ok-mesh.mesh c.in_ok-mesh.ensures)

pub returns-clause-of_its_system : goal.returns-clause-of_its_system
returns-clause-of_its_system g c =
    let wiring = c.args.wiring.now in
    let starts = c.args.devices.items in
    let of = begun g.V.Device.behaviour g.V.Device.settled c.a_new_mesh_stands.ensures starts wiring.kinds wiring.links wiring.end c.requires.matches wiring.valid c.requires.at_start c.in_ok-mesh.mesh c.in_ok-mesh.ensures in
    let done = c.in_ok-serial.ensures in
    (c.a_walk_keeps_a_mesh_standing.ensures starts wiring.links wiring.end c.in_ok-mesh.mesh c.serial.new.self done.steps of done.walk).of
