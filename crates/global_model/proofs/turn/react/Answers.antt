use Rattle.std.proofs.Common.{rules, ◌≡◌, Some}
use Rattle.global_model.proofs.TurnLaws.{ticked_so}
use Rattle.global_model.proofs.turn.react.Goals as goal

pub returns-clause-whole : goal.returns-clause-whole
returns-clause-whole g c =
    let due : g.V.Device.behaviour.due c.take_arrivals.new.device ≡ Some c.args.moment.now.at = search rules in
    ticked_so g.met.V.Device.lawful c.args.device.now c.args.moment.now.at c.take_arrivals.new.device c.take_arrivals.new.done c.tick.new.self c.tick.new.out c.requires.in_run c.in_ok-take_arrivals.ensures.still_taking due c.in_ok-tick.ensures
