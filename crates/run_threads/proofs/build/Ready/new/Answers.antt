use Rattle.std.proofs.Common.{rules, ◌≡◌, length, ap₂, ◌∙◌, subst}
use Rattle.proxy_crew.specs.Ending.{HasRoom}
use Rattle.run_threads.specs.Routes.{routes_of}
use Rattle.run_threads.proofs.WholeBuilt.{is_ready}
use Rattle.run_threads.proofs.build.Ready.new.Goals as goal

pub returns-clause-ready : goal.returns-clause-ready
returns-clause-ready g c =
    let made = c.in_ok-staffed.ensures in
    let many : c.in_ok-routes.routes.len ≡ length c.in_ok-routes.routes.items = search rules in
    is_ready g.V.Device.behaviour g.V.Device.settled c.args.devices.items c.args.wiring.now.kinds c.args.wiring.now.links c.args.wiring.now.end c.args.queues.now c.args.producers.items c.args.consumers.items c.requires.new c.requires.matches (record { staffed = c.in_ok-staffed.staffed; routes = c.in_ok-routes.routes; dismissed = c.in_ok-dismissed.dismissed; closing = c.in_ok-closing.closing }) made.crew made.fresh made.numbered made.between (c.in_ok-routes.ensures ∙ ap₂ routes_of c.as_slice.ensures c.as_slice-2.ensures) c.in_ok-closing.ensures (subst (λ n. HasRoom n c.in_ok-dismissed.dismissed) (c.len.ensures ∙ many) c.in_ok-dismissed.ensures)
