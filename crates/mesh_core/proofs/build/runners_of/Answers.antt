use Rattle.std.proofs.Common.{◌≡◌, ◌<◌, ℕ, Some, length, sym, ap, ◌∙◌, subst, arith, reverse}
use Rattle.std.specs.Prelude.{slice_get, All}
use Rattle.std.proofs.lemmas.Option.{slice_get_within}
use Rattle.sync_rule.specs.Ports.{IsPlanned}
use Rattle.mesh_core.specs.Start.{plans_of, first_runner}
use Rattle.mesh_core.proofs.Runners.{building_starts, building_ends, building_more, kinds_next, settled_next, planned_next}
use Rattle.mesh_core.proofs.build.runners_of.Goals as goal

pub devices-init : goal.devices-init
devices-init g c = building_starts g.V.Device.behaviour c.args.links.now c.args.end c.args.devices.items _ _ c.new-runners.ensures.items (c.reverse.ensures ∙ ap reverse c.from_vec-left.ensures)

pub runner_of-requires-clause-there : goal.runner_of-requires-clause-there
runner_of-requires-clause-there g c = subst (λ (n : ℕ). slice_get c.args.kinds.now n ≡ Some (g.V.Device.behaviour.ports c.in-Some.device)) (sym (let same : c.len-component.result ≡ length c.devices.runners.items = omega arith in same)) (kinds_next g.V.Device.behaviour c.args.links.now c.args.end c.args.devices.items c.devices.runners.items c.devices.left c.pop.new.self c.in-Some.device c.devices.invariant c.in-Some.ensures.last c.args.kinds.now c.requires.matches)

pub runner_of-requires-clause-within : goal.runner_of-requires-clause-within
runner_of-requires-clause-within g c = (let within : length c.devices.runners.items < length c.args.kinds.now = slice_get_within c.args.kinds.now (length c.devices.runners.items) _ (kinds_next g.V.Device.behaviour c.args.links.now c.args.end c.args.devices.items c.devices.runners.items c.devices.left c.pop.new.self c.in-Some.device c.devices.invariant c.in-Some.ensures.last c.args.kinds.now c.requires.matches) in omega arith)

pub runner_of-requires-clause-at_start : goal.runner_of-requires-clause-at_start
runner_of-requires-clause-at_start g c = settled_next g.V.Device.behaviour c.args.links.now c.args.end c.args.devices.items c.devices.runners.items c.devices.left c.pop.new.self c.in-Some.device c.devices.invariant c.in-Some.ensures.last g.V.Device.settled c.requires.at_start

pub runner_of-requires-clause-planned : goal.runner_of-requires-clause-planned
runner_of-requires-clause-planned g c = subst (λ (n : ℕ). All IsPlanned (plans_of c.args.links.now n (g.V.Device.behaviour.ports c.in-Some.device))) (sym (let same : c.len-component.result ≡ length c.devices.runners.items = omega arith in same)) (planned_next g.V.Device.behaviour c.args.links.now c.args.end c.args.devices.items c.devices.runners.items c.devices.left c.pop.new.self c.in-Some.device c.devices.invariant c.in-Some.ensures.last c.args.kinds.now c.requires.matches c.requires.joined)

pub runner_of-requires-clause-in_run : goal.runner_of-requires-clause-in_run
runner_of-requires-clause-in_run g c = (c.requires.joined.sized.some_time, c.requires.joined.sized.short_time)

pub devices-preserved : goal.devices-preserved
devices-preserved g c = building_more g.V.Device.behaviour c.args.links.now c.args.end c.args.devices.items c.devices.runners.items c.devices.left c.pop.new.self c.in-Some.device c.devices.invariant c.in-Some.ensures.last c.in_ok-runner_of.field-0 c.push.new.self.items c.in_ok-push.ensures.items (c.in_ok-runner_of.ensures ∙ ap (λ (n : ℕ). first_runner g.V.Device.behaviour c.args.links.now c.args.end n c.in-Some.device) (let same : c.len-component.result ≡ length c.devices.runners.items = omega arith in same))

pub returns : goal.returns
returns g c = building_ends g.V.Device.behaviour c.args.links.now c.args.end c.args.devices.items _ _ c.devices.invariant c.in_default.ensures.none
