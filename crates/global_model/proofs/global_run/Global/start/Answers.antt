use Rattle.std.proofs.Common.{◌≡◌, ◌∙◌, ℕ, ap, map, refl, subst, Some, [], length}
use Rattle.std.specs.Prelude.{IsSome, IfSome, List, slice_get, true}
use Rattle.cs_base.specs.Plan.{End, kind_at}
use Rattle.device_api.specs.declared.component.Component.{Component}
use Rattle.global_model.specs.Agenda.{has}
use Rattle.global_model.specs.Inboxes.{port_of}
use Rattle.global_model.specs.Routes.{route_from}
use Rattle.global_model.proofs.StartAndEnd.{under_way_starts}
use Rattle.device_api.specs.Channels.{Channel, channels}
use Rattle.global_model.specs.Runs.{system_of}
use Rattle.global_model.specs.Tally.{first_tally}
use Rattle.global_model.proofs.Tallied.{tallied_starts}
use Rattle.global_model.proofs.global_run.Global.start.Goals as goal

pub returns : goal.returns
returns g c = record {
  time_is = refl;
  stands = under_way_starts c.args.devices.items c.in_ok-components.components.items c.in_ok-inboxes.inboxes c.in_ok-agenda.agenda g.met.V.Device.lawful c.args.wiring.now.valid c.requires.matches c.requires.at_start
      (subst (λ links. (e : End) → IsSome (kind_at c.args.wiring.now.kinds e) → port_of c.in_ok-routes.routes e ≡ Some (route_from links e)) c.as_slice.ensures (subst (λ kinds. (e : End) → IsSome (kind_at kinds e) → port_of c.in_ok-routes.routes e ≡ Some (route_from c.as_slice.result.now e)) c.as_slice-kinds.ensures c.in_ok-routes.ensures))
      c.in_ok-components.ensures
      (subst (λ kinds. (e : End) → IsSome (kind_at kinds e) → port_of c.in_ok-inboxes.inboxes e ≡ Some []) c.as_slice-kinds.ensures c.in_ok-inboxes.ensures)
      (subst (λ (components : List (Component g.row.V.Denot)). (d : ℕ) (component : Component g.row.V.Denot) → slice_get components d ≡ Some component → IfSome (g.V.Device.behaviour.due component.device) (λ u. has u d c.in_ok-agenda.agenda ≡ true)) c.as_slice-2.ensures.value c.in_ok-agenda.ensures.noted)
      (subst (λ (components : List (Component g.row.V.Denot)). length c.in_ok-agenda.agenda ≡ length components) c.as_slice-2.ensures.value c.in_ok-agenda.ensures.roomy);
  tallied = tallied_starts g.V.Device.behaviour (system_of c.args.wiring.now c.args.devices.items) c.in_ok-tallies.tallies c.args.wiring.now.valid.links_join (c.in_ok-tallies.ensures ∙ ap (λ links. map (λ (ch : Channel). first_tally ch.interval) (channels links)) c.as_slice-3.ensures);
  nothing_sent = c.new-4.ensures.sends;
  nothing_logged = c.new-4.ensures.lines;
}
