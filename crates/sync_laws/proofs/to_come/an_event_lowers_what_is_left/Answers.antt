use Rattle.std.proofs.Common.{◌≡◌, ◌+◌, Some, slice_set, sym, subst}
use Rattle.device_api.specs.Behaviour.{IsLawful}
use Rattle.sync_rule.specs.Steps.{Processed}
use Rattle.sync_laws.specs.Stands.{place_of}
use Rattle.sync_laws.specs.Whole.{of_component, with_position}
use Rattle.sync_laws.specs.ToCome.{left}
use Rattle.sync_laws.proofs.Falls.{event_falls}
use Rattle.sync_laws.proofs.to_come.an_event_lowers_what_is_left.Goals as goal

pub returns : goal.returns
returns g c = λ net end positions received sent held runners c old new same wired whole there. subst (λ b. (event : Processed b old new) → left net end positions received sent runners ≡ left net end (with_position c (Some (place_of (of_component c received) old event.next)) positions) received sent (slice_set runners c new) + 1) same (λ event. event_falls net g.V.Device.settled end positions received sent held runners whole wired (subst (λ b. IsLawful b g.V.Device.settled) (sym same) g.met.V.Device.lawful) c old new there event.next event.enabled event.after)
