use Rattle.std.proofs.Common.{sym, subst}
use Rattle.device_api.specs.Behaviour.{IsLawful}
use Rattle.std.proofs.Common.{Some, slice_set}
use Rattle.sync_rule.specs.Steps.{Processed}
use Rattle.sync_laws.specs.Stands.{place_of}
use Rattle.sync_laws.specs.Whole.{IsWhole, of_component, with_position}
use Rattle.sync_laws.proofs.Steps.{event_whole}
use Rattle.sync_laws.proofs.whole.an_event_keeps_the_whole.Goals as goal

pub returns : goal.returns
returns g c = λ net end positions received sent held runners c old new same whole there. subst (λ b. (event : Processed b old new) → IsWhole net g.V.Device.settled end (with_position c (Some (place_of (of_component c received) old event.next)) positions) received sent held (slice_set runners c new)) same (event_whole net g.V.Device.settled end positions received sent held runners whole (subst (λ b. IsLawful b g.V.Device.settled) (sym same) g.met.V.Device.lawful) c old new there)
