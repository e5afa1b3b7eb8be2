use Rattle.std.proofs.Common.{◌≡◌, ◌+◌, ◌∷◌, ◌++◌, [], slice_set, sym, subst}
use Rattle.device_api.specs.Behaviour.{IsLawful}
use Rattle.sync_laws.specs.Whole.{with_end}
use Rattle.sync_laws.specs.ToCome.{left}
use Rattle.sync_laws.proofs.Falls.{receipt_falls}
use Rattle.sync_laws.proofs.to_come.a_receipt_lowers_what_is_left.Goals as goal

pub returns : goal.returns
returns g c = λ before after net end positions received sent held runners k ch old new more same wired whole is there receipt first. subst (λ r. left net end positions received sent runners ≡ left net end positions (with_end ch.to (received ch.to ++ receipt.m ∷ []) received) sent (slice_set runners ch.to.component r) + 1) (sym receipt.is) (receipt_falls net g.V.Device.settled end positions received sent held runners whole wired (subst (λ b. IsLawful b g.V.Device.settled) (sym same) g.met.V.Device.lawful) k ch is old there receipt.m more first)
