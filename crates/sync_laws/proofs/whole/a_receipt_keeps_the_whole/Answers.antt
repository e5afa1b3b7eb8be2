use Rattle.std.proofs.Common.{sym, subst}
use Rattle.device_api.specs.Behaviour.{IsLawful}
use Rattle.std.proofs.Common.{slice_set, [], ◌∷◌, ◌++◌}
use Rattle.sync_laws.specs.Whole.{IsWhole, with_end}
use Rattle.sync_laws.proofs.Steps.{heard_whole}
use Rattle.sync_laws.proofs.whole.a_receipt_keeps_the_whole.Goals as goal

pub returns : goal.returns
returns g c = λ before after net end positions received sent held runners k ch old new more same wired whole is there receipt first. subst (λ r. IsWhole net g.V.Device.settled end positions (with_end ch.to (received ch.to ++ receipt.m ∷ []) received) sent (with_end ch.from more held) (slice_set runners ch.to.component r)) (sym receipt.is) (heard_whole net g.V.Device.settled end positions received sent held runners whole (subst (λ b. IsLawful b g.V.Device.settled) (sym same) g.met.V.Device.lawful) wired k ch is old there receipt.m more first)
