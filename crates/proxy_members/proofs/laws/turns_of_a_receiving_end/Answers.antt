use Rattle.proxy_members.proofs.Incoming.{turns_went, turns_fit}
use Rattle.proxy_members.proofs.laws.turns_of_a_receiving_end.Goals as goal

pub returns : goal.returns
returns g c = record {
  went = λ old new n went. turns_went g.I.WireIn.seen old n new went;
  fits = λ old new n went fits. turns_fit g.I.WireIn.seen old n new went fits;
}
