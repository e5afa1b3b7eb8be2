use Rattle.proxy_members.proofs.Outgoing.{turns_went, turns_fit}
use Rattle.proxy_members.proofs.laws.turns_of_a_sending_end.Goals as goal

pub returns : goal.returns
returns g c = record {
  went = λ old new n went. turns_went g.O.WireOut.seen old n new went;
  fits = λ old new n went fits. turns_fit g.O.WireOut.seen old n new went fits;
}
