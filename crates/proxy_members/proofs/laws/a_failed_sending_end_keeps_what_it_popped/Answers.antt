use Rattle.proxy_members.proofs.Outgoing.{failed_went, failed_fits, failed_says}
use Rattle.proxy_members.proofs.laws.a_failed_sending_end_keeps_what_it_popped.Goals as goal

pub returns : goal.returns
returns g c = record {
  went = λ old new fault failed. failed_went g.O.WireOut.seen old new fault failed;
  fits = λ old new fault failed fits. failed_fits g.O.WireOut.seen old new fault failed fits;
  says = λ old new fault failed. failed_says g.O.WireOut.seen old new fault failed;
}
