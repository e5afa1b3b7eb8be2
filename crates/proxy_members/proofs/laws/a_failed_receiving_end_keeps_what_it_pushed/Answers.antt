use Rattle.proxy_members.proofs.Incoming.{failed_went, failed_holds, failed_says}
use Rattle.proxy_members.proofs.laws.a_failed_receiving_end_keeps_what_it_pushed.Goals as goal

pub returns : goal.returns
returns g c = record {
  went = λ old new fault failed. failed_went g.I.WireIn.seen old new fault failed;
  holds = λ old new fault failed fits. failed_holds g.I.WireIn.seen old new fault failed fits;
  says = λ old new fault failed fits. failed_says g.I.WireIn.seen old new fault failed fits;
}
