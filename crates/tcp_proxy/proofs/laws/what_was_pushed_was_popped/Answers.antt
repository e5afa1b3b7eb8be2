use Rattle.tcp_proxy.proofs.Prefixes.{pushed_was_popped}
use Rattle.tcp_proxy.proofs.laws.what_was_pushed_was_popped.Goals as goal

pub returns : goal.returns
returns c kind sent got popped pushed frames from prefix = pushed_was_popped kind sent got popped pushed frames from prefix
