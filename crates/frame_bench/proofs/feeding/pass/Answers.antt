use Rattle.std.proofs.Common.{◌++◌}
use Rattle.frame_bench.proofs.feeding.pass.Goals as goal

pub returns : goal.returns
returns c = λ stream given s. c.take_all.ensures (stream ++ c.args.piece.now) given (c.in_ok-feed.ensures.stands stream given s (λ e. cc))
