use Rattle.std.specs.Prelude.{[]}
use Rattle.std.proofs.Common.{arith}
use Rattle.framed_channel.proofs.Kept.{begins}
use Rattle.framed_channel.proofs.tests.nothing_is_there_to_move.Goals as goal

pub move_bytes-requires : goal.move_bytes-requires
move_bytes-requires c c' = record { sent = []; received = []; both = begins _ 1 c'.in_ok-channel.channel (omega arith) c'.in_ok-channel.ensures }
