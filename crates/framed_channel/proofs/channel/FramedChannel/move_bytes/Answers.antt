use Rattle.std.proofs.Common.{subst, sym, arith}
use Rattle.framed_channel.specs.Channel.{Framed}
use Rattle.framed_channel.specs.Standing.{IsCarrying}
use Rattle.framed_channel.proofs.Kept.{may_read}
use Rattle.framed_channel.proofs.channel.FramedChannel.move_bytes.Goals as goal

pub read_piece-requires : goal.read_piece-requires
read_piece-requires c =
    let i = c.self.inside in
    let old : Framed = record { near = i.near; pipe = i.pipe; frames = i.frames; moved = i.moved; far = i.far } in
    may_read old c.args.n c.front.result.now (grind arith) c.front.ensures (grind arith) (subst IsCarrying (sym c.self.view_is) c.requires)
