use Rattle.std.proofs.Common.{subst, sym}
use Rattle.framed_channel.specs.Channel.{Framed}
use Rattle.framed_channel.specs.Standing.{IsCarrying}
use Rattle.framed_channel.proofs.Kept.{next_put}
use Rattle.framed_channel.proofs.channel.FramedChannel.put.Goals as goal

pub push-requires : goal.push-requires
push-requires c =
    let i = c.self.inside in
    let old : Framed = record { near = i.near; pipe = i.pipe; frames = i.frames; moved = i.moved; far = i.far } in
    next_put old c.next.new.self c.in-Some.m c.in-Some.ensures.taken (subst IsCarrying (sym c.self.view_is) c.requires)
