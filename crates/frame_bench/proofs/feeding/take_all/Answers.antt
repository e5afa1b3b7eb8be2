use Rattle.std.proofs.Common.{◌∙◌, sym}
use Rattle.frame_bench.proofs.Taking.{one_more, no_more}
use Rattle.frame_bench.proofs.feeding.take_all.Goals as goal

pub messages-preserved : goal.messages-preserved
messages-preserved c = one_more c.next.result _ c.messages.frames c.next.new.self c.messages.invariant c.next.ensures.stands (sym c.is_some.ensures ∙ c.if-is_some.true)

pub returns : goal.returns
returns c = no_more c.next.result c.args.frames.now c.messages.frames c.next.new.self c.messages.invariant c.next.ensures.taken (sym c.is_some.ensures ∙ c.if-is_some.false)
