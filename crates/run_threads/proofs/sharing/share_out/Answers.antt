use Rattle.std.proofs.Common.{refl, ap, ◌∙◌, reverse}
use Rattle.run_threads.proofs.Handed.{first_enough, second_enough, none_yet, sharing_more, sharing_starts, sharing_ends}
use Rattle.run_threads.proofs.sharing.share_out.Goals as goal

pub loop-link-init : goal.loop-link-init
loop-link-init c = sharing_starts c.requires.0 c.args.links.now c.args.queues.now c.args.producers.items c.args.consumers.items c.requires.1 _ (none_yet _ c.new.ensures.items c.new-3.ensures.items c.new-2.ensures.items c.new-4.ensures.items c.new-5.ensures.items c.new-6.ensures.items) _ refl (c.reverse.ensures ∙ ap reverse c.from_vec.ensures) (c.reverse-2.ensures ∙ ap reverse c.from_vec-2.ensures)

pub add_channel-requires-clause-more : goal.add_channel-requires-clause-more
add_channel-requires-clause-more c = first_enough c.args.queues.now c.args.links.now c.loop-link.link-index c.loop-link.shares c.loop-link.left c.link-item.result c.loop-link.invariant c.loop-link-test.true c.link-item.is

pub add_channel-requires-in-loop-link-clause-more : goal.add_channel-requires-in-loop-link-clause-more
add_channel-requires-in-loop-link-clause-more c = second_enough c.args.queues.now c.args.links.now c.loop-link.link-index c.loop-link.shares c.loop-link.left c.link-item.result c.loop-link.invariant c.loop-link-test.true c.link-item.is c.add_channel.new.left.at c.add_channel.ensures.at

pub loop-link-preserved : goal.loop-link-preserved
loop-link-preserved c = sharing_more c.args.queues.now c.args.links.now c.loop-link.link-index c.loop-link.shares c.loop-link.left c.link-item.result c.loop-link.invariant c.loop-link-test.true c.link-item.is c.add_channel.new.self c.add_channel-in-loop-link.new.self c.add_channel.new.left c.add_channel-in-loop-link.new.left c.in_ok-add_channel.ensures.shared c.add_channel.ensures.at c.in_ok-add_channel-2.ensures.shared c.add_channel-in-loop-link.ensures.at c.add_channel-in-loop-link.ensures.left

pub returns : goal.returns
returns c = sharing_ends c.args.queues.now c.args.links.now c.loop-link.link-index c.loop-link.shares c.loop-link.left c.loop-link.invariant c.loop-link-test.false
