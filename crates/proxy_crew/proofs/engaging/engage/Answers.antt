use Rattle.std.proofs.Common.{◌≡◌, ◌++◌, length, take, drop, reverse, sym, ap, ◌∙◌, subst, arith}
use Rattle.crew_members.specs.declared.hand.Hand.TheVariants.{Sending, Receiving}
use Rattle.proxy_crew.proofs.Engaged.{AreComing, none_yet, one_then, came_many, place_within, written, at_count}
use Rattle.proxy_crew.proofs.engaging.engage.Goals as goal

pub channels-init : goal.channels-init
channels-init g c = none_yet c.args.workers.items c.args.proxied.items c.reverse.new.self c.in_ok-made.made.items (c.reverse.ensures ∙ ap reverse c.from_vec-left.ensures) c.in_ok-made.ensures

pub enlist-requires : goal.enlist-requires
enlist-requires g c =
    let counted : c.len-count.result ≡ length c.args.workers.items = omega (arith, c.args.workers.ok.0, c.len-count.ensures) in
    place_within c.args.workers.items c.in-Some.one.route.sender c.len-count.result c.requires.some counted c.as_mut_slice.result.now c.channels.made.items c.as_mut_slice.ensures.value (came_many c.args.workers.items c.args.proxied.items c.channels.left c.channels.made.items c.channels.invariant)

pub enlist-requires-in-Some : goal.enlist-requires-in-Some
enlist-requires-in-Some g c =
    let counted : c.len-count.result ≡ length c.args.workers.items = omega (arith, c.args.workers.ok.0, c.len-count.ensures) in
    place_within c.args.workers.items c.in-Some.one.route.receiver c.len-count.result c.requires.some counted c.as_mut_slice-in-Some.result.now c.enlist.new.workers (c.as_mut_slice-in-Some.ensures.value ∙ written c.channels.made.len c.channels.made.items c.enlist.new.workers (c.enlist.auto.workers ∙ c.as_mut_slice.ensures.len)) (c.enlist.auto.workers ∙ ap length c.as_mut_slice.ensures.value ∙ came_many c.args.workers.items c.args.proxied.items c.channels.left c.channels.made.items c.channels.invariant)

pub channels-preserved : goal.channels-preserved
channels-preserved g c =
    let counted : c.len-count.result ≡ length c.args.workers.items = omega (arith, c.args.workers.ok.0, c.len-count.ensures) in
    let first : take c.channels.made.len (c.enlist.new.workers ++ drop (length c.enlist.new.workers) c.channels.made.items) ≡ c.enlist.new.workers = written c.channels.made.len c.channels.made.items c.enlist.new.workers (c.enlist.auto.workers ∙ c.as_mut_slice.ensures.len) in
    subst (AreComing c.args.workers.items c.args.proxied.items c.pop.new.self) (sym (written c.channels.made.len _ c.enlist-in-Some.new.workers (c.enlist-in-Some.auto.workers ∙ c.as_mut_slice-in-Some.ensures.len))) (one_then c.args.workers.items c.args.proxied.items c.channels.left c.pop.new.self c.channels.made.items c.enlist.new.workers c.enlist-in-Some.new.workers c.in-Some.one c.channels.invariant c.in-Some.ensures.last (at_count c.in-Some.one.route.sender c.len-count.result (length c.args.workers.items) counted (Sending c.in-Some.one.sending) c.channels.made.items c.as_mut_slice.result.now c.enlist.new.workers c.as_mut_slice.ensures.value c.in_ok-enlist.ensures.more) (at_count c.in-Some.one.route.receiver c.len-count.result (length c.args.workers.items) counted (Receiving c.in-Some.one.receiving) c.enlist.new.workers c.as_mut_slice-in-Some.result.now c.enlist-in-Some.new.workers (c.as_mut_slice-in-Some.ensures.value ∙ first) c.in_ok-enlist-2.ensures.more))
