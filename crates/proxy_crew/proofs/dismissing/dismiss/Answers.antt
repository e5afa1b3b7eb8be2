use Rattle.std.proofs.Common.{◌++◌, ◌∷◌, [], reverse, ap, ◌∙◌}
use Rattle.proxy_crew.proofs.Engaged.{written}
use Rattle.std.specs.Prelude.{vec_len, vec_capacity}
use Rattle.proxy_crew.proofs.Gone.{come_last, goes_on, all_gone, room_left}
use Rattle.proxy_crew.proofs.dismissing.dismiss.Goals as goal

pub last_ends-sending-requires : goal.last_ends-sending-requires
last_ends-sending-requires g c = come_last c.requires.engaged.parts c.requires.engaged.ends c.channels.workers c.channels.routes c.channels.left.ends.items c.channels.left.near.items c.channels.left.far.items (c.channels.invariant.every c.requires.engaged.parts c.requires.engaged.ends c.requires.engaged.engaged c.requires.engaged.routes_are) c.pop.new.self c.in-Some.route c.in-Some.ensures.last

pub channels-preserved : goal.channels-preserved
channels-preserved g c = record {
  every = λ parts all engaged routes_are. goes_on parts all c.channels.workers c.channels.routes c.channels.left.ends.items c.channels.left.near.items c.channels.left.far.items (c.channels.invariant.every parts all engaged routes_are) c.pop.new.self c.in-Some.route c.in-Some.ensures.last c.last_ends-sending.new.workers c.last_ends-sending.result.0 c.last_ends-sending.result.1 c.last_ends-sending.ensures c.push_reserved.new.self.items c.push_reserved-in-Some.new.self.items c.push_reserved-in-Some-2.new.self.items (c.push_reserved.ensures.items ∙ ap (λ e. c.channels.left.ends.items ++ e ∷ []) c.wire_end-end.ensures.end) (c.push_reserved-in-Some.ensures.items ∙ ap (λ e. c.channels.left.near.items ++ e ∷ []) c.wire_end-end.ensures.near) (c.push_reserved-in-Some-2.ensures.items ∙ ap (λ e. c.channels.left.far.items ++ e ∷ []) c.wire_end-end.ensures.far);
  for_ends = room_left c.channels.routes c.pop.new.self c.in-Some.route (vec_len c.channels.left.ends) _ (vec_capacity c.channels.left.ends) _ c.in-Some.ensures.last c.channels.invariant.for_ends c.push_reserved.ensures.len c.push_reserved.ensures.capacity;
  for_near = room_left c.channels.routes c.pop.new.self c.in-Some.route (vec_len c.channels.left.near) _ (vec_capacity c.channels.left.near) _ c.in-Some.ensures.last c.channels.invariant.for_near c.push_reserved-in-Some.ensures.len c.push_reserved-in-Some.ensures.capacity;
  for_far = room_left c.channels.routes c.pop.new.self c.in-Some.route (vec_len c.channels.left.far) _ (vec_capacity c.channels.left.far) _ c.in-Some.ensures.last c.channels.invariant.for_far c.push_reserved-in-Some-2.ensures.len c.push_reserved-in-Some-2.ensures.capacity;
}

pub returns-clause-dismissed : goal.returns-clause-dismissed
returns-clause-dismissed g c = λ parts all engaged routes_are. all_gone parts all c.channels.workers c.channels.routes c.channels.left.ends.items c.channels.left.near.items c.channels.left.far.items (c.channels.invariant.every parts all engaged routes_are) c.in_default.ensures.none _ (written c.channels.left.ends.len c.channels.left.ends.items c.reverse.new.self (c.reverse.ensures.len ∙ c.as_mut_slice.ensures.len) ∙ c.reverse.ensures.after ∙ ap reverse c.as_mut_slice.ensures.value) (written c.channels.left.near.len c.channels.left.near.items c.reverse-2.new.self (c.reverse-2.ensures.len ∙ c.as_mut_slice-2.ensures.len) ∙ c.reverse-2.ensures.after ∙ ap reverse c.as_mut_slice-2.ensures.value) (written c.channels.left.far.len c.channels.left.far.items c.reverse-3.new.self (c.reverse-3.ensures.len ∙ c.as_mut_slice-3.ensures.len) ∙ c.reverse-3.ensures.after ∙ ap reverse c.as_mut_slice-3.ensures.value)
