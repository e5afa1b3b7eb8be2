use Rattle.std.proofs.Common.{rules, ◌≤◌, ◌++◌, ◌∷◌, [], ◌+◌, List, length, sym, ap, ◌∙◌, subst, arith, length-append}
use Rattle.std.specs.Prelude.{reverse}
use Rattle.device_api.specs.declared.counts.Count.{Count}
use Rattle.device_api.specs.declared.logs.Line.{Line}
use Rattle.mesh_core.proofs.Finished.{finishing_starts, finishing_more, logs_done, counts_done, room_left, room_left_by_port}
use Rattle.mesh_core.proofs.outcome.finish_all.Goals as goal

pub runners-init : goal.runners-init
runners-init g c = record {
  finishing = finishing_starts c.args.runners.items _ _ _ c.requires.no_logs c.requires.no_counts (c.reverse.ensures ∙ ap reverse c.from_vec-left.ensures);
  logs_so_far = search rules;
  counts_so_far = search rules;
  for_logs = c.requires.for_logs;
  for_counts = c.requires.for_counts;
}

pub push_reserved-requires : goal.push_reserved-requires
push_reserved-requires g c = omega (arith, room_left c.args.runners.items c.runners.logs.items c.runners.by_port.items c.runners.left c.runners.invariant.finishing c.pop.new.self c.in-Some.runner c.in-Some.ensures.last, c.runners.invariant.logs_so_far, c.runners.invariant.for_logs)

pub push_reserved-requires-in-Some : goal.push_reserved-requires-in-Some
push_reserved-requires-in-Some g c = omega (arith, room_left_by_port c.args.runners.items c.runners.logs.items c.runners.by_port.items c.runners.left c.runners.invariant.finishing c.pop.new.self c.in-Some.runner c.in-Some.ensures.last, c.runners.invariant.counts_so_far, c.runners.invariant.for_counts)

pub runners-preserved : goal.runners-preserved
runners-preserved g c = record {
  finishing = finishing_more c.args.runners.items c.runners.logs.items c.runners.by_port.items c.runners.left c.runners.invariant.finishing c.pop.new.self c.in-Some.runner c.in-Some.ensures.last c.push_reserved.new.self.items c.push_reserved-in-Some.new.self.items (c.push_reserved.ensures.items ∙ ap (λ (log : List Line). c.runners.logs.items ++ log ∷ []) c.finish-device.ensures.log) (c.push_reserved-in-Some.ensures.items ∙ ap (λ (counts : List Count). c.runners.by_port.items ++ counts ∷ []) c.finish-device.ensures.counts);
  logs_so_far = c.push_reserved.ensures.len ∙ ap (λ n. n + 1) c.runners.invariant.logs_so_far ∙ sym (ap length c.push_reserved.ensures.items ∙ length-append c.runners.logs.items _);
  counts_so_far = c.push_reserved-in-Some.ensures.len ∙ ap (λ n. n + 1) c.runners.invariant.counts_so_far ∙ sym (ap length c.push_reserved-in-Some.ensures.items ∙ length-append c.runners.by_port.items _);
  for_logs = subst (λ n. length c.args.runners.items ≤ n) (sym c.push_reserved.ensures.capacity) c.runners.invariant.for_logs;
  for_counts = subst (λ n. length c.args.runners.items ≤ n) (sym c.push_reserved-in-Some.ensures.capacity) c.runners.invariant.for_counts;
}

pub returns-clause-logged : goal.returns-clause-logged
returns-clause-logged g c = logs_done c.args.runners.items _ _ _ c.runners.invariant.finishing c.in_default.ensures.none

pub returns-clause-counted : goal.returns-clause-counted
returns-clause-counted g c = counts_done c.args.runners.items _ _ _ c.runners.invariant.finishing c.in_default.ensures.none
