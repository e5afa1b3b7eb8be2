use Rattle.std.proofs.Common.{◌≤◌, ◌++◌, ◌∷◌, [], sym, ap, ap₂, ◌∙◌, subst, arith, length, ◌+◌, take, List}
use Rattle.std.proofs.lemmas.List.{map_push, take_more}
use Rattle.device_api.specs.declared.counts.Count.{Count}
use Rattle.mesh_core.specs.declared.way.Way.{Way}
use Rattle.mesh_core.specs.Left.{count_at, counts_along}
use Rattle.mesh_core.proofs.outcome.count_all.Goals as goal

pub push_reserved-requires : goal.push_reserved-requires
push_reserved-requires c = omega (arith, c.loop-way.invariant.pushed, c.loop-way.invariant.room, c.loop-way-test.true)

pub loop-way-preserved : goal.loop-way-preserved
loop-way-preserved c =
    let xs = c.args.ways.now in
    let i = c.loop-way.way-index in
    record {
      counted = c.push_reserved.ensures.items ∙ ap₂ (λ (l : List Count) x. l ++ x ∷ []) c.loop-way.invariant.counted c.count_at.ensures ∙ sym (map_push (λ (way : Way). count_at c.args.by_port.now way.from) (take i xs) _) ∙ ap (λ l. counts_along l c.args.by_port.now) (sym (take_more xs i _ c.loop-way-test.true));
      pushed = c.push_reserved.ensures.len ∙ ap (λ n. n + 1) c.loop-way.invariant.pushed;
      room = subst (λ n. length xs ≤ n) (sym c.push_reserved.ensures.capacity) c.loop-way.invariant.room;
    }
