use Rattle.std.proofs.Common.{◌≤◌, ◌++◌, ◌∷◌, [], sym, ap, ap₂, ◌∙◌, subst, arith, length, ◌+◌, map, take}
use Rattle.std.proofs.lemmas.List.{map_push, take_more}
use Rattle.sync_rule.specs.Ports.{Out}
use Rattle.sync_rule.proofs.outgoing_ports.count_all.Goals as goal

pub push_reserved-requires : goal.push_reserved-requires
push_reserved-requires c = omega (arith, c.loop-outgoing.invariant.pushed, c.loop-outgoing.invariant.room, c.loop-outgoing-test.true)

pub loop-outgoing-preserved : goal.loop-outgoing-preserved
loop-outgoing-preserved c =
    let xs = c.args.items.now in
    let i = c.loop-outgoing.outgoing-index in
    let item = c.outgoing-item.result in
    record {
      counted = c.push_reserved.ensures.items ∙ ap₂ (λ l x. l ++ x ∷ []) c.loop-outgoing.invariant.counted c.count.ensures ∙ sym (map_push (λ (o : Out). o.count) (take i xs) item) ∙ ap (map (λ (o : Out). o.count)) (ap (λ x. take i xs ++ x ∷ []) c.outgoing-item.is ∙ sym (take_more xs i item c.loop-outgoing-test.true));
      pushed = c.push_reserved.ensures.len ∙ ap (λ n. n + 1) c.loop-outgoing.invariant.pushed;
      room = subst (λ n. length xs ≤ n) (sym c.push_reserved.ensures.capacity) c.loop-outgoing.invariant.room;
    }
