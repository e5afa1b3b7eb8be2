use Rattle.std.proofs.Common.{◌≡◌, ◌∙◌, Some, rules}
use Rattle.std.specs.Ordering.{nat_cmp, is_lt, is_some_and}
use Rattle.std.specs.Cmp.Lexicographic.{slice_partial_cmp}
use Rattle.std.proofs.lemmas.List.Sorted.{answers_always}
use Rattle.switch_sim.proofs.Ascending.{before, told, ascend_is}
use Rattle.switch_sim.proofs.parts.ascend.Goals as goal

pub returns : goal.returns
returns c = ascend_is c.args.entries.now c.is_sorted_by.result (c.is_sorted_by.ensures.cases before (answers_always _ _ _ (λ f a r q k. (let said : r ≡ is_some_and is_lt (slice_partial_cmp (λ x y. Some (nat_cmp x y)) a.0.now.mac a.1.0.now.mac) = search rules in said ∙ told a.0.now a.1.0.now))))
