use Rattle.std.proofs.Common.{sym, subst, rules}
use Rattle.std.specs.Ordering.{nat_cmp}
use Rattle.std.specs.Cmp.Lexicographic.{slice_cmp}
use Rattle.std.specs.List.Sorted.{IsPermutation, IsSortedByKey}
use Rattle.std.proofs.lemmas.List.Sorted.{answers_always}
use Rattle.switch_sim.specs.declared.entry.Entry.{Entry}
use Rattle.switch_sim.specs.Parts.{live_entries, StandsAt}
use Rattle.switch_sim.specs.Alike.{IsAlike}
use Rattle.switch_sim.proofs.Standing.{ascend_sorted, resumed_is, parts_one_each, parts_stand, parts_alike}
use Rattle.switch_sim.proofs.switch.Switch.into_parts.Goals as goal

pub returns-clause-ascending : goal.returns-clause-ascending
returns-clause-ascending c =
    let permutation : IsPermutation (live_entries c.args.self c.args.at) c.from_vec.result = search rules in
    let sorted : IsSortedByKey (λ (e : Entry). e.mac) (slice_cmp nat_cmp) c.sort_by_key.new.self.items = c.in_ok-sort_by_key.ensures.sorted (λ (e : Entry). e.mac) (answers_always _ _ _ (λ f a r q k. search rules)) in
    ascend_sorted c.from_vec.result (parts_one_each c.args.self c.args.at c.from_vec.result c.requires.settled_then permutation) (subst (IsSortedByKey (λ (e : Entry). e.mac) (slice_cmp nat_cmp)) (sym c.from_vec.ensures) sorted)

pub returns-clause-valid : goal.returns-clause-valid
returns-clause-valid c config is =
    let permutation : IsPermutation (live_entries c.args.self c.args.at) c.from_vec.result = search rules in
    subst (StandsAt c.args.at) (resumed_is config c.args.self (record { entries = c.from_vec.result }) is) (parts_stand c.args.self c.args.at c.from_vec.result c.requires.settled_then permutation (returns-clause-ascending c))

pub returns-clause-again : goal.returns-clause-again
returns-clause-again c config is =
    let permutation : IsPermutation (live_entries c.args.self c.args.at) c.from_vec.result = search rules in
    subst (IsAlike c.args.at c.args.self) (resumed_is config c.args.self (record { entries = c.from_vec.result }) is) (parts_alike c.args.self c.args.at c.from_vec.result c.requires.settled_then permutation)
