use Rattle.std.proofs.Common.{◌≡◌, ◌∙◌, ℕ, ap, rules}
use Rattle.std.specs.List.{flat_map}
use Rattle.std.specs.List.Sorted.{IsNonDecreasingBy, IsStableByKey}
use Rattle.std.specs.Ordering.{nat_cmp}
use Rattle.std.proofs.lemmas.Result.{IfOk-weaker}
use Rattle.std.proofs.lemmas.List.Sorted.{IsNonDecreasingBy-from_sort_by_key, answers_always}
use Rattle.device_api.specs.Joined.{joined_until}
use Rattle.log_join.specs.Before.{AreBefore}
use Rattle.log_join.specs.Entries.{entry_text}
use Rattle.log_join.proofs.Ordered.{entry_time, sorted_is_joined}
use Rattle.log_join.proofs.sorted.Goals as goal

pub returns : goal.returns
returns c =
    let names = c.args.names.now in
    let logs = c.args.logs.now.lists in
    let unsorted = c.in_ok-entries.entries.items in
    let sorted = c.sort_by_key.new.self.items in
    let rises : IsNonDecreasingBy entry_time sorted = IsNonDecreasingBy-from_sort_by_key entry_time _ c.in_ok-sort_by_key.ensures.sorted (λ a r q k. search rules) in
    let stable : IsStableByKey entry_time nat_cmp unsorted sorted = c.in_ok-sort_by_key.ensures.stable entry_time (answers_always _ _ _ (λ f a r q k. search rules)) in
    let joined = sorted_is_joined names logs unsorted sorted c.in_ok-entries.ensures stable rises c.in_ok-sort_by_key.ensures.permutation in
    IfOk-weaker c.text_of.result (λ text. text ≡ flat_map entry_text c.as_slice.result.now) (λ text. (end : ℕ) → AreBefore end logs → text ≡ joined_until end names logs)
    (λ text written. λ end before. written ∙ ap (flat_map entry_text) c.as_slice.ensures.value ∙ joined end before) c.text_of.ensures
