-- Events in a row.
use Rattle.std.proofs.Common.{ℕ, ◌+◌, subst, arith}
use Rattle.device_api.specs.Behaviour.{Behaviour}
use Rattle.sync_rule.specs.declared.next.Next.{Next}
use Rattle.sync_rule.specs.declared.runner.Runner.{Runner}
use Rattle.sync_rule.specs.Next.{IsEnabled, IsReady}
use Rattle.sync_rule.specs.Steps.{Processed, IsAfter}
use Rattle.sync_rule.specs.Events.{EventsRan, IsReadyThroughout, RanOn}
use Rattle.sync_rule.specs.Events.EventsRan.{none_ran, one_more}

module _ {V : Type 0} (b : Behaviour V) where
  pub ran_more : {old mid new : Runner V} {n : ℕ} → EventsRan b old n mid → (next : Next) → IsEnabled b mid next → IsAfter b mid next new → EventsRan b old (n + 1) new
  ran_more {old} {mid} {new} {n} ran next enabled after = one_more n mid new ran (record { next = next; enabled = enabled; after = after })

  -- so many, and then so many more
  pub ran_on : {old mid new : Runner V} {n k : ℕ} → EventsRan b old n mid → EventsRan b mid k new → EventsRan b old (n + k) new
  ran_on {old} {mid} {new} {n} {k} ran more = at k new more
    where
      at : (k : ℕ) (new : Runner V) → EventsRan b mid k new → EventsRan b old (n + k) new
      at _ _ none_ran = subst (λ m. EventsRan b old m mid) (omega arith) ran
      at _ _ (one_more k last new so_far event) = subst (λ m. EventsRan b old m new) (omega arith) (one_more (n + k) last new (at k last so_far) event)

  pub one_ran : (old new : Runner V) (next : Next) → IsEnabled b old next → IsAfter b old next new → RanOn b old new 1 1
  one_ran old new next enabled after = record { ran = ran_more none_ran next enabled after; some = omega arith; within = omega arith }

  pub throughout_on : (settled : V → ℕ → Type 0) {old mid : Runner V} {n : ℕ} → IsReadyThroughout b settled old → EventsRan b old n mid → IsReadyThroughout b settled mid
  throughout_on settled ready ran = record { after = λ k new more. ready.after _ new (ran_on ran more) }

  pub ready_now : (settled : V → ℕ → Type 0) (r : Runner V) → IsReadyThroughout b settled r → IsReady b settled r
  ready_now settled r ready = ready.after 0 r none_ran

  -- what each event keeps, and what makes a runner ready, makes it ready throughout
  pub throughout : (settled : V → ℕ → Type 0) (keeps : Runner V → Type 0) → ((r : Runner V) → keeps r → IsReady b settled r) → ((old new : Runner V) → keeps old → Processed b old new → keeps new) → (r : Runner V) → keeps r → IsReadyThroughout b settled r
  throughout settled keeps ready step r kept = record { after = λ n mid ran. ready mid (kept_by n mid ran) }
    where
      kept_by : (n : ℕ) (mid : Runner V) → EventsRan b r n mid → keeps mid
      kept_by _ _ none_ran = kept
      kept_by _ _ (one_more n mid new ran event) = step mid new (kept_by n mid ran) event
