-- The first of the soonest null message, the soonest message that waits and the device's due time is the next event.
use Rattle.std.proofs.Common.{◌≡◌, ℕ, ◌<◌, ◌≤◌, Bool, true, false, cond, leb, List, Option, Some, None, length, refl, sym, ◌∙◌, arith}
use Rattle.std.specs.Prelude.{MatchOption}
use Rattle.std.proofs.lemmas.Bool.{leb-true, leb-false}
use Rattle.std.proofs.lemmas.Option.{none-some, same_Some, slice_get_within}
use Rattle.device_api.specs.Behaviour.{Behaviour}
use Rattle.device_api.specs.Position.{is_at_most, sync_key, message_key, tick_key}
use Rattle.sync_rule.specs.declared.next.Next.{Next}
use Rattle.sync_rule.specs.declared.next.Next.TheVariants.{Sync, Take, Tick}
use Rattle.sync_rule.specs.declared.timer.Timer.{Timer}
use Rattle.sync_rule.specs.declared.runner.Runner.{Runner}
use Rattle.sync_rule.specs.Times.{timer_of, head_of, time_of}
use Rattle.sync_rule.specs.Soonest.{IsTimed, IsSoonest, Soonest}
use Rattle.sync_rule.specs.Next.{IsPending, IsNext, key_of}
use Rattle.sync_rule.specs.Choice.{earlier_of, chosen, chosen_of}
use Rattle.sync_rule.specs.Fronts.{IsIdleFront}
use Rattle.sync_rule.proofs.Keys.{earlier, sync_before_tick, sync_before_message, message_before_tick, tick_before_tick, sync_before_sync, message_before_message}

pub timed_within : {X : Type 0} (time : X → Option ℕ) (xs : List X) (p t : ℕ) → IsTimed time xs p t → p < length xs
timed_within time xs p t timed = slice_get_within xs p timed.is timed.there

-- the first of what is pending but null messages
record IsLater {V : Type 0} (b : Behaviour V) (r : Runner V) (later : Next) : Type 0 where
  pub pending : IsPending b r later
  pub takes : (p t : ℕ) → IsTimed head_of r.incoming p t → (is_at_most (key_of later) (message_key t p 0) ≡ true) × (time_of later ≤ t)
  pub ticks : (t : ℕ) → b.due r.device ≡ Some t → (is_at_most (key_of later) (tick_key t) ≡ true) × (time_of later ≤ t)

record NoneLater {V : Type 0} (b : Behaviour V) (r : Runner V) : Type 0 where
  pub takes : (p t : ℕ) → IsTimed head_of r.incoming p t → ⊥
  pub ticks : (t : ℕ) → b.due r.device ≡ Some t → ⊥

module _ {V : Type 0} (b : Behaviour V) (r : Runner V) where
  head_first : (h : Timer) → IsSoonest head_of r.incoming (length r.incoming) h → (p t : ℕ) → IsTimed head_of r.incoming p t → (is_at_most (message_key h.at h.port 0) (message_key t p 0) ≡ true) × (h.at ≤ t)
  head_first h s p t timed = (message_before_message h.at t h.port p (s.least p t (timed_within head_of r.incoming p t timed) timed) (λ lt. s.first p t lt timed), s.least p t (timed_within head_of r.incoming p t timed) timed)

  due_is : (d t : ℕ) → b.due r.device ≡ Some d → b.due r.device ≡ Some t → d ≤ t
  due_is d t e is = let same : d ≡ t = same_Some d t (sym e ∙ is) in omega arith

  take_first : (h : Timer) (d : ℕ) → b.due r.device ≡ Some d → IsSoonest head_of r.incoming (length r.incoming) h → (b' : Bool) → leb h.at d ≡ b' → IsLater b r (cond b' (Take h.port h.at) (Tick d))
  take_first h d e s true le = record {
    pending = s.timed;
    takes = head_first h s;
    ticks = λ t is. let soon : h.at ≤ t = (let first : h.at ≤ d = leb-true h.at d le in let then : d ≤ t = due_is d t e is in omega arith) in (message_before_tick h.at t h.port soon, soon);
  }
  take_first h d e s false gt = record {
    pending = e;
    takes = λ p t timed. let late : d < t = (let first : d < h.at = leb-false h.at d gt in let then : h.at ≤ t = s.least p t (timed_within head_of r.incoming p t timed) timed in omega arith) in (earlier (tick_key d) (message_key t p 0) late, omega arith);
    ticks = λ t is. (tick_before_tick d t (due_is d t e is), due_is d t e is);
  }

  later_is : (head : Option Timer) (due : Option ℕ) → b.due r.device ≡ due → Soonest head_of r.incoming (length r.incoming) head → MatchOption (earlier_of head due) (NoneLater b r) (IsLater b r)
  later_is None None e s = record { takes = λ p t timed. s p t (timed_within head_of r.incoming p t timed) timed; ticks = λ t is. none-some t (sym e ∙ is) }
  later_is (Some h) None e s = record { pending = s.timed; takes = head_first h s; ticks = λ t is. absurd (none-some t (sym e ∙ is)) }
  later_is None (Some d) e s = record { pending = e; takes = λ p t timed. absurd (s p t (timed_within head_of r.incoming p t timed) timed); ticks = λ t is. (tick_before_tick d t (due_is d t e is), due_is d t e is) }
  later_is (Some h) (Some d) e s = take_first h d e s (leb h.at d) refl

  pub key_time : (n : Next) → (key_of n).time ≡ time_of n
  key_time (Sync p u) = refl
  key_time (Take p t) = refl
  key_time (Tick t) = refl

  sync_first : (s : Timer) → IsSoonest timer_of r.outgoing (length r.outgoing) s → (p u : ℕ) → IsTimed timer_of r.outgoing p u → is_at_most (sync_key s.at s.port) (sync_key u p) ≡ true
  sync_first s soonest p u timed = sync_before_sync s.at u s.port p (soonest.least p u (timed_within timer_of r.outgoing p u timed) timed) (λ lt. soonest.first p u lt timed)

  only_syncs : (s : Timer) → IsSoonest timer_of r.outgoing (length r.outgoing) s → NoneLater b r → (other : Next) → IsPending b r other → is_at_most (sync_key s.at s.port) (key_of other) ≡ true
  only_syncs s soonest none (Sync p u) pending = sync_first s soonest p u pending
  only_syncs s soonest none (Take p t) pending = absurd (none.takes p t pending)
  only_syncs s soonest none (Tick t) pending = absurd (none.ticks t pending)

  sync_or_is : (s : Timer) (later : Next) → IsSoonest timer_of r.outgoing (length r.outgoing) s → IsLater b r later → (b' : Bool) → leb s.at (time_of later) ≡ b' → IsNext b r (cond b' (Sync s.port s.at) later)
  sync_or_is s later soonest is true le = record { pending = soonest.timed; least = least }
    where
      least : (other : Next) → IsPending b r other → is_at_most (sync_key s.at s.port) (key_of other) ≡ true
      least (Sync p u) pending = sync_first s soonest p u pending
      least (Take p t) pending = sync_before_message s.at t s.port p (let first : s.at ≤ time_of later = leb-true s.at (time_of later) le in let then : time_of later ≤ t = (is.takes p t pending).1 in omega arith)
      least (Tick t) pending = sync_before_tick s.at t s.port (let first : s.at ≤ time_of later = leb-true s.at (time_of later) le in let then : time_of later ≤ t = (is.ticks t pending).1 in omega arith)
  sync_or_is s later soonest is false gt = record { pending = is.pending; least = least }
    where
      least : (other : Next) → IsPending b r other → is_at_most (key_of later) (key_of other) ≡ true
      least (Sync p u) pending = earlier (key_of later) (sync_key u p) (let first : time_of later < s.at = leb-false s.at (time_of later) gt in let then : s.at ≤ u = soonest.least p u (timed_within timer_of r.outgoing p u pending) pending in let same : (key_of later).time ≡ time_of later = key_time later in omega arith)
      least (Take p t) pending = (is.takes p t pending).0
      least (Tick t) pending = (is.ticks t pending).0

  no_syncs : (later : Next) → ((p u : ℕ) → p < length r.outgoing → IsTimed timer_of r.outgoing p u → ⊥) → IsLater b r later → (other : Next) → IsPending b r other → is_at_most (key_of later) (key_of other) ≡ true
  no_syncs later none is (Sync p u) pending = absurd (none p u (timed_within timer_of r.outgoing p u pending) pending)
  no_syncs later none is (Take p t) pending = (is.takes p t pending).0
  no_syncs later none is (Tick t) pending = (is.ticks t pending).0

  nothing : ((p u : ℕ) → p < length r.outgoing → IsTimed timer_of r.outgoing p u → ⊥) → NoneLater b r → IsIdleFront b r
  nothing none is (Sync p u) pending = none p u (timed_within timer_of r.outgoing p u pending) pending
  nothing none is (Take p t) pending = is.takes p t pending
  nothing none is (Tick t) pending = is.ticks t pending

  from_both : (timer : Option Timer) (later : Option Next) → Soonest timer_of r.outgoing (length r.outgoing) timer → MatchOption later (NoneLater b r) (IsLater b r) → MatchOption (chosen_of timer later) (IsIdleFront b r) (IsNext b r)
  from_both None None s is = nothing s is
  from_both None (Some later) s is = record { pending = is.pending; least = no_syncs later s is }
  from_both (Some timer) None s is = record { pending = s.timed; least = only_syncs timer s is }
  from_both (Some timer) (Some later) s is = sync_or_is timer later s is (leb timer.at (time_of later)) refl

  pub chosen_is : (timer head : Option Timer) (due : Option ℕ) → b.due r.device ≡ due → Soonest timer_of r.outgoing (length r.outgoing) timer → Soonest head_of r.incoming (length r.incoming) head → MatchOption (chosen timer head due) (IsIdleFront b r) (IsNext b r)
  chosen_is timer head due e timers heads = from_both timer (earlier_of head due) timers (later_is head due e heads)
