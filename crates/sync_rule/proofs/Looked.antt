-- What a look tells is what may be done.
use Rattle.std.proofs.Common.{◌≡◌, ℕ, ◌<◌, ◌≤◌, ◌↔◌, Bool, true, false, not, ◌&&◌, cond, ltb, List, Option, Some, None, length, IsTrue, refl, sym, subst, arith}
use Rattle.std.specs.Prelude.{MatchOption}
use Rattle.std.proofs.lemmas.Bool.{ltb-true, ltb-false, leb-true, leb-false, false≢true}
use Rattle.device_api.specs.Behaviour.{Behaviour}
use Rattle.device_api.specs.Position.{is_at_most}
use Rattle.sync_rule.specs.declared.next.Next.{Next}
use Rattle.sync_rule.specs.declared.timer.Timer.{Timer}
use Rattle.sync_rule.specs.declared.front.Front.{Front}
use Rattle.sync_rule.specs.declared.runner.Runner.{Runner}
use Rattle.sync_rule.specs.Ports.{In}
use Rattle.sync_rule.specs.Times.{quiet_of, time_of, needed_for}
use Rattle.sync_rule.specs.Soonest.{Soonest}
use Rattle.sync_rule.specs.ManyPorts.{WaitBelow}
use Rattle.sync_rule.specs.Next.{key_of, IsNext, IsEnabled, HasHeard, HasEnded, IsDone, IsNeeded, IsAllSent}
use Rattle.sync_rule.specs.Looks.{has_heard, enabled, is_over, needed_at}
use Rattle.sync_rule.specs.Fronts.{IsFront, IsIdleFront}
use Rattle.sync_rule.proofs.Keys.{SameNeed, same_need, at_most_time}
use Rattle.sync_rule.proofs.Chosen.{timed_within, key_time}
use Rattle.std.proofs.lemmas.Option.{slice_get_within}

heard_is : (ins : List In) (quiet : Option Timer) (needed : ℕ) → Soonest quiet_of ins (length ins) quiet → has_heard quiet needed ≡ true → HasHeard ins needed
heard_is ins None needed s h = λ p bound timed. absurd (s p bound (timed_within quiet_of ins p bound timed) timed)
heard_is ins (Some q) needed s h = λ p bound timed. let far : needed ≤ q.at = leb-true needed q.at h in let least : q.at ≤ bound = s.least p bound (timed_within quiet_of ins p bound timed) timed in omega arith

not_heard : (ins : List In) (quiet : Option Timer) (needed : ℕ) → Soonest quiet_of ins (length ins) quiet → has_heard quiet needed ≡ false → HasHeard ins needed → ⊥
not_heard ins None needed s h heard = false≢true (sym h)
not_heard ins (Some q) needed s h heard = let short : q.at < needed = leb-false needed q.at h in let far : needed ≤ q.at = heard q.port q.at s.timed in omega arith

module _ {V : Type 0} (b : Behaviour V) (r : Runner V) where
  same : (n m : Next) → IsNext b r n → IsNext b r m → SameNeed n m
  same n m first second = same_need n m (first.least m second.pending) (second.least n first.pending)

  all_sent : WaitBelow r.outgoing (length r.outgoing) false → IsAllSent r.outgoing
  all_sent w = λ p o is. w.none refl p o (slice_get_within r.outgoing p o is) is

  may_go : (next : Next) (quiet : Option Timer) → WaitBelow r.outgoing (length r.outgoing) false → IsNext b r next → Soonest quiet_of r.incoming (length r.incoming) quiet → time_of next < r.end → (h : Bool) → has_heard quiet (needed_for next) ≡ h → MatchOption (cond h (Some next) None) ((m : Next) → IsEnabled b r m → ⊥) (IsEnabled b r)
  may_go next quiet w is s lt true h = record { is_next = is; in_run = lt; all_sent = all_sent w; heard = heard_is r.incoming quiet (needed_for next) s h }
  may_go next quiet w is s lt false h = λ m en. not_heard r.incoming quiet (needed_for next) s h (subst (HasHeard r.incoming) (same m next en.is_next is).needed en.heard)

  next_goes : (next : Next) (quiet : Option Timer) → WaitBelow r.outgoing (length r.outgoing) false → IsNext b r next → Soonest quiet_of r.incoming (length r.incoming) quiet → (l : Bool) → ltb (time_of next) r.end ≡ l → MatchOption (cond l (cond (has_heard quiet (needed_for next)) (Some next) None) None) ((m : Next) → IsEnabled b r m → ⊥) (IsEnabled b r)
  next_goes next quiet w is s true lt = may_go next quiet w is s (ltb-true (time_of next) r.end lt) (has_heard quiet (needed_for next)) refl
  next_goes next quiet w is s false ge = λ m en. let late : r.end ≤ time_of next = ltb-false (time_of next) r.end ge in let soon : time_of m < r.end = en.in_run in let e : time_of m ≡ time_of next = (same m next en.is_next is).time in omega arith

  enabled_is : (waits : Bool) (next : Option Next) (quiet : Option Timer) → WaitBelow r.outgoing (length r.outgoing) waits → MatchOption next (IsIdleFront b r) (IsNext b r) → Soonest quiet_of r.incoming (length r.incoming) quiet → MatchOption (enabled waits next quiet r.end) ((m : Next) → IsEnabled b r m → ⊥) (IsEnabled b r)
  enabled_is true next quiet w is s = λ m en. w.some refl (λ p o lt there. en.all_sent p o there)
  enabled_is false None quiet w is s = λ m en. is m en.is_next.pending
  enabled_is false (Some next) quiet w is s = next_goes next quiet w is s (ltb (time_of next) r.end) refl

  pub front_enabled : (f : Front) → IsFront b r f → (o : Option Next) → o ≡ enabled f.waits f.next f.quiet r.end → MatchOption o ((m : Next) → IsEnabled b r m → ⊥) (IsEnabled b r)
  front_enabled f is o e = subst (λ x. MatchOption x ((m : Next) → IsEnabled b r m → ⊥) (IsEnabled b r)) (sym e) (enabled_is f.waits f.next f.quiet is.waits is.next is.quiet)

  over_is : (next : Option Next) → MatchOption next (IsIdleFront b r) (IsNext b r) → is_over next r.end ≡ true → IsDone b r
  over_is None is over = λ m pending. absurd (is m pending)
  over_is (Some n) is over = λ m pending. let late : r.end ≤ time_of n = leb-true r.end (time_of n) over in let first : time_of n ≤ time_of m = not_after n m (is.least m pending) in omega arith
    where
      not_after : (n m : Next) → is_at_most (key_of n) (key_of m) ≡ true → time_of n ≤ time_of m
      not_after n m le = subst (λ x. x ≤ time_of m) (key_time b r n) (subst (λ y. (key_of n).time ≤ y) (key_time b r m) (at_most_time (key_of n) (key_of m) le))

  not_over : (next : Option Next) → MatchOption next (IsIdleFront b r) (IsNext b r) → is_over next r.end ≡ false → IsDone b r → ⊥
  not_over None is over done = false≢true (sym over)
  not_over (Some n) is over done = let soon : time_of n < r.end = leb-false r.end (time_of n) over in let late : r.end ≤ time_of n = done n is.pending in omega arith

  ended_is : (waits : Bool) (next : Option Next) (quiet : Option Timer) → WaitBelow r.outgoing (length r.outgoing) waits → MatchOption next (IsIdleFront b r) (IsNext b r) → Soonest quiet_of r.incoming (length r.incoming) quiet → (over heard : Bool) → is_over next r.end ≡ over → has_heard quiet r.end ≡ heard → IsTrue (not waits && (over && heard)) ↔ HasEnded b r
  ended_is true next quiet w is s over heard o h = (λ no. absurd (false≢true no), λ ended. absurd (w.some refl (λ p x lt there. ended.all_sent p x there)))
  ended_is false next quiet w is s false heard o h = (λ no. absurd (false≢true no), λ ended. absurd (not_over next is o ended.done))
  ended_is false next quiet w is s true false o h = (λ no. absurd (false≢true no), λ ended. absurd (not_heard r.incoming quiet r.end s h ended.heard))
  ended_is false next quiet w is s true true o h = (λ _. record { done = over_is next is o; all_sent = all_sent w; heard = heard_is r.incoming quiet r.end s h }, λ _. refl)

  pub front_ended : (f : Front) → IsFront b r f → (x : Bool) → x ≡ not f.waits && (is_over f.next r.end && has_heard f.quiet r.end) → IsTrue x ↔ HasEnded b r
  front_ended f is x e = subst (λ y. IsTrue y ↔ HasEnded b r) (sym e) (ended_is f.waits f.next f.quiet is.waits is.next is.quiet (is_over f.next r.end) (has_heard f.quiet r.end) refl refl)

  needs : (n : Next) → IsNext b r n → (l : Bool) → ltb (time_of n) r.end ≡ l → IsNeeded b r (cond l (needed_for n) r.end)
  needs n is true lt = record {
    for_next = λ m other soon. (same n m is other).needed;
    for_end = λ done. absurd (let late : r.end ≤ time_of n = done n is.pending in let soon : time_of n < r.end = ltb-true (time_of n) r.end lt in omega arith);
  }
  needs n is false ge = record {
    for_next = λ m other soon. absurd (let late : r.end ≤ time_of n = ltb-false (time_of n) r.end ge in let e : time_of n ≡ time_of m = (same n m is other).time in omega arith);
    for_end = λ done. refl;
  }

  needed_is : (next : Option Next) → MatchOption next (IsIdleFront b r) (IsNext b r) → IsNeeded b r (needed_at next r.end)
  needed_is None is = record { for_next = λ m other soon. absurd (is m other.pending); for_end = λ done. refl }
  needed_is (Some n) is = needs n is (ltb (time_of n) r.end) refl

  pub front_needed : (f : Front) → IsFront b r f → (x : ℕ) → x ≡ needed_at f.next r.end → IsNeeded b r x
  front_needed f is x e = subst (IsNeeded b r) (sym e) (needed_is f.next is.next)
