-- A device that ticks alone: until when, and what a tick that sends nothing leaves.
use Rattle.std.proofs.Common.{◌≡◌, ℕ, ◌<◌, ◌≤◌, Bool, true, false, cond, ltb, List, [], Option, Some, None, length, refl, sym, ap, ◌∙◌, subst, arith, ◌∷◌, ◌++◌}
use Rattle.std.proofs.lemmas.Bool.{ltb-true, ltb-false}
use Rattle.std.proofs.lemmas.Option.{same_Some}
use Rattle.sb_message.specs.declared.message.Body.{Body}
use Rattle.device_api.specs.declared.logs.Line.{Line}
use Rattle.device_api.specs.World.{logged_at}
use Rattle.device_api.specs.Behaviour.{Behaviour}
use Rattle.device_api.specs.Position.{is_at_most, sync_key, message_key, tick_key}
use Rattle.sync_rule.specs.declared.next.Next.{Next}
use Rattle.sync_rule.specs.declared.next.Next.TheVariants.{Sync, Take, Tick}
use Rattle.sync_rule.specs.declared.timer.Timer.{Timer}
use Rattle.sync_rule.specs.declared.runner.Runner.{Runner}
use Rattle.sync_rule.specs.Ports.{In, Out, post_all}
use Rattle.sync_rule.specs.Times.{timer_of, head_of, quiet_of}
use Rattle.sync_rule.specs.Soonest.{IsTimed, Soonest}
use Rattle.sync_rule.specs.Looks.{lesser_of, calm_until}
use Rattle.sync_rule.specs.Next.{IsPending, IsEnabled, IsAllSent, key_of}
use Rattle.sync_rule.specs.Steps.{after_tick, after_done}
use Rattle.sync_rule.specs.Events.{IsCalm}
use Rattle.sync_rule.proofs.Keys.{earlier, tick_before_tick}
use Rattle.sync_rule.proofs.Chosen.{timed_within}

lesser : (t u : ℕ) (b : Bool) → ltb u t ≡ b → (cond b u t ≤ t) × (cond b u t ≤ u)
lesser t u true lt = let less : u < t = ltb-true u t lt in (omega arith, omega arith)
lesser t u false ge = let more : t ≤ u = ltb-false u t ge in (omega arith, omega arith)

lesser_than : (t : ℕ) (timer : Option Timer) → lesser_of t timer ≤ t
lesser_than t None = omega arith
lesser_than t (Some timer) = (lesser t timer.at (ltb timer.at t) refl).0

lesser_each : {X : Type 0} (time : X → Option ℕ) (xs : List X) (t : ℕ) (timer : Option Timer) → Soonest time xs (length xs) timer → (p u : ℕ) → IsTimed time xs p u → lesser_of t timer ≤ u
lesser_each time xs t None s p u timed = absurd (s p u (timed_within time xs p u timed) timed)
lesser_each time xs t (Some timer) s p u timed = let low : lesser_of t (Some timer) ≤ timer.at = (lesser t timer.at (ltb timer.at t) refl).1 in let least : timer.at ≤ u = s.least p u (timed_within time xs p u timed) timed in omega arith

pub calm_is : (ins : List In) (outs : List Out) (end until : ℕ) (timer head quiet : Option Timer) → until ≡ calm_until timer head quiet end → Soonest timer_of outs (length outs) timer → Soonest head_of ins (length ins) head → Soonest quiet_of ins (length ins) quiet → IsCalm ins outs end until
calm_is ins outs end until timer head quiet is timers heads quiets = subst (IsCalm ins outs end) (sym is) (record {
  timers = λ p t timed. let low : first ≤ t = lesser_each timer_of outs end timer timers p t timed in omega (arith, low, second_low, third_low);
  heads = λ p t timed. let low : second ≤ t = lesser_each head_of ins first head heads p t timed in omega (arith, low, third_low);
  quiet = λ p bound timed. lesser_each quiet_of ins second quiet quiets p bound timed;
  in_run = let low : first ≤ end = lesser_than end timer in omega (arith, low, second_low, third_low);
})
  where
    first : ℕ
    first = lesser_of end timer

    second : ℕ
    second = lesser_of first head

    second_low : second ≤ first
    second_low = lesser_than first head

    third_low : lesser_of second quiet ≤ second
    third_low = lesser_than second quiet

module _ {V : Type 0} (b : Behaviour V) (r new : Runner V) (t until : ℕ) (calm : IsCalm r.incoming r.outgoing r.end until) (after : new ≡ after_tick b r t) (silent : (b.tick r.device t).sends ≡ []) where
  same_outs : new.outgoing ≡ r.outgoing
  unfolding post_all
  same_outs = ap (λ (x : Runner V). x.outgoing) after ∙ ap (λ l. post_all t l r.outgoing) silent

  same_ins : new.incoming ≡ r.incoming
  same_ins = ap (λ (x : Runner V). x.incoming) after

  same_end : new.end ≡ r.end
  same_end = ap (λ (x : Runner V). x.end) after

  pub still_calm : IsCalm new.incoming new.outgoing new.end until
  still_calm = subst (λ ins. IsCalm ins new.outgoing new.end until) (sym same_ins) (subst (λ outs. IsCalm r.incoming outs new.end until) (sym same_outs) (subst (λ end. IsCalm r.incoming r.outgoing end until) (sym same_end) calm))

  pub ticks_on : IsEnabled b r (Tick t) → (due : ℕ) → b.due new.device ≡ Some due → due < until → IsEnabled b new (Tick due)
  ticks_on enabled due is lt = record {
    is_next = record { pending = is; least = least };
    in_run = let within : until ≤ new.end = still_calm.in_run in omega arith;
    all_sent = subst IsAllSent (sym same_outs) enabled.all_sent;
    heard = λ p bound timed. let far : until ≤ bound = still_calm.quiet p bound timed in omega arith;
  }
    where
      least : (other : Next) → IsPending b new other → is_at_most (key_of (Tick due)) (key_of other) ≡ true
      least (Sync p u) timed = earlier (tick_key due) (sync_key u p) (let late : until ≤ u = still_calm.timers p u timed in omega arith)
      least (Take p u) timed = earlier (tick_key due) (message_key u p 0) (let late : until ≤ u = still_calm.heads p u timed in omega arith)
      least (Tick u) then = tick_before_tick due u (let same : due ≡ u = same_Some due u (sym is ∙ then) in omega arith)

nothing_more : {X : Type 0} (xs : List X) → xs ++ [] ≡ xs
nothing_more [] = refl
nothing_more (x ∷ xs) = ap (λ l. x ∷ l) (nothing_more xs)

-- where a device did nothing, nothing is to be carried out
pub nothing_done : {V : Type 0} (r : Runner V) (t : ℕ) → r.done.lines ≡ [] → r.done.sends ≡ [] → r ≡ after_done r t
unfolding post_all
nothing_done {V} r t lines sends = ap (λ l. whole l r.done.sends r.log r.outgoing) lines ∙ ap (λ l. whole [] l r.log r.outgoing) sends ∙ ap (λ l. whole [] [] l r.outgoing) (sym (ap (λ l. r.log ++ logged_at t l) lines ∙ nothing_more r.log)) ∙ ap (λ l. whole [] [] (r.log ++ logged_at t r.done.lines) l) (sym (ap (λ l. post_all t l r.outgoing) sends))
  where
    whole : List (List ℕ) → List (ℕ × Body) → List Line → List Out → Runner V
    whole lines sends log outgoing = record { device = r.device; log = log; incoming = r.incoming; outgoing = outgoing; end = r.end; done = record { sends = sends; lines = lines } }
