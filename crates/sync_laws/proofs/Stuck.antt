-- Where all that was made was received, and not all components have ended, one may process its next event. A component that
-- has not heard far enough leads to one whose next event is of a lower rank: the null message that it waits for is pending
-- there.
use Rattle.std.proofs.Common.{◌≡◌, ℕ, zero, suc, ◌+◌, ◌<◌, ◌≤◌, ◌⊎◌, inl, inr, Bool, true, false, leb, ltb, List, [], ◌∷◌, ◌++◌, length, Option, Some, None, refl, sym, ap, ◌∙◌, subst, arith, append-nil, eq-or-lt_of_le, le_refl}
use Rattle.std.specs.Prelude.{slice_get, MatchOption}
use Rattle.std.proofs.lemmas.Bool.{leb-true, leb-false, ltb-true, ltb-false}
use Rattle.std.proofs.lemmas.Option.{none-some, same_Some, slice_get_within}
use Rattle.cs_base.specs.Plan.{End}
use Rattle.sb_message.specs.declared.message.Msg.{Msg}
use Rattle.device_api.specs.Behaviour.{Behaviour}
use Rattle.device_api.specs.Channels.{Channel}
use Rattle.device_api.specs.Position.{Position, is_at_most}
use Rattle.device_api.specs.Transcript.{Script, bound_of}
use Rattle.device_api.specs.World.{Network}
use Rattle.run_laws.specs.Wired.{IsWired}
use Rattle.run_laws.proofs.Channels.{ComesIn, comes_in, channel_joined, port_there}
use Rattle.run_laws.proofs.Lists.{there_below}
use Rattle.run_laws.proofs.Timestamps.{timer_within}
use Rattle.sync_rule.specs.declared.next.Next.{Next}
use Rattle.sync_rule.specs.declared.next.Next.TheVariants.{Sync, Take, Tick}
use Rattle.sync_rule.specs.declared.timer.Timer.{Timer}
use Rattle.sync_rule.specs.declared.runner.Runner.{Runner}
use Rattle.sync_rule.specs.Ports.{In}
use Rattle.sync_rule.specs.Times.{timer_of, head_of, quiet_of, quiet_bound, time_of, needed_for}
use Rattle.sync_rule.specs.Soonest.{IsTimed, Soonest}
use Rattle.sync_rule.specs.Next.{IsPending, IsNext, IsEnabled, HasEnded, HasHeard, IsAllSent, key_of}
use Rattle.sync_rule.specs.Fronts.{IsIdleFront}
use Rattle.sync_rule.specs.Choice.{chosen}
use Rattle.sync_rule.proofs.Chosen.{chosen_is, key_time, timed_within}
use Rattle.sync_rule.proofs.Keys.{at_most_time}
use Rattle.sync_rule.proofs.Soonests.{every_soonest}
use Rattle.sync_laws.specs.Stands.{Stands}
use Rattle.sync_laws.specs.Whole.{IsWhole, IsStill, CanProcess, HaveEnded, of_component}
use Rattle.sync_laws.proofs.Changed.{get_mapped}
use Rattle.sync_laws.proofs.Orders.{earlier_than}
use Rattle.sync_laws.proofs.Ends.{HasPort, sender, leads, made, start_of}

-- the rank of an event: a null message comes before the others of its time
rank_of : Next → ℕ
rank_of (Sync p u) = u + u
rank_of (Take p t) = t + t + 1
rank_of (Tick t) = t + t + 1

module _ {V : Type 0} (b : Behaviour V) where
  times_of : (r : Runner V) (n m : Next) → is_at_most (key_of n) (key_of m) ≡ true → time_of n ≤ time_of m
  times_of r n m le = subst (λ x. x ≤ time_of m) (key_time b r n) (subst (λ y. (key_of n).time ≤ y) (key_time b r m) (at_most_time (key_of n) (key_of m) le))

  rank_least : (r : Runner V) (n m : Next) → is_at_most (key_of n) (key_of m) ≡ true → rank_of n ≤ rank_of m
  unfolding rank_of
  rank_least r (Sync p u) (Sync q t) le = let first : u ≤ t = times_of r (Sync p u) (Sync q t) le in omega arith
  rank_least r (Sync p u) (Take q t) le = let first : u ≤ t = times_of r (Sync p u) (Take q t) le in omega arith
  rank_least r (Sync p u) (Tick t) le = let first : u ≤ t = times_of r (Sync p u) (Tick t) le in omega arith
  rank_least r (Take p u) (Sync q t) le = let first : u < t = earlier_than (key_of (Take p u)) (key_of (Sync q t)) le (omega arith) in omega arith
  rank_least r (Take p u) (Take q t) le = let first : u ≤ t = times_of r (Take p u) (Take q t) le in omega arith
  rank_least r (Take p u) (Tick t) le = let first : u ≤ t = times_of r (Take p u) (Tick t) le in omega arith
  rank_least r (Tick u) (Sync q t) le = let first : u < t = earlier_than (key_of (Tick u)) (key_of (Sync q t)) le (omega arith) in omega arith
  rank_least r (Tick u) (Take q t) le = let first : u < t = absurd_take u q t le in omega arith
    where
      absurd_take : (u q t : ℕ) → is_at_most (key_of (Tick u)) (key_of (Take q t)) ≡ true → u < t
      absurd_take u q t le = earlier_than (key_of (Tick u)) (key_of (Take q t)) le (omega arith)
  rank_least r (Tick u) (Tick t) le = let first : u ≤ t = times_of r (Tick u) (Tick t) le in omega arith

  -- what a component of which nothing waits to be sent can do: it goes, it waits to hear more, or it has ended
  data Verdict (r : Runner V) : Type 0 where
    goes : (next : Next) → IsEnabled b r next → Verdict r
    waits : (p bound : ℕ) → IsTimed quiet_of r.incoming p bound → bound < r.end → ((m : Next) → IsPending b r m → bound + bound < rank_of m) → Verdict r
    ended : HasEnded b r → Verdict r

  rank_late : (m : Next) (t : ℕ) → t < time_of m → t + t < rank_of m
  unfolding rank_of
  rank_late (Sync p u) t lt = omega arith
  rank_late (Take p u) t lt = omega arith
  rank_late (Tick u) t lt = omega arith

  rank_needed : (m : Next) (t : ℕ) → t < needed_for m → t + t < rank_of m
  unfolding rank_of
  rank_needed (Sync p u) t lt = omega arith
  rank_needed (Take p u) t lt = omega arith
  rank_needed (Tick u) t lt = omega arith

  needed_most : (m : Next) → needed_for m ≤ time_of m + 1
  needed_most (Sync p u) = omega arith
  needed_most (Take p u) = omega arith
  needed_most (Tick u) = omega arith

  module _ (r : Runner V) (all_sent : IsAllSent r.outgoing) where
    heard_far : (quiet : Timer) (needed : ℕ) → Soonest quiet_of r.incoming (length r.incoming) (Some quiet) → needed ≤ quiet.at → HasHeard r.incoming needed
    heard_far quiet needed s far p bound timed = let least : quiet.at ≤ bound = s.least p bound (timed_within quiet_of r.incoming p bound timed) timed in omega arith

    -- nothing is pending before the end
    done_then : (quiet : Option Timer) → Soonest quiet_of r.incoming (length r.incoming) quiet → ((m : Next) → IsPending b r m → r.end ≤ time_of m) → Verdict r
    done_then None s done = ended (record { done = done; all_sent = all_sent; heard = λ p bound timed. absurd (s p bound (timed_within quiet_of r.incoming p bound timed) timed) })
    done_then (Some quiet) s done = at (leb r.end quiet.at) refl
      where
        at : (far : Bool) → leb r.end quiet.at ≡ far → Verdict r
        at true e = ended (record { done = done; all_sent = all_sent; heard = heard_far quiet r.end s (leb-true r.end quiet.at e) })
        at false e = waits quiet.port quiet.at s.timed (leb-false r.end quiet.at e) (λ m pending. rank_late m quiet.at (let late : r.end ≤ time_of m = done m pending in let short : quiet.at < r.end = leb-false r.end quiet.at e in omega arith))

    next_then : (next : Next) → IsNext b r next → time_of next < r.end → (quiet : Option Timer) → Soonest quiet_of r.incoming (length r.incoming) quiet → Verdict r
    next_then next is soon None s = goes next (record { is_next = is; in_run = soon; all_sent = all_sent; heard = λ p bound timed. absurd (s p bound (timed_within quiet_of r.incoming p bound timed) timed) })
    next_then next is soon (Some quiet) s = at (leb (needed_for next) quiet.at) refl
      where
        at : (far : Bool) → leb (needed_for next) quiet.at ≡ far → Verdict r
        at true e = goes next (record { is_next = is; in_run = soon; all_sent = all_sent; heard = heard_far quiet (needed_for next) s (leb-true (needed_for next) quiet.at e) })
        at false e = waits quiet.port quiet.at s.timed (let short : quiet.at < needed_for next = leb-false (needed_for next) quiet.at e in let most : needed_for next ≤ time_of next + 1 = needed_most next in omega arith) (λ m pending. let low : quiet.at + quiet.at < rank_of next = rank_needed next quiet.at (leb-false (needed_for next) quiet.at e) in let least : rank_of next ≤ rank_of m = rank_least r next m (is.least m pending) in omega arith)

    verdict : Verdict r
    verdict = at (chosen timer.0 head.0 (b.due r.device)) (chosen_is b r timer.0 head.0 (b.due r.device) refl timer.1 head.1)
      where
        timer : (best : Option Timer) × Soonest timer_of r.outgoing (length r.outgoing) best
        timer = every_soonest timer_of r.outgoing (length r.outgoing) (le_refl (length r.outgoing))

        head : (best : Option Timer) × Soonest head_of r.incoming (length r.incoming) best
        head = every_soonest head_of r.incoming (length r.incoming) (le_refl (length r.incoming))

        quiet : (best : Option Timer) × Soonest quiet_of r.incoming (length r.incoming) best
        quiet = every_soonest quiet_of r.incoming (length r.incoming) (le_refl (length r.incoming))

        by_time : (next : Next) → IsNext b r next → (soon : Bool) → ltb (time_of next) r.end ≡ soon → Verdict r
        by_time next is true e = next_then next is (ltb-true (time_of next) r.end e) quiet.0 quiet.1
        by_time next is false e = done_then quiet.0 quiet.1 (λ m pending. let late : r.end ≤ time_of next = ltb-false (time_of next) r.end e in let least : time_of next ≤ time_of m = times_of r next m (is.least m pending) in omega arith)

        at : (next : Option Next) → MatchOption next (IsIdleFront b r) (IsNext b r) → Verdict r
        at None idle = done_then quiet.0 quiet.1 (λ m pending. absurd (idle m pending))
        at (Some next) is = by_time next is (ltb (time_of next) r.end) refl

module _ {V : Type 0} (net : Network V) (settled : V → ℕ → Type 0) (end : ℕ) (positions : ℕ → Position) (received sent held : End → List Msg) (runners : List (Runner V)) (whole : IsWhole net settled end positions received sent held runners) {last : ℕ} (wired : IsWired net last) (still : IsStill net held runners) where
  -- whom a component waits for: a null message is pending there, no later than the component has heard
  record IsAwaited (bound : ℕ) : Type 0 where
    component : ℕ
    runner : Runner V
    there : slice_get runners component ≡ Some runner
    port : ℕ
    u : ℕ
    pending : IsPending net.behaviour runner (Sync port u)
    within : u ≤ bound

  awaited : (c : ℕ) (r : Runner V) → slice_get runners c ≡ Some r → (p bound : ℕ) → IsTimed quiet_of r.incoming p bound → IsAwaited bound
  awaited c r is p bound timed = record {
    component = ch.from.component;
    runner = from.runner;
    there = from.there;
    port = ch.from.port;
    u = from.outgoing.sync_due;
    pending = record { is = from.outgoing; there = from.out_at; at_time = refl };
    within = subst (λ n. from.outgoing.sync_due ≤ n) bound_is (subst (λ (s : Script). s.sync_due ≤ bound_of s.messages) ((made net settled end positions received sent held runners whole wired coming.number ch coming.at_number).script ch (leads net settled end positions received sent held runners whole wired coming.number ch coming.at_number)) (timer_within from.outgoing.plan.kind ch _ (positions ch.from.component) from.runner.end (channel_joined net wired coming.number ch coming.at_number).interval_most));
  }
    where
      start : (s : V) × (slice_get net.starts c ≡ Some s)
      start = start_of net settled end positions received sent held runners whole c r is

      stands : Stands net.behaviour settled start.0 (positions c) (of_component c received) (of_component c sent) r
      stands = whole.standing c start.0 r start.1 is

      has_kind : slice_get (net.behaviour.ports start.0) p ≡ Some timed.is.plan.kind
      has_kind = ap (λ l. slice_get l p) (sym stands.fitted.kinds) ∙ get_mapped (λ (i : In). i.plan.kind) r.incoming p timed.is timed.there

      coming : ComesIn net wired (record { component = c; port = p })
      coming = comes_in net wired (record { component = c; port = p }) (port_there net c p start.0 timed.is.plan.kind start.1 has_kind)

      ch : Channel
      ch = coming.channel

      from : HasPort net settled positions received sent runners coming.channel.from
      from = sender net settled end positions received sent held runners whole wired coming.number coming.channel coming.at_number

      heard_bound : timed.is.bound ≡ bound_of (received (record { component = c; port = p }))
      heard_bound = (stands.heard p timed.is timed.there).bound

      quiet_is : (inbox : List Msg) (n : ℕ) → quiet_bound inbox n ≡ Some bound → n ≡ bound
      quiet_is [] n e = same_Some n bound e
      quiet_is (m ∷ more) n e = absurd (none-some bound e)

      bound_is : bound_of (sent coming.channel.from ++ from.outgoing.outbox) ≡ bound
      bound_is = ap (λ l. bound_of (sent coming.channel.from ++ l)) (still.all_sent coming.channel.from.component from.runner from.there coming.channel.from.port from.outgoing from.out_at) ∙ ap bound_of (append-nil (sent coming.channel.from) ∙ (whole.joined coming.number coming.channel coming.at_number).between ∙ ap (λ l. received coming.channel.to ++ l) (still.all_received coming.number coming.channel coming.at_number) ∙ append-nil (received coming.channel.to) ∙ ap received coming.comes_to) ∙ sym heard_bound ∙ quiet_is timed.is.inbox timed.is.bound timed.at_time

  -- where an event of a rank below n is pending before the end, some component may process its next
  abbrev GoesBelow : ℕ → Type 0
  GoesBelow n = (c : ℕ) (r : Runner V) → slice_get runners c ≡ Some r → (m : Next) → IsPending net.behaviour r m → time_of m < end → rank_of m < n → CanProcess net.behaviour runners

  -- whoever waits to hear more waits for one of a lower rank
  after_bound : (n c : ℕ) (r : Runner V) → slice_get runners c ≡ Some r → (p bound : ℕ) → IsTimed quiet_of r.incoming p bound → bound < end → bound + bound < n → GoesBelow n → CanProcess net.behaviour runners
  unfolding rank_of
  after_bound n c r is p bound timed soon low below = let peer : IsAwaited bound = awaited c r is p bound timed in let within : peer.u ≤ bound = peer.within in below peer.component peer.runner peer.there (Sync peer.port peer.u) peer.pending (omega arith) (omega arith)

  goes_from : (n : ℕ) → GoesBelow n → (c : ℕ) (r : Runner V) → slice_get runners c ≡ Some r → (m : Next) → IsPending net.behaviour r m → time_of m < end → rank_of m ≤ n → CanProcess net.behaviour runners
  goes_from n below c r is m pending soon low = at (verdict net.behaviour r (still.all_sent c r is))
    where
      at : Verdict net.behaviour r → CanProcess net.behaviour runners
      at (goes next en) = record { component = c; runner = r; there = is; next = next; enabled = en }
      at (waits p bound timed short more) = after_bound n c r is p bound timed (subst (λ e. bound < e) (whole.ends c r is) short) (let less : bound + bound < rank_of m = more m pending in omega arith) below
      at (ended has) = absurd (let late : end ≤ time_of m = subst (λ e. e ≤ time_of m) (whole.ends c r is) (has.done m pending) in omega arith)

  goes_below : (n : ℕ) → GoesBelow n
  goes_below zero c r is m pending soon low = absurd (omega arith)
  goes_below (suc n) c r is m pending soon low = goes_from n (goes_below n) c r is m pending soon (omega arith)

  -- of the components below a number all have ended, or some component may process its next event
  ended_or_goes : (n : ℕ) → n ≤ length runners → ((c : ℕ) (r : Runner V) → c < n → slice_get runners c ≡ Some r → HasEnded net.behaviour r) ⊎ CanProcess net.behaviour runners
  ended_or_goes zero le = inl (λ c r lt is. absurd (omega arith))
  ended_or_goes (suc n) le = from (ended_or_goes n (omega arith)) (there_below runners n le)
    where
      from : ((c : ℕ) (r : Runner V) → c < n → slice_get runners c ≡ Some r → HasEnded net.behaviour r) ⊎ CanProcess net.behaviour runners → (r : Runner V) × (slice_get runners n ≡ Some r) → ((c : ℕ) (r : Runner V) → c < suc n → slice_get runners c ≡ Some r → HasEnded net.behaviour r) ⊎ CanProcess net.behaviour runners
      from (inr can) here = inr can
      from (inl all) here = at (verdict net.behaviour here.0 (still.all_sent n here.0 here.1))
        where
          at : Verdict net.behaviour here.0 → ((c : ℕ) (r : Runner V) → c < suc n → slice_get runners c ≡ Some r → HasEnded net.behaviour r) ⊎ CanProcess net.behaviour runners
          at (goes next en) = inr (record { component = n; runner = here.0; there = here.1; next = next; enabled = en })
          at (waits p bound timed short more) = inr (after_bound (suc (bound + bound)) n here.0 here.1 p bound timed (subst (λ e. bound < e) (whole.ends n here.0 here.1) short) (omega arith) (goes_below (suc (bound + bound))))
          at (ended has) = inl (λ c r lt is. by c r is (eq-or-lt_of_le (let low : c ≤ n = omega arith in low)))
            where
              by : (c : ℕ) (r : Runner V) → slice_get runners c ≡ Some r → (c ≡ n) ⊎ (c < n) → HasEnded net.behaviour r
              by c r is (inr less) = all c r less is
              by c r is (inl same) = subst (HasEnded net.behaviour) (same_Some here.0 r (sym here.1 ∙ ap (slice_get runners) (sym same) ∙ is)) has

  pub all_ended_or_goes : HaveEnded net.behaviour runners ⊎ CanProcess net.behaviour runners
  all_ended_or_goes = at (ended_or_goes (length runners) (le_refl (length runners)))
    where
      at : ((c : ℕ) (r : Runner V) → c < length runners → slice_get runners c ≡ Some r → HasEnded net.behaviour r) ⊎ CanProcess net.behaviour runners → HaveEnded net.behaviour runners ⊎ CanProcess net.behaviour runners
      at (inr can) = inr can
      at (inl all) = inl (λ c r is. all c r (slice_get_within runners c r is) is)

  pub not_stuck : (HaveEnded net.behaviour runners → ⊥) → CanProcess net.behaviour runners
  not_stuck unended = at all_ended_or_goes
    where
      at : HaveEnded net.behaviour runners ⊎ CanProcess net.behaviour runners → CanProcess net.behaviour runners
      at (inr can) = can
      at (inl all) = absurd (unended all)
