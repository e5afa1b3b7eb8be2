-- Local runs begin the global run.
use Rattle.std.proofs.Common.{◌≡◌, ℕ, zero, suc, ◌+◌, ◌-◌, ◌<◌, ◌≤◌, ◌⊎◌, inl, inr, Bool, true, false, cond, eqb, List, ◌++◌, length, Some, slice_get, refl, sym, ap, ap₂, ◌∙◌, subst, arith, le_refl, le_of_lt, append-nil, eq-or-lt_of_le}
use Rattle.std.proofs.lemmas.Bool.{false≢true}
use Rattle.cs_base.specs.declared.port_kind.PortKind.{PortKind}
use Rattle.cs_base.specs.Plan.{End}
use Rattle.sb_message.specs.declared.message.Body.{Body}
use Rattle.sb_message.specs.Receivable.{is_event}
use Rattle.sb_message.specs.declared.message.Msg.{Msg}
use Rattle.device_api.specs.Behaviour.{Behaviour, Reaction}
use Rattle.device_api.specs.Channels.{Channel, channels}
use Rattle.device_api.specs.World.{Arrival, Network, Run, Sent, after, followed_by, rest, react, take_all, tick_if_due, arrivals, arrivals_on, arrivals_for, logged_at, sent_at, sends_by, slot, global_until, sends_on, log_of, log_in}
use Rattle.device_api.specs.Transcript.{RisesFrom, stamped, script, transcript, bodies}
use Rattle.device_api.specs.Position.{Position, is_reached, sync_key, message_key, tick_key, arrivals_upto, tick_upto, react_upto, local_upto, script_upto, transcript_upto}
use Rattle.run_laws.specs.Wired.{IsWired, SendsEvents, IsChannel}
use Rattle.run_laws.specs.LocalRuns.{IsPrefix}
use Rattle.run_laws.specs.Upto.{AreLocalRunsUpto, local_run_upto}
use Rattle.run_laws.proofs.Channels.{sender_of}
use Rattle.run_laws.proofs.Lists.{each-append}
use Rattle.run_laws.proofs.Timestamps.{script_rises, script_upto_rises}
use Rattle.run_laws.proofs.Growth.{Grows, bodies-script, arrivals_of_past}
use Rattle.run_laws.proofs.Runs.{SendEvents, IsRunning, take_all-events, tick-events, sends_grow}
use Rattle.run_laws.proofs.Slots.{global_run, global_is, global_is_running, sends_are, slot_heard}
use Rattle.run_laws.proofs.Lifted.{positive_latency}
use Rattle.run_laws.proofs.Prefixes.{prefix_same, prefix_more, prefix_under, prefix_through, prefix_map, prefix_filter}
use Rattle.run_laws.proofs.Keys.{is_past, past_before, missed_then}
use Rattle.run_laws.proofs.Parts.{Splits, IsPart, nothing_upto, whole_upto, arrivals-splits, react_part}
use Rattle.run_laws.proofs.ScriptParts.{SendsFront, ScriptFront, script_stays, script_part, bodies-script_upto}
use Rattle.run_laws.proofs.Heard.{heard_so_far}

-- what is sent in a moment up to a position is events
react_upto-events : {S : Type 0} (b : Behaviour S) → SendsEvents b → (position : Position) (t : ℕ) (arrived : List Arrival) (s : S) → SendEvents (react_upto b position t arrived s).sends
react_upto-events {S} b only position t arrived s = each-append (λ (sent : ℕ × Body). is_event sent.1 ≡ true) (take_all b t (arrivals_upto position t arrived) s).sends _ (take_all-events b only t (arrivals_upto position t arrived) s) (at (is_reached position (tick_key t)))
  where
    after_takes : S
    after_takes = (take_all b t (arrivals_upto position t arrived) s).state

    at : (reached : Bool) → SendEvents (cond reached (tick_if_due b t after_takes) (rest after_takes)).sends
    at true = tick-events b only t after_takes
    at false = tt

-- a local run up to a position grows by a reaction a moment
pub upto_is_running : {S : Type 0} (b : Behaviour S) → SendsEvents b → (ports : ℕ) (inputs : ℕ → List Msg) (s : S) (position : Position) → IsRunning (local_upto b ports inputs s position)
unfolding local_upto
upto_is_running b only ports inputs s position = record {
  reaction = λ t. react_upto b position t (arrivals t inputs ports) (local_upto b ports inputs s position t).state;
  starts = refl;
  adds = λ t. refl;
  events = λ t. react_upto-events b only position t (arrivals t inputs ports) (local_upto b ports inputs s position t).state;
}

-- in a moment of which nothing was reached it sends nothing
pub upto_quiet : {S : Type 0} (b : Behaviour S) (ports : ℕ) (inputs : ℕ → List Msg) (s : S) (position : Position) (t port : ℕ) → is_reached position (sync_key t port) ≡ false → (local_upto b ports inputs s position (suc t)).sent ≡ (local_upto b ports inputs s position t).sent
unfolding local_upto
upto_quiet {S} b ports inputs s position t port missed = ap (λ (r : Reaction S). so_far.sent ++ sent_at t r.sends) (nothing_upto b position t port (arrivals t inputs ports) so_far.state missed) ∙ append-nil so_far.sent
  where
    so_far : Run S
    so_far = local_upto b ports inputs s position t

-- a run up to a position begins the whole run; where the position is past t, until t they are the same
pub record IsFront {S : Type 0} (position : Position) (t : ℕ) (part whole : Run S) : Type 0 where
  pub same : is_past position t ≡ true → part ≡ whole
  pub log : IsPrefix part.log whole.log
  pub sent : IsPrefix part.sent whole.sent

-- one moment more
front_step : {S : Type 0} (b : Behaviour S) (position : Position) (t : ℕ) (part whole : Run S) (heard arrived : List Arrival) → (is_past position t ≡ true → arrivals_upto position t heard ≡ arrivals_upto position t arrived) → Splits position t arrived → IsFront position t part whole → IsFront position (suc t) (after t part (react_upto b position t heard part.state)) (after t whole (react b t arrived whole.state))
front_step {S} b position t part whole heard arrived sounds split front = at (is_past position t) refl
  where
    reaction : Reaction S
    reaction = react b t arrived whole.state

    at : (past : Bool) → is_past position t ≡ past → IsFront position (suc t) (after t part (react_upto b position t heard part.state)) (after t whole (react b t arrived whole.state))
    at false missed = record {
      same = λ past. absurd (false≢true (sym missed ∙ past_before position t past));
      log = subst (λ l. IsPrefix l (whole.log ++ logged_at t reaction.lines)) (sym (ap (λ (r : Reaction S). part.log ++ logged_at t r.lines) nothing ∙ append-nil part.log)) (prefix_more part.log whole.log (logged_at t reaction.lines) front.log);
      sent = subst (λ l. IsPrefix l (whole.sent ++ sent_at t reaction.sends)) (sym (ap (λ (r : Reaction S). part.sent ++ sent_at t r.sends) nothing ∙ append-nil part.sent)) (prefix_more part.sent whole.sent (sent_at t reaction.sends) front.sent);
    }
      where
        nothing : react_upto b position t heard part.state ≡ rest part.state
        nothing = nothing_upto b position t 0 heard part.state (missed_then position t 0 missed)
    at true past = subst (λ run. IsFront position (suc t) run (after t whole reaction)) (sym turned) (record {
      same = λ reached. ap (after t whole) (whole_upto b position t arrived whole.state reached);
      log = prefix_under whole.log _ _ (prefix_map _ _ _ begun.lines);
      sent = prefix_under whole.sent _ _ (prefix_map _ _ _ begun.sends);
    })
      where
        turned : after t part (react_upto b position t heard part.state) ≡ after t whole (react_upto b position t arrived whole.state)
        turned = ap₂ (λ (run : Run S) l. after t run (followed_by (take_all b t l run.state) (tick_upto b position t))) (front.same past) (sounds past)

        begun : IsPart (react_upto b position t arrived whole.state) (react b t arrived whole.state)
        begun = react_part b position t arrived whole.state split

module _ {S : Type 0} (net : Network S) (position : ℕ → Position) (made received : End → List Msg) (end : ℕ) (wired : IsWired net end) (only : SendsEvents net.behaviour) (upto : AreLocalRunsUpto net position made received end) where
  -- a component's run up to its position, and its part of the global run
  part : ℕ → S → ℕ → Run S
  part c s t = local_run_upto net received c s (position c) t

  part_sends : Channel → S → ℕ → List Sent
  part_sends ch s t = sends_by ch.from.port (local_run_upto net received ch.from.component s (position ch.from.component) t).sent

  whole_sends : Channel → S → ℕ → List Sent
  whole_sends ch s t = sends_by ch.from.port (global_run net ch.from.component s t).sent

  part_grows : (ch : Channel) (s : S) → Grows (part_sends ch s)
  unfolding part_sends
  part_grows ch s = sends_grow (local_run_upto net received ch.from.component s (position ch.from.component)) ch.from.port (upto_is_running net.behaviour only _ _ s (position ch.from.component))

  whole_grows : (ch : Channel) (s : S) → Grows (whole_sends ch s)
  unfolding whole_sends
  whole_grows ch s = sends_grow (global_run net ch.from.component s) ch.from.port (global_is_running net only ch.from.component s)

  quiet : (ch : Channel) (s : S) (u : ℕ) → is_reached (position ch.from.component) (sync_key u ch.from.port) ≡ false → part_sends ch s (suc u) ≡ part_sends ch s u
  unfolding part_sends
  quiet ch s u missed = ap (sends_by ch.from.port) (upto_quiet net.behaviour _ _ s (position ch.from.component) u ch.from.port missed)

  -- all runs until t
  Fronts : ℕ → Type 0
  Fronts t = (u : ℕ) → u ≤ t → (c : ℕ) (s : S) → slice_get net.starts c ≡ Some s → IsFront (position c) u (local_run_upto net received c s (position c) u) (global_run net c s u)

  sends_front : (t : ℕ) → Fronts t → (ch : Channel) (s : S) (kind : PortKind) → IsChannel net ch s kind → SendsFront kind ch (position ch.from.component) (part_sends ch s) (whole_sends ch s) (part_grows ch s) (whole_grows ch s) (quiet ch s) t
  unfolding Fronts part_sends whole_sends
  sends_front t fronts ch s kind way = record {
    same = λ u le past. ap (λ (run : Run S). sends_by ch.from.port run.sent) ((fronts u le ch.from.component s way.sender).same past);
    begins = λ u le. prefix_filter (λ x. eqb x.port ch.from.port) _ _ (fronts u le ch.from.component s way.sender).sent;
  }

  made_is : (ch : Channel) (s : S) (kind : PortKind) → IsChannel net ch s kind → made ch.from ≡ transcript_upto kind ch (part_sends ch s end) (position ch.from.component) end
  unfolding part_sends
  made_is ch s kind way = upto.by_local_runs ch s kind way

  -- what was received on a channel sounds, as far as its receiver's position, as what the global run sent before t
  heard_from : (t : ℕ) → t < end → Fronts t → (ch : Channel) (s : S) (kind : PortKind) → IsChannel net ch s kind → arrivals_upto (position ch.to.component) t (arrivals_on t ch.to.port 0 (bodies (received ch.to))) ≡ arrivals_upto (position ch.to.component) t (arrivals_on t ch.to.port 0 (stamped ch (whole_sends ch s t)))
  heard_from t lt fronts ch s kind way = at (is_past from_position t) refl
    where
      from_position : Position
      from_position = position ch.from.component

      to_position : Position
      to_position = position ch.to.component

      positive : 1 ≤ ch.latency
      positive = positive_latency net wired way.number ch way.at_number

      heard_of : (whole : List Msg) → RisesFrom 0 whole → IsPrefix (received ch.to) whole → arrivals_upto to_position t (arrivals_on t ch.to.port 0 (bodies (received ch.to))) ≡ arrivals_upto to_position t (arrivals_on t ch.to.port 0 (bodies whole))
      heard_of whole rises begins = heard_so_far to_position t ch.to.port (received ch.to) whole rises begins (upto.nothing_missed ch s kind way)

      -- where the sender has passed t, it sent before t what it sends in the global run
      passed : is_past from_position t ≡ true → bodies (made ch.from) ≡ stamped ch (part_sends ch s end)
      passed past = ap bodies (made_is ch s kind way) ∙ bodies-script_upto (part_sends ch s) (part_grows ch s) kind ch from_position end end (le_refl end)

      -- where it hasn't, all that it has made begins what it makes before t
      not_passed : is_past from_position t ≡ false → IsPrefix (received ch.to) (script kind ch (whole_sends ch s t) t).messages
      not_passed missed = prefix_through (received ch.to) (made ch.from) _ (upto.in_transit ch s kind way) (subst (λ l. IsPrefix l (script kind ch (whole_sends ch s t) t).messages) (sym stays) begun.begins)
        where
          begun : ScriptFront kind ch from_position (part_sends ch s) (whole_sends ch s) (part_grows ch s) (whole_grows ch s) (quiet ch s) end t t
          begun = script_part kind ch from_position (part_sends ch s) (whole_sends ch s) (part_grows ch s) (whole_grows ch s) (quiet ch s) t end t t (sends_front t fronts ch s kind way) (le_refl t) (le_of_lt lt) (le_refl t)

          stays : made ch.from ≡ (script_upto kind ch (part_sends ch s end) from_position t).messages
          stays = made_is ch s kind way ∙ ap (λ u. (script_upto kind ch (part_sends ch s end) from_position u).messages) (let whole_time : end ≡ t + (end - t) = omega arith in whole_time) ∙ script_stays kind ch from_position (part_sends ch s) (whole_sends ch s) (part_grows ch s) (whole_grows ch s) (quiet ch s) end t (end - t) (omega arith) missed

      at : (past : Bool) → is_past from_position t ≡ past → arrivals_upto to_position t (arrivals_on t ch.to.port 0 (bodies (received ch.to))) ≡ arrivals_upto to_position t (arrivals_on t ch.to.port 0 (stamped ch (whole_sends ch s t)))
      at true past = heard_of (made ch.from) (subst (RisesFrom 0) (sym (made_is ch s kind way)) (script_upto_rises kind ch (part_sends ch s end) from_position end).rises) (upto.in_transit ch s kind way) ∙ ap (λ l. arrivals_upto to_position t (arrivals_on t ch.to.port 0 l)) (passed past) ∙ ap (arrivals_upto to_position t) (arrivals_of_past (part_sends ch s) (part_grows ch s) ch t end ch.to.port 0 positive (le_of_lt lt)) ∙ ap (λ l. arrivals_upto to_position t (arrivals_on t ch.to.port 0 (stamped ch l))) ((sends_front t fronts ch s kind way).same t (le_refl t) past)
      at false missed = heard_of (script kind ch (whole_sends ch s t) t).messages (script_rises kind ch (whole_sends ch s t) t).rises (not_passed missed) ∙ ap (λ l. arrivals_upto to_position t (arrivals_on t ch.to.port 0 l)) (bodies-script (whole_sends ch s) (whole_grows ch s) kind ch t t (le_refl t))

  whole_is : (ch : Channel) (s : S) (kind : PortKind) → IsChannel net ch s kind → (t : ℕ) → sends_on ch (global_until net t) ≡ whole_sends ch s t
  unfolding whole_sends
  whole_is ch s kind way t = sends_are net ch s kind way t

  next_front : (t : ℕ) → t < end → Fronts t → (c : ℕ) (s : S) → slice_get net.starts c ≡ Some s → IsFront (position c) (suc t) (local_run_upto net received c s (position c) (suc t)) (global_run net c s (suc t))
  unfolding Fronts local_upto global_run
  next_front t lt fronts c s starts = front_step net.behaviour (position c) t (local_run_upto net received c s (position c) t) (global_run net c s t) (arrivals t (λ port. bodies (received (record { component = c; port = port }))) (length (net.behaviour.ports s))) (arrivals_for net t c (slot net t c (global_until net t))) (λ past. slot_heard net wired (λ a. is_reached (position c) (message_key t a.port a.number)) (λ port. bodies (received (record { component = c; port = port }))) t c s starts sounds) (arrivals-splits (position c) t _ _) (fronts t (le_refl t) c s starts)
    where
      sounds : (k : ℕ) (ch : Channel) → slice_get (channels net.links) k ≡ Some ch → ch.to.component ≡ c → arrivals_upto (position c) t (arrivals_on t ch.to.port 0 (bodies (received (record { component = c; port = ch.to.port })))) ≡ arrivals_upto (position c) t (arrivals_on t ch.to.port 0 (stamped ch (sends_on ch (global_until net t))))
      sounds k ch is own = subst (λ x. arrivals_upto (position x) t (arrivals_on t ch.to.port 0 (bodies (received (record { component = x; port = ch.to.port })))) ≡ arrivals_upto (position x) t (arrivals_on t ch.to.port 0 (stamped ch (sends_on ch (global_until net t))))) own (heard_from t lt fronts ch sender.0 sender.1 sender.2 ∙ ap (λ l. arrivals_upto (position ch.to.component) t (arrivals_on t ch.to.port 0 (stamped ch l))) (sym (whole_is ch sender.0 sender.1 sender.2 t)))
        where
          sender : (s : S) × (kind : PortKind) × IsChannel net ch s kind
          sender = sender_of net wired k ch is

  first_front : (c : ℕ) (s : S) → IsFront (position c) 0 (local_run_upto net received c s (position c) 0) (global_run net c s 0)
  unfolding local_upto global_run
  first_front c s = record { same = λ past. refl; log = prefix_same _ _ refl; sent = prefix_same _ _ refl }

  all_fronts : (t : ℕ) → t ≤ end → Fronts t
  unfolding Fronts
  all_fronts zero le u le' c s starts = subst (λ u. IsFront (position c) u (local_run_upto net received c s (position c) u) (global_run net c s u)) (let first : 0 ≡ u = omega arith in first) (first_front c s)
  all_fronts (suc t) le u le' c s starts = at (λ le'. all_fronts t (omega arith) u le' c s starts) (next_front t le (all_fronts t (omega arith)) c s starts) (eq-or-lt_of_le le')
    where
      at : (u ≤ t → IsFront (position c) u (local_run_upto net received c s (position c) u) (global_run net c s u)) → IsFront (position c) (suc t) (local_run_upto net received c s (position c) (suc t)) (global_run net c s (suc t)) → (u ≡ suc t) ⊎ (u < suc t) → IsFront (position c) u (local_run_upto net received c s (position c) u) (global_run net c s u)
      at before now (inl same) = subst (λ u. IsFront (position c) u (local_run_upto net received c s (position c) u) (global_run net c s u)) (sym same) now
      at before now (inr less) = before (omega arith)

  pub logs_begin : (c : ℕ) (s : S) → slice_get net.starts c ≡ Some s → IsPrefix (local_run_upto net received c s (position c) end).log (log_of c (global_until net end))
  unfolding Fronts
  logs_begin c s starts = subst (λ o. IsPrefix (local_run_upto net received c s (position c) end).log (log_in o)) (sym (global_is net c s starts end)) (all_fronts end (le_refl end) end (le_refl end) c s starts).log

  pub made_begins : (ch : Channel) (s : S) (kind : PortKind) → IsChannel net ch s kind → IsPrefix (made ch.from) (transcript kind ch (sends_on ch (global_until net end)) end)
  made_begins ch s kind way = subst (λ l. IsPrefix l (transcript kind ch (sends_on ch (global_until net end)) end)) (sym (made_is ch s kind way)) (subst (λ l. IsPrefix (transcript_upto kind ch (part_sends ch s end) (position ch.from.component) end) (transcript kind ch l end)) (sym (whole_is ch s kind way end)) begun.begins)
    where
      begun : ScriptFront kind ch (position ch.from.component) (part_sends ch s) (whole_sends ch s) (part_grows ch s) (whole_grows ch s) (quiet ch s) end end end
      begun = script_part kind ch (position ch.from.component) (part_sends ch s) (whole_sends ch s) (part_grows ch s) (whole_grows ch s) (quiet ch s) end end end end (sends_front end (all_fronts end (le_refl end)) ch s kind way) (le_refl end) (le_refl end) (le_refl end)
