-- A transcript up to a position begins the whole transcript.
use Rattle.std.proofs.Common.{◌≡◌, ℕ, zero, suc, ◌+◌, ◌<◌, ◌≤◌, Bool, true, false, cond, List, [], ◌++◌, refl, sym, ap, ap₂, ◌∙◌, subst, arith, le_refl, append_assoc, append-nil}
use Rattle.std.proofs.lemmas.Bool.{cond-true, cond-false, false≢true}
use Rattle.std.proofs.lemmas.List.{append_cancel_left}
use Rattle.std.proofs.lemmas.List.Elements.{filter-append}
use Rattle.cs_base.specs.declared.port_kind.PortKind.{PortKind}
use Rattle.sb_message.specs.Receivable.{is_event}
use Rattle.sb_message.specs.declared.message.Msg.{Msg}
use Rattle.device_api.specs.Channels.{Channel}
use Rattle.device_api.specs.World.{Sent}
use Rattle.device_api.specs.Transcript.{stamped_after, stamped, Script, with_messages, sends_before, sends_at, script, sync_if_due, bodies}
use Rattle.device_api.specs.Position.{Position, is_reached, sync_key, tick_key, sync_upto, script_upto}
use Rattle.run_laws.specs.LocalRuns.{IsPrefix}
use Rattle.run_laws.proofs.Times.{stamped_after-append, stamped_after-events}
use Rattle.run_laws.proofs.Growth.{Grows, before_is, at_is, bodies-sync}
use Rattle.run_laws.proofs.Prefixes.{prefix_more, prefix_same, prefix_under}
use Rattle.run_laws.proofs.Keys.{reached_before, sync_before_tick, is_past, missed_then, missed_later}

-- what a channel carries more after the moment u
new_in : Channel → ℕ → ℕ → List Sent → List Msg
new_in ch u due sends = sync_if_due ch u due ++ stamped_after ch (sends_before u sends) (sends_at u sends)

stamped_prefix : (ch : Channel) (before xs ys : List Sent) → IsPrefix xs ys → IsPrefix (stamped_after ch before xs) (stamped_after ch before ys)
stamped_prefix ch before xs ys p = record { rest = stamped_after ch (before ++ xs) p.rest; whole_is = ap (stamped_after ch before) p.whole_is ∙ stamped_after-append ch before xs p.rest }

-- the events of a transcript up to a position are the sends
pub bodies-script_upto : (until : ℕ → List Sent) (grows : Grows until) (kind : PortKind) (ch : Channel) (position : Position) (e u : ℕ) → u ≤ e → bodies (script_upto kind ch (until e) position u).messages ≡ stamped ch (until u)
unfolding script_upto stamped_after
bodies-script_upto until grows kind ch position e zero le = ap (stamped_after ch []) (sym grows.starts)
bodies-script_upto until grows kind ch position e (suc u) le = filter-append (λ m. is_event m.body) so_far.messages (sync ++ stamps) ∙ ap₂ ◌++◌ (bodies-script_upto until grows kind ch position e u (omega arith)) (filter-append (λ m. is_event m.body) sync stamps ∙ ap₂ ◌++◌ (sync_is (is_reached position (sync_key u ch.from.port))) stamps_are) ∙ sym (stamped_after-append ch [] (until u) (grows.made u)) ∙ ap (stamped ch) (sym (grows.adds u))
  where
    so_far : Script
    so_far = script_upto kind ch (until e) position u

    sync : List Msg
    sync = sync_upto ch position u so_far.sync_due

    stamps : List Msg
    stamps = stamped_after ch (sends_before u (until e)) (sends_at u (until e))

    sync_is : (b : Bool) → bodies (cond b (sync_if_due ch u so_far.sync_due) []) ≡ []
    sync_is true = bodies-sync ch u so_far.sync_due
    sync_is false = refl

    stamps_are : bodies stamps ≡ stamped_after ch (until u) (grows.made u)
    stamps_are = ap₂ (λ x y. bodies (stamped_after ch x y)) (before_is until grows u e (omega arith)) (at_is until grows u e le) ∙ stamped_after-events ch (until u) (grows.made u) (grows.events u)

-- a script until u looks at the sends before u alone
pub script_of_past : (until : ℕ → List Sent) (grows : Grows until) (kind : PortKind) (ch : Channel) (e e' u : ℕ) → u ≤ e → u ≤ e' → script kind ch (until e) u ≡ script kind ch (until e') u
unfolding script
script_of_past until grows kind ch e e' zero le le' = refl
script_of_past until grows kind ch e e' (suc u) le le' = ap₂ (λ (so_far : Script) stamps. with_messages ch u so_far (sync_if_due ch u so_far.sync_due ++ stamps)) (script_of_past until grows kind ch e e' u (omega arith) (omega arith)) (ap₂ (stamped_after ch) (before_is until grows u e (omega arith) ∙ sym (before_is until grows u e' (omega arith))) (at_is until grows u e le ∙ sym (at_is until grows u e' le')))

module _ (kind : PortKind) (ch : Channel) (position : Position) (part whole : ℕ → List Sent) (part_grows : Grows part) (whole_grows : Grows whole) (quiet : (u : ℕ) → is_reached position (sync_key u ch.from.port) ≡ false → part (suc u) ≡ part u) where
  -- in a moment of which nothing was reached nothing was sent
  made_none : (u : ℕ) → is_reached position (sync_key u ch.from.port) ≡ false → part_grows.made u ≡ []
  made_none u missed = append_cancel_left (part u) (part_grows.made u) [] (sym (part_grows.adds u) ∙ quiet u missed ∙ sym (append-nil (part u)))

  new_none : (e u : ℕ) → u < e → is_reached position (sync_key u ch.from.port) ≡ false → (due : ℕ) → sync_upto ch position u due ++ stamped_after ch (sends_before u (part e)) (sends_at u (part e)) ≡ []
  unfolding stamped_after
  new_none e u lt missed due = ap₂ ◌++◌ (cond-false (is_reached position (sync_key u ch.from.port)) (sync_if_due ch u due) [] missed) (ap (stamped_after ch (sends_before u (part e))) (at_is part part_grows u e lt ∙ made_none u missed))

  -- after the position the transcript stays
  pub script_stays : (e t n : ℕ) → t + n ≤ e → is_past position t ≡ false → (script_upto kind ch (part e) position (t + n)).messages ≡ (script_upto kind ch (part e) position t).messages
  unfolding script_upto
  script_stays e t zero le missed = ap (λ u. (script_upto kind ch (part e) position u).messages) (let same : t + zero ≡ t = omega arith in same)
  script_stays e t (suc n) le missed = ap (λ u. (script_upto kind ch (part e) position u).messages) (let same : t + suc n ≡ suc (t + n) = omega arith in same) ∙ ap (λ l. (script_upto kind ch (part e) position (t + n)).messages ++ l) (new_none e (t + n) (omega arith) (missed_then position (t + n) ch.from.port (missed_later position t (t + n) (omega arith) missed)) (script_upto kind ch (part e) position (t + n)).sync_due) ∙ append-nil (script_upto kind ch (part e) position (t + n)).messages ∙ script_stays e t n (omega arith) missed

  -- the scripts until u: the same where the position is past u
  pub record ScriptFront (e e' u : ℕ) : Type 0 where
    pub same : is_past position u ≡ true → script_upto kind ch (part e) position u ≡ script kind ch (whole e') u
    pub begins : IsPrefix (script_upto kind ch (part e) position u).messages (script kind ch (whole e') u).messages

  -- how the sends begin until t
  pub record SendsFront (t : ℕ) : Type 0 where
    pub same : (u : ℕ) → u ≤ t → is_past position u ≡ true → part u ≡ whole u
    pub begins : (u : ℕ) → u ≤ t → IsPrefix (part u) (whole u)

  made_begins : (t u : ℕ) → u < t → SendsFront t → part u ≡ whole u → IsPrefix (part_grows.made u) (whole_grows.made u)
  made_begins t u lt front same = record { rest = longer.rest; whole_is = append_cancel_left (whole u) (whole_grows.made u) (part_grows.made u ++ longer.rest) (sym (whole_grows.adds u) ∙ longer.whole_is ∙ ap (λ l. l ++ longer.rest) (part_grows.adds u ∙ ap (λ l. l ++ part_grows.made u) same) ∙ append_assoc (whole u) (part_grows.made u) longer.rest) }
    where
      longer : IsPrefix (part (suc u)) (whole (suc u))
      longer = front.begins (suc u) lt

  made_same : (t u : ℕ) → u < t → SendsFront t → part u ≡ whole u → is_past position (suc u) ≡ true → part_grows.made u ≡ whole_grows.made u
  made_same t u lt front same past = append_cancel_left (whole u) (part_grows.made u) (whole_grows.made u) (ap (λ l. l ++ part_grows.made u) (sym same) ∙ sym (part_grows.adds u) ∙ front.same (suc u) lt past ∙ whole_grows.adds u)

  pub script_part : (t e e' u : ℕ) → SendsFront t → u ≤ t → u ≤ e → u ≤ e' → ScriptFront e e' u
  unfolding script script_upto
  script_part t e e' zero front le lt lt' = record { same = λ past. refl; begins = prefix_same _ _ refl }
  script_part t e e' (suc u) front le lt lt' = at (script_part t e e' u front (omega arith) (omega arith) (omega arith)) (is_reached position (sync_key u ch.from.port)) refl
    where
      su : Script
      su = script_upto kind ch (part e) position u

      sl : Script
      sl = script kind ch (whole e') u

      part_stamps : List Msg
      part_stamps = stamped_after ch (sends_before u (part e)) (sends_at u (part e))

      whole_stamps : List Msg
      whole_stamps = stamped_after ch (sends_before u (whole e')) (sends_at u (whole e'))

      part_new : List Msg
      part_new = sync_upto ch position u su.sync_due ++ part_stamps

      whole_new : List Msg
      whole_new = sync_if_due ch u sl.sync_due ++ whole_stamps

      part_stamps_are : part_stamps ≡ stamped_after ch (part u) (part_grows.made u)
      part_stamps_are = ap₂ (stamped_after ch) (before_is part part_grows u e (omega arith)) (at_is part part_grows u e lt)

      whole_stamps_are : whole_stamps ≡ stamped_after ch (whole u) (whole_grows.made u)
      whole_stamps_are = ap₂ (stamped_after ch) (before_is whole whole_grows u e' (omega arith)) (at_is whole whole_grows u e' lt')

      reached_case : ScriptFront e e' u → is_reached position (sync_key u ch.from.port) ≡ true → is_past position u ≡ true → ScriptFront e e' (suc u)
      reached_case before reached past = record {
        same = λ past'. ap₂ (with_messages ch u) scripts (sync_is ∙ ap (λ l. sync_if_due ch u sl.sync_due ++ l) (part_stamps_are ∙ ap₂ (stamped_after ch) sends (made_same t u le front sends past') ∙ sym whole_stamps_are));
        begins = subst (λ l. IsPrefix l (sl.messages ++ whole_new)) (sym (ap₂ ◌++◌ (ap (λ (s : Script). s.messages) scripts) sync_is)) (prefix_under sl.messages (sync_if_due ch u sl.sync_due ++ part_stamps) whole_new (prefix_under (sync_if_due ch u sl.sync_due) part_stamps whole_stamps (subst (λ l. IsPrefix l whole_stamps) (sym (part_stamps_are ∙ ap (λ l. stamped_after ch l (part_grows.made u)) sends)) (subst (λ l. IsPrefix (stamped_after ch (whole u) (part_grows.made u)) l) (sym whole_stamps_are) (stamped_prefix ch (whole u) (part_grows.made u) (whole_grows.made u) (made_begins t u le front sends))))));
      }
        where
          scripts : su ≡ sl
          scripts = before.same past

          sends : part u ≡ whole u
          sends = front.same u (omega arith) past

          sync_is : part_new ≡ sync_if_due ch u sl.sync_due ++ part_stamps
          sync_is = ap (λ l. l ++ part_stamps) (cond-true (is_reached position (sync_key u ch.from.port)) (sync_if_due ch u su.sync_due) [] reached ∙ ap (λ (s : Script). sync_if_due ch u s.sync_due) scripts)

      at : ScriptFront e e' u → (b : Bool) → is_reached position (sync_key u ch.from.port) ≡ b → ScriptFront e e' (suc u)
      at before false missed = record {
        same = λ past. absurd (false≢true (sym missed ∙ reached_before position (sync_key u ch.from.port) (tick_key u) (sync_before_tick u u ch.from.port (le_refl u)) past));
        begins = subst (λ l. IsPrefix l (sl.messages ++ whole_new)) (sym (ap (λ l. su.messages ++ l) (new_none e u lt missed su.sync_due) ∙ append-nil su.messages)) (prefix_more su.messages sl.messages whole_new before.begins);
      }
      at before true reached = past_or (is_past position u) refl
        where
          past_or : (b : Bool) → is_past position u ≡ b → ScriptFront e e' (suc u)
          past_or true past = reached_case before reached past
          past_or false missed = absurd (false≢true (sym (missed_then position u ch.from.port missed) ∙ reached))
