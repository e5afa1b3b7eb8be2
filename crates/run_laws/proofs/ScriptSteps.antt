-- A transcript up to a position grows by what an event sends, or by one null message.
use Rattle.std.proofs.Common.{◌≡◌, ℕ, zero, suc, ◌+◌, ◌-◌, ◌<◌, ◌≤◌, ◌⊎◌, inl, inr, Bool, true, false, cond, eqb, ltb, List, [], ◌∷◌, ◌++◌, Some, refl, sym, ap, ap₂, ◌∙◌, arith, le_refl, le_of_lt, eq-or-lt_of_le, append_assoc, append-nil}
use Rattle.std.proofs.lemmas.Bool.{cond-true, cond-false, eq-eqb, ne_eqb, le-ltb, false≢true}
use Rattle.std.proofs.lemmas.List.{append_cancel_left}
use Rattle.std.proofs.lemmas.List.Elements.{filter-append}
use Rattle.std.specs.List.{AllByRecursion}
use Rattle.cs_base.specs.declared.port_kind.PortKind.{PortKind}
use Rattle.sb_message.specs.declared.message.Msg.{Msg}
use Rattle.device_api.specs.Channels.{Channel}
use Rattle.device_api.specs.World.{Sent}
use Rattle.device_api.specs.Transcript.{stamped_after, Script, with_messages, due_after, sends_before, sends_at, sync_if_due, null_message}
use Rattle.device_api.specs.Position.{Key, Position, is_reached, sync_key, sync_upto, script_upto}
use Rattle.run_laws.proofs.Lists.{each-weaker, filter_each, filter_none}
use Rattle.run_laws.proofs.Times.{stamped_after-append}
use Rattle.run_laws.proofs.Growth.{Grows, before_is, at_is}
use Rattle.run_laws.proofs.Keys.{missed_after, reached_still, earlier, later_is_after, at_most_itself}

-- no message leaves a script, and some and then some more are all of them
pub with_none : (ch : Channel) (u : ℕ) (so_far : Script) → with_messages ch u so_far [] ≡ so_far
with_none ch u so_far = ap (λ l. record { messages = l; sync_due = so_far.sync_due }) (append-nil so_far.messages)

with_both : (ch : Channel) (u : ℕ) (so_far : Script) (xs ys : List Msg) → with_messages ch u so_far (xs ++ ys) ≡ with_messages ch u (with_messages ch u so_far xs) ys
with_both ch u so_far [] ys = ap (λ l. record { messages = l; sync_due = due_after ch u so_far.sync_due ys }) (ap (λ l. l ++ ys) (sym (append-nil so_far.messages)))
with_both ch u so_far (x ∷ xs) [] = ap₂ (λ l due. record { messages = l; sync_due = due }) (sym (append_assoc so_far.messages (x ∷ xs) [])) refl
with_both ch u so_far (x ∷ xs) (y ∷ ys) = ap₂ (λ l due. record { messages = l; sync_due = due }) (sym (append_assoc so_far.messages (x ∷ xs) (y ∷ ys))) refl

module _ (kind : PortKind) (ch : Channel) (position : Position) (part : ℕ → List Sent) (grows : Grows part) (quiet : (u : ℕ) → is_reached position (sync_key u ch.from.port) ≡ false → part (suc u) ≡ part u) (end : ℕ) where
  made_none : (u : ℕ) → is_reached position (sync_key u ch.from.port) ≡ false → grows.made u ≡ []
  made_none u missed = append_cancel_left (part u) (grows.made u) [] (sym (grows.adds u) ∙ quiet u missed ∙ sym (append-nil (part u)))

  -- the script so far
  abbrev so_far : ℕ → Script
  so_far u = script_upto kind ch (part end) position u

  -- it stays where nothing is reached
  script_stays : (v n : ℕ) → v + n ≤ end → ((u : ℕ) → v ≤ u → is_reached position (sync_key u ch.from.port) ≡ false) → so_far (v + n) ≡ so_far v
  unfolding script_upto stamped_after
  script_stays v zero le missed = ap so_far (let same : v + zero ≡ v = omega arith in same)
  script_stays v (suc n) le missed = ap so_far (let same : v + suc n ≡ suc (v + n) = omega arith in same) ∙ ap (with_messages ch (v + n) (so_far (v + n))) (ap₂ ◌++◌ (cond-false (is_reached position (sync_key (v + n) ch.from.port)) (sync_if_due ch (v + n) (so_far (v + n)).sync_due) [] (missed (v + n) (omega arith))) (ap (stamped_after ch (sends_before (v + n) (part end))) (at_is part grows (v + n) end (omega arith) ∙ made_none (v + n) (missed (v + n) (omega arith))))) ∙ with_none ch (v + n) (so_far (v + n)) ∙ script_stays v n (omega arith) missed

  pub stays_until_end : (v : ℕ) → v ≤ end → ((u : ℕ) → v ≤ u → is_reached position (sync_key u ch.from.port) ≡ false) → so_far end ≡ so_far v
  stays_until_end v le missed = ap so_far (let whole : end ≡ v + (end - v) = omega arith in whole) ∙ script_stays v (end - v) (omega arith) missed

  -- once a null message is missed all that comes later is
  pub missed_from : (v : ℕ) → is_reached position (sync_key v ch.from.port) ≡ false → (u : ℕ) → v ≤ u → is_reached position (sync_key u ch.from.port) ≡ false
  missed_from v missed u le = at (eq-or-lt_of_le le)
    where
      at : (v ≡ u) ⊎ (v < u) → is_reached position (sync_key u ch.from.port) ≡ false
      at (inl same) = ap (λ x. is_reached position (sync_key x ch.from.port)) (sym same) ∙ missed
      at (inr lt) = missed_after position (sync_key v ch.from.port) (sync_key u ch.from.port) (earlier (sync_key v ch.from.port) (sync_key u ch.from.port) lt) missed

  part_stays : (v : ℕ) (n : ℕ) → is_reached position (sync_key v ch.from.port) ≡ false → part (v + n) ≡ part v
  part_stays v zero missed = ap part (let same : v + zero ≡ v = omega arith in same)
  part_stays v (suc n) missed = ap part (let same : v + suc n ≡ suc (v + n) = omega arith in same) ∙ quiet (v + n) (missed_from v missed (v + n) (omega arith)) ∙ part_stays v n missed

  module _ (last : Key) (later : is_reached position last ≡ false) (within : last.time < end) (new : List Sent) (timed : AllByRecursion (λ s. s.time ≡ last.time) new) where
    -- the sends with the event's
    abbrev all : List Sent
    all = part end ++ new

    all_before : (u : ℕ) → u ≤ last.time → sends_before u all ≡ part u
    all_before u le = filter-append (λ s. ltb s.time u) (part end) new ∙ ap₂ ◌++◌ (before_is part grows u end (omega arith)) (filter_none (λ s. ltb s.time u) new (each-weaker (λ s. s.time ≡ last.time) (λ s. ltb s.time u ≡ false) new (λ s at. le-ltb s.time u (omega arith)) timed)) ∙ append-nil (part u)

    all_at_other : (u : ℕ) → u < end → (u ≡ last.time → ⊥) → sends_at u all ≡ grows.made u
    all_at_other u lt other = filter-append (λ s. eqb s.time u) (part end) new ∙ ap₂ ◌++◌ (at_is part grows u end lt) (filter_none (λ s. eqb s.time u) new (each-weaker (λ s. s.time ≡ last.time) (λ s. eqb s.time u ≡ false) new (λ s at. ne_eqb s.time u (λ e. other (sym e ∙ at))) timed)) ∙ append-nil (grows.made u)

    all_at : sends_at last.time all ≡ grows.made last.time ++ new
    all_at = filter-append (λ s. eqb s.time last.time) (part end) new ∙ ap₂ ◌++◌ (at_is part grows last.time end within) (filter_each (λ s. eqb s.time last.time) new (each-weaker (λ s. s.time ≡ last.time) (λ s. eqb s.time last.time ≡ true) new (λ s at. eq-eqb s.time last.time at) timed))

    -- a null message that the event passes, and that the position had not reached, isn't due
    abbrev PassesNoSync : ℕ → Type 0
    PassesNoSync u = is_reached position (sync_key u ch.from.port) ≡ false → is_reached (Some last) (sync_key u ch.from.port) ≡ true → (so_far end).sync_due ≡ u → ⊥

    same_sync : (u : ℕ) → u ≤ end → PassesNoSync u → sync_upto ch (Some last) u (so_far u).sync_due ≡ sync_upto ch position u (so_far u).sync_due
    same_sync u le passes = at (is_reached position (sync_key u ch.from.port)) (is_reached (Some last) (sync_key u ch.from.port)) refl refl
      where
        due : ℕ
        due = (so_far u).sync_due

        at : (reached reached' : Bool) → is_reached position (sync_key u ch.from.port) ≡ reached → is_reached (Some last) (sync_key u ch.from.port) ≡ reached' → cond reached' (sync_if_due ch u due) [] ≡ cond reached (sync_if_due ch u due) []
        at true true e e' = refl
        at false false e e' = refl
        at true false e e' = absurd (false≢true (sym e' ∙ reached_still position last (sync_key u ch.from.port) later e))
        at false true e e' = cond-false (eqb due u) (null_message ch u ∷ []) [] (ne_eqb due u (λ same. passes e e' (ap (λ (x : Script). x.sync_due) (stays_until_end u le (missed_from u e)) ∙ same)))

    same_before : ((u : ℕ) → u < last.time → PassesNoSync u) → (u : ℕ) → u ≤ last.time → script_upto kind ch all (Some last) u ≡ so_far u
    unfolding script_upto
    same_before passes zero le = refl
    same_before passes (suc u) le = ap (λ (x : Script). with_messages ch u x (sync_upto ch (Some last) u x.sync_due ++ stamped_after ch (sends_before u all) (sends_at u all))) (same_before passes u (omega arith)) ∙ ap (with_messages ch u (so_far u)) (ap₂ ◌++◌ (same_sync u (omega arith) (passes u le)) (ap₂ (stamped_after ch) (all_before u (omega arith) ∙ sym (before_is part grows u end (omega arith))) (all_at_other u (omega arith) (λ e. omega arith) ∙ sym (at_is part grows u end (omega arith)))))

    -- after the event the script stays
    missed_later : (u : ℕ) → last.time < u → is_reached position (sync_key u ch.from.port) ≡ false
    missed_later u lt = missed_after position last (sync_key u ch.from.port) (earlier last (sync_key u ch.from.port) lt) later

    last_stays : (n : ℕ) → suc last.time + n ≤ end → script_upto kind ch all (Some last) (suc last.time + n) ≡ script_upto kind ch all (Some last) (suc last.time)
    unfolding script_upto stamped_after
    last_stays zero le = ap (script_upto kind ch all (Some last)) (let same : suc last.time + zero ≡ suc last.time = omega arith in same)
    last_stays (suc n) le = ap (script_upto kind ch all (Some last)) (let same : suc last.time + suc n ≡ suc (suc last.time + n) = omega arith in same) ∙ ap (with_messages ch u before) (ap₂ ◌++◌ (cond-false (is_reached (Some last) (sync_key u ch.from.port)) (sync_if_due ch u before.sync_due) [] (later_is_after last (sync_key u ch.from.port) (omega arith))) (ap (stamped_after ch (sends_before u all)) (all_at_other u (omega arith) (λ e. omega arith) ∙ made_none u (missed_later u (omega arith))))) ∙ with_none ch u before ∙ last_stays n (omega arith)
      where
        u : ℕ
        u = suc last.time + n

        before : Script
        before = script_upto kind ch all (Some last) u

    last_stays_until_end : script_upto kind ch all (Some last) end ≡ script_upto kind ch all (Some last) (suc last.time)
    last_stays_until_end = ap (script_upto kind ch all (Some last)) (let whole : end ≡ suc last.time + (end - suc last.time) = omega arith in whole) ∙ last_stays (end - suc last.time) (omega arith)

    position_stays : so_far end ≡ so_far (suc last.time)
    position_stays = stays_until_end (suc last.time) within (λ u le. missed_later u le)

    part_end : part end ≡ part (suc last.time)
    part_end = ap part (let whole : end ≡ suc last.time + (end - suc last.time) = omega arith in whole) ∙ part_stays (suc last.time) (end - suc last.time) (missed_later (suc last.time) (omega arith))

    -- the event's sends are what the transcript grows by
    pub grows_by_event : is_reached (Some last) (sync_key (so_far end).sync_due ch.from.port) ≡ false → script_upto kind ch all (Some last) end ≡ with_messages ch last.time (so_far end) (stamped_after ch (part end) new)
    unfolding script_upto
    grows_by_event not_due = last_stays_until_end ∙ ap (λ (x : Script). with_messages ch last.time x (sync_upto ch (Some last) last.time x.sync_due ++ stamped_after ch (sends_before last.time all) (sends_at last.time all))) (same_before (λ u lt. passes u) last.time (le_refl last.time)) ∙ ap (with_messages ch last.time (so_far last.time)) (ap₂ ◌++◌ (same_sync last.time (le_of_lt within) (passes last.time)) (ap₂ (stamped_after ch) (all_before last.time (le_refl last.time)) all_at ∙ stamped_after-append ch (part last.time) (grows.made last.time) new ∙ ap₂ ◌++◌ (ap₂ (stamped_after ch) (sym (before_is part grows last.time end (le_of_lt within))) (sym (at_is part grows last.time end within))) (ap (λ l. stamped_after ch l new) (sym (grows.adds last.time) ∙ sym part_end))) ∙ sym (append_assoc (sync_upto ch position last.time (so_far last.time).sync_due) _ (stamped_after ch (part end) new))) ∙ with_both ch last.time (so_far last.time) _ (stamped_after ch (part end) new) ∙ ap (λ (x : Script). with_messages ch last.time x (stamped_after ch (part end) new)) (sym position_stays)
      where
        passes : (u : ℕ) → PassesNoSync u
        passes u missed reached same = false≢true (sym not_due ∙ ap (λ x. is_reached (Some last) (sync_key x ch.from.port)) same ∙ reached)

  -- a null message is what the transcript grows by
  pub grows_by_sync : (u : ℕ) → is_reached position (sync_key u ch.from.port) ≡ false → u < end → (so_far end).sync_due ≡ u → script_upto kind ch (part end) (Some (sync_key u ch.from.port)) end ≡ with_messages ch u (so_far end) (null_message ch u ∷ [])
  unfolding script_upto stamped_after
  grows_by_sync u later within due = ap (λ l. script_upto kind ch l (Some last) end) (sym (append-nil (part end))) ∙ last_stays_until_end last later within [] tt ∙ ap (λ (x : Script). with_messages ch u x (sync_upto ch (Some last) u x.sync_due ++ stamped_after ch (sends_before u (part end ++ [])) (sends_at u (part end ++ [])))) (same_before last later within [] tt (λ v lt missed reached same. omega (arith, same, due)) u (le_refl u)) ∙ ap (with_messages ch u (so_far u)) (ap₂ ◌++◌ (cond-true (is_reached (Some last) last) (sync_if_due ch u (so_far u).sync_due) [] (at_most_itself last) ∙ cond-true (eqb (so_far u).sync_due u) (null_message ch u ∷ []) [] (eq-eqb (so_far u).sync_due u (ap (λ (x : Script). x.sync_due) (sym stays) ∙ due))) (ap (stamped_after ch (sends_before u (part end ++ []))) (all_at last later within [] tt ∙ append-nil (grows.made u) ∙ made_none u later))) ∙ ap (λ (x : Script). with_messages ch u x (null_message ch u ∷ [])) (sym stays)
    where
      stays : so_far end ≡ so_far u
      stays = stays_until_end u (le_of_lt within) (missed_from u later)

      last : Key
      last = sync_key u ch.from.port
