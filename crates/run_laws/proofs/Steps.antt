-- One event more of a component that runs by itself.
use Rattle.std.proofs.Common.{◌≡◌, ℕ, zero, suc, ◌+◌, ◌-◌, ◌<◌, ◌≤◌, Bool, true, false, List, [], ◌∷◌, ◌++◌, length, map, Option, Some, None, refl, sym, ap, ap₂, ◌∙◌, subst, arith, le_refl, append_assoc, append-nil}
use Rattle.std.proofs.lemmas.Bool.{cond-true, cond-false, eq-eqb, ne_eqb}
use Rattle.std.proofs.lemmas.List.{map-append}
use Rattle.sb_message.specs.declared.message.Msg.{Msg}
use Rattle.device_api.specs.Behaviour.{Behaviour, Reaction, IsNotPast}
use Rattle.device_api.specs.World.{Arrival, Run, arrivals, after, rest, followed_by, take_all, tick_if_due, is_at}
use Rattle.device_api.specs.Position.{Key, Position, is_reached, sync_key, tick_key, arrivals_upto, tick_upto, react_upto, local_upto}
use Rattle.run_laws.specs.NextEvent.{ComesAfter, AreInboxes, IsNextTake, IsNextTick, IsNextSync, head_key, with_port}
use Rattle.run_laws.proofs.Keys.{missed_after, earlier, later_is_after, phase_is_after, at_most_itself, message_before_tick, sync_before_tick}
use Rattle.run_laws.proofs.Parts.{joined, take_all-append, nothing_upto}
use Rattle.run_laws.proofs.Inboxes.{taken_upto, boxes_receive, boxes_stay, boxes_take, head_is_ahead, here, arrivals_elsewhen, arrivals_then}

-- a moment of which nothing was done leaves the run
after_rest : {S : Type 0} (u : ℕ) (run : Run S) → after u run (rest run.state) ≡ run
after_rest u run = ap₂ (λ log sent. record { state = run.state; log = log; sent = sent }) (append-nil run.log) (append-nil run.sent)

-- what is added in two steps
two_steps : {A B : Type 0} (f : A → B) (so_far : List B) (first second : List A) → so_far ++ map f (first ++ second) ≡ (so_far ++ map f (first ++ [])) ++ map f second
two_steps f so_far first second = ap (λ l. so_far ++ l) (map-append f first second) ∙ sym (append_assoc so_far (map f first) (map f second)) ∙ ap (λ l. (so_far ++ map f l) ++ map f second) (sym (append-nil first))

then_after : {S : Type 0} (t : ℕ) (run : Run S) (first second : Reaction S) → after t run (joined first second) ≡ after t (after t run (joined first (rest first.state))) second
then_after t run first second = ap₂ (λ log sent. record { state = second.state; log = log; sent = sent }) (two_steps _ run.log first.lines second.lines) (two_steps _ run.sent first.sends second.sends)

-- a reaction and then nothing
joined_rest : {S : Type 0} (r : Reaction S) → joined r (rest r.state) ≡ r
joined_rest r = ap₂ (λ sends lines. record { state = r.state; sends = sends; lines = lines }) (append-nil r.sends) (append-nil r.lines)

module _ {S : Type 0} (b : Behaviour S) (ports : ℕ) (inputs : ℕ → List Msg) (s : S) where
  -- where nothing is reached from v on the run stays
  stays : (position : Position) (v n : ℕ) → ((u : ℕ) → v ≤ u → is_reached position (sync_key u 0) ≡ false) → local_upto b ports inputs s position (v + n) ≡ local_upto b ports inputs s position v
  unfolding local_upto
  stays position v zero missed = ap (local_upto b ports inputs s position) (let same : v + zero ≡ v = omega arith in same)
  stays position v (suc n) missed = ap (local_upto b ports inputs s position) (let same : v + suc n ≡ suc (v + n) = omega arith in same) ∙ ap (after (v + n) so_far) (nothing_upto b position (v + n) 0 (arrivals (v + n) inputs ports) so_far.state (missed (v + n) (omega arith))) ∙ after_rest (v + n) so_far ∙ stays position v n missed
    where
      so_far : Run S
      so_far = local_upto b ports inputs s position (v + n)

  pub stays_until : (position : Position) (v end : ℕ) → v ≤ end → ((u : ℕ) → v ≤ u → is_reached position (sync_key u 0) ≡ false) → local_upto b ports inputs s position end ≡ local_upto b ports inputs s position v
  stays_until position v end le missed = ap (local_upto b ports inputs s position) (let whole : end ≡ v + (end - v) = omega arith in whole) ∙ stays position v (end - v) missed

  module _ (position : Position) (last : Key) (end : ℕ) (later : is_reached position last ≡ false) (within : last.time < end) (not_past : IsNotPast last.time (b.due (local_upto b ports inputs s position end).state)) (agree : (u : ℕ) → u < last.time → arrivals_upto (Some last) u (arrivals u inputs ports) ≡ arrivals_upto position u (arrivals u inputs ports)) where
    -- both runs stay after the event's moment
    pub position_stays : local_upto b ports inputs s position end ≡ local_upto b ports inputs s position (suc last.time)
    position_stays = stays_until position (suc last.time) end within (λ u le. missed_after position last (sync_key u 0) (earlier last (sync_key u 0) le) later)

    pub last_stays : local_upto b ports inputs s (Some last) end ≡ local_upto b ports inputs s (Some last) (suc last.time)
    last_stays = stays_until (Some last) (suc last.time) end within (λ u le. later_is_after last (sync_key u 0) le)

    -- a tick that the position hasn't reached, and that is before the event, isn't due
    tick_not_due : (u : ℕ) → u < last.time → is_reached position (tick_key u) ≡ false → (state : S) → (local_upto b ports inputs s position (suc u)).state ≡ state → tick_if_due b u state ≡ rest state
    tick_not_due u lt missed state is = cond-false (is_at (b.due state) u) (b.tick state u) (rest state) (at (b.due state) (subst (λ x. IsNotPast last.time (b.due x)) (ap (λ (run : Run S). run.state) (stays_until position (suc u) end (omega arith) (λ v le. missed_after position (tick_key u) (sync_key v 0) (earlier (tick_key u) (sync_key v 0) le) missed)) ∙ is) not_past))
      where
        at : (due : Option ℕ) → IsNotPast last.time due → is_at due u ≡ false
        at None later' = refl
        at (Some d) later' = ne_eqb d u (λ e. omega (arith, later'))

    -- until the event's moment both runs are the same
    pub same_before : (u : ℕ) → u ≤ last.time → local_upto b ports inputs s (Some last) u ≡ local_upto b ports inputs s position u
    unfolding local_upto
    same_before zero le = refl
    same_before (suc u) le = ap (λ (run : Run S). after u run (react_upto b (Some last) u arrived run.state)) (same_before u (omega arith)) ∙ ap (after u so_far) (ap (λ l. followed_by (take_all b u l so_far.state) (tick_upto b (Some last) u)) (agree u le) ∙ ap (joined taken) (cond-true (is_reached (Some last) (tick_key u)) (tick_if_due b u taken.state) (rest taken.state) (earlier (tick_key u) last le) ∙ at (is_reached position (tick_key u)) refl))
      where
        arrived : List Arrival
        arrived = arrivals u inputs ports

        so_far : Run S
        so_far = local_upto b ports inputs s position u

        taken : Reaction S
        taken = take_all b u (arrivals_upto position u arrived) so_far.state

        at : (reached : Bool) → is_reached position (tick_key u) ≡ reached → tick_if_due b u taken.state ≡ tick_upto b position u taken.state
        at true e = sym (cond-true (is_reached position (tick_key u)) (tick_if_due b u taken.state) (rest taken.state) e)
        at false e = tick_not_due u le e taken.state (ap (λ (r : Reaction S). r.state) not_ticked) ∙ sym not_ticked
          where
            not_ticked : tick_upto b position u taken.state ≡ rest taken.state
            not_ticked = cond-false (is_reached position (tick_key u)) (tick_if_due b u taken.state) (rest taken.state) e

  -- a moment of which a position hasn't reached the tick
  before_tick : (position : Position) (t : ℕ) (run : Run S) (taken : List Arrival) → arrivals_upto position t (arrivals t inputs ports) ≡ taken → is_reached position (tick_key t) ≡ false → react_upto b position t (arrivals t inputs ports) run.state ≡ joined (take_all b t taken run.state) (rest (take_all b t taken run.state).state)
  before_tick position t run taken is missed = ap (λ l. followed_by (take_all b t l run.state) (tick_upto b position t)) is ∙ ap (joined (take_all b t taken run.state)) (cond-false (is_reached position (tick_key t)) (tick_if_due b t (take_all b t taken run.state).state) (rest (take_all b t taken run.state).state) missed)

  module _ (position : Position) (end : ℕ) (handled inbox : ℕ → List Msg) (boxes : AreInboxes position ports inputs handled inbox) where
    pub take_step : (port : ℕ) (m : Msg) (more : List Msg) → IsNextTake b ports handled inbox (local_upto b ports inputs s position end).state port m more → m.at < end → local_upto b ports inputs s (Some (head_key handled port m)) end ≡ after m.at (local_upto b ports inputs s position end) (b.take (local_upto b ports inputs s position end).state m.at port m.body)
    unfolding local_upto take_all
    take_step port m more next within = last_stays position last end later within next.before_tick agree ∙ ap (λ (run : Run S). after t run (react_upto b (Some last) t arrived run.state)) (same_before position last end later within next.before_tick agree t (le_refl t)) ∙ ap (after t so_far) (before_tick (Some last) t so_far (arrivals t handled ports ++ event ∷ []) last_taken (phase_is_after last (tick_key t) refl (le_refl t)) ∙ ap (λ (r : Reaction S). joined r (rest r.state)) (take_all-append b t (arrivals t handled ports) (event ∷ []) so_far.state) ∙ joined_rest (joined taken (joined new (rest new.state))) ∙ ap (joined taken) (joined_rest new)) ∙ then_after t so_far taken new ∙ sym (ap (λ (run : Run S). after t run (b.take run.state t port m.body)) before)
      where
        t : ℕ
        t = m.at

        last : Key
        last = head_key handled port m

        event : Arrival
        event = here b position ports inputs handled inbox boxes (local_upto b ports inputs s position end).state port m more next

        later : is_reached position last ≡ false
        later = head_is_ahead b position ports inputs handled inbox boxes (local_upto b ports inputs s position end).state port m more next

        arrived : List Arrival
        arrived = arrivals t inputs ports

        so_far : Run S
        so_far = local_upto b ports inputs s position t

        taken : Reaction S
        taken = take_all b t (arrivals t handled ports) so_far.state

        new : Reaction S
        new = b.take taken.state t port m.body

        after_boxes : AreInboxes (Some last) ports inputs (with_port port (handled port ++ m ∷ []) handled) (with_port port more inbox)
        after_boxes = boxes_take b position ports inputs handled inbox boxes (local_upto b ports inputs s position end).state port m more next

        agree : (u : ℕ) → u < t → arrivals_upto (Some last) u (arrivals u inputs ports) ≡ arrivals_upto position u (arrivals u inputs ports)
        agree u lt = taken_upto (Some last) ports inputs _ _ after_boxes u ports (le_refl ports) ∙ arrivals_elsewhen b position ports inputs handled inbox boxes (local_upto b ports inputs s position end).state port m more next u ports (λ e. omega arith) ∙ sym (taken_upto position ports inputs handled inbox boxes u ports (le_refl ports))

        last_taken : arrivals_upto (Some last) t arrived ≡ arrivals t handled ports ++ event ∷ []
        last_taken = taken_upto (Some last) ports inputs _ _ after_boxes t ports (le_refl ports) ∙ arrivals_then b position ports inputs handled inbox boxes (local_upto b ports inputs s position end).state port m more next ports next.at_port (le_refl ports)

        before : local_upto b ports inputs s position end ≡ after t so_far (joined taken (rest taken.state))
        before = position_stays position last end later within next.before_tick agree ∙ ap (after t so_far) (before_tick position t so_far (arrivals t handled ports) (taken_upto position ports inputs handled inbox boxes t ports (le_refl ports)) (missed_after position last (tick_key t) (message_before_tick t t port (length (handled port)) (le_refl t)) later))

    same_taken : (last : Key) → AreInboxes (Some last) ports inputs handled inbox → (u : ℕ) → arrivals_upto (Some last) u (arrivals u inputs ports) ≡ arrivals_upto position u (arrivals u inputs ports)
    same_taken last after_boxes u = taken_upto (Some last) ports inputs handled inbox after_boxes u ports (le_refl ports) ∙ sym (taken_upto position ports inputs handled inbox boxes u ports (le_refl ports))

    pub tick_step : (t : ℕ) → IsNextTick b position ports handled inbox (local_upto b ports inputs s position end).state t → t < end → local_upto b ports inputs s (Some (tick_key t)) end ≡ after t (local_upto b ports inputs s position end) (b.tick (local_upto b ports inputs s position end).state t)
    unfolding local_upto
    tick_step t next within = last_stays position last end next.ahead within not_past agree ∙ ap (λ (run : Run S). after t run (react_upto b (Some last) t arrived run.state)) (same_before position last end next.ahead within not_past agree t (le_refl t)) ∙ ap (after t so_far) (ap (λ l. followed_by (take_all b t l so_far.state) (tick_upto b (Some last) t)) (taken_upto (Some last) ports inputs handled inbox after_boxes t ports (le_refl ports)) ∙ ap (joined taken) (cond-true (is_reached (Some last) (tick_key t)) (tick_if_due b t taken.state) (rest taken.state) (at_most_itself last) ∙ ticks)) ∙ then_after t so_far taken (b.tick taken.state t) ∙ sym (ap (λ (run : Run S). after t run (b.tick run.state t)) before)
      where
        last : Key
        last = tick_key t

        arrived : List Arrival
        arrived = arrivals t inputs ports

        so_far : Run S
        so_far = local_upto b ports inputs s position t

        taken : Reaction S
        taken = take_all b t (arrivals t handled ports) so_far.state

        after_boxes : AreInboxes (Some last) ports inputs handled inbox
        after_boxes = boxes_stay position ports inputs handled inbox boxes last next.ahead next.before_messages

        agree : (u : ℕ) → u < t → arrivals_upto (Some last) u (arrivals u inputs ports) ≡ arrivals_upto position u (arrivals u inputs ports)
        agree u lt = same_taken last after_boxes u

        not_past : IsNotPast t (b.due (local_upto b ports inputs s position end).state)
        not_past = subst (IsNotPast t) (sym next.due) (le_refl t)

        before : local_upto b ports inputs s position end ≡ after t so_far (joined taken (rest taken.state))
        before = position_stays position last end next.ahead within not_past agree ∙ ap (after t so_far) (before_tick position t so_far (arrivals t handled ports) (taken_upto position ports inputs handled inbox boxes t ports (le_refl ports)) next.ahead)

        ticks : tick_if_due b t taken.state ≡ b.tick taken.state t
        ticks = cond-true (is_at (b.due taken.state) t) (b.tick taken.state t) (rest taken.state) (ap (λ due. is_at due t) (ap (λ (run : Run S). b.due run.state) (sym before) ∙ next.due) ∙ eq-eqb t t refl)

    pub sync_step : (u port : ℕ) → IsNextSync b position ports handled inbox (local_upto b ports inputs s position end).state u port → u < end → local_upto b ports inputs s (Some (sync_key u port)) end ≡ local_upto b ports inputs s position end
    unfolding local_upto
    sync_step u port next within = last_stays position last end next.ahead within next.before_tick agree ∙ ap (λ (run : Run S). after u run (react_upto b (Some last) u arrived run.state)) (same_before position last end next.ahead within next.before_tick agree u (le_refl u)) ∙ ap (after u so_far) (before_tick (Some last) u so_far (arrivals u handled ports) (taken_upto (Some last) ports inputs handled inbox after_boxes u ports (le_refl ports)) (phase_is_after last (tick_key u) refl (le_refl u)) ∙ sym (before_tick position u so_far (arrivals u handled ports) (taken_upto position ports inputs handled inbox boxes u ports (le_refl ports)) (missed_after position last (tick_key u) (sync_before_tick u u port (le_refl u)) next.ahead))) ∙ sym (position_stays position last end next.ahead within next.before_tick agree)
      where
        last : Key
        last = sync_key u port

        arrived : List Arrival
        arrived = arrivals u inputs ports

        so_far : Run S
        so_far = local_upto b ports inputs s position u

        after_boxes : AreInboxes (Some last) ports inputs handled inbox
        after_boxes = boxes_stay position ports inputs handled inbox boxes last next.ahead next.before_messages

        agree : (v : ℕ) → v < u → arrivals_upto (Some last) v (arrivals v inputs ports) ≡ arrivals_upto position v (arrivals v inputs ports)
        agree v lt = same_taken last after_boxes v

-- what comes in after the position changes nothing
pub receive_step : {S : Type 0} (b : Behaviour S) (ports : ℕ) (inputs handled inbox : ℕ → List Msg) (s : S) (position : Position) (port : ℕ) (m : Msg) → AreInboxes position ports inputs handled inbox → ComesAfter position inputs port m → (end : ℕ) → local_upto b ports (with_port port (inputs port ++ m ∷ []) inputs) s position end ≡ local_upto b ports inputs s position end
unfolding local_upto
receive_step b ports inputs handled inbox s position port m boxes comes zero = refl
receive_step {S} b ports inputs handled inbox s position port m boxes comes (suc u) = ap₂ (λ (run : Run S) taken. after u run (followed_by (take_all b u taken run.state) (tick_upto b position u))) (receive_step b ports inputs handled inbox s position port m boxes comes u) (taken_upto position ports _ handled _ (boxes_receive position ports inputs handled inbox boxes port m comes) u ports (le_refl ports) ∙ sym (taken_upto position ports inputs handled inbox boxes u ports (le_refl ports)))
