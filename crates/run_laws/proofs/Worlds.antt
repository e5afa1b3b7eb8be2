-- What is pending for a port is what was sent on its channel.
use Rattle.std.proofs.Common.{◌≡◌, ℕ, zero, suc, Bool, true, false, cond, eqb, List, [], ◌∷◌, ◌++◌, length, map, filter, Option, Some, None, slice_get, slice_set, refl, sym, ap, ap₂, ◌∙◌, append-nil}
use Rattle.std.proofs.lemmas.Bool.{cond-true, cond-false, eqb-true, eqb-false}
use Rattle.std.proofs.lemmas.List.{map-append}
use Rattle.std.proofs.lemmas.List.Elements.{filter-append}
use Rattle.cs_base.specs.Plan.{End, same_end}
use Rattle.device_api.specs.Behaviour.{Reaction}
use Rattle.device_api.specs.Channels.{Channel, channels}
use Rattle.device_api.specs.World.{Network, World, Event, Run, Sent, after, sent_at, sends_by, stamp, out_of, event_on, events_of, waiting_at, with_reaction, turn_of, slot, start_world, start_run, global_until, sent_in, sends_on, react, arrivals_for}
use Rattle.device_api.specs.Transcript.{stamped_after, stamped}
use Rattle.run_laws.specs.Wired.{IsWired}
use Rattle.run_laws.proofs.Lists.{IsFound, found, slice_get-set_same, slice_get-set_other}
use Rattle.run_laws.proofs.Channels.{test_same, test_differs, same_from_test, out_is, only_in}
use Rattle.run_laws.proofs.Times.{stamped_after-append}

waiting_at-append : (end : End) (xs ys : List Event) → waiting_at end (xs ++ ys) ≡ waiting_at end xs ++ waiting_at end ys
waiting_at-append end xs ys = ap (map (λ e. record { at = e.time; body = e.body })) (filter-append (λ e. same_end e.to end) xs ys) ∙ map-append _ (filter (λ e. same_end e.to end) xs) (filter (λ e. same_end e.to end) ys)

module _ {S : Type 0} {last : ℕ} (net : Network S) (wired : IsWired net last) where
  -- a send by the port that a channel comes from is an event at the port that it goes to
  event_own : (k : ℕ) (ch : Channel) → slice_get (channels net.links) k ≡ Some ch → (before : List Sent) (s : Sent) → s.port ≡ ch.from.port → waiting_at ch.to (event_on before s (out_of (channels net.links) (record { component = ch.from.component; port = s.port }))) ≡ record { at = stamp ch (sends_by ch.from.port before) s; body = s.body } ∷ []
  event_own k ch is before s own = ap (λ o. waiting_at ch.to (event_on before s o)) (ap (λ p. out_of (channels net.links) (record { component = ch.from.component; port = p })) own ∙ out_is net wired k ch is) ∙ ap (map (λ e. record { at = e.time; body = e.body })) (cond-true (same_end ch.to ch.to) _ [] (test_same ch.to)) ∙ ap (λ p. record { at = stamp ch (sends_by p before) s; body = s.body } ∷ []) own

  -- any other send is none
  event_other : (k : ℕ) (ch : Channel) → slice_get (channels net.links) k ≡ Some ch → (c : ℕ) (before : List Sent) (s : Sent) → (record { component = c; port = s.port } ≡ ch.from → ⊥) → waiting_at ch.to (event_on before s (out_of (channels net.links) (record { component = c; port = s.port }))) ≡ []
  event_other k ch is c before s other = at (out_of (channels net.links) (record { component = c; port = s.port })) refl
    where
      at : (o : Option Channel) → out_of (channels net.links) (record { component = c; port = s.port }) ≡ o → waiting_at ch.to (event_on before s o) ≡ []
      at None e = refl
      at (Some way) e = ap (map (λ e. record { at = e.time; body = e.body })) (cond-false (same_end way.to ch.to) _ [] (test_differs way.to ch.to elsewhere))
        where
          there : IsFound (λ x. same_end x.from (record { component = c; port = s.port })) (channels net.links) way
          there = found _ (channels net.links) way e

          elsewhere : way.to ≡ ch.to → ⊥
          elsewhere same = other (sym (same_from_test way.from _ there.passes) ∙ ap (λ x. x.from) (only_in net wired k ch is there.place way there.there same))

  -- what the sender's sends make at the receiving port
  waiting_at-own : (k : ℕ) (ch : Channel) → slice_get (channels net.links) k ≡ Some ch → (before sends : List Sent) → waiting_at ch.to (events_of (channels net.links) ch.from.component before sends) ≡ stamped_after ch (sends_by ch.from.port before) (sends_by ch.from.port sends)
  unfolding events_of stamped_after
  waiting_at-own k ch is before [] = refl
  waiting_at-own k ch is before (s ∷ more) = waiting_at-append ch.to here _ ∙ at (waiting_at-own k ch is (before ++ s ∷ []) more) (eqb s.port ch.from.port) refl
    where
      here : List Event
      here = event_on before s (out_of (channels net.links) (record { component = ch.from.component; port = s.port }))

      by_port : List Sent → List Sent
      by_port l = sends_by ch.from.port l

      at : waiting_at ch.to (events_of (channels net.links) ch.from.component (before ++ s ∷ []) more) ≡ stamped_after ch (sends_by ch.from.port (before ++ s ∷ [])) (sends_by ch.from.port more) → (b : Bool) → eqb s.port ch.from.port ≡ b → waiting_at ch.to here ++ waiting_at ch.to (events_of (channels net.links) ch.from.component (before ++ s ∷ []) more) ≡ stamped_after ch (sends_by ch.from.port before) (cond b (s ∷ sends_by ch.from.port more) (sends_by ch.from.port more))
      at rest true e = ap₂ ◌++◌ (event_own k ch is before s (eqb-true _ _ e)) rest ∙ ap (λ l. record { at = stamp ch (sends_by ch.from.port before) s; body = s.body } ∷ stamped_after ch l (sends_by ch.from.port more)) (filter-append (λ x. eqb x.port ch.from.port) before (s ∷ []) ∙ ap (λ l. sends_by ch.from.port before ++ l) (cond-true (eqb s.port ch.from.port) (s ∷ []) [] e))
      at rest false e = ap₂ ◌++◌ (event_other k ch is ch.from.component before s (λ same. eqb-false _ _ e (ap (λ x. x.port) same))) rest ∙ ap (λ l. stamped_after ch l (sends_by ch.from.port more)) (filter-append (λ x. eqb x.port ch.from.port) before (s ∷ []) ∙ ap (λ l. sends_by ch.from.port before ++ l) (cond-false (eqb s.port ch.from.port) (s ∷ []) [] e) ∙ append-nil (sends_by ch.from.port before))

  -- what other components' sends make there
  waiting_at-other : (k : ℕ) (ch : Channel) → slice_get (channels net.links) k ≡ Some ch → (c : ℕ) → (c ≡ ch.from.component → ⊥) → (before sends : List Sent) → waiting_at ch.to (events_of (channels net.links) c before sends) ≡ []
  unfolding events_of
  waiting_at-other k ch is c other before [] = refl
  waiting_at-other k ch is c other before (s ∷ more) = waiting_at-append ch.to (event_on before s (out_of (channels net.links) (record { component = c; port = s.port }))) _ ∙ ap₂ ◌++◌ (event_other k ch is c before s (λ same. other (ap (λ x. x.component) same))) (waiting_at-other k ch is c other (before ++ s ∷ []) more)

  -- what is pending for a port is what was sent on its channel
  abbrev pub IsTied : World S → Type 0
  IsTied w = (k : ℕ) (ch : Channel) → slice_get (channels net.links) k ≡ Some ch → waiting_at ch.to w.pending ≡ stamped ch (sends_on ch w)

  reaction_keeps_tied : (t c : ℕ) (w : World S) (run : Run S) (r : Reaction S) → slice_get w.runs c ≡ Some run → IsTied w → IsTied (with_reaction net t c w run r)
  reaction_keeps_tied t c w run r there tied k ch is = waiting_at-append ch.to w.pending new_events ∙ at (eqb c ch.from.component) refl
    where
      new : List Sent
      new = sent_at t r.sends

      new_events : List Event
      new_events = events_of (channels net.links) c run.sent new

      grown : List (Run S)
      grown = slice_set w.runs c (after t run r)

      at : (b : Bool) → eqb c ch.from.component ≡ b → waiting_at ch.to w.pending ++ waiting_at ch.to new_events ≡ stamped ch (sends_by ch.from.port (sent_in (slice_get grown ch.from.component)))
      at true e = ap₂ ◌++◌ (tied k ch is ∙ ap (λ o. stamped ch (sends_by ch.from.port (sent_in o))) (ap (slice_get w.runs) (sym own) ∙ there)) (ap (λ x. waiting_at ch.to (events_of (channels net.links) x run.sent new)) own ∙ waiting_at-own k ch is run.sent new) ∙ sym (stamped_after-append ch [] (sends_by ch.from.port run.sent) (sends_by ch.from.port new)) ∙ ap (stamped ch) (sym (filter-append (λ s. eqb s.port ch.from.port) run.sent new)) ∙ ap (λ o. stamped ch (sends_by ch.from.port (sent_in o))) (sym (ap (slice_get grown) (sym own) ∙ slice_get-set_same w.runs c run (after t run r) there))
        where
          own : c ≡ ch.from.component
          own = eqb-true _ _ e
      at false e = ap₂ ◌++◌ (tied k ch is) (waiting_at-other k ch is c (eqb-false _ _ e) run.sent new) ∙ append-nil (stamped ch (sends_on ch w)) ∙ ap (λ o. stamped ch (sends_by ch.from.port (sent_in o))) (sym (slice_get-set_other w.runs c ch.from.component (after t run r) (eqb-false _ _ e)))

  turn_keeps_tied : (t c : ℕ) (w : World S) → IsTied w → IsTied (turn_of net t c w (slice_get w.runs c))
  turn_keeps_tied t c w tied = at (slice_get w.runs c) refl
    where
      at : (o : Option (Run S)) → slice_get w.runs c ≡ o → IsTied (turn_of net t c w o)
      at None e = tied
      at (Some run) e = reaction_keeps_tied t c w run (react net.behaviour t (arrivals_for net t c w) run.state) e tied

  pub slot_keeps_tied : (t n : ℕ) (w : World S) → IsTied w → IsTied (slot net t n w)
  unfolding slot
  slot_keeps_tied t zero w tied = tied
  slot_keeps_tied t (suc c) w tied = turn_keeps_tied t c (slot net t c w) (slot_keeps_tied t c w tied)

  start_is_tied : IsTied (start_world net)
  unfolding stamped_after
  start_is_tied k ch is = at net.starts ch.from.component
    where
      at : (starts : List S) (c : ℕ) → [] ≡ stamped_after ch [] (sends_by ch.from.port (sent_in (slice_get (map start_run starts) c)))
      at [] c = refl
      at (s ∷ more) zero = refl
      at (s ∷ more) (suc c) = at more c

  pub until_is_tied : (t : ℕ) → IsTied (global_until net t)
  unfolding global_until
  until_is_tied zero = start_is_tied
  until_is_tied (suc t) = slot_keeps_tied t (length net.starts) (global_until net t) (until_is_tied t)
