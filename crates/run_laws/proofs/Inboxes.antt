-- What waits in the inboxes, before an event and after it.
use Rattle.std.proofs.Common.{◌≡◌, ℕ, zero, suc, ◌+◌, ◌<◌, ◌≤◌, ◌⊎◌, inl, inr, Bool, true, false, cond, eqb, List, [], ◌∷◌, ◌++◌, length, Some, refl, sym, ap, ap₂, ◌∙◌, subst, arith, append_assoc, append-nil, length-append, eq-or-lt_of_le, add_comm}
use Rattle.std.proofs.lemmas.Bool.{cond-true, cond-false, eqb-true, eqb-false, eq-eqb, ne_eqb, false≢true}
use Rattle.std.proofs.lemmas.List.Elements.{filter-append}
use Rattle.std.specs.List.{AllByRecursion}
use Rattle.sb_message.specs.Receivable.{is_event}
use Rattle.sb_message.specs.declared.message.Msg.{Msg}
use Rattle.device_api.specs.Behaviour.{Behaviour}
use Rattle.device_api.specs.Channels.{Channel}
use Rattle.device_api.specs.World.{Arrival, arrivals_on, arrivals}
use Rattle.device_api.specs.Transcript.{RisesFrom, bound_from, bound_of, bodies}
use Rattle.device_api.specs.Position.{Key, Position, next_key, is_at_most, is_reached, message_key, arrivals_upto}
use Rattle.run_laws.specs.NextEvent.{AreReached, AreAhead, AreInboxes, IsBeforeHead, IsNextTake, ComesAfter, head_key, with_port}
use Rattle.run_laws.proofs.Lists.{each-back, each-filter}
use Rattle.run_laws.proofs.Times.{rises_above}
use Rattle.run_laws.proofs.Timestamps.{rises-append, within_bound}
use Rattle.run_laws.proofs.Keys.{missed_after, reached_still, at_most_itself, next_is_after, message_before_next, message_before_port}
use Rattle.run_laws.proofs.Heard.{arrivals_on-both}

reached_still_all : (position : Position) (last : Key) (port i : ℕ) (xs : List Msg) → is_reached position last ≡ false → AreReached position port i xs → AreReached (Some last) port i xs
unfolding AreReached
reached_still_all position last port i [] later reached = tt
reached_still_all position last port i (m ∷ more) later reached = (reached_still position last (message_key m.at port i) later reached.0, reached_still_all position last port (suc i) more later reached.1)

reached_one_more : (position : Position) (port i : ℕ) (xs : List Msg) (m : Msg) → AreReached position port i xs → is_reached position (message_key m.at port (length xs + i)) ≡ true → AreReached position port i (xs ++ m ∷ [])
unfolding AreReached
reached_one_more position port i [] m reached now = (subst (λ n. is_reached position (message_key m.at port n) ≡ true) (let same : 0 + i ≡ i = omega arith in same) now, tt)
reached_one_more position port i (x ∷ xs) m reached now = (reached.0, reached_one_more position port (suc i) xs m reached.1 (subst (λ n. is_reached position (message_key m.at port n) ≡ true) (let same : suc (length xs) + i ≡ length xs + suc i = omega arith in same) now))

-- bodies not before one that is ahead are ahead
ahead_all : (position : Position) (port low n i : ℕ) (xs : List Msg) → is_reached position (message_key low port n) ≡ false → n ≤ i → AllByRecursion (λ m. low ≤ m.at) xs → AreAhead position port i xs
unfolding AreAhead
ahead_all position port low n i [] ahead le above = tt
ahead_all position port low n i (m ∷ more) ahead le above = (missed_after position (message_key low port n) (message_key m.at port i) (message_before_next low m.at port n i above.0 le) ahead, ahead_all position port low n (suc i) more ahead (omega arith) above.1)

ahead_one_more : (position : Position) (port i : ℕ) (xs : List Msg) (m : Msg) → AreAhead position port i xs → is_reached position (message_key m.at port (length xs + i)) ≡ false → AreAhead position port i (xs ++ m ∷ [])
unfolding AreAhead
ahead_one_more position port i [] m ahead now = (subst (λ n. is_reached position (message_key m.at port n) ≡ false) (let same : 0 + i ≡ i = omega arith in same) now, tt)
ahead_one_more position port i (x ∷ xs) m ahead now = (ahead.0, ahead_one_more position port (suc i) xs m ahead.1 (subst (λ n. is_reached position (message_key m.at port n) ≡ false) (let same : suc (length xs) + i ≡ length xs + suc i = omega arith in same) now))

-- where the head is ahead all that waits is
ahead_from_head : (position : Position) (port low i : ℕ) (xs : List Msg) → RisesFrom low xs → ((m : Msg) (more : List Msg) → xs ≡ m ∷ more → is_reached position (message_key m.at port i) ≡ false) → AreAhead position port i xs
unfolding RisesFrom AreAhead
ahead_from_head position port low i [] rises head = tt
ahead_from_head position port low i (m ∷ more) rises head = (head m more refl, ahead_all position port m.at i (suc i) more (head m more refl) (omega arith) (rises_above m.at more rises.1))

pub rises-back : (low : ℕ) (xs ys : List Msg) → RisesFrom low (xs ++ ys) → RisesFrom (bound_from low xs) ys
unfolding RisesFrom bound_from
rises-back low [] ys rises = rises
rises-back low (x ∷ xs) ys rises = rises-back x.at xs ys rises.1

-- what was taken of the arrivals is what arrives of the bodies that were handled
reached_on : (position : Position) (u port i : ℕ) (xs : List Msg) → AreReached position port i xs → arrivals_upto position u (arrivals_on u port i xs) ≡ arrivals_on u port i xs
unfolding AreReached arrivals_on
reached_on position u port i [] reached = refl
reached_on position u port i (m ∷ more) reached = at (reached_on position u port (suc i) more reached.1) (eqb m.at u) refl
  where
    rest : List Arrival
    rest = arrivals_on u port (suc i) more

    at : arrivals_upto position u rest ≡ rest → (b : Bool) → eqb m.at u ≡ b → arrivals_upto position u (cond b (record { port = port; number = i; body = m.body } ∷ rest) rest) ≡ cond b (record { port = port; number = i; body = m.body } ∷ rest) rest
    at same false e = same
    at same true e = cond-true (is_reached position (message_key u port i)) _ (arrivals_upto position u rest) (ap (λ t. is_reached position (message_key t port i)) (sym (eqb-true m.at u e)) ∙ reached.0) ∙ ap (λ l. record { port = port; number = i; body = m.body } ∷ l) same

ahead_on : (position : Position) (u port i : ℕ) (xs : List Msg) → AreAhead position port i xs → arrivals_upto position u (arrivals_on u port i xs) ≡ []
unfolding AreAhead arrivals_on
ahead_on position u port i [] ahead = refl
ahead_on position u port i (m ∷ more) ahead = at (ahead_on position u port (suc i) more ahead.1) (eqb m.at u) refl
  where
    rest : List Arrival
    rest = arrivals_on u port (suc i) more

    at : arrivals_upto position u rest ≡ [] → (b : Bool) → eqb m.at u ≡ b → arrivals_upto position u (cond b (record { port = port; number = i; body = m.body } ∷ rest) rest) ≡ []
    at none false e = none
    at none true e = cond-false (is_reached position (message_key u port i)) _ (arrivals_upto position u rest) (ap (λ t. is_reached position (message_key t port i)) (sym (eqb-true m.at u e)) ∙ ahead.0) ∙ none

module _ (position : Position) (ports : ℕ) (inputs handled inbox : ℕ → List Msg) (boxes : AreInboxes position ports inputs handled inbox) where
  pub taken_upto : (u n : ℕ) → n ≤ ports → arrivals_upto position u (arrivals u inputs n) ≡ arrivals u handled n
  unfolding arrivals
  taken_upto u zero le = refl
  taken_upto u (suc port) le = filter-append _ (arrivals u inputs port) (arrivals_on u port 0 (inputs port)) ∙ ap₂ ◌++◌ (taken_upto u port (omega arith)) on_port
    where
      on_port : arrivals_upto position u (arrivals_on u port 0 (inputs port)) ≡ arrivals_on u port 0 (handled port)
      on_port = ap (λ l. arrivals_upto position u (arrivals_on u port 0 l)) (boxes.whole port le) ∙ ap (arrivals_upto position u) (arrivals_on-both u port 0 (handled port) (inbox port)) ∙ filter-append _ (arrivals_on u port 0 (handled port)) (arrivals_on u port (length (handled port) + 0) (inbox port)) ∙ ap₂ ◌++◌ (reached_on position u port 0 (handled port) (boxes.reached port le)) (ahead_on position u port (length (handled port) + 0) (inbox port) (subst (λ n. AreAhead position port n (inbox port)) (let same : length (handled port) ≡ length (handled port) + 0 = omega arith in same) (boxes.waits port le))) ∙ append-nil (arrivals_on u port 0 (handled port))

  -- after an event before all that waits the inboxes are the same
  pub boxes_stay : (last : Key) → is_reached position last ≡ false → ((port : ℕ) → port < ports → IsBeforeHead last port (handled port) (inbox port)) → AreInboxes (Some last) ports inputs handled inbox
  boxes_stay last later before = record {
    rises = boxes.rises;
    whole = boxes.whole;
    reached = λ port lt. reached_still_all position last port 0 (handled port) later (boxes.reached port lt);
    waits = λ port lt. ahead_from_head (Some last) port (bound_from 0 (handled port)) (length (handled port)) (inbox port) (rises-back 0 (handled port) (inbox port) (subst (RisesFrom 0) (boxes.whole port lt) (boxes.rises port lt))) (before port lt);
  }

  -- after a message was received it waits last in its inbox
  pub boxes_receive : (port : ℕ) (m : Msg) → ComesAfter position inputs port m → AreInboxes position ports (with_port port (inputs port ++ m ∷ []) inputs) handled (with_port port (inbox port ++ m ∷ []) inbox)
  unfolding RisesFrom
  boxes_receive port m comes = record {
    rises = λ other lt. rises_at other lt (eqb other port) refl;
    whole = λ other lt. whole_at other lt (eqb other port) refl;
    reached = boxes.reached;
    waits = λ other lt. waits_at other lt (eqb other port) refl;
  }
    where
      rises_at : (other : ℕ) → other < ports → (own : Bool) → eqb other port ≡ own → RisesFrom 0 (cond own (inputs port ++ m ∷ []) (inputs other))
      rises_at other lt false e = boxes.rises other lt
      rises_at other lt true e = rises-append 0 (inputs port) (m ∷ []) (ap_port (λ q. RisesFrom 0 (inputs q)) other e (boxes.rises other lt)) (comes.rises, tt)
        where
          ap_port : (P : ℕ → Type 0) (q : ℕ) → eqb q port ≡ true → P q → P port
          ap_port P q is here = subst P (eqb-true q port is) here

      whole_at : (other : ℕ) → other < ports → (own : Bool) → eqb other port ≡ own → cond own (inputs port ++ m ∷ []) (inputs other) ≡ handled other ++ cond own (inbox port ++ m ∷ []) (inbox other)
      whole_at other lt false e = boxes.whole other lt
      whole_at other lt true e = ap (λ q. inputs q ++ m ∷ []) (sym (eqb-true other port e)) ∙ ap (λ l. l ++ m ∷ []) (boxes.whole other lt) ∙ append_assoc (handled other) (inbox other) (m ∷ []) ∙ ap (λ q. handled other ++ (inbox q ++ m ∷ [])) (eqb-true other port e)

      waits_at : (other : ℕ) → other < ports → (own : Bool) → eqb other port ≡ own → AreAhead position other (length (handled other)) (cond own (inbox port ++ m ∷ []) (inbox other))
      waits_at other lt false e = boxes.waits other lt
      waits_at other lt true e = subst (λ q. AreAhead position other (length (handled other)) (inbox q ++ m ∷ [])) (eqb-true other port e) (ahead_one_more position other (length (handled other)) (inbox other) m (boxes.waits other lt) (subst (λ n. is_reached position (message_key m.at other n) ≡ false) (ap length (boxes.whole other lt) ∙ length-append (handled other) (inbox other) ∙ add_comm (length (handled other)) (length (inbox other))) (subst (λ q. is_reached position (message_key m.at q (length (inputs q))) ≡ false) (sym (eqb-true other port e)) comes.ahead)))

module _ {S : Type 0} (b : Behaviour S) (position : Position) (ports : ℕ) (inputs handled inbox : ℕ → List Msg) (boxes : AreInboxes position ports inputs handled inbox) (state : S) (port : ℕ) (m : Msg) (more : List Msg) (next : IsNextTake b ports handled inbox state port m more) where
  -- the head is ahead of the position
  pub head_is_ahead : is_reached position (head_key handled port m) ≡ false
  unfolding AreAhead
  head_is_ahead = let waiting : AreAhead position port (length (handled port)) (m ∷ more) = subst (AreAhead position port (length (handled port))) next.head (boxes.waits port next.at_port) in waiting.0

  -- after a take its message has left its inbox
  pub boxes_take : AreInboxes (Some (head_key handled port m)) ports inputs (with_port port (handled port ++ m ∷ []) handled) (with_port port more inbox)
  unfolding RisesFrom
  boxes_take = record {
    rises = boxes.rises;
    whole = λ other lt. whole_at other lt (eqb other port) refl;
    reached = λ other lt. reached_at other lt (eqb other port) refl;
    waits = λ other lt. waits_at other lt (eqb other port) refl;
  }
    where
      last : Key
      last = head_key handled port m

      whole_at : (other : ℕ) → other < ports → (own : Bool) → eqb other port ≡ own → inputs other ≡ cond own (handled port ++ m ∷ []) (handled other) ++ cond own more (inbox other)
      whole_at other lt false e = boxes.whole other lt
      whole_at other lt true e = ap inputs (eqb-true other port e) ∙ boxes.whole port next.at_port ∙ ap (λ l. handled port ++ l) next.head ∙ sym (append_assoc (handled port) (m ∷ []) more)

      reached_at : (other : ℕ) → other < ports → (own : Bool) → eqb other port ≡ own → AreReached (Some last) other 0 (cond own (handled port ++ m ∷ []) (handled other))
      reached_at other lt false e = reached_still_all position last other 0 (handled other) head_is_ahead (boxes.reached other lt)
      reached_at other lt true e = subst (λ q. AreReached (Some last) q 0 (handled port ++ m ∷ [])) (sym (eqb-true other port e)) (reached_one_more (Some last) port 0 (handled port) m (reached_still_all position last port 0 (handled port) head_is_ahead (boxes.reached port next.at_port)) (subst (λ n. is_reached (Some last) (message_key m.at port n) ≡ true) (let same : length (handled port) ≡ length (handled port) + 0 = omega arith in same) (at_most_itself last)))

      rises_after : RisesFrom (bound_from 0 (handled port)) (m ∷ more)
      rises_after = rises-back 0 (handled port) (m ∷ more) (subst (RisesFrom 0) (boxes.whole port next.at_port ∙ ap (λ l. handled port ++ l) next.head) (boxes.rises port next.at_port))

      waits_at : (other : ℕ) → other < ports → (own : Bool) → eqb other port ≡ own → AreAhead (Some last) other (length (cond own (handled port ++ m ∷ []) (handled other))) (cond own more (inbox other))
      waits_at other lt false e = ahead_from_head (Some last) other (bound_from 0 (handled other)) (length (handled other)) (inbox other) (rises-back 0 (handled other) (inbox other) (subst (RisesFrom 0) (boxes.whole other lt) (boxes.rises other lt))) (next.before_others other lt (eqb-false other port e))
      waits_at other lt true e = subst (λ q. AreAhead (Some last) q (length (handled port ++ m ∷ [])) more) (sym (eqb-true other port e)) (ahead_all (Some last) port m.at (suc (length (handled port))) (length (handled port ++ m ∷ [])) more (next_is_after m.at port (length (handled port))) (let longer : length (handled port ++ m ∷ []) ≡ length (handled port) + 1 = length-append (handled port) (m ∷ []) in omega arith) (rises_above m.at more rises_after.1))

  -- on a later port nothing that arrives with the head was handled
  later_port : (other i : ℕ) (xs : List Msg) → port < other → AreReached position other i xs → arrivals_on m.at other i xs ≡ []
  unfolding AreReached arrivals_on
  later_port other i [] lt reached = refl
  later_port other i (x ∷ xs) lt reached = at (later_port other (suc i) xs lt reached.1) (eqb x.at m.at) refl
    where
      at : arrivals_on m.at other (suc i) xs ≡ [] → (b : Bool) → eqb x.at m.at ≡ b → cond b (record { port = other; number = i; body = x.body } ∷ arrivals_on m.at other (suc i) xs) (arrivals_on m.at other (suc i) xs) ≡ []
      at none false e = none
      at none true e = absurd (false≢true (sym (missed_after position (head_key handled port m) (message_key x.at other i) (subst (λ t. is_at_most (head_key handled port m) (message_key t other i) ≡ true) (sym (eqb-true x.at m.at e)) (message_before_port m.at port other (length (handled port)) i lt)) head_is_ahead) ∙ reached.0))

  -- the arrival of the head
  abbrev pub here : Arrival
  here = record { port = port; number = length (handled port) + 0; body = m.body }

  -- the head arrives at its own time alone
  head_arrives : (u : ℕ) → arrivals_on u port 0 (handled port ++ m ∷ []) ≡ arrivals_on u port 0 (handled port) ++ cond (eqb m.at u) (here ∷ []) []
  unfolding arrivals_on
  head_arrives u = arrivals_on-both u port 0 (handled port) (m ∷ [])

  pub arrivals_elsewhen : (u n : ℕ) → (m.at ≡ u → ⊥) → arrivals u (with_port port (handled port ++ m ∷ []) handled) n ≡ arrivals u handled n
  unfolding arrivals
  arrivals_elsewhen u zero other_time = refl
  arrivals_elsewhen u (suc q) other_time = ap₂ ◌++◌ (arrivals_elsewhen u q other_time) (at (eqb q port) refl)
    where
      at : (own : Bool) → eqb q port ≡ own → arrivals_on u q 0 (cond own (handled port ++ m ∷ []) (handled q)) ≡ arrivals_on u q 0 (handled q)
      at false e = refl
      at true e = ap (λ x. arrivals_on u x 0 (handled port ++ m ∷ [])) (eqb-true q port e) ∙ head_arrives u ∙ ap (λ l. arrivals_on u port 0 (handled port) ++ l) (cond-false (eqb m.at u) (here ∷ []) [] (ne_eqb m.at u other_time)) ∙ append-nil (arrivals_on u port 0 (handled port)) ∙ ap (λ x. arrivals_on u x 0 (handled x)) (sym (eqb-true q port e))

  arrivals_below : (n : ℕ) → n ≤ port → arrivals m.at (with_port port (handled port ++ m ∷ []) handled) n ≡ arrivals m.at handled n
  unfolding arrivals
  arrivals_below zero le = refl
  arrivals_below (suc q) le = ap₂ ◌++◌ (arrivals_below q (omega arith)) (ap (λ (l : List Msg). arrivals_on m.at q 0 l) (cond-false (eqb q port) (handled port ++ m ∷ []) (handled q) (ne_eqb q port (λ e. omega arith))))

  -- at its time the head comes after all that was handled
  pub arrivals_then : (n : ℕ) → port < n → n ≤ ports → arrivals m.at (with_port port (handled port ++ m ∷ []) handled) n ≡ arrivals m.at handled n ++ here ∷ []
  unfolding arrivals
  arrivals_then zero lt le = absurd (omega arith)
  arrivals_then (suc q) lt le = at (λ lt'. arrivals_then q lt' (omega arith)) (eq-or-lt_of_le (let before : port ≤ q = omega arith in before))
    where
      own_port : (q : ℕ) → port ≡ q → arrivals m.at (with_port port (handled port ++ m ∷ []) handled) q ++ arrivals_on m.at q 0 (with_port port (handled port ++ m ∷ []) handled q) ≡ (arrivals m.at handled q ++ arrivals_on m.at q 0 (handled q)) ++ here ∷ []
      own_port q e = ap₂ ◌++◌ (arrivals_below q (omega arith)) (ap (λ (l : List Msg). arrivals_on m.at q 0 l) (cond-true (eqb q port) (handled port ++ m ∷ []) (handled q) (eq-eqb q port (sym e))) ∙ ap (λ x. arrivals_on m.at x 0 (handled port ++ m ∷ [])) (sym e) ∙ head_arrives m.at ∙ ap₂ ◌++◌ (ap (λ x. arrivals_on m.at x 0 (handled x)) e) (cond-true (eqb m.at m.at) (here ∷ []) [] (eq-eqb m.at m.at refl))) ∙ sym (append_assoc (arrivals m.at handled q) (arrivals_on m.at q 0 (handled q)) (here ∷ []))

      at : (port < q → arrivals m.at (with_port port (handled port ++ m ∷ []) handled) q ≡ arrivals m.at handled q ++ here ∷ []) → (port ≡ q) ⊎ (port < q) → arrivals m.at (with_port port (handled port ++ m ∷ []) handled) q ++ arrivals_on m.at q 0 (with_port port (handled port ++ m ∷ []) handled q) ≡ (arrivals m.at handled q ++ arrivals_on m.at q 0 (handled q)) ++ here ∷ []
      at before (inl e) = own_port q e
      at before (inr lt') = ap₂ ◌++◌ (before lt') (ap (λ (l : List Msg). arrivals_on m.at q 0 l) (cond-false (eqb q port) (handled port ++ m ∷ []) (handled q) (ne_eqb q port (λ e. omega arith))) ∙ none) ∙ append-nil (arrivals m.at handled q ++ here ∷ []) ∙ ap (λ l. l ++ here ∷ []) (sym (append-nil (arrivals m.at handled q)) ∙ ap (λ l. arrivals m.at handled q ++ l) (sym none))
        where
          none : arrivals_on m.at q 0 (handled q) ≡ []
          none = later_port q 0 (handled q) lt' (boxes.reached q le)

-- nothing that comes in later was missed, where that is so for an empty inbox
pub nothing_missed : (position : Position) (ch : Channel) (received handled inbox : List Msg) → RisesFrom 0 received → bodies received ≡ handled ++ inbox → AreAhead position ch.to.port (length handled) inbox → (inbox ≡ [] → is_reached position (next_key ch received) ≡ false) → is_reached position (next_key ch received) ≡ false
unfolding AreAhead
nothing_missed position ch received handled [] rises whole ahead none = none refl
nothing_missed position ch received handled (m ∷ more) rises whole ahead none = missed_after position (message_key m.at ch.to.port (length handled)) (next_key ch received) (message_before_next m.at (bound_of received) ch.to.port (length handled) (length (bodies received)) (each-back (λ x. x.at ≤ bound_of received) handled (m ∷ more) (subst (AllByRecursion (λ x. x.at ≤ bound_of received)) whole (each-filter (λ x. x.at ≤ bound_of received) (λ x. is_event x.body) received (within_bound 0 received rises).0))).0 (let longer : length (bodies received) ≡ length handled + length (m ∷ more) = ap length whole ∙ length-append handled (m ∷ more) in omega arith)) ahead.0
