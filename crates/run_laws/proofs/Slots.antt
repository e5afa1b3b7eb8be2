-- The global run of one component: in each moment it reacts to what was sent to it before.
use Rattle.std.proofs.Common.{◌≡◌, ℕ, zero, suc, ◌<◌, ◌≤◌, ◌⊎◌, inl, inr, eqb, List, [], ◌∷◌, ◌++◌, length, Option, Some, None, option_map, slice_get, refl, sym, ap, ap₂, ◌∙◌, subst, arith, append-nil, eq-or-lt_of_le, le_refl, filter, Bool, true}
use Rattle.std.proofs.lemmas.Option.{slice_get-map, slice_get_within}
use Rattle.std.proofs.lemmas.Bool.{cases_lt}
use Rattle.std.proofs.lemmas.List.Elements.{filter-append}
use Rattle.std.specs.List.{AllByRecursion}
use Rattle.sb_message.specs.declared.message.Body.{Body}
use Rattle.cs_base.specs.declared.port_kind.PortKind.{PortKind}
use Rattle.sb_message.specs.declared.message.Msg.{Msg}
use Rattle.device_api.specs.Channels.{Channel, channels}
use Rattle.device_api.specs.World.{Arrival, Network, World, Run, Sent, Event, after, react, arrivals, arrivals_on, arrivals_for, sent_at, sends_by, start_run, turn_of, slot, global_until, sent_in, sends_on, ports_in, waiting_at}
use Rattle.device_api.specs.Local.{local_until}
use Rattle.device_api.specs.Transcript.{stamped}
use Rattle.run_laws.specs.Wired.{IsWired, SendsEvents, IsChannel}
use Rattle.run_laws.proofs.Lists.{slice_get-set_same, slice_get-set_other, there_below, filter_all, each-map, each-filter}
use Rattle.run_laws.proofs.Channels.{IsJoinedChannel, ComesIn, comes_in, port_there, channel_joined, sender_of}
use Rattle.run_laws.proofs.Times.{AreSince, arrivals_on-stamped}
use Rattle.run_laws.proofs.Runs.{IsRunning, react-events}
use Rattle.run_laws.proofs.Worlds.{slot_keeps_tied, until_is_tied}

-- what is kept of what arrives, from lists that agree so at t on each port
pub arrivals_agree : (keep : Arrival → Bool) (t : ℕ) (f g : ℕ → List Msg) (ports : ℕ) → ((p : ℕ) → p < ports → filter keep (arrivals_on t p 0 (f p)) ≡ filter keep (arrivals_on t p 0 (g p))) → filter keep (arrivals t f ports) ≡ filter keep (arrivals t g ports)
unfolding arrivals
arrivals_agree keep t f g zero same = refl
arrivals_agree keep t f g (suc p) same = filter-append keep (arrivals t f p) (arrivals_on t p 0 (f p)) ∙ ap₂ ◌++◌ (arrivals_agree keep t f g p (λ q lt. same q (omega arith))) (same p (omega arith)) ∙ sym (filter-append keep (arrivals t g p) (arrivals_on t p 0 (g p)))

module _ {S : Type 0} (net : Network S) where
  turn_other : (t c j : ℕ) (w : World S) (o : Option (Run S)) → (c ≡ j → ⊥) → slice_get (turn_of net t c w o).runs j ≡ slice_get w.runs j
  turn_other t c j w None other = refl
  turn_other t c j w (Some run) other = slice_get-set_other w.runs c j (after t run (react net.behaviour t (arrivals_for net t c w) run.state)) other

  -- before its turn a component is as it was
  slot_keeps : (t n c : ℕ) (w : World S) → n ≤ c → slice_get (slot net t n w).runs c ≡ slice_get w.runs c
  unfolding slot
  slot_keeps t zero c w le = refl
  slot_keeps t (suc n) c w le = turn_other t n c (slot net t n w) (slice_get (slot net t n w).runs n) (λ e. omega arith) ∙ slot_keeps t n c w (omega arith)

  -- after its turn it has reacted
  slot_turn : (t n c : ℕ) (w : World S) (run : Run S) → c < n → slice_get w.runs c ≡ Some run → slice_get (slot net t n w).runs c ≡ Some (after t run (react net.behaviour t (arrivals_for net t c (slot net t c w)) run.state))
  unfolding slot
  slot_turn t zero c w run lt there = absurd (omega arith)
  slot_turn t (suc n) c w run lt there = at (λ lt'. slot_turn t n c w run lt' there) (eq-or-lt_of_le (let le : c ≤ n = omega arith in le))
    where
      own : (m : ℕ) → c ≡ m → slice_get (turn_of net t m (slot net t m w) (slice_get (slot net t m w).runs m)).runs c ≡ Some (after t run (react net.behaviour t (arrivals_for net t c (slot net t c w)) run.state))
      own m e = ap (λ m. slice_get (turn_of net t m (slot net t m w) (slice_get (slot net t m w).runs m)).runs c) (sym e) ∙ ap (λ o. slice_get (turn_of net t c (slot net t c w) o).runs c) before ∙ slice_get-set_same (slot net t c w).runs c run _ before
        where
          before : slice_get (slot net t c w).runs c ≡ Some run
          before = slot_keeps t c c w (le_refl c) ∙ there

      at : (c < n → slice_get (slot net t n w).runs c ≡ Some (after t run (react net.behaviour t (arrivals_for net t c (slot net t c w)) run.state))) → (c ≡ n) ⊎ (c < n) → slice_get (turn_of net t n (slot net t n w) (slice_get (slot net t n w).runs n)).runs c ≡ Some (after t run (react net.behaviour t (arrivals_for net t c (slot net t c w)) run.state))
      at rest (inl e) = own n e
      at rest (inr lt') = turn_other t n c (slot net t n w) (slice_get (slot net t n w).runs n) (λ e. omega arith) ∙ rest lt'

  -- the run of a component in the global run
  unfoldable pub global_run : ℕ → S → ℕ → Run S
  global_run c s zero = start_run s
  global_run c s (suc t) = let so_far = global_run c s t in after t so_far (react net.behaviour t (arrivals_for net t c (slot net t c (global_until net t))) so_far.state)

  pub global_is : (c : ℕ) (s : S) → slice_get net.starts c ≡ Some s → (t : ℕ) → slice_get (global_until net t).runs c ≡ Some (global_run c s t)
  unfolding global_until global_run
  global_is c s starts zero = slice_get-map start_run net.starts c ∙ ap (λ o. option_map start_run o) starts
  global_is c s starts (suc t) = slot_turn t (length net.starts) c (global_until net t) (global_run c s t) (slice_get_within net.starts c s starts) (global_is c s starts t)

  pub global_is_running : SendsEvents net.behaviour → (c : ℕ) (s : S) → IsRunning (global_run c s)
  unfolding global_run
  global_is_running only c s = record {
    reaction = λ t. react net.behaviour t (arrivals_for net t c (slot net t c (global_until net t))) (global_run c s t).state;
    starts = refl;
    adds = λ t. refl;
    events = λ t. react-events net.behaviour only t (arrivals_for net t c (slot net t c (global_until net t))) (global_run c s t).state;
  }

  -- what was sent on a channel, by the sender's run
  pub sends_are : (ch : Channel) (s : S) (kind : PortKind) → IsChannel net ch s kind → (t : ℕ) → sends_on ch (global_until net t) ≡ sends_by ch.from.port (global_run ch.from.component s t).sent
  sends_are ch s kind way t = ap (λ o. sends_by ch.from.port (sent_in o)) (global_is ch.from.component s way.sender t)

  -- in the middle of a slot some sends of that moment may be there already
  record SentInSlot (ch : Channel) (t n : ℕ) : Type 0 where
    more : List Sent
    whole : sends_on ch (slot net t n (global_until net t)) ≡ sends_on ch (global_until net t) ++ more
    since : AreSince t more

  sent_in_slot : (ch : Channel) (s : S) (kind : PortKind) → IsChannel net ch s kind → (t n : ℕ) → SentInSlot ch t n
  sent_in_slot ch s kind way t n = at (cases_lt ch.from.component n)
    where
      run : Run S
      run = global_run ch.from.component s t

      there : slice_get (global_until net t).runs ch.from.component ≡ Some run
      there = global_is ch.from.component s way.sender t

      new : List Sent
      new = sent_at t (react net.behaviour t (arrivals_for net t ch.from.component (slot net t ch.from.component (global_until net t))) run.state).sends

      all_since : (sends : List (ℕ × Body)) → AllByRecursion (λ (sent : ℕ × Body). t ≤ t) sends
      all_since [] = tt
      all_since (x ∷ more) = (le_refl t, all_since more)

      at : (ch.from.component < n) ⊎ (n ≤ ch.from.component) → SentInSlot ch t n
      at (inl lt) = record {
        more = sends_by ch.from.port new;
        whole = ap (λ o. sends_by ch.from.port (sent_in o)) (slot_turn t n ch.from.component (global_until net t) run lt there) ∙ filter-append (λ s. eqb s.port ch.from.port) run.sent new ∙ ap (λ o. sends_by ch.from.port (sent_in o) ++ sends_by ch.from.port new) (sym there);
        since = each-filter (λ s. t ≤ s.time) (λ s. eqb s.port ch.from.port) new (each-map (λ s. t ≤ s.time) _ _ (all_since _));
      }
      at (inr le) = record {
        more = [];
        whole = ap (λ o. sends_by ch.from.port (sent_in o)) (slot_keeps t n ch.from.component (global_until net t) le) ∙ sym (append-nil (sends_on ch (global_until net t)));
        since = tt;
      }

  -- inputs that sound at t as what was sent before t
  abbrev pub Sounds : (ℕ → ℕ → List Msg) → ℕ → Type 0
  Sounds inputs t = (k : ℕ) (ch : Channel) → slice_get (channels net.links) k ≡ Some ch → arrivals_on t ch.to.port 0 (inputs ch.to.component ch.to.port) ≡ arrivals_on t ch.to.port 0 (stamped ch (sends_on ch (global_until net t)))

  -- a local run that hears at each moment, on each channel, what was sent before, is the global run
  module _ {last : ℕ} (wired : IsWired net last) where
    heard_in_slot : (k : ℕ) (ch : Channel) → slice_get (channels net.links) k ≡ Some ch → (t n : ℕ) → arrivals_on t ch.to.port 0 (waiting_at ch.to (slot net t n (global_until net t)).pending) ≡ arrivals_on t ch.to.port 0 (stamped ch (sends_on ch (global_until net t)))
    heard_in_slot k ch is t n = ap (arrivals_on t ch.to.port 0) (slot_keeps_tied net wired t n (global_until net t) (until_is_tied net wired t) k ch is ∙ ap (stamped ch) in_slot.whole) ∙ arrivals_on-stamped ch t ch.to.port 0 (sends_on ch (global_until net t)) in_slot.more positive in_slot.since
      where
        in_slot : SentInSlot ch t n
        in_slot = let sender : (s : S) × (kind : PortKind) × IsChannel net ch s kind = sender_of net wired k ch is in sent_in_slot ch sender.0 sender.1 sender.2 t n

        positive : 1 ≤ ch.latency
        positive = let joined : IsJoinedChannel net ch = channel_joined net wired k ch is in omega (arith, joined.interval_least, joined.interval_most)

    -- what of the arrivals is kept, where the inputs sound so on each channel that comes in
    pub slot_heard : (keep : Arrival → Bool) (inputs : ℕ → List Msg) (t c : ℕ) (s : S) → slice_get net.starts c ≡ Some s → ((k : ℕ) (ch : Channel) → slice_get (channels net.links) k ≡ Some ch → ch.to.component ≡ c → filter keep (arrivals_on t ch.to.port 0 (inputs ch.to.port)) ≡ filter keep (arrivals_on t ch.to.port 0 (stamped ch (sends_on ch (global_until net t))))) → filter keep (arrivals t inputs (length (net.behaviour.ports s))) ≡ filter keep (arrivals_for net t c (slot net t c (global_until net t)))
    slot_heard keep inputs t c s starts sounds = arrivals_agree keep t inputs (λ p. waiting_at (record { component = c; port = p }) pending) (length (net.behaviour.ports s)) each ∙ ap (λ o. filter keep (arrivals t (λ p. waiting_at (record { component = c; port = p }) pending) (ports_in net.behaviour o))) (sym starts)
      where
        pending : List Event
        pending = (slot net t c (global_until net t)).pending

        each : (p : ℕ) → p < length (net.behaviour.ports s) → filter keep (arrivals_on t p 0 (inputs p)) ≡ filter keep (arrivals_on t p 0 (waiting_at (record { component = c; port = p }) pending))
        each p lt = subst (λ e. filter keep (arrivals_on t e.port 0 (inputs e.port)) ≡ filter keep (arrivals_on t e.port 0 (waiting_at e pending))) way.comes_to (sounds way.number way.channel way.at_number (ap (λ e. e.component) way.comes_to) ∙ sym (ap (filter keep) (heard_in_slot way.number way.channel way.at_number t c)))
          where
            kind_there : (kind : PortKind) × (slice_get (net.behaviour.ports s) p ≡ Some kind)
            kind_there = there_below (net.behaviour.ports s) p lt

            way : ComesIn net wired (record { component = c; port = p })
            way = comes_in net wired (record { component = c; port = p }) (port_there net c p s kind_there.0 starts kind_there.1)

    pub slot_step : (inputs : ℕ → ℕ → List Msg) (t c : ℕ) (s : S) → slice_get net.starts c ≡ Some s → Sounds inputs t → arrivals t (inputs c) (length (net.behaviour.ports s)) ≡ arrivals_for net t c (slot net t c (global_until net t))
    slot_step inputs t c s starts sounds = sym (filter_all _) ∙ slot_heard (λ _. true) (inputs c) t c s starts (λ k ch is own. ap (λ x. filter (λ _. true) (arrivals_on t ch.to.port 0 (inputs x ch.to.port))) (sym own) ∙ ap (filter (λ _. true)) (sounds k ch is)) ∙ filter_all _

  pub same_until : (inputs : ℕ → ℕ → List Msg) {last : ℕ} (end : ℕ) → IsWired net last → ((t : ℕ) → t < end → ((c : ℕ) (s : S) → slice_get net.starts c ≡ Some s → local_until net.behaviour (length (net.behaviour.ports s)) (inputs c) s t ≡ global_run c s t) → Sounds inputs t) → (t : ℕ) → t ≤ end → (c : ℕ) (s : S) → slice_get net.starts c ≡ Some s → local_until net.behaviour (length (net.behaviour.ports s)) (inputs c) s t ≡ global_run c s t
  unfolding local_until global_run
  same_until inputs end wired sounds zero le c s starts = refl
  same_until inputs end wired sounds (suc t) le c s starts = step (λ c s starts. same_until inputs end wired sounds t (omega arith) c s starts)
    where
      step : ((c : ℕ) (s : S) → slice_get net.starts c ≡ Some s → local_until net.behaviour (length (net.behaviour.ports s)) (inputs c) s t ≡ global_run c s t) → after t (local_until net.behaviour (length (net.behaviour.ports s)) (inputs c) s t) (react net.behaviour t (arrivals t (inputs c) (length (net.behaviour.ports s))) (local_until net.behaviour (length (net.behaviour.ports s)) (inputs c) s t).state) ≡ after t (global_run c s t) (react net.behaviour t (arrivals_for net t c (slot net t c (global_until net t))) (global_run c s t).state)
      step so_far = ap₂ (λ run arrived. after t run (react net.behaviour t arrived run.state)) (so_far c s starts) (slot_step wired inputs t c s starts (sounds t le so_far))
