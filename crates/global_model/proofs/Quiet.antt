-- A moment at which nothing happens changes nothing, so a run may go from event to event.
use Rattle.std.specs.Prelude.{ℕ, ◌≡◌, ◌+◌, ◌-◌, ◌≤◌, ◌<◌, zero, suc, false, if◌then◌else◌, List, [], ◌++◌, length, slice_get, slice_set, Option, Some, None, refl, ◌⊎◌}
use Rattle.std.proofs.lemmas.Bool.Decides.{nat_tests}
use Rattle.std.proofs.Common.{subst, sym, ap, ◌∙◌, append-nil, arith, ⊎_elim}
use Rattle.std.proofs.lemmas.List.{set-get_or}
use Rattle.std.proofs.lemmas.Option.{get_or_from_slice_get}
use Rattle.moment_tree.specs.Places.{clock}
use Rattle.global_model.specs.UnderWay.{world_at}
use Rattle.device_api.specs.World.{Arrival, followed_by, rest, take_all, react, is_at, Run, World, Network, events_of, arrivals_for, with_reaction, turn_of, slot, global_until}

pub clock_at : (t c d : ℕ) → c ≤ d → clock t c d ≡ t
clock_at t c d le = grind (arith, nat_tests)

pub clock_past : (t c d : ℕ) → d < c → clock t c d ≡ t + 1
clock_past t c d lt = grind (arith, nat_tests)

pub clock_low : (t c d : ℕ) → t ≤ clock t c d
clock_low t c d = grind (arith, nat_tests)

pub clock_high : (t c d : ℕ) → clock t c d ≤ t + 1
clock_high t c d = grind (arith, nat_tests)

-- a list is as it was where an element is replaced by itself
pub set_itself : {X : Type 0} (xs : List X) (i : ℕ) (x : X) → slice_get xs i ≡ Some x → slice_set xs i x ≡ xs
set_itself xs i x is = ap (slice_set xs i) (sym (get_or_from_slice_get xs i x x is)) ∙ set-get_or xs i x

-- nothing happens for component d at u
pub record Rests {S : Type 0} (net : Network S) (u d : ℕ) (w : World S) : Type 0 where
  pub none_arrives : arrivals_for net u d w ≡ []
  pub not_due : (run : Run S) → slice_get w.runs d ≡ Some run → is_at (net.behaviour.due run.state) u ≡ false

module _ {S : Type 0} (net : Network S) where
  react_rests : (u : ℕ) (arrivals : List Arrival) (s : S) → arrivals ≡ [] → is_at (net.behaviour.due s) u ≡ false → react net.behaviour u arrivals s ≡ rest s
  unfolding take_all
  react_rests u arrivals s none not_due = ap (λ xs. react net.behaviour u xs s) none ∙ ap (λ now. followed_by (rest s) (λ _. if now then net.behaviour.tick s u else rest s)) not_due

  with_rest : (u d : ℕ) (w : World S) (run : Run S) → slice_get w.runs d ≡ Some run → with_reaction net u d w run (rest run.state) ≡ w
  unfolding events_of
  with_rest u d w run is =
      ap (λ log. record { runs = slice_set w.runs d (record { state = run.state; log = log; sent = run.sent ++ [] }); pending = w.pending ++ [] }) (append-nil run.log)
      ∙ ap (λ sent. record { runs = slice_set w.runs d (record { state = run.state; log = run.log; sent = sent }); pending = w.pending ++ [] }) (append-nil run.sent)
      ∙ ap (λ runs. record { runs = runs; pending = w.pending ++ [] }) (set_itself w.runs d run is)
      ∙ ap (λ pending. record { runs = w.runs; pending = pending }) (append-nil w.pending)

  pub turn_rests : (u d : ℕ) (w : World S) → Rests net u d w → turn_of net u d w (slice_get w.runs d) ≡ w
  turn_rests u d w rests = at (slice_get w.runs d) refl
    where
      at : (found : Option (Run S)) → slice_get w.runs d ≡ found → turn_of net u d w found ≡ w
      at None is = refl
      at (Some run) is = ap (with_reaction net u d w run) (react_rests u (arrivals_for net u d w) run.state rests.none_arrives (rests.not_due run is)) ∙ with_rest u d w run is

  -- the turns of k components at which nothing happens
  turns_rest : (t c : ℕ) (w : World S) (k : ℕ) → world_at net t c ≡ w → ((d : ℕ) → c ≤ d → d < c + k → Rests net t d w) → world_at net t (c + k) ≡ w
  unfolding slot
  turns_rest t c w zero is rests = let none : c + 0 ≡ c = omega arith in subst (λ n. world_at net t n ≡ w) (sym none) is
  turns_rest t c w (suc k) is rests =
      let one_more : c + suc k ≡ suc (c + k) = omega arith in
      let before : world_at net t (c + k) ≡ w = turns_rest t c w k is (λ d le lt. rests d le (omega arith)) in
      subst (λ n. world_at net t n ≡ w) (sym one_more) (ap (λ so_far. turn_of net t (c + k) so_far (slice_get so_far.runs (c + k))) before ∙ turn_rests t (c + k) w (rests (c + k) (omega arith) (omega arith)))

  -- k moments at which nothing happens
  moments_rest : (t : ℕ) (w : World S) (k : ℕ) → global_until net t ≡ w → ((u d : ℕ) → t ≤ u → u < t + k → d < length net.starts → Rests net u d w) → global_until net (t + k) ≡ w
  unfolding slot global_until
  moments_rest t w zero is rests = let none : t + 0 ≡ t = omega arith in subst (λ n. global_until net n ≡ w) (sym none) is
  moments_rest t w (suc k) is rests =
      let one_more : t + suc k ≡ suc (t + k) = omega arith in
      let before : global_until net (t + k) ≡ w = moments_rest t w k is (λ u d le lt below. rests u d le (omega arith) below) in
      let all : 0 + length net.starts ≡ length net.starts = omega arith in
      let turns : world_at net (t + k) (0 + length net.starts) ≡ w = turns_rest (t + k) 0 w (length net.starts) before (λ d le lt. rests (t + k) d (omega arith) (omega arith) (omega arith)) in
      subst (λ n. global_until net n ≡ w) (sym one_more) (subst (λ n. world_at net (t + k) n ≡ w) all turns)

  pub next_moment : (t : ℕ) → world_at net t (length net.starts) ≡ global_until net (suc t)
  unfolding global_until
  next_moment t = refl

  pub moment_begins : (t : ℕ) → world_at net t 0 ≡ global_until net t
  unfolding slot
  moment_begins t = refl

  -- nothing happens from one place of the run to another, so the world is the same
  pub jump : (t c t' c' : ℕ) (w : World S) → c ≤ length net.starts → c' ≤ length net.starts → (t < t') ⊎ ((t ≡ t') × (c ≤ c')) → ((u d : ℕ) → d < length net.starts → clock t c d ≤ u → u < clock t' c' d → Rests net u d w) → world_at net t c ≡ w → world_at net t' c' ≡ w
  jump t c t' c' w in_range in_range' order rests is = ⊎_elim later same order
    where
      same : (t ≡ t') × (c ≤ c') → world_at net t' c' ≡ w
      same e =
          let same_time : t ≡ t' = e.0 in
          let le : c ≤ c' = e.1 in
          let way : c + (c' - c) ≡ c' = omega arith in
          let turns : world_at net t (c + (c' - c)) ≡ w = turns_rest t c w (c' - c) is (λ d c_le lt.
          let below : d < c' = omega arith in
          let at_turn : clock t c d ≡ t = clock_at t c d c_le in
          let past : clock t' c' d ≡ t' + 1 = clock_past t' c' d below in
          rests t d (omega arith) (omega arith) (omega arith)) in
          subst (λ u. world_at net u c' ≡ w) same_time (subst (λ n. world_at net t n ≡ w) way turns)

      later : t < t' → world_at net t' c' ≡ w
      later lt =
          let all : c + (length net.starts - c) ≡ length net.starts = omega arith in
          let turns : world_at net t (c + (length net.starts - c)) ≡ w = turns_rest t c w (length net.starts - c) is (λ d le below.
          let at_turn : clock t c d ≡ t = clock_at t c d le in
          let low : t' ≤ clock t' c' d = clock_low t' c' d in
          rests t d (omega arith) (omega arith) (omega arith)) in
          let slot_over : global_until net (suc t) ≡ w = sym (next_moment t) ∙ subst (λ n. world_at net t n ≡ w) all turns in
          let gap : suc t + (t' - suc t) ≡ t' = omega arith in
          let moments : global_until net (suc t + (t' - suc t)) ≡ w = moments_rest (suc t) w (t' - suc t) slot_over (λ u d le below in_net.
          let high : clock t c d ≤ t + 1 = clock_high t c d in
          let low : t' ≤ clock t' c' d = clock_low t' c' d in
          rests u d in_net (omega arith) (omega arith)) in
          let begun : world_at net t' 0 ≡ w = moment_begins t' ∙ subst (λ u. global_until net u ≡ w) gap moments in
          let from_none : 0 + c' ≡ c' = omega arith in
          subst (λ n. world_at net t' n ≡ w) from_none (turns_rest t' 0 w c' begun (λ d le below.
          let below' : d < c' = omega arith in
          let high : clock t c d ≤ t + 1 = clock_high t c d in
          let past : clock t' c' d ≡ t' + 1 = clock_past t' c' d below' in
          rests t' d (omega arith) (omega arith) (omega arith)))
