-- Steps of a mesh, one after another: each lowers by one what is to come.
use Rattle.std.proofs.Common.{◌≡◌, ℕ, zero, suc, ◌+◌, ◌<◌, ◌≤◌, Bool, true, false, ◌||◌, ltb, List, [], ◌∷◌, length, Some, slice_get, ◌⊎◌, inl, inr, refl, sym, ap, ◌∙◌, subst, arith, eq-or-lt_of_le}
use Rattle.std.specs.Prelude.{slice_set}
use Rattle.std.proofs.lemmas.Bool.{ltb-true, ltb-false}
use Rattle.std.proofs.lemmas.Option.{same_Some, slice_get_within}
use Rattle.cs_base.specs.declared.link.Link.{Link}
use Rattle.device_api.specs.Behaviour.{Behaviour, IsLawful}
use Rattle.run_laws.proofs.Lists.{slice_get-set_same}
use Rattle.run_steps.specs.declared.step.Step.{Step}
use Rattle.run_steps.specs.declared.step.Step.TheVariants.{Event, Send, Poll, Take, Move, Put}
use Rattle.mesh_channel.specs.declared.carrier.Carrier.{Carrier}
use Rattle.mesh_channel.specs.declared.carrier.Carrier.TheVariants.{Direct, Framed}
use Rattle.mesh_channel.specs.Carrier.{MayMove, bytes_between}
use Rattle.sync_rule.specs.declared.runner.Runner.{Runner}
use Rattle.sync_rule.specs.Next.{IsEnabled}
use Rattle.sync_rule.specs.Events.{EventsRan, IsReadyThroughout, RanUpTo}
use Rattle.sync_rule.specs.Events.EventsRan.{none_ran, one_more}
use Rattle.mesh_core.specs.declared.way.Way.{Way}
use Rattle.mesh_core.specs.State.{State}
use Rattle.mesh_core.specs.Steps.{IsLine, Leads, Steps, counted}
use Rattle.mesh_core.specs.MeshOf.{IsMesh, IsMeshOf}
use Rattle.mesh_core.specs.ToCome.{steps_to_come, IsOneLess}
use Rattle.mesh_core.specs.Walk.{Walk, IsLessBy, WalksLowerIt, Went, IsBetween, RunsOn, MovesAll, PassesOn, Carries, RunsEach, CarriesEach, Rounds, IsRefusedIn, is_everyone}
use Rattle.mesh_core.specs.Walk.Walk.{none_made, one_more as one_step}
use Rattle.mesh_core.specs.declared.serial.Awake.{Awake}
use Rattle.mesh_core.specs.declared.serial.Awake.TheVariants.{Everyone}
use Rattle.sync_laws.specs.Whole.{of_component}
use Rattle.sync_laws.proofs.InARow.{ready_throughout}
use Rattle.mesh_core.proofs.Ends.{IsStanding, standing}
use Rattle.mesh_core.proofs.Stepped.{no_take, no_move as no_move_there, no_put}
use Rattle.mesh_core.proofs.Falling.{lowers}
use Rattle.sync_rule.proofs.Steps.{set_same}

more_to_come : (s m n k c : ℕ) → s ≡ m + n → m ≡ k + c → s ≡ k + (n + c)
more_to_come s m n k c before one = omega arith

nothing_more : (s : ℕ) → s ≡ s + 0
nothing_more s = omega arith

set_again : {X : Type 0} (xs : List X) (i : ℕ) (x y : X) → slice_set (slice_set xs i x) i y ≡ slice_set xs i y
set_again [] i x y = refl
set_again (z ∷ zs) zero x y = refl
set_again (z ∷ zs) (suc i) x y = ap (λ l. z ∷ l) (set_again zs i x y)

pub or_none : (b : Bool) → b ≡ b || false
or_none true = refl
or_none false = refl

pub or_both : (a b c : Bool) → (a || b) || c ≡ a || (b || c)
or_both true b c = refl
or_both false b c = refl

-- a step that is made counts as one at least
some_bytes : (n : ℕ) (a : Carrier) → MayMove n a → 0 < n
some_bytes n (Direct q) may = absurd may
some_bytes n (Framed c) may = (let some : 1 ≤ n = may.0 in omega arith)

all_bytes : (n : ℕ) (a : Carrier) → MayMove n a → MayMove (bytes_between a) a
all_bytes n (Direct q) may = may
all_bytes n (Framed c) may = (let some : 1 ≤ n = may.0 in let fits : n ≤ length c.pipe = may.1 in (omega arith, omega arith))

module _ {V : Type 0} (b : Behaviour V) where
  pub counts : (step : Step) (old new : State V) → Leads b step old new → 0 < counted step
  counts (Event c) old new at = omega arith
  counts (Send k) old new at = omega arith
  counts (Poll k) old new at = omega arith
  counts (Take k) old new at = omega arith
  counts (Move k n) old new at = some_bytes n at.carrier at.made.enabled
  counts (Put k) old new at = omega arith

  -- so many steps, and then so many more
  pub walk_on : (old mid : State V) (n : ℕ) → Walk b old n mid → (k : ℕ) (new : State V) → Walk b mid k new → Walk b old (n + k) new
  walk_on old mid n first _ _ none_made = subst (λ m. Walk b old m mid) (omega arith) first
  walk_on old mid n first _ _ (one_step k last new step so_far leads) = subst (λ m. Walk b old m new) (omega arith) (one_step (n + k) last new step (walk_on old mid n first k last so_far) leads)

  pub one_walk : (old new : State V) (step : Step) → Leads b step old new → Walk b old (counted step) new
  one_walk old new step leads = subst (λ m. Walk b old m new) (omega arith) (one_step 0 old new step none_made leads)

  -- the events of one component are steps of the mesh
  pub events_walk : (mesh : State V) (c : ℕ) (r : Runner V) → slice_get mesh.runners c ≡ Some r → (n : ℕ) (r' : Runner V) → EventsRan b r n r' → Walk b mesh n (record mesh { runners = slice_set mesh.runners c r' })
  events_walk mesh c r there _ _ none_ran = subst (λ l. Walk b mesh 0 (record mesh { runners = l })) (sym (set_same mesh.runners c r there)) none_made
  events_walk mesh c r there _ _ (one_more n mid new so_far event) = one_step n (record mesh { runners = slice_set mesh.runners c mid }) (record mesh { runners = slice_set mesh.runners c new }) (Event c) (events_walk mesh c r there n mid so_far) (record { before = mid; there = slice_get-set_same mesh.runners c r mid there; after = new; processed = event; is = ap (λ l. record mesh { runners = l }) (sym (set_again mesh.runners c mid new)) })

  none_ran_is : (r : Runner V) (n : ℕ) (r' : Runner V) → EventsRan b r n r' → n ≡ 0 → r' ≡ r
  none_ran_is r _ _ none_ran e = refl
  none_ran_is r _ _ (one_more n mid new so_far event) e = absurd (omega arith)

  -- GOING ON

  pub no_move : (mesh : State V) → Went b mesh mesh false
  no_move mesh = record { steps = 0; walk = none_made; some = λ e. absurd (let no : false ≡ true = e in cc); none = λ e. refl }

  pub then_went : (old mid new : State V) (first next : Bool) → Went b old mid first → Went b mid new next → Went b old new (first || next)
  then_went old mid new true next x y = record { steps = x.steps + y.steps; walk = walk_on old mid x.steps x.walk y.steps new y.walk; some = λ e. (let some : 0 < x.steps = x.some refl in omega arith); none = λ e. absurd (let no : true ≡ false = e in cc) }
  then_went old mid new false next x y = record { steps = x.steps + y.steps; walk = walk_on old mid x.steps x.walk y.steps new y.walk; some = λ e. (let some : 0 < y.steps = y.some e in omega arith); none = λ e. y.none e ∙ x.none refl }

  pub step_went : (step : Step) (old new : State V) (moved : Bool) → Steps b step old new moved → Went b old new moved
  step_went step old new true leads = record { steps = counted step; walk = one_walk old new step leads; some = λ e. counts step old new leads; none = λ e. absurd (let no : true ≡ false = e in cc) }
  step_went step old new false refused = record { steps = 0; walk = subst (Walk b old 0) (sym refused.unchanged) none_made; some = λ e. absurd (let no : false ≡ true = e in cc); none = λ e. refused.unchanged }

  pub runs_on : (awake : Awake) (mesh : State V) (c : ℕ) (r : Runner V) → slice_get mesh.runners c ≡ Some r → (r' : Runner V) (most n : ℕ) → 0 < most → RanUpTo b r r' most n → (moved : Bool) → ltb 0 n ≡ moved → RunsOn b awake c mesh (record mesh { runners = slice_set mesh.runners c r' }) moved
  runs_on awake mesh c r there r' most n some ran true e = record {
    went = record { steps = n; walk = events_walk mesh c r there n r' ran.ran; some = λ _. ltb-true 0 n e; none = λ no. absurd (let not : true ≡ false = no in cc) };
    idle = λ no. absurd (let not : true ≡ false = no in cc);
  }
  runs_on awake mesh c r there r' most n some ran false e = record {
    went = record { steps = n; walk = events_walk mesh c r there n r' ran.ran; some = λ no. absurd (let not : false ≡ true = no in cc); none = λ _. ap (λ l. record mesh { runners = l }) (ap (slice_set mesh.runners c) same ∙ set_same mesh.runners c r there) };
    idle = λ _ everyone at. ran.stopped (let least : n ≡ 0 = none in omega arith) at.leads.processed.next (subst (λ x. IsEnabled b x at.leads.processed.next) (same_Some at.leads.before r (sym at.leads.there ∙ there) ∙ sym same) at.leads.processed.enabled);
  }
    where
      none : n ≡ 0
      none = let low : n ≤ 0 = ltb-false 0 n e in omega arith

      same : r' ≡ r
      same = none_ran_is r n r' ran.ran none

  -- what is between the ends of a channel
  pub moves_all : (k n : ℕ) (way : Way) (carrier : Carrier) (old new : State V) (moved : Bool) → IsLine old k way carrier → n ≡ bytes_between carrier → Steps b (Move k n) old new moved → MovesAll b k old new moved
  moves_all k n way carrier old new true line is made = record { went = step_went (Move k n) old new true made; none = λ e. absurd (let no : true ≡ false = e in cc) }
  moves_all k n way carrier old new false line is refused = record {
    went = step_went (Move k n) old new false refused;
    none = λ _ m at. refused.not_enabled (record { way = way; carrier = carrier; line = line; enabled = subst (λ x. MayMove x carrier) (sym is) (all_bytes m carrier (subst (MayMove m) (same_Some at.carrier carrier (sym at.line.between ∙ line.between)) at.enabled)) });
  }

  pub no_bytes : (k : ℕ) (mesh : State V) → ((n : ℕ) → IsRefusedIn b mesh (Move k n)) → MovesAll b k mesh mesh false
  no_bytes k mesh refused = record { went = no_move mesh; none = λ _. refused }

  idle_between : (k : ℕ) (mesh : State V) → IsRefusedIn b mesh (Take k) → ((n : ℕ) → IsRefusedIn b mesh (Move k n)) → IsRefusedIn b mesh (Put k) → (step : Step) → IsBetween k step → IsRefusedIn b mesh step
  idle_between k mesh take move put (Event c) never = absurd never
  idle_between k mesh take move put (Send j) never = absurd never
  idle_between k mesh take move put (Poll j) never = absurd never
  idle_between k mesh take move put (Take j) same = subst (λ i. IsRefusedIn b mesh (Take i)) (sym same) take
  idle_between k mesh take move put (Move j n) same = subst (λ i. IsRefusedIn b mesh (Move i n)) (sym same) (move n)
  idle_between k mesh take move put (Put j) same = subst (λ i. IsRefusedIn b mesh (Put i)) (sym same) put

  pub passes_on : (k : ℕ) (old mid last new : State V) (taken moved put : Bool) → Steps b (Take k) old mid taken → MovesAll b k mid last moved → Steps b (Put k) last new put → PassesOn b k old new ((taken || moved) || put)
  passes_on k old mid last new true moved put t m p = record { went = then_went old last new (true || moved) put (then_went old mid last true moved (step_went (Take k) old mid true t) m.went) (step_went (Put k) last new put p); idle = λ e. absurd (let no : true ≡ false = e in cc) }
  passes_on k old mid last new false true put t m p = record { went = then_went old last new true put (then_went old mid last false true (step_went (Take k) old mid false t) m.went) (step_went (Put k) last new put p); idle = λ e. absurd (let no : true ≡ false = e in cc) }
  passes_on k old mid last new false false true t m p = record { went = then_went old last new false true (then_went old mid last false false (step_went (Take k) old mid false t) m.went) (step_went (Put k) last new true p); idle = λ e. absurd (let no : true ≡ false = e in cc) }
  passes_on k old mid last new false false false t m p = record {
    went = then_went old last new false false (then_went old mid last false false (step_went (Take k) old mid false t) m.went) (step_went (Put k) last new false p);
    idle = λ _. idle_between k old t.not_enabled (λ n. subst (λ (x : State V). IsRefusedIn b x (Move k n)) t.unchanged (m.none refl n)) (subst (λ (x : State V). IsRefusedIn b x (Put k)) (m.went.none refl ∙ t.unchanged) p.not_enabled);
  }

  moved_on : (awake : Awake) (k : ℕ) (old new : State V) → Went b old new true → Carries b awake k old new true
  moved_on awake k old new went = record { went = went; no_send = λ e. absurd (let no : true ≡ false = e in cc); no_poll = λ e. absurd (let no : true ≡ false = e in cc); no_more = λ e. absurd (let no : true ≡ false = e in cc) }

  pub carries : (awake : Awake) (k : ℕ) (old mid last new : State V) (sent passed got : Bool) → Steps b (Send k) old mid sent → PassesOn b k mid last passed → Steps b (Poll k) last new got → Carries b awake k old new ((sent || passed) || got)
  carries awake k old mid last new true passed got s p g = moved_on awake k old new (then_went old last new true got (then_went old mid last true passed (step_went (Send k) old mid true s) p.went) (step_went (Poll k) last new got g))
  carries awake k old mid last new false true got s p g = moved_on awake k old new (then_went old last new true got (then_went old mid last false true (step_went (Send k) old mid false s) p.went) (step_went (Poll k) last new got g))
  carries awake k old mid last new false false true s p g = moved_on awake k old new (then_went old last new false true (then_went old mid last false false (step_went (Send k) old mid false s) p.went) (step_went (Poll k) last new true g))
  carries awake k old mid last new false false false s p g = record {
    went = then_went old last new false false (then_went old mid last false false (step_went (Send k) old mid false s) p.went) (step_went (Poll k) last new false g);
    no_send = λ _ everyone. s.not_enabled;
    no_poll = λ _ everyone. subst (λ (m : State V). IsRefusedIn b m (Poll k)) (p.went.none refl ∙ s.unchanged) g.not_enabled;
    no_more = λ _ everyone step between. subst (λ (m : State V). IsRefusedIn b m step) s.unchanged (p.idle refl step between);
  }

  -- a channel's turn that goes on, and one that ends where nothing moved
  pub gone_on : (old mid new : State V) (so_far more : Bool) → Went b old mid so_far → Went b mid new more → more ≡ true → Went b old new true
  gone_on old mid new so_far more x y e = record { steps = x.steps + y.steps; walk = walk_on old mid x.steps x.walk y.steps new y.walk; some = λ _. (let some : 0 < y.steps = y.some e in omega arith); none = λ no. absurd (let not : true ≡ false = no in cc) }

  pub carried_all : (k : ℕ) (old mid new : State V) (so_far more : Bool) → Went b old mid so_far → Carries b Everyone k mid new more → more ≡ false → Carries b Everyone k old new so_far
  carried_all k old mid new so_far more went last e = record {
    went = subst (λ (m : State V). Went b old m so_far) (sym (last.went.none e)) went;
    no_send = λ unmoved everyone. subst (λ (m : State V). IsRefusedIn b m (Send k)) (went.none unmoved) (last.no_send e everyone);
    no_poll = λ unmoved everyone. subst (λ (m : State V). IsRefusedIn b m (Poll k)) (went.none unmoved) (last.no_poll e everyone);
    no_more = λ unmoved everyone step between. subst (λ (m : State V). IsRefusedIn b m step) (went.none unmoved) (last.no_more e everyone step between);
  }

  pub whoever : (awake : Awake) (k : ℕ) (old new : State V) (moved : Bool) → Carries b Everyone k old new moved → Carries b awake k old new moved
  whoever awake k old new moved x = record { went = x.went; no_send = λ unmoved _. x.no_send unmoved refl; no_poll = λ unmoved _. x.no_poll unmoved refl; no_more = λ unmoved _. x.no_more unmoved refl }

  -- one component more, and one channel more
  pub none_run : (awake : Awake) (mesh : State V) (moved : Bool) → moved ≡ false → RunsEach b awake 0 mesh mesh moved
  none_run awake mesh moved e = subst (RunsEach b awake 0 mesh mesh) (sym e) (record { went = no_move mesh; idle = λ _ everyone c lt. absurd (omega arith) })

  pub one_more_runs : (awake : Awake) (i : ℕ) (old mid new : State V) (so_far moved then : Bool) → then ≡ so_far || moved → RunsEach b awake i old mid so_far → RunsOn b awake i mid new moved → RunsEach b awake (i + 1) old new then
  one_more_runs awake i old mid new so_far moved then is x y = subst (RunsEach b awake (i + 1) old new) (sym is) (at so_far moved x y)
    where
      at : (so_far moved : Bool) → RunsEach b awake i old mid so_far → RunsOn b awake i mid new moved → RunsEach b awake (i + 1) old new (so_far || moved)
      at true moved x y = record { went = then_went old mid new true moved x.went y.went; idle = λ e. absurd (let no : true ≡ false = e in cc) }
      at false moved x y = record { went = then_went old mid new false moved x.went y.went; idle = λ e everyone c lt. by e everyone c (eq-or-lt_of_le (let low : c ≤ i = omega arith in low)) }
        where
          by : moved ≡ false → is_everyone awake ≡ true → (c : ℕ) → (c ≡ i) ⊎ (c < i) → IsRefusedIn b old (Event c)
          by e everyone c (inr less) = x.idle refl everyone c less
          by e everyone c (inl same) = subst (λ (m : State V). IsRefusedIn b m (Event c)) (x.went.none refl) (subst (λ n. IsRefusedIn b mid (Event n)) (sym same) (y.idle e everyone))

  pub none_carried : (awake : Awake) (mesh : State V) (moved : Bool) → moved ≡ false → CarriesEach b awake 0 mesh mesh moved
  none_carried awake mesh moved e = subst (CarriesEach b awake 0 mesh mesh) (sym e) (record { went = no_move mesh; no_send = λ _ everyone k lt. absurd (omega arith); no_poll = λ _ everyone k lt. absurd (omega arith); no_more = λ _ everyone k lt. absurd (omega arith) })

  pub one_more_carries : (awake : Awake) (i : ℕ) (old mid new : State V) (so_far moved then : Bool) → then ≡ so_far || moved → CarriesEach b awake i old mid so_far → Carries b awake i mid new moved → CarriesEach b awake (i + 1) old new then
  one_more_carries awake i old mid new so_far moved then is x y = subst (CarriesEach b awake (i + 1) old new) (sym is) (at so_far moved x y)
    where
      at : (so_far moved : Bool) → CarriesEach b awake i old mid so_far → Carries b awake i mid new moved → CarriesEach b awake (i + 1) old new (so_far || moved)
      at true moved x y = record { went = then_went old mid new true moved x.went y.went; no_send = λ e. absurd (let no : true ≡ false = e in cc); no_poll = λ e. absurd (let no : true ≡ false = e in cc); no_more = λ e. absurd (let no : true ≡ false = e in cc) }
      at false moved x y = record { went = then_went old mid new false moved x.went y.went; no_send = λ e everyone k lt. sends e everyone k (eq-or-lt_of_le (let low : k ≤ i = omega arith in low)); no_poll = λ e everyone k lt. polls e everyone k (eq-or-lt_of_le (let low : k ≤ i = omega arith in low)); no_more = λ e everyone k lt. more e everyone k (eq-or-lt_of_le (let low : k ≤ i = omega arith in low)) }
        where
          sends : moved ≡ false → is_everyone awake ≡ true → (k : ℕ) → (k ≡ i) ⊎ (k < i) → IsRefusedIn b old (Send k)
          sends e everyone k (inr less) = x.no_send refl everyone k less
          sends e everyone k (inl same) = subst (λ (m : State V). IsRefusedIn b m (Send k)) (x.went.none refl) (subst (λ n. IsRefusedIn b mid (Send n)) (sym same) (y.no_send e everyone))

          polls : moved ≡ false → is_everyone awake ≡ true → (k : ℕ) → (k ≡ i) ⊎ (k < i) → IsRefusedIn b old (Poll k)
          polls e everyone k (inr less) = x.no_poll refl everyone k less
          polls e everyone k (inl same) = subst (λ (m : State V). IsRefusedIn b m (Poll k)) (x.went.none refl) (subst (λ n. IsRefusedIn b mid (Poll n)) (sym same) (y.no_poll e everyone))

          more : moved ≡ false → is_everyone awake ≡ true → (k : ℕ) → (k ≡ i) ⊎ (k < i) → (step : Step) → IsBetween k step → IsRefusedIn b old step
          more e everyone k (inr less) step between = x.no_more refl everyone k less step between
          more e everyone k (inl same) step between = subst (λ (m : State V). IsRefusedIn b m step) (x.went.none refl) (y.no_more e everyone step (subst (λ n. IsBetween n step) same between))

  -- nothing was tried, so nothing is told of what is enabled, unless everyone was awake
  pub not_run : (awake : Awake) (c : ℕ) (mesh : State V) → (is_everyone awake ≡ true → IsRefusedIn b mesh (Event c)) → RunsOn b awake c mesh mesh false
  not_run awake c mesh refused = record { went = no_move mesh; idle = λ _ everyone. refused everyone }

  pub not_carried : (awake : Awake) (k : ℕ) (mesh : State V) → (is_everyone awake ≡ true → IsRefusedIn b mesh (Send k)) → (is_everyone awake ≡ true → IsRefusedIn b mesh (Poll k)) → (is_everyone awake ≡ true → (step : Step) → IsBetween k step → IsRefusedIn b mesh step) → Carries b awake k mesh mesh false
  not_carried awake k mesh no_send no_poll no_more = record { went = no_move mesh; no_send = λ _ everyone. no_send everyone; no_poll = λ _ everyone. no_poll everyone; no_more = λ _ everyone. no_more everyone }

  pub nothing_between : (k : ℕ) (mesh : State V) → length mesh.ways ≤ k → (step : Step) → IsBetween k step → IsRefusedIn b mesh step
  nothing_between k mesh past = idle_between k mesh (no_take b mesh k past).not_enabled (λ n. (no_move_there b mesh k n past).not_enabled) (no_put b mesh k past).not_enabled

  -- a round
  past_runners : (mesh : State V) → ((c : ℕ) → c < length mesh.runners → IsRefusedIn b mesh (Event c)) → (c : ℕ) → IsRefusedIn b mesh (Event c)
  past_runners mesh below c at = below c (slice_get_within mesh.runners c at.leads.before at.leads.there) at

  past_sends : (mesh : State V) → ((k : ℕ) → k < length mesh.ways → IsRefusedIn b mesh (Send k)) → (k : ℕ) → IsRefusedIn b mesh (Send k)
  past_sends mesh below k at = below k (slice_get_within mesh.ways k at.leads.way at.leads.line.leads) at

  past_polls : (mesh : State V) → ((k : ℕ) → k < length mesh.ways → IsRefusedIn b mesh (Poll k)) → (k : ℕ) → IsRefusedIn b mesh (Poll k)
  past_polls mesh below k at = below k (slice_get_within mesh.ways k at.leads.way at.leads.line.leads) at

  pub rounds : (awake : Awake) (old mid new : State V) (ran carried then : Bool) → then ≡ ran || carried → RunsEach b awake (length old.runners) old mid ran → CarriesEach b awake (length mid.ways) mid new carried → Rounds b awake old new then
  rounds awake old mid new ran carried then is x y = subst (Rounds b awake old new) (sym is) (at ran carried x y)
    where
      at : (ran carried : Bool) → RunsEach b awake (length old.runners) old mid ran → CarriesEach b awake (length mid.ways) mid new carried → Rounds b awake old new (ran || carried)
      at true carried x y = record { went = then_went old mid new true carried x.went y.went; at_rest = λ e. absurd (let no : true ≡ false = e in cc) }
      at false carried x y = record { went = then_went old mid new false carried x.went y.went; at_rest = λ e everyone step. by e everyone step }
        where
          same : mid ≡ old
          same = x.went.none refl

          between : carried ≡ false → is_everyone awake ≡ true → (k : ℕ) (way : Way) → slice_get old.ways k ≡ Some way → (step : Step) → IsBetween k step → IsRefusedIn b old step
          between e everyone k way leads step is_between = subst (λ (m : State V). IsRefusedIn b m step) same (y.no_more e everyone k (slice_get_within mid.ways k way (ap (λ (m : State V). slice_get m.ways k) same ∙ leads)) step is_between)

          by : carried ≡ false → is_everyone awake ≡ true → (step : Step) → IsRefusedIn b old step
          by e everyone (Event c) = past_runners old (x.idle refl everyone) c
          by e everyone (Send k) = subst (λ (m : State V). IsRefusedIn b m (Send k)) (x.went.none refl) (past_sends mid (y.no_send e everyone) k)
          by e everyone (Poll k) = subst (λ (m : State V). IsRefusedIn b m (Poll k)) (x.went.none refl) (past_polls mid (y.no_poll e everyone) k)
          by e everyone (Take k) = λ at. between e everyone k at.way at.line.leads (Take k) refl at
          by e everyone (Move k n) = λ at. between e everyone k at.way at.line.leads (Move k n) refl at
          by e everyone (Put k) = λ at. between e everyone k at.way at.line.leads (Put k) refl at

  module _ (settled : V → ℕ → Type 0) (lawful : IsLawful b settled) where
    pub walk_falls : (starts : List V) (links : List Link) (end : ℕ) (old : State V) (of : IsMeshOf b settled starts links end old) → (n : ℕ) (new : State V) → Walk b old n new → IsLessBy b settled starts links end (steps_to_come of) n new
    walk_falls starts links end old of _ _ none_made = record { of = of; less = nothing_more (steps_to_come of) }
    walk_falls starts links end old of _ _ (one_step n mid new step so_far leads) = one (walk_falls starts links end old of n mid so_far)
      where
        one : IsLessBy b settled starts links end (steps_to_come of) n mid → IsLessBy b settled starts links end (steps_to_come of) (n + counted step) new
        one before = (let then : IsOneLess b settled starts links end (steps_to_come before.of) step new = lowers b settled lawful starts links end mid new step before.of leads in record { of = then.of; less = more_to_come (steps_to_come of) (steps_to_come before.of) n (steps_to_come then.of) (counted step) before.less then.one_less })

    pub walks_lower : WalksLowerIt b settled
    walks_lower starts links end old new n of walked = walk_falls starts links end old of n new walked

    pub walk_mesh : (old new : State V) (n : ℕ) → IsMesh b settled old → Walk b old n new → IsMesh b settled new
    walk_mesh old new n (starts, links, end, of) walked = (starts, links, end, (walk_falls starts links end old of n new walked).of)

    pub throughout_in : (mesh : State V) → IsMesh b settled mesh → (c : ℕ) (r : Runner V) → slice_get mesh.runners c ≡ Some r → IsReadyThroughout b settled r
    throughout_in mesh (starts, links, end, of) c r is = (let at : IsStanding b settled starts links end mesh of c r = standing b settled starts links end mesh of c r is in ready_throughout b settled lawful at.start (of_component c of.received) (of_component c of.sent) (of.positions c) r at.stands)
