-- A schedule has one outcome.
use Rattle.std.proofs.Common.{◌≡◌, ℕ, suc, ◌+◌, ◌<◌, Bool, true, List, [], ◌∷◌, ◌++◌, length, Some, refl, sym, ap, ap₂, ◌∙◌, subst, arith, inl, inr, ◌⊎◌}
use Rattle.std.specs.Prelude.{slice_get, slice_set}
use Rattle.std.proofs.lemmas.Option.{same_Some}
use Rattle.cs_base.specs.declared.link.Link.{Link}
use Rattle.sb_message.specs.declared.message.Msg.{Msg}
use Rattle.cs_base.specs.Lines.{lines_of}
use Rattle.device_api.specs.Behaviour.{Behaviour}
use Rattle.device_api.specs.Position.{Key, by_part, is_at_most}
use Rattle.mesh_channel.specs.declared.carrier.Carrier.{Carrier}
use Rattle.mesh_channel.specs.Carrier.{Pushes, Pops, Takes, Puts}
use Rattle.mesh_channel.specs.Laws.{IsOnePop}
use Rattle.mesh_channel.proofs.Determined.{leads_once}
use Rattle.run_steps.specs.declared.step.Step.{Step}
use Rattle.run_steps.specs.declared.step.Step.TheVariants.{Event, Send, Poll, Take as TakeStep, Move, Put}
use Rattle.run_steps.proofs.Spelling.{one_step_a_line}
use Rattle.sync_rule.specs.declared.next.Next.{Next}
use Rattle.sync_rule.specs.declared.next.Next.TheVariants.{Sync, Take, Tick}
use Rattle.sync_rule.specs.declared.runner.Runner.{Runner}
use Rattle.sync_rule.specs.ManyPorts.{IsHead, outbox_in}
use Rattle.sync_rule.specs.Next.{IsNext, key_of}
use Rattle.sync_rule.specs.Ports.{In}
use Rattle.sync_rule.specs.Steps.{Processed, IsAfter, after_take}
use Rattle.sync_rule.proofs.Keys.{part_cases}
use Rattle.mesh_core.specs.declared.way.Way.{Way}
use Rattle.mesh_core.specs.State.{State}
use Rattle.mesh_core.specs.Laws.{StepsKeepIt}
use Rattle.mesh_core.specs.MeshOf.{IsMeshOf}
use Rattle.mesh_core.specs.Steps.{Leads, ProcessesAt, SendsOn, ReceivesOn, GoesOn, MovesOn, with_line, with_carrier, sent_by, received_by}
use Rattle.mesh_core.proofs.Enabled.{leads_enabled}
use Rattle.replay_run.specs.Replayed.{IsMade, IsDenied, IsAtFault, LeadOn, IsReplayed}
use Rattle.replay_run.specs.Laws.{HasOneOutcome}

-- ---- one event is next

one_part : (x y : ℕ) (f g : Bool) → by_part x y f ≡ true → by_part y x g ≡ true → (x ≡ y) × (f ≡ true) × (g ≡ true)
one_part x y f g there back = at (part_cases x y f there) (part_cases y x g back)
  where
    at : ((x < y) ⊎ ((x ≡ y) × (f ≡ true))) → ((y < x) ⊎ ((y ≡ x) × (g ≡ true))) → (x ≡ y) × (f ≡ true) × (g ≡ true)
    at (inl less) (inl more) = absurd (omega arith)
    at (inl less) (inr e) = absurd (let same : y ≡ x = e.0 in omega arith)
    at (inr e) (inl more) = absurd (let same : x ≡ y = e.0 in omega arith)
    at (inr e) (inr e') = (e.0, e.1, e'.1)

alike : (j k : Key) → is_at_most j k ≡ true → is_at_most k j ≡ true → (j.time ≡ k.time) × (j.phase ≡ k.phase) × (j.port ≡ k.port)
alike j k there back =
    let time = one_part j.time k.time _ _ there back in
    let phase = one_part j.phase k.phase _ _ time.1 time.2 in
    let port = one_part j.port k.port _ _ phase.1 phase.2 in
    (time.0, phase.0, port.0)

at_one_place : (a b : Next) → (key_of a).time ≡ (key_of b).time → (key_of a).phase ≡ (key_of b).phase → (key_of a).port ≡ (key_of b).port → a ≡ b
at_one_place (Sync p u) (Sync q v) time phase port = ap₂ Sync port time
at_one_place (Take p u) (Take q v) time phase port = ap₂ Take port time
at_one_place (Tick u) (Tick v) time phase port = ap Tick time
at_one_place (Sync p u) (Take q v) time phase port = absurd (omega arith)
at_one_place (Sync p u) (Tick v) time phase port = absurd (omega arith)
at_one_place (Take p u) (Sync q v) time phase port = absurd (omega arith)
at_one_place (Take p u) (Tick v) time phase port = absurd (omega arith)
at_one_place (Tick u) (Sync q v) time phase port = absurd (omega arith)
at_one_place (Tick u) (Take q v) time phase port = absurd (omega arith)

one_first : {A : Type 0} (x y : A) (xs ys : List A) → x ∷ xs ≡ y ∷ ys → x ≡ y
one_first x y xs ys same = grind arith

one_rest : {A : Type 0} (x y : A) (xs ys : List A) → x ∷ xs ≡ y ∷ ys → xs ≡ ys
one_rest x y xs ys same = grind arith

module _ {V : Type 0} (b : Behaviour V) where
  one_next : (r : Runner V) (n m : Next) → IsNext b r n → IsNext b r m → n ≡ m
  one_next r n m first second =
      let same = alike (key_of n) (key_of m) (first.least m second.pending) (second.least n first.pending) in
      at_one_place n m same.0 same.1 same.2

  one_head : (ins : List In) (port : ℕ) (m m' : Msg) → IsHead ins port m → IsHead ins port m' → m ≡ m'
  one_head ins port m m' first second =
      let same : first.is ≡ second.is = same_Some first.is second.is (sym first.there ∙ second.there) in
      one_first m m' first.more second.more (sym first.head ∙ ap (λ (i : In). i.inbox) same ∙ second.head)

  one_after : (old new other : Runner V) (n : Next) → IsAfter b old n new → IsAfter b old n other → new ≡ other
  one_after old new other (Sync p u) first second = first ∙ sym second
  one_after old new other (Take p u) first second = first.is ∙ ap (after_take b old p) (one_head old.incoming p first.m second.m first.head second.head) ∙ sym second.is
  one_after old new other (Tick u) first second = first ∙ sym second

  one_event : (old new other : Runner V) → Processed b old new → Processed b old other → new ≡ other
  one_event old new other first second =
      let same : second.next ≡ first.next = one_next old second.next first.next second.enabled.is_next first.enabled.is_next in
      one_after old new other first.next first.after (subst (λ n. IsAfter b old n other) same second.after)

  -- ---- a step leads to one state

  abbrev sent_on : State V → ℕ → Way → Runner V → Carrier → State V
  sent_on old k way runner after = with_line old way.from.component (sent_by runner way.from.port) k after

  abbrev received_on : State V → ℕ → Way → Runner V → Msg → Carrier → State V
  received_on old k way runner m after = with_line old way.to.component (received_by runner way.to.port m) k after

  one_sent : (old new other : State V) (k : ℕ) → SendsOn old new k → SendsOn old other k → new ≡ other
  one_sent old new other k p q =
      let way : p.way ≡ q.way = same_Some p.way q.way (sym p.line.leads ∙ q.line.leads) in
      let carrier : p.carrier ≡ q.carrier = same_Some p.carrier q.carrier (sym p.line.between ∙ q.line.between) in
      let runner : p.runner ≡ q.runner = same_Some p.runner q.runner (sym p.sender ∙ ap (λ (w : Way). slice_get old.runners w.from.component) way ∙ q.sender) in
      let m : p.m ≡ q.m = one_first p.m q.m p.more q.more (sym p.waited ∙ ap₂ (λ (r : Runner V) (w : Way). outbox_in r.outgoing w.from.port) runner way ∙ q.waited) in
      let pushed : Pushes q.carrier q.m p.after = subst (λ c. Pushes c q.m p.after) carrier (subst (λ x. Pushes p.carrier x p.after) m p.pushed) in
      let after : p.after ≡ q.after = (leads_once q.carrier).push p.after q.after q.m pushed q.pushed in
      p.is ∙ ap (λ w. sent_on old k w p.runner p.after) way ∙ ap₂ (sent_on old k q.way) runner after ∙ sym q.is

  one_received : (old new other : State V) (k : ℕ) → ReceivesOn old new k → ReceivesOn old other k → new ≡ other
  one_received old new other k p q =
      let way : p.way ≡ q.way = same_Some p.way q.way (sym p.line.leads ∙ q.line.leads) in
      let carrier : p.carrier ≡ q.carrier = same_Some p.carrier q.carrier (sym p.line.between ∙ q.line.between) in
      let runner : p.runner ≡ q.runner = same_Some p.runner q.runner (sym p.receiver ∙ ap (λ (w : Way). slice_get old.runners w.to.component) way ∙ q.receiver) in
      let one : IsOnePop p.m q.m p.after q.after = (leads_once q.carrier).pop p.after q.after p.m q.m (subst (λ c. Pops c p.m p.after) carrier p.popped) q.popped in
      p.is ∙ ap (λ w. received_on old k w p.runner p.m p.after) way ∙ ap (λ r. received_on old k q.way r p.m p.after) runner ∙ ap₂ (received_on old k q.way q.runner) one.message one.after ∙ sym q.is

  one_gone : (step : Carrier → Carrier → Type 0) → ((x y z : Carrier) → step x y → step x z → y ≡ z) → (old new other : State V) (k : ℕ) → GoesOn step old new k → GoesOn step old other k → new ≡ other
  one_gone step once old new other k p q =
      let carrier : p.carrier ≡ q.carrier = same_Some p.carrier q.carrier (sym p.line.between ∙ q.line.between) in
      p.is ∙ ap (with_carrier old k) (once q.carrier p.after q.after (subst (λ c. step c p.after) carrier p.made) q.made) ∙ sym q.is

  one_processed : (old new other : State V) (c : ℕ) → ProcessesAt b old new c → ProcessesAt b old other c → new ≡ other
  one_processed old new other c p q =
      let before : q.before ≡ p.before = same_Some q.before p.before (sym q.there ∙ p.there) in
      let after : p.after ≡ q.after = one_event p.before p.after q.after p.processed (subst (λ r. Processed b r q.after) before q.processed) in
      p.is ∙ ap (λ r. record old { runners = slice_set old.runners c r }) after ∙ sym q.is

  one_lead : (step : Step) (old new other : State V) → Leads b step old new → Leads b step old other → new ≡ other
  one_lead (Event c) old new other first second = one_processed old new other c first second
  one_lead (Send k) old new other first second = one_sent old new other k first second
  one_lead (Poll k) old new other first second = one_received old new other k first second
  one_lead (TakeStep k) old new other first second = one_gone Takes (λ x. (leads_once x).take) old new other k first second
  one_lead (Move k n) old new other first second = one_gone (MovesOn n) (λ x y z p q. (leads_once x).move y z n p.carrying p.moved q.moved) old new other k first second
  one_lead (Put k) old new other first second = one_gone Puts (λ x. (leads_once x).put) old new other k first second

  -- ---- a line and a schedule have one outcome

  one_made : (line : List ℕ) (old new other : State V) → IsMade b line old new → IsMade b line old other → new ≡ other
  one_made line old new other first second =
      let same : second.step ≡ first.step = same_Some second.step first.step (one_step_a_line line (Some second.step) (Some first.step) second.spells first.spells) in
      one_lead first.step old new other first.leads (subst (λ s. Leads b s old other) same second.leads)

  not_denied : (line : List ℕ) (old new : State V) → IsMade b line old new → IsAtFault b line old → ⊥
  not_denied line old new made fault =
      subst (λ s. IsDenied b s old) (one_step_a_line line fault.step (Some made.step) fault.spells made.spells) fault.denied (leads_enabled b made.step old new made.leads)

  one_end : (lines : List (List ℕ)) (old new other : State V) → LeadOn b lines old new → LeadOn b lines old other → new ≡ other
  one_end [] old new other first second = first ∙ sym second
  one_end (line ∷ more) old new other first second =
      one_end more first.0 new other first.2 (subst (λ s. LeadOn b more s other) (one_made line old second.0 first.0 second.1 first.1) second.2)

  goes_no_further : (before : List (List ℕ)) (line : List ℕ) (behind : List (List ℕ)) (old new reached : State V) → LeadOn b (before ++ line ∷ behind) old new → LeadOn b before old reached → IsAtFault b line reached → ⊥
  goes_no_further [] line behind old new reached all lead fault = not_denied line old all.0 all.1 (subst (IsAtFault b line) lead fault)
  goes_no_further (x ∷ xs) line behind old new reached all lead fault =
      goes_no_further xs line behind all.0 new reached all.2 (subst (λ s. LeadOn b xs s reached) (one_made x old lead.0 all.0 lead.1 all.1) lead.2) fault

  one_count : (before before' : List (List ℕ)) (line line' : List ℕ) (behind behind' : List (List ℕ)) (old reached reached' : State V) → before ++ line ∷ behind ≡ before' ++ line' ∷ behind' → LeadOn b before old reached → LeadOn b before' old reached' → IsAtFault b line reached → IsAtFault b line' reached' → length before ≡ length before'
  one_count [] [] line line' behind behind' old reached reached' same lead lead' fault fault' = refl
  one_count [] (y ∷ ys) line line' behind behind' old reached reached' same lead lead' fault fault' =
      absurd (not_denied y old lead'.0 lead'.1 (subst (λ l. IsAtFault b l old) (one_first line y behind (ys ++ line' ∷ behind') same) (subst (IsAtFault b line) lead fault)))
  one_count (x ∷ xs) [] line line' behind behind' old reached reached' same lead lead' fault fault' =
      absurd (not_denied x old lead.0 lead.1 (subst (λ l. IsAtFault b l old) (sym (one_first x line' (xs ++ line ∷ behind) behind' same)) (subst (IsAtFault b line') lead' fault')))
  one_count (x ∷ xs) (y ∷ ys) line line' behind behind' old reached reached' same lead lead' fault fault' =
      let first : x ≡ y = one_first x y (xs ++ line ∷ behind) (ys ++ line' ∷ behind') same in
      let made = subst (λ l. IsMade b l old lead'.0) (sym first) lead'.1 in
      let mid = one_made x old lead'.0 lead.0 made lead.1 in
      ap (λ n. suc n) (one_count xs ys line line' behind behind' lead.0 reached reached' (one_rest x y (xs ++ line ∷ behind) (ys ++ line' ∷ behind') same) lead.2 (subst (λ s. LeadOn b ys s reached') mid lead'.2) fault fault')

  pub one_outcome : (schedule : List ℕ) (old : State V) → HasOneOutcome b schedule old
  one_outcome schedule old = record {
    one_mesh = λ new other. one_end (lines_of schedule) old new other;
    one_line = λ n m p q. p.is ∙ ap (λ k. k + 1) (one_count p.before q.before p.line q.line p.behind q.behind old p.reached q.reached (sym p.lines ∙ q.lines) p.lead q.lead p.at_fault q.at_fault) ∙ sym q.is;
    not_both = λ new n all p. goes_no_further p.before p.line p.behind old new p.reached (subst (λ lines. LeadOn b lines old new) p.lines all) p.lead p.at_fault;
  }

  module _ (settled : V → ℕ → Type 0) (keep : StepsKeepIt b settled) (starts : List V) (links : List Link) (end : ℕ) where
    lines_keep : (lines : List (List ℕ)) (old new : State V) → IsMeshOf b settled starts links end old → LeadOn b lines old new → IsMeshOf b settled starts links end new
    lines_keep [] old new of lead = subst (IsMeshOf b settled starts links end) (sym lead) of
    lines_keep (line ∷ more) old new of lead = lines_keep more lead.0 new (keep starts links end old lead.0 lead.1.step true of lead.1.leads) lead.2

    pub replay_keeps : (schedule : List ℕ) (old new : State V) → IsMeshOf b settled starts links end old → IsReplayed b schedule old new → IsMeshOf b settled starts links end new
    replay_keeps schedule old new of all = lines_keep (lines_of schedule) old new of all
