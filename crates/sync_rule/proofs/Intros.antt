-- An introduction is the one that is expected where its fields are; and what was heard first.
use Rattle.std.proofs.Common.{◌≡◌, ℕ, Bool, true, false, not, IsTrue, ◌↔◌, List, ◌++◌, refl, sym, ap, ap₂, ◌∙◌}
use Rattle.std.proofs.lemmas.Bool.{false≢true}
use mathlib.Core.HLevel.{is_prop→PathP}
use native.Mathlib.Nat.{ℕ_set}
use Rattle.cs_base.specs.Plan.{partner}
use Rattle.cs_base.specs.declared.port_kind.PortKind.{PortKind}
use Rattle.sb_intro.specs.Expected.{expected}
use Rattle.sb_intro.specs.declared.intro.Intro.{Intro}
use Rattle.sb_message.specs.declared.message.Body.{Body}
use Rattle.sb_message.specs.declared.message.Body.TheVariants as body
use Rattle.sb_message.specs.declared.message.Msg.{Msg}
use Rattle.sync_rule.specs.declared.port_plan.PortPlan.{PortPlan}
use Rattle.sync_rule.specs.Ports.{In, introduction_to, waiting_of, heard}
use Rattle.sync_rule.specs.OnePort.{SameFields, Judged}

same_intro : (a b : Intro) → SameFields a b → a ≡ b
same_intro a b same =
    let one_proof : (n : ℕ) → IsProp (n ≡ 1) = λ n. hlevel ℕ_set in
    λ i. record {
      version = same.version i;
      kind = same.kind i;
      latency = same.latency i;
      interval = same.interval i;
      bar_len = same.bar_len i;
      current = is_prop→PathP (λ j. same.version j ≡ 1) (λ j. one_proof (same.version j)) a.current b.current i;
    }

-- the introduction in a body, or else another one
abbrev intro_in : Intro → Body → Intro
intro_in other (body.Intro intro) = intro
intro_in other _ = other

fields_of : (a b : Intro) → a ≡ b → SameFields a b
fields_of a b e = record { version = ap (λ (i : Intro). i.version) e; kind = ap (λ (i : Intro). i.kind) e; latency = ap (λ (i : Intro). i.latency) e; interval = ap (λ (i : Intro). i.interval) e; bar_len = ap (λ (i : Intro). i.bar_len) e }

pub is_introduction : (message : Msg) (plan : PortPlan) (intro wanted : Intro) (kind : PortKind) (at : ℕ) → message.body ≡ body.Intro intro → at ≡ message.at → at ≡ 0 → wanted ≡ expected kind plan.latency plan.interval → kind ≡ partner plan.kind → (r : Bool) → (IsTrue r ↔ SameFields intro wanted) → IsTrue r ↔ (message ≡ introduction_to plan)
is_introduction message plan intro wanted kind at is at_is zero_at wanted_is kind_is r told = (there, back)
  where
    wants : wanted ≡ expected (partner plan.kind) plan.latency plan.interval
    wants = wanted_is ∙ ap (λ k. expected k plan.latency plan.interval) kind_is

    there : IsTrue r → message ≡ introduction_to plan
    there yes' = ap₂ (λ (t : ℕ) (b : Body). record { at = t; body = b }) (sym at_is ∙ zero_at) (is ∙ ap body.Intro (same_intro intro wanted (told.0 yes') ∙ wants))

    back : message ≡ introduction_to plan → IsTrue r
    back e = told.1 (fields_of intro wanted (ap (intro_in intro) (sym is) ∙ ap (λ (m : Msg). intro_in intro m.body) e ∙ sym wants))

pub judged : (introduced : Bool) (plan : PortPlan) (m : Msg) (r : Bool) → (IsTrue r ↔ (m ≡ introduction_to plan)) → introduced ≡ false → Judged introduced plan m (not r)
judged introduced plan m true told none = λ _. told.0 refl
judged introduced plan m false told none = record { first = none; wrong = λ e. false≢true (told.1 e) }

pub heard_first : (i old : In) (m : Msg) → i ≡ old → (r : Bool) → r ≡ false → Judged i.introduced i.plan m r → old.introduced ≡ false → m ≡ introduction_to old.plan
heard_first i old m view true no_more told none = absurd (false≢true (sym no_more))
heard_first i old m view false no_more told none = told (ap (λ (x : In). x.introduced) view ∙ none) ∙ ap (λ (x : In). introduction_to x.plan) view

pub heard_is : (i old : In) (m : Msg) (inbox : List Msg) → i ≡ old → inbox ≡ i.inbox ++ waiting_of m → (x : In) → x ≡ record i { inbox = inbox; bound = m.at; introduced = true } → x ≡ heard m old
heard_is i old m inbox view is x same = same ∙ ap (λ l. record { plan = i.plan; inbox = l; bound = m.at; introduced = true }) is ∙ ap (heard m) view
