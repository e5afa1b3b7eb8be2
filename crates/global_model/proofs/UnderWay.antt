-- Small lemmas on a run under way.
use Rattle.std.specs.Prelude.{ℕ, suc, zero, ◌≡◌, ◌==◌, ◌+◌, ◌≤◌, ◌<◌, Bool, true, false, if◌then◌else◌, List, [], ◌∷◌, ◌++◌, length, slice_get, Option, Some, None, IfSome, All, option_map, refl, ◌⊎◌}
use Rattle.std.proofs.lemmas.Bool.{cases_lt}
use Rattle.std.proofs.lemmas.Bool.Decides.{nat_tests}
use Rattle.std.proofs.lemmas.List.Elements.{All-head}
use Rattle.std.proofs.Common.{ap, ◌∙◌, arith, inl, inr, ⊎_elim}
use Rattle.sb_message.specs.declared.message.Msg.{Msg}
use Rattle.device_api.specs.World.{arrivals_on, arrivals, is_at}
use Rattle.moment_tree.specs.declared.agenda.Moment.{Moment}
use Rattle.moment_tree.specs.Places.{clock}
use Rattle.global_model.specs.Turn.{Rises}
use Rattle.global_model.proofs.Quiet.{clock_past, clock_low}
use Rattle.global_model.proofs.ReactionLaws.{bodies_at}

-- where each time is at least v, the times rise from v
pub rises_from : (v low : ℕ) (queue : List Msg) → Rises low queue → All (λ (m : Msg). v ≤ m.at) queue → Rises v queue
rises_from v low [] rises all = tt
rises_from v low (m ∷ more) rises all = (All-head (λ (m : Msg). v ≤ m.at) m more all, rises.1)

pub arrivals_on-none : (t p i : ℕ) (xs : List Msg) → bodies_at t xs ≡ [] → arrivals_on t p i xs ≡ []
unfolding arrivals_on
arrivals_on-none t p i [] none = refl
arrivals_on-none t p i (m ∷ more) none = at (m.at == t) none (λ rest. arrivals_on-none t p (suc i) more rest)
  where
    at : (now : Bool) → (if now then m.body ∷ bodies_at t more else bodies_at t more) ≡ [] → (bodies_at t more ≡ [] → arrivals_on t p (suc i) more ≡ []) → (if now then record { port = p; number = i; body = m.body } ∷ arrivals_on t p (suc i) more else arrivals_on t p (suc i) more) ≡ []
    at true none more_none = absurd cc
    at false none more_none = more_none none

pub arrivals-none : (t n : ℕ) (inputs : ℕ → List Msg) → ((p : ℕ) → p < n → bodies_at t (inputs p) ≡ []) → arrivals t inputs n ≡ []
unfolding arrivals
arrivals-none t zero inputs none = refl
arrivals-none t (suc n) inputs none = ap (λ xs. xs ++ arrivals_on t n 0 (inputs n)) (arrivals-none t n inputs (λ p lt. none p (omega arith))) ∙ arrivals_on-none t n 0 (inputs n) (none n (omega arith))

pub get_some : {X : Type 0} (xs : List X) (i : ℕ) → i < length xs → (x : X) × (slice_get xs i ≡ Some x)
get_some [] i lt = absurd (omega arith)
get_some (x ∷ xs) zero lt = (x, refl)
get_some (x ∷ xs) (suc i) lt = get_some xs i (omega arith)

pub option_some : {X Y : Type 0} (f : X → Y) (o : Option X) (y : Y) → option_map f o ≡ Some y → (x : X) × (o ≡ Some x) × (f x ≡ y)
option_some f None y is = absurd cc
option_some f (Some x) y is = (x, refl, (let same : f x ≡ y = cc in same))

pub is_at_other : (due : Option ℕ) (u : ℕ) → IfSome due (λ x. u < x) → is_at due u ≡ false
is_at_other None u later = refl
is_at_other (Some x) u later = grind (arith, nat_tests)

pub if_some_weaker : {X : Type 0} (P Q : X → Type 0) (o : Option X) → ((x : X) → P x → Q x) → IfSome o P → IfSome o Q
if_some_weaker P Q None f h = tt
if_some_weaker P Q (Some x) f h = f x h

pub position_order : (t c t' c' : ℕ) → clock t c c' ≤ t' → (t < t') ⊎ ((t ≡ t') × (c ≤ c'))
position_order t c t' c' le = ⊎_elim (λ lt. inl lt) (λ over. inr (same over, after over)) (cases_lt t t')
  where
    same : t' ≤ t → t ≡ t'
    same over = let low : t ≤ clock t c c' = clock_low t c c' in omega arith

    after : t' ≤ t → c ≤ c'
    after over = ⊎_elim (λ before. (let past : clock t c c' ≡ t + 1 = clock_past t c c' before in absurd (omega arith))) (λ ok. ok) (cases_lt c' c)

-- a moment of one of n components that is still to come
pub record IsToCome (t c n : ℕ) (m : Moment) : Type 0 where
  pub not_before : clock t c m.component ≤ m.at
  pub in_range : m.component < n

pub clock_next : (t c d : ℕ) → clock t c d ≤ clock t (c + 1) d
clock_next t c d = grind (arith, nat_tests)
