-- What is sent is counted send by send: what is counted and what is still to be counted is all that is counted.
use Rattle.std.specs.Prelude.{ℕ, ◌≡◌, ◌==◌, List, [], ◌∷◌, ◌++◌, reverse, Option, Some, None, slice_get}
use Rattle.std.proofs.Common.{sym, ap, ◌∙◌}
use Rattle.std.proofs.lemmas.List.{reverse-reverse, reverse-append}
use Rattle.sb_message.specs.declared.message.Body.{Body}
use Rattle.global_model.specs.declared.routes.Route.{Route}
use Rattle.global_model.specs.Inboxes.{port_of, end_at}
use Rattle.global_model.specs.Tally.{TallyState, leads_on, counted_if, counted_on}

pub record Counting (routes : List (List (Option Route))) (from t : ℕ) (sends0 : List (ℕ × Body)) (tallies0 : List TallyState) (left : List (ℕ × Body)) (tallies : List TallyState) : Type 0 where
  pub same : (k : ℕ) → counted_on k routes from t (reverse left) (slice_get tallies k) ≡ counted_on k routes from t sends0 (slice_get tallies0 k)

pub counting_starts : (routes : List (List (Option Route))) (from t : ℕ) (sends left : List (ℕ × Body)) (tallies : List TallyState) → left ≡ reverse sends → Counting routes from t sends tallies left tallies
counting_starts routes from t sends left tallies is = record { same = λ k. ap (λ xs. counted_on k routes from t xs (slice_get tallies k)) (ap reverse is ∙ reverse-reverse sends) }

module _ {routes : List (List (Option Route))} {from t : ℕ} {sends0 : List (ℕ × Body)} {tallies0 : List TallyState} {left : List (ℕ × Body)} {tallies : List TallyState} (counting : Counting routes from t sends0 tallies0 left tallies) where
  -- the next send is counted first
  next_counted : (port : ℕ) (body : Body) (more : List (ℕ × Body)) (found : Option (Option Route)) → left ≡ more ++ (port, body) ∷ [] → port_of routes (end_at from port) ≡ found → (k : ℕ) → counted_on k routes from t (reverse left) (slice_get tallies k) ≡ counted_on k routes from t (reverse more) (counted_if (leads_on k found) t (slice_get tallies k))
  unfolding counted_on
  next_counted port body more found is route k = ap (λ xs. counted_on k routes from t xs (slice_get tallies k)) (ap reverse is ∙ reverse-append more ((port, body) ∷ [])) ∙ ap (λ r. counted_on k routes from t (reverse more) (counted_if (leads_on k r) t (slice_get tallies k))) route

  pub counting_none : (port : ℕ) (body : Body) (more : List (ℕ × Body)) → left ≡ more ++ (port, body) ∷ [] → port_of routes (end_at from port) ≡ Some None → Counting routes from t sends0 tallies0 more tallies
  counting_none port body more is route = record { same = λ k. sym (next_counted port body more (Some None) is route k) ∙ counting.same k }

  pub counting_at : (port : ℕ) (body : Body) (more : List (ℕ × Body)) (route : Route) (tallies' : List TallyState) → left ≡ more ++ (port, body) ∷ [] → port_of routes (end_at from port) ≡ Some (Some route) → ((k : ℕ) → slice_get tallies' k ≡ counted_if (route.channel == k) t (slice_get tallies k)) → Counting routes from t sends0 tallies0 more tallies'
  counting_at port body more route tallies' is along new = record { same = λ k. ap (counted_on k routes from t (reverse more)) (new k) ∙ sym (next_counted port body more (Some (Some route)) is along k) ∙ counting.same k }

  pub counting_over : left ≡ [] → (k : ℕ) → slice_get tallies k ≡ counted_on k routes from t sends0 (slice_get tallies0 k)
  unfolding counted_on
  counting_over none k = ap (λ xs. counted_on k routes from t (reverse xs) (slice_get tallies k)) (sym none) ∙ counting.same k
