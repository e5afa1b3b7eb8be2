-- Lists of which one element is changed.
use Rattle.std.proofs.Common.{◌≡◌, ℕ, zero, suc, List, [], ◌∷◌, length, Some, refl, sym, ap, ◌∙◌, subst}
use Rattle.std.specs.Prelude.{slice_get, slice_set}
use Rattle.std.proofs.lemmas.Option.{none-some, same_Some}
use Rattle.sb_message.specs.declared.message.Body.{Body}
use Rattle.sync_rule.specs.Ports.{Out, IsPlanned, posted, at_place}
use Rattle.sync_rule.specs.ManyPorts.{ArePlanned}

pub set_at : {X : Type 0} (xs : List X) (i : ℕ) (x y : X) (f : X → X) → slice_get xs i ≡ Some x → y ≡ f x → slice_set xs i y ≡ at_place i f xs
unfolding at_place
set_at [] i x y f is same = absurd (none-some x is)
set_at (z ∷ zs) zero x y f is same = ap (λ w. w ∷ zs) (same ∙ ap f (sym (same_Some z x is)))
set_at (z ∷ zs) (suc i) x y f is same = ap (λ l. z ∷ l) (set_at zs i x y f is same)

pub length-at_place : {X : Type 0} (i : ℕ) (f : X → X) (xs : List X) → length (at_place i f xs) ≡ length xs
unfolding at_place
length-at_place i f [] = refl
length-at_place zero f (x ∷ xs) = refl
length-at_place (suc i) f (x ∷ xs) = ap suc (length-at_place i f xs)

-- what holds of each element, and of the changed one, holds of each
pub each_at : {X : Type 0} (P : X → Type 0) (i : ℕ) (f : X → X) (xs : List X) → ((p : ℕ) (x : X) → slice_get xs p ≡ Some x → P x) → ((x : X) → P x → P (f x)) → (p : ℕ) (x : X) → slice_get (at_place i f xs) p ≡ Some x → P x
unfolding at_place
each_at P i f [] all step p x is = absurd (none-some x is)
each_at P zero f (y ∷ ys) all step zero x is = subst P (same_Some (f y) x is) (step y (all 0 y refl))
each_at P zero f (y ∷ ys) all step (suc p) x is = all (suc p) x is
each_at P (suc i) f (y ∷ ys) all step zero x is = all 0 x is
each_at P (suc i) f (y ∷ ys) all step (suc p) x is = each_at P i f ys (λ q z there. all (suc q) z there) step p x is

pub planned_at : (i t : ℕ) (body : Body) (outs : List Out) → ArePlanned outs → ArePlanned (at_place i (posted t body) outs)
planned_at i t body outs planned = each_at (λ (o : Out). IsPlanned o.plan) i (posted t body) outs planned (λ o is. is)
