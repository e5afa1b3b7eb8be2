-- The number of a host whose program is too long.
use Rattle.std.proofs.Common.{◌≡◌, ℕ, ◌+◌, ◌<◌, Bool, true, false, cond, List, [], ◌∷◌, length, Option, Some, None, Result, Ok, Err, refl, arith}
use Rattle.std.specs.Prelude.{◌↔◌}
use Rattle.topology_file.specs.declared.component.Component.{Component}
use Rattle.device_set.specs.Images.{fits, next_image, images_after, too_long_from}

-- it is the number of one of the components
pub too_long-within : (i : ℕ) (cs : List Component) (images : List (List ℕ)) (n : ℕ) → too_long_from i cs images ≡ Some n → n < i + length cs
too_long-within i [] images n is = cc
too_long-within i (c ∷ more) images n is = at (fits c.config (next_image images)) (too_long-within (i + 1) more (images_after c.config images) n) is where
  at : (b : Bool) → (too_long_from (i + 1) more (images_after c.config images) ≡ Some n → n < i + 1 + length more) → cond b (too_long_from (i + 1) more (images_after c.config images)) (Some i) ≡ Some n → n < i + length (c ∷ more)
  at true rest is = omega (arith, rest is)
  at false rest is = let same : i ≡ n = cc in omega (arith, same)

-- none where it would have been answered
pub none_when : {T E : Type 0} (o : Option ℕ) (r : Result T E) (x : T) (bad : ℕ → E) → r ≡ Ok x → ((n : ℕ) → (r ≡ Err (bad n)) ↔ (o ≡ Some n)) → o ≡ None
none_when None r x bad ok exact = refl
none_when (Some n) r x bad ok exact = let refused : r ≡ Err (bad n) = (exact n).1 refl in cc
