-- One element more of a list that is made of the numbers from 0 on.
use Rattle.std.proofs.Common.{◌≡◌, ℕ, ◌+◌, List, [], ◌∷◌, ◌++◌, map, sym, ap, ◌∙◌, append_assoc, arith}
use Rattle.std.proofs.lemmas.List.{map-append}
use Rattle.std.proofs.lemmas.List.FromFn.{map-range_with_len_more}
use Rattle.load_gen.specs.Load.{below}

module _ {X : Type 0} (f : ℕ → X) (n : ℕ) where
  below_more : map f (below (n + 1)) ≡ map f (below n) ++ f n ∷ []
  below_more = map-range_with_len_more f 0 n n (omega arith)

  pub one_more : (made after : List X) (x : X) → made ≡ map f (below n) → after ≡ made ++ x ∷ [] → x ≡ f n → after ≡ map f (below (n + 1))
  one_more made after x was grown is = grown ∙ ap (λ xs. xs ++ x ∷ []) was ∙ ap (λ y. map f (below n) ++ y ∷ []) is ∙ sym below_more

  pub one_more_behind : (before made after : List X) (x : X) → made ≡ before ++ map f (below n) → after ≡ made ++ x ∷ [] → x ≡ f n → after ≡ before ++ map f (below (n + 1))
  one_more_behind before made after x was grown is =
      grown ∙ ap (λ xs. xs ++ x ∷ []) was ∙ ap (λ y. (before ++ map f (below n)) ++ y ∷ []) is ∙ append_assoc before (map f (below n)) (f n ∷ []) ∙ ap (λ xs. before ++ xs) (sym below_more)

-- what is made of one element more
pub mapped : {X Y : Type 0} (g : Y → X) (made after : List Y) (y : Y) → after ≡ made ++ y ∷ [] → map g after ≡ map g made ++ g y ∷ []
mapped g made after y grown = ap (map g) grown ∙ map-append g made (y ∷ [])
