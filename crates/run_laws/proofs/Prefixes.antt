-- The first part of a list.
use Rattle.std.proofs.Common.{◌≡◌, Bool, List, [], ◌++◌, map, filter, sym, ap, ◌∙◌, append_assoc, append-nil}
use Rattle.std.proofs.lemmas.List.{map-append}
use Rattle.std.proofs.lemmas.List.Elements.{filter-append}
use Rattle.run_laws.specs.LocalRuns.{IsPrefix}

module _ {A : Type 0} where
  pub prefix_whole : (xs : List A) → IsPrefix xs xs
  prefix_whole xs = record { rest = []; whole_is = sym (append-nil xs) }

  pub prefix_same : (xs ys : List A) → xs ≡ ys → IsPrefix xs ys
  prefix_same xs ys e = record { rest = []; whole_is = sym e ∙ sym (append-nil xs) }

  pub prefix_more : (xs ys zs : List A) → IsPrefix xs ys → IsPrefix xs (ys ++ zs)
  prefix_more xs ys zs p = record { rest = p.rest ++ zs; whole_is = ap (λ l. l ++ zs) p.whole_is ∙ append_assoc xs p.rest zs }

  pub prefix_under : (xs ys zs : List A) → IsPrefix ys zs → IsPrefix (xs ++ ys) (xs ++ zs)
  prefix_under xs ys zs p = record { rest = p.rest; whole_is = ap (λ l. xs ++ l) p.whole_is ∙ sym (append_assoc xs ys p.rest) }

  pub prefix_through : (xs ys zs : List A) → IsPrefix xs ys → IsPrefix ys zs → IsPrefix xs zs
  prefix_through xs ys zs p q = record { rest = p.rest ++ q.rest; whole_is = q.whole_is ∙ ap (λ l. l ++ q.rest) p.whole_is ∙ append_assoc xs p.rest q.rest }

  pub prefix_map : {B : Type 0} (f : A → B) (xs ys : List A) → IsPrefix xs ys → IsPrefix (map f xs) (map f ys)
  prefix_map f xs ys p = record { rest = map f p.rest; whole_is = ap (map f) p.whole_is ∙ map-append f xs p.rest }

  pub prefix_filter : (test : A → Bool) (xs ys : List A) → IsPrefix xs ys → IsPrefix (filter test xs) (filter test ys)
  prefix_filter test xs ys p = record { rest = filter test p.rest; whole_is = ap (filter test) p.whole_is ∙ filter-append test xs p.rest }
