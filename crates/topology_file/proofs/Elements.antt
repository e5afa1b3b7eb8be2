-- The elements of an array as a list.
use Rattle.std.proofs.Common.{◌≡◌, ℕ, zero, suc, ◌+◌, ◌<◌, List, [], ◌∷◌, ◌++◌, length, map, take, get_or, refl, ap, sym, ◌∙◌}
use Rattle.std.proofs.lemmas.List.{take_more, map-append}
use Rattle.toml.specs.View.{view, items_view}
use Rattle.toml.specs.declared.value.Value.{Value}
use Rattle.topology_file.specs.Fields.{list_of}

pub list_of-items_view : (vs : List Value) → list_of (items_view vs) ≡ map view vs
list_of-items_view [] = refl
list_of-items_view (v ∷ vs) = ap (λ ds. view v ∷ ds) (list_of-items_view vs)

-- an element of a list, as seen
pub get_or-map : {A B : Type 0} (f : A → B) (xs : List A) (i : ℕ) (x : A) → x ≡ get_or xs i x → f x ≡ get_or (map f xs) i (f x)
get_or-map f [] i x this = refl
get_or-map f (y ∷ ys) zero x this = ap f this
get_or-map f (y ∷ ys) (suc i) x this = get_or-map f ys i x this

-- one more element that was made of the next
pub map_more : {A B C : Type 0} (f : A → C) (g : B → C) (xs : List A) (ys : List B) (i : ℕ) (x : A) (y : B) → map f xs ≡ map g (take i ys) → i < length ys → y ≡ get_or ys i y → f x ≡ g y → map f (xs ++ x ∷ []) ≡ map g (take (i + 1) ys)
map_more f g xs ys i x y so_far within this told =
    let taken = take_more ys i y within ∙ ap (λ next. take i ys ++ next ∷ []) (sym this) in
    map-append f xs (x ∷ []) ∙ ap (λ front. front ++ f x ∷ []) so_far ∙ ap (λ next. map g (take i ys) ++ next ∷ []) told ∙ sym (ap (map g) taken ∙ map-append g (take i ys) (y ∷ []))
