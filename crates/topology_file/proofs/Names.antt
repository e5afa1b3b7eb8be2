-- The names of components.
use Rattle.std.proofs.Common.{◌≡◌, ℕ, ◌+◌, Bool, not, cond, List, [], ◌∷◌, map, refl, ap}
use Rattle.std.proofs.lemmas.List.{length-map}
use Rattle.std.specs.Prelude.{◌||◌, position}
use Rattle.std.specs.List.{list_any, prefix_len}
use Rattle.std.specs.Str.{bytes_eq}
use Rattle.topology_file.specs.declared.component.Component.{Component}
use Rattle.topology_file.specs.Ports.{is_among, names_of}
use Rattle.topology_file.specs.Links.{component_named}

-- a name is among the names of components where one of them has it
pub is_among-names_of : (name : List ℕ) (components : List Component) → is_among name (names_of components) ≡ list_any (λ (c : Component). bytes_eq name c.name) components
is_among-names_of name [] = refl
is_among-names_of name (c ∷ cs) = ap (λ found. bytes_eq name c.name || found) (is_among-names_of name cs)

-- how far a test passes on a list that was made of another
prefix_len-map : {A B : Type 0} (f : A → B) (p : B → Bool) (xs : List A) → prefix_len p (map f xs) ≡ prefix_len (λ x. p (f x)) xs
prefix_len-map f p [] = refl
prefix_len-map f p (x ∷ xs) = ap (λ n. cond (p (f x)) (1 + n) 0) (prefix_len-map f p xs)

pub position-map : {A B : Type 0} (f : A → B) (p : B → Bool) (xs : List A) → position p (map f xs) ≡ position (λ x. p (f x)) xs
position-map f p xs = rw (prefix_len-map f (λ y. not (p y)) xs, length-map xs f)

-- a name has the place of the component that has it
pub component_named-names_of : (name : List ℕ) (components : List Component) → component_named (names_of components) name ≡ position (λ (c : Component). bytes_eq name c.name) components
component_named-names_of name components = position-map (λ (c : Component). c.name) (bytes_eq name) components
