-- Each name of a topology is found at the place of its component.
use Rattle.std.proofs.Common.{◌≡◌, ℕ, zero, suc, ◌<◌, Bool, true, false, not, nat_lt, cond, List, [], ◌∷◌, ◌++◌, length, take, get_or, Option, Some, None, refl, ap, sym, ◌∙◌, arith, append_assoc, append-nil}
use Rattle.std.specs.Prelude.{◌||◌, position}
use Rattle.std.specs.List.{list_any, position_or_len}
use Rattle.std.specs.Str.{bytes_eq}
use Rattle.std.proofs.lemmas.Bool.{and_parts, false≢true}
use Rattle.std.proofs.lemmas.Bool.Decides.{nat_tests}
use Rattle.std.proofs.lemmas.List.{get_or-take, length-take}
use Rattle.std.proofs.lemmas.List.Sums.{position_or_len_is}
use Rattle.std.proofs.lemmas.Slice.Eq.{bytes_eq-Decides}
use Rattle.topology_file.specs.Ports.{is_among, are_new}
use Rattle.topology_file.specs.Links.{component_named}

not_true : (b : Bool) → not b ≡ true → b ≡ false
not_true true holds = absurd (false≢true holds)
not_true false holds = refl

-- the first place that passes a test
position_is : {X : Type 0} (p : X → Bool) (xs : List X) (i : ℕ) (d : X) → i < length xs → ((k : ℕ) → k < i → p (get_or xs k d) ≡ false) → p (get_or xs i d) ≡ true → position p xs ≡ Some i
position_is p xs i d within before here =
    let place : position_or_len p xs ≡ i = position_or_len_is p xs i d (omega arith) before (λ _. here) in
    let below : nat_lt i (length xs) ≡ true = grind (arith, nat_tests) in
    let At : ℕ → Option ℕ = λ n. cond (nat_lt n (length xs)) (Some n) None in
    ap At place ∙ ap (λ b. cond b (Some i) None) below

neither : (a b : Bool) → (a || b) ≡ false → (a ≡ false) × (b ≡ false)
neither true b none = absurd (false≢true (sym none))
neither false b none = (refl, none)

none_of : {X : Type 0} (p : X → Bool) (xs : List X) (i : ℕ) (d : X) → list_any p xs ≡ false → i < length xs → p (get_or xs i d) ≡ false
none_of p [] i d none within = absurd (omega arith)
none_of p (x ∷ xs) zero d none within = (neither (p x) (list_any p xs) none).0
none_of p (x ∷ xs) (suc i) d none within = none_of p xs i d (neither (p x) (list_any p xs) none).1 (omega arith)

-- no name is among those before it
is_new : (earlier names : List (List ℕ)) (k : ℕ) → are_new earlier names ≡ true → k < length names → is_among (get_or names k []) (earlier ++ take k names) ≡ false
is_new earlier [] k new within = absurd (omega arith)
is_new earlier (name ∷ names) zero new within =
    ap (is_among name) (append-nil earlier) ∙ not_true (is_among name earlier) (and_parts (not (is_among name earlier)) (are_new (earlier ++ name ∷ []) names) new).0
is_new earlier (name ∷ names) (suc k) new within =
    let rest = (and_parts (not (is_among name earlier)) (are_new (earlier ++ name ∷ []) names) new).1 in
    ap (is_among (get_or names k [])) (sym (append_assoc earlier (name ∷ []) (take k names))) ∙ is_new (earlier ++ name ∷ []) names k rest (omega arith)

pub named_at : (names : List (List ℕ)) (k : ℕ) → are_new [] names ≡ true → k < length names → component_named names (get_or names k []) ≡ Some k
named_at names k new within =
    let name = get_or names k [] in
    let before : (i : ℕ) → i < k → bytes_eq name (get_or names i []) ≡ false =
    λ i below. sym (ap (bytes_eq name) (get_or-take k names i [] below)) ∙ none_of (bytes_eq name) (take k names) i [] (is_new [] names k new within) (omega (arith, length-take k names)) in
    let itself : bytes_eq name name ≡ true = (bytes_eq-Decides name name).1 refl in
    position_is (bytes_eq name) names k [] within before itself
