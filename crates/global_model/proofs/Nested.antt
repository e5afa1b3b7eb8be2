-- Lists of lists, by the end of a link.
use Rattle.std.specs.Prelude.{ℕ, ◌≡◌, ◌≢◌, ◌==◌, ◌+◌, ◌<◌, zero, suc, Bool, true, false, if◌then◌else◌, ◌&&◌, List, [], ◌∷◌, ◌++◌, length, map, slice_get, slice_set, Option, Some, None, IsSome, IfSome, IfNone, Vec, option_map, option_and_then, refl}
use Rattle.std.proofs.lemmas.Bool.{false≢true}
use Rattle.std.proofs.lemmas.Bool.Decides.{nat_tests}
use Rattle.std.proofs.Common.{sym, ap, ◌∙◌, arith, subst, get_or}
use Rattle.std.proofs.lemmas.List.{map-set, map_push, length-map}
use Rattle.std.proofs.lemmas.Option.{slice_get-map, slice_get_read, slice_get_within}
use Rattle.cs_base.specs.Plan.{End, same_end}
use Rattle.sb_message.specs.declared.message.Msg.{Msg}
use Rattle.global_model.specs.Inboxes.{port_of, end_at, put}

pub equal_from_test : (i j : ℕ) → (i == j) ≡ true → i ≡ j
equal_from_test i j is = grind (arith, nat_tests)

pub unequal_from_test : (i j : ℕ) → (i == j) ≡ false → i ≢ j
unequal_from_test i j is = grind (arith, nat_tests)

pub get_set_same : {X : Type 0} (xs : List X) (i : ℕ) (x : X) → i < length xs → slice_get (slice_set xs i x) i ≡ Some x
get_set_same [] i x lt = absurd (omega arith)
get_set_same (y ∷ ys) zero x lt = refl
get_set_same (y ∷ ys) (suc i) x lt = get_set_same ys i x (omega arith)

pub get_set_other : {X : Type 0} (xs : List X) (i j : ℕ) (x : X) → i ≢ j → slice_get (slice_set xs i x) j ≡ slice_get xs j
get_set_other [] i j x ne = refl
get_set_other (y ∷ ys) zero zero x ne = absurd (ne refl)
get_set_other (y ∷ ys) zero (suc j) x ne = refl
get_set_other (y ∷ ys) (suc i) zero x ne = refl
get_set_other (y ∷ ys) (suc i) (suc j) x ne = get_set_other ys i j x (λ e. ne (ap suc e))

pub get_set : {X : Type 0} (xs : List X) (i j : ℕ) (x : X) → i < length xs → slice_get (slice_set xs i x) j ≡ (if i == j then Some x else slice_get xs j)
get_set {X} xs i j x lt = at (i == j) refl
  where
    at : (same : Bool) → (i == j) ≡ same → slice_get (slice_set xs i x) j ≡ (if same then Some x else slice_get xs j)
    at true is = subst (λ k. slice_get (slice_set xs i x) k ≡ Some x) (equal_from_test i j is) (get_set_same xs i x lt)
    at false is = get_set_other xs i j x (unequal_from_test i j is)

-- one element of one list is replaced
pub port_of-set : {X : Type 0} (lists : List (List X)) (ports : List X) (c p : ℕ) (x : X) (e : End) → slice_get lists c ≡ Some ports → c < length lists → p < length ports → port_of (slice_set lists c (slice_set ports p x)) e ≡ (if same_end (end_at c p) e then Some x else port_of lists e)
port_of-set {X} lists ports c p x e is c_lt p_lt = ap (option_and_then (λ inner. slice_get inner e.port)) (get_set lists c e.component (slice_set ports p x) c_lt) ∙ at (c == e.component) refl
  where
    at : (same : Bool) → (c == e.component) ≡ same → option_and_then (λ inner. slice_get inner e.port) (if same then Some (slice_set ports p x) else slice_get lists e.component) ≡ (if same && (p == e.port) then Some x else port_of lists e)
    at false differs = refl
    at true same =
        let here : slice_get lists e.component ≡ Some ports = subst (λ k. slice_get lists k ≡ Some ports) (equal_from_test c e.component same) is in
        get_set ports p e.port x p_lt ∙ ap (λ found. if p == e.port then Some x else option_and_then (λ inner. slice_get inner e.port) found) (sym here)

-- the list of a vector in a vector
the_ports : {X Z : Type 0} (vectors : List (Vec X Z)) (ports : Vec X Z) (c : ℕ) → c < length vectors → ports ≡ get_or vectors c ports → slice_get (map (λ (v : Vec X Z). v.items) vectors) c ≡ Some ports.items
the_ports {X} {Z} vectors ports c lt read = slice_get-map (λ (v : Vec X Z). v.items) vectors c ∙ ap (option_map (λ (v : Vec X Z). v.items)) (slice_get_read vectors (length vectors) c ports refl lt read)

-- the same for vectors in a vector
pub replaced : {X Z : Type 0} (vectors : List (Vec X Z)) (ports new : Vec X Z) (c p : ℕ) (x : X) (e : End) → c < length vectors → ports ≡ get_or vectors c ports → p < length ports.items → new.items ≡ slice_set ports.items p x → port_of (map (λ v. v.items) (slice_set vectors c new)) e ≡ (if same_end (end_at c p) e then Some x else port_of (map (λ v. v.items) vectors) e)
replaced {X} {Z} vectors ports new c p x e c_lt read p_lt is =
    let items : Vec X Z → List X = λ v. v.items in
    let inside : c < length (map items vectors) = omega (arith, length-map vectors items) in
    ap (λ lists. port_of lists e) (map-set items vectors c new ∙ ap (slice_set (map items vectors) c) is)
    ∙ port_of-set (map items vectors) ports.items c p x e (the_ports vectors ports c c_lt read) inside p_lt

pub found_at : {X Z : Type 0} (vectors : List (Vec X Z)) (ports : Vec X Z) (c p : ℕ) (x : X) → c < length vectors → ports ≡ get_or vectors c ports → p < length ports.items → x ≡ get_or ports.items p x → port_of (map (λ v. v.items) vectors) (end_at c p) ≡ Some x
found_at {X} vectors ports c p x c_lt read p_lt read_inner =
    ap (option_and_then (λ inner. slice_get inner p)) (the_ports vectors ports c c_lt read) ∙ slice_get_read ports.items (length ports.items) p x refl p_lt read_inner

-- a port that is there has a component that is there
pub port_within : {X Z : Type 0} (vectors : List (Vec X Z)) (ports : Vec X Z) (c p : ℕ) → IsSome (port_of (map (λ v. v.items) vectors) (end_at c p)) → ports ≡ get_or vectors c ports → (c < length vectors) × (p < length ports.items)
port_within {X} {Z} vectors ports c p there read = at (slice_get lists c) refl there
  where
    items : Vec X Z → List X
    items v = v.items

    lists : List (List X)
    lists = map (λ (v : Vec X Z). v.items) vectors

    inner_within : (inner : List X) → IsSome (slice_get inner p) → p < length inner
    inner_within inner some = inner_at (slice_get inner p) refl some
      where
        inner_at : (found : Option X) → slice_get inner p ≡ found → IsSome found → p < length inner
        inner_at None is some = absurd (false≢true some)
        inner_at (Some x) is some = slice_get_within inner p x is

    at : (found : Option (List X)) → slice_get lists c ≡ found → IsSome (option_and_then (λ inner. slice_get inner p) found) → (c < length vectors) × (p < length ports.items)
    at None is some = absurd (false≢true some)
    at (Some inner) is some =
        let in_lists : c < length lists = slice_get_within lists c inner is in
        let within : c < length vectors = omega (arith, in_lists, length-map vectors (λ (v : Vec X Z). v.items)) in
        let same : Some inner ≡ Some ports.items = sym is ∙ the_ports vectors ports c within read in
        let same_inner : inner ≡ ports.items = cc in
        (within, subst (λ xs. p < length xs) same_inner (inner_within inner some))

pub same_end_is : (x y : End) → same_end x y ≡ true → x ≡ y
same_end_is x y same = at (x.component == y.component) refl same
  where
    at : (first : Bool) → (x.component == y.component) ≡ first → (first && (x.port == y.port)) ≡ true → x ≡ y
    at false is both = absurd (false≢true both)
    at true is both = ap (λ c. end_at c x.port) (equal_from_test x.component y.component is) ∙ ap (end_at y.component) (equal_from_test x.port y.port both)

-- what a port gets stands at the end of its queue
pub put_is : (queues : End → Option (List Msg)) (end : End) (queue : List Msg) (m : Msg) (e : End) → queues end ≡ Some queue → (if same_end end e then Some (queue ++ m ∷ []) else queues e) ≡ put end m queues e
put_is queues end queue m e is = at (same_end end e) refl
  where
    at : (same : Bool) → same_end end e ≡ same → (if same then Some (queue ++ m ∷ []) else queues e) ≡ (if same then option_map (λ q. q ++ m ∷ []) (queues e) else queues e)
    at false differs = refl
    at true same = ap (option_map (λ q. q ++ m ∷ [])) (sym (subst (λ x. queues x ≡ Some queue) (same_end_is end e same) is))

-- the same where the list is seen as another one
module _ {X Z : Type 0} (lists : List (List X)) (vectors : List (Vec X Z)) (ports : Vec X Z) (c p : ℕ) (x : X) (view : map (λ (v : Vec X Z). v.items) vectors ≡ lists) (there : IsSome (port_of lists (end_at c p))) (read : ports ≡ get_or vectors c ports) (read_inner : x ≡ get_or ports.items p x) where
  within_view : (c < length vectors) × (p < length ports.items)
  within_view = port_within vectors ports c p (subst (λ l. IsSome (port_of l (end_at c p))) (sym view) there) read

  pub found_in_view : port_of lists (end_at c p) ≡ Some x
  found_in_view = let within : (c < length vectors) × (p < length ports.items) = within_view in subst (λ l. port_of l (end_at c p) ≡ Some x) view (found_at vectors ports c p x within.0 read within.1 read_inner)

  pub updated_in_view : (new : Vec X Z) (y : X) → new.items ≡ slice_set ports.items p y → (e : End) → port_of (map (λ (v : Vec X Z). v.items) (slice_set vectors c new)) e ≡ (if same_end (end_at c p) e then Some y else port_of lists e)
  updated_in_view new y is e =
      let within : (c < length vectors) × (p < length ports.items) = within_view in
      replaced vectors ports new c p y e within.0 read within.1 is ∙ ap (λ l. if same_end (end_at c p) e then Some y else port_of l e) view

-- a port's queue is as it was
pub with_itself : (queues : End → Option (List Msg)) (end : End) (queue : List Msg) (e : End) → queues end ≡ Some queue → (if same_end end e then Some queue else queues e) ≡ queues e
with_itself queues end queue e is = at (same_end end e) refl
  where
    at : (same : Bool) → same_end end e ≡ same → (if same then Some queue else queues e) ≡ queues e
    at false differs = refl
    at true same = sym (subst (λ x. queues x ≡ Some queue) (same_end_is end e same) is)

pub IfNone_then : {X : Type 0} {P Q : Type 0} (r : Option X) → IfNone r P → (P → Q) → IfNone r Q
IfNone_then None h f = f h
IfNone_then (Some x) h f = tt

pub IfSome_at : {X : Type 0} (o : Option X) (P : X → Type 0) (x : X) → o ≡ Some x → P x → IfSome o P
IfSome_at o P x is p = subst (λ r. IfSome r P) (sym is) p

pub get_push_before : {X : Type 0} (xs : List X) (y : X) (d : ℕ) → d < length xs → slice_get (xs ++ y ∷ []) d ≡ slice_get xs d
get_push_before [] y d lt = absurd (omega arith)
get_push_before (x ∷ xs) y zero lt = refl
get_push_before (x ∷ xs) y (suc d) lt = get_push_before xs y d (omega arith)

pub get_push_here : {X : Type 0} (xs : List X) (y : X) → slice_get (xs ++ y ∷ []) (length xs) ≡ Some y
get_push_here [] y = refl
get_push_here (x ∷ xs) y = get_push_here xs y

get_within : {X : Type 0} (xs : List X) (i : ℕ) → IsSome (slice_get xs i) → i < length xs
get_within {X} xs i some = at (slice_get xs i) refl some
  where
    at : (found : Option X) → slice_get xs i ≡ found → IsSome found → i < length xs
    at None is some = absurd (false≢true some)
    at (Some x) is some = slice_get_within xs i x is

-- a port that is there has a list that is there
pub component_within : {X : Type 0} (lists : List (List X)) (e : End) → IsSome (port_of lists e) → e.component < length lists
component_within {X} lists e some = get_within lists e.component (at (slice_get lists e.component) some)
  where
    at : (found : Option (List X)) → IsSome (option_and_then (λ inner. slice_get inner e.port) found) → IsSome found
    at None some = some
    at (Some inner) some = refl

-- one more row of elements, each by a function of its port
pub rows_more : {K X Z : Type 0} (f : End → X) (kinds : List (List K)) (ports : List K) (rows : List (Vec X Z)) (row : Vec X Z) (i : ℕ) → length rows ≡ i → slice_get kinds i ≡ Some ports → ((p : ℕ) → p < length ports → slice_get row.items p ≡ Some (f (end_at i p))) → ((e : End) → e.component < i → IsSome (port_of kinds e) → port_of (map (λ (v : Vec X Z). v.items) rows) e ≡ Some (f e)) → (e : End) → e.component < i + 1 → IsSome (port_of kinds e) → port_of (map (λ (v : Vec X Z). v.items) (rows ++ row ∷ [])) e ≡ Some (f e)
rows_more {K} {X} {Z} f kinds ports rows row i len is new before e lt there =
    ap (λ lists. port_of lists e) (map_push (λ (v : Vec X Z). v.items) rows row) ∙ at (e.component == i) refl
  where
    lists : List (List X)
    lists = map (λ (v : Vec X Z). v.items) rows

    same_length : length lists ≡ i
    same_length = length-map rows (λ (v : Vec X Z). v.items) ∙ len

    at : (here : Bool) → (e.component == i) ≡ here → port_of (lists ++ row.items ∷ []) e ≡ Some (f e)
    at false differs =
        let ne : e.component ≢ i = unequal_from_test e.component i differs in
        let below : e.component < i = omega (arith, ne, lt) in
        ap (option_and_then (λ inner. slice_get inner e.port)) (get_push_before lists row.items e.component (omega (arith, same_length, below))) ∙ before e below there
    at true same =
        let at_i : e.component ≡ i = equal_from_test e.component i same in
        let found : slice_get (lists ++ row.items ∷ []) e.component ≡ Some row.items = subst (λ d. slice_get (lists ++ row.items ∷ []) d ≡ Some row.items) (same_length ∙ sym at_i) (get_push_here lists row.items) in
        let kind : IsSome (slice_get ports e.port) = subst (λ found. IsSome (option_and_then (λ inner. slice_get inner e.port) found)) is (subst (λ d. IsSome (option_and_then (λ inner. slice_get inner e.port) (slice_get kinds d))) at_i there) in
        ap (option_and_then (λ inner. slice_get inner e.port)) found ∙ new e.port (get_within ports e.port kind) ∙ ap (λ d. Some (f (end_at d e.port))) (sym at_i)

-- one more element that is like the others
pub filled_more : {X : Type 0} (xs : List X) (x y : X) (i : ℕ) → length xs ≡ i → y ≡ x → ((p : ℕ) → p < i → slice_get xs p ≡ Some x) → (p : ℕ) → p < i + 1 → slice_get (xs ++ y ∷ []) p ≡ Some x
filled_more {X} xs x y i len same before p lt = at (p == length xs) refl
  where
    at : (here : Bool) → (p == length xs) ≡ here → slice_get (xs ++ y ∷ []) p ≡ Some x
    at false differs =
        let ne : p ≢ length xs = unequal_from_test p (length xs) differs in
        get_push_before xs y p (omega (arith, ne, lt, len)) ∙ before p (omega (arith, ne, lt, len))
    at true is = subst (λ n. slice_get (xs ++ y ∷ []) n ≡ Some x) (sym (equal_from_test p (length xs) is)) (get_push_here xs y ∙ ap Some same)
