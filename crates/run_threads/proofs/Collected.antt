-- Members that are taken back from the workers to which they were dealt.
use Rattle.std.proofs.Common.{◌≡◌, ℕ, ◌+◌, ◌*◌, ◌/◌, ◌%◌, ◌<◌, Bool, true, false, eqb, List, [], ◌∷◌, ◌++◌, length, get_or, reverse, Some, None, refl, sym, ap, ◌∙◌, subst, arith, append_assoc, append-nil, length-append}
use Rattle.std.specs.Prelude.{slice_get, slice_set}
use Rattle.std.proofs.Math.Nat.{mod-add-div', mul_comm}
use Rattle.std.proofs.lemmas.Nat.{mul-add-lt, mod_below}
use Rattle.std.proofs.lemmas.Bool.{eqb-true, eqb-false}
use Rattle.std.proofs.lemmas.List.{length-set, reverse-append, reverse-reverse}
use Rattle.std.proofs.lemmas.Option.{same_Some, slice_get-get_or, slice_get_within}
use Rattle.run_laws.proofs.Lists.{slice_get-set_same, slice_get-set_other}
use Rattle.worker_rounds.specs.Rounds.{Work}
use Rattle.run_threads.specs.Dealing.{AreSpread}
use Rattle.run_threads.proofs.Dealt.{get_last, get_other, same_row, same_column}

-- LAST ELEMENTS

pub record HasLast {X : Type 0} (xs : List X) : Type 0 where
  pub front : List X
  pub last : X
  pub is : xs ≡ front ++ last ∷ []

has_last : {X : Type 0} (x : X) (xs : List X) → HasLast (x ∷ xs)
has_last x [] = record { front = []; last = x; is = refl }
has_last x (y ∷ ys) = (let rest = has_last y ys in record { front = x ∷ rest.front; last = rest.last; is = ap (λ l. x ∷ l) rest.is })

pub some_last : {X : Type 0} (xs : List X) → 0 < length xs → HasLast xs
some_last [] some = absurd (omega arith)
some_last (x ∷ xs) some = has_last x xs

abbrev first_or : {X : Type 0} → X → List X → X
first_or d [] = d
first_or d (x ∷ xs) = x

abbrev others_of : {X : Type 0} → List X → List X
others_of [] = []
others_of (x ∷ xs) = xs

module _ {X : Type 0} (xs ys : List X) (x y : X) (same : xs ++ x ∷ [] ≡ ys ++ y ∷ []) where
  turned : x ∷ reverse xs ≡ y ∷ reverse ys
  turned = sym (reverse-append xs (x ∷ [])) ∙ ap reverse same ∙ reverse-append ys (y ∷ [])

  same_last : x ≡ y
  same_last = ap (first_or x) turned

  same_front : xs ≡ ys
  same_front = sym (reverse-reverse xs) ∙ ap (λ l. reverse (others_of l)) turned ∙ reverse-reverse ys

none_past : {X : Type 0} (xs : List X) → slice_get xs (length xs) ≡ None
none_past [] = refl
none_past (x ∷ xs) = none_past xs

-- the last member of a worker that has any went to the end of a list
abbrev pub LastMoved : {M : Type 0} → List M → List M → List M → List M → Type 0
LastMoved {M} from to from' to' = (front : List M) (last : M) → from ≡ front ++ last ∷ []
    → (from' ≡ front) × (to' ≡ to ++ last ∷ [])

-- so many members that were dealt to workers were taken back, from the last one down
abbrev pub Collected : {M : Type 0} → ℕ → List (Work M) → List M → Type 0
Collected {M} count workers members = (all : List M) → length all ≡ count → AreSpread workers all
    → members ≡ reverse all

-- ONE FEWER

module _ {M : Type 0} (workers : List (Work M)) (front : List M) (x : M) (spread : AreSpread workers (front ++ x ∷ [])) (worker : Work M) (here : slice_get workers (length front % length workers) ≡ Some worker) where
  abbrev n : ℕ
  n = length workers

  abbrev w0 : ℕ
  w0 = length front % length workers

  abbrev q : ℕ
  q = length front / length workers

  place : w0 + q * n ≡ length front
  place = mod-add-div' (length front) (length workers)

  within : w0 < n
  within = slice_get_within workers w0 worker here

  at_q : slice_get worker.members q ≡ Some x
  at_q = spread.dealt w0 q worker here ∙ ap (slice_get (front ++ x ∷ [])) place ∙ get_last front x

  ending : HasLast worker.members
  ending = some_last worker.members (let lt : q < length worker.members = slice_get_within worker.members q x at_q in omega arith)

  abbrev g : ℕ
  g = length ending.front

  at_g : slice_get worker.members g ≡ Some ending.last
  at_g = ap (λ l. slice_get l g) ending.is ∙ get_last ending.front ending.last

  many_members : length worker.members ≡ g + 1
  many_members = ap length ending.is ∙ length-append ending.front (ending.last ∷ [])

  inside : w0 + g * n < length front + 1
  inside = (let lt : w0 + g * n < length (front ++ x ∷ []) = slice_get_within (front ++ x ∷ []) (w0 + g * n) ending.last (sym (spread.dealt w0 g worker here) ∙ at_g) in let sum : length (front ++ x ∷ []) ≡ length front + 1 = length-append front (x ∷ []) in omega arith)

  not_before : (w0 + g * n ≡ length front → ⊥) → (q ≡ g → ⊥) → ⊥
  not_before differ rows =
      let most : q < length worker.members = slice_get_within worker.members q x at_q in
      let many : length worker.members ≡ g + 1 = many_members in
      let less : q < g = (let apart : q ≡ g → ⊥ = rows in omega arith) in
      let above : q * n + w0 < n * g = mul-add-lt q n w0 g less within in
      let turned_so : n * g ≡ g * n = mul_comm n g in
      let is : w0 + q * n ≡ length front = place in
      let below : w0 + g * n < length front + 1 = inside in
      omega arith

  as_many : g ≡ q
  as_many = by (eqb (w0 + g * n) (length front)) refl
    where
      rows : (w0 + g * n ≡ length front → ⊥) → (o : Bool) → eqb q g ≡ o → g ≡ q
      rows differ true f = sym (eqb-true q g f)
      rows differ false f = absurd (not_before differ (eqb-false q g f))

      by : (o : Bool) → eqb (w0 + g * n) (length front) ≡ o → g ≡ q
      by true e = same_row w0 g w0 q n within within (eqb-true (w0 + g * n) (length front) e ∙ sym place)
      by false e = rows (eqb-false (w0 + g * n) (length front) e) (eqb q g) refl

  last_is : ending.last ≡ x
  last_is = same_Some ending.last x (sym at_g ∙ ap (slice_get worker.members) as_many ∙ at_q)

  members_are : worker.members ≡ ending.front ++ x ∷ []
  members_are = ending.is ∙ ap (λ m. ending.front ++ m ∷ []) last_is

  module _ (worker' : Work M) (left : worker'.members ≡ ending.front) where
    here_then : (k : ℕ) → slice_get ending.front k ≡ slice_get front (w0 + k * n)
    here_then k = by (eqb k q) refl
      where
        by : (o : Bool) → eqb k q ≡ o → slice_get ending.front k ≡ slice_get front (w0 + k * n)
        by true e = (let is : k ≡ q = eqb-true k q e in ap (slice_get ending.front) (is ∙ sym as_many) ∙ none_past ending.front ∙ sym (none_past front) ∙ ap (slice_get front) (sym place ∙ ap (λ r. w0 + r * n) (sym is)))
        by false e =
            let differ = eqb-false k q e in
            sym (get_other ending.front x k (λ same. differ (same ∙ as_many))) ∙ ap (λ l. slice_get l k) (sym members_are) ∙ spread.dealt w0 k worker here ∙ get_other front x (w0 + k * n) (λ same. differ (same_row w0 k w0 q n within within (same ∙ sym place)))

    there_then : (w k : ℕ) (one : Work M) → slice_get (slice_set workers w0 worker') w ≡ Some one → slice_get one.members k ≡ slice_get front (w + k * n)
    there_then w k one at = by (eqb w w0) refl
      where
        by : (o : Bool) → eqb w w0 ≡ o → slice_get one.members k ≡ slice_get front (w + k * n)
        by true e =
            let is : w ≡ w0 = eqb-true w w0 e in
            let same : one ≡ worker' = same_Some one worker' (sym at ∙ ap (slice_get (slice_set workers w0 worker')) is ∙ slice_get-set_same workers w0 worker worker' here) in
            ap (λ (o : Work M). slice_get o.members k) same ∙ ap (λ l. slice_get l k) left ∙ here_then k ∙ ap (λ v. slice_get front (v + k * n)) (sym is)
        by false e =
            let differ = eqb-false w w0 e in
            let before : slice_get workers w ≡ Some one = sym (slice_get-set_other workers w0 w worker' (λ same. differ (sym same))) ∙ at in
            spread.dealt w k one before ∙ get_other front x (w + k * n) (λ same. differ (same_column w k w0 q n (slice_get_within workers w one before) within (same ∙ sym place)))

    spread_less : AreSpread (slice_set workers w0 worker') front
    spread_less = record {
      some_worker = (let many : length (slice_set workers w0 worker') ≡ length workers = length-set workers w0 worker' in let some : 0 < length workers = spread.some_worker in omega arith);
      dealt = λ w k one at. there_then w k one at ∙ ap (λ m. slice_get front (w + k * m)) (sym (length-set workers w0 worker'));
    }

  -- one that is taken back was the last of those that are left
  module _ (worker' : Work M) (members members' : List M) (moved : LastMoved worker.members members worker'.members members') where
    both : (worker'.members ≡ ending.front) × (members' ≡ members ++ x ∷ [])
    both = moved ending.front x members_are

    one_fewer : AreSpread (slice_set workers w0 worker') front
    one_fewer = spread_less worker' both.0

    one_came : members' ≡ members ++ x ∷ []
    one_came = both.1

-- ALL OF THEM, FROM THE LAST ONE DOWN

-- the first so many are still with the workers, and the others were taken
pub record IsCollecting {M : Type 0} (all : List M) (number : ℕ) (workers : List (Work M)) (members : List M) : Type 0 where
  pub front : List M
  pub rest : List M
  pub whole : front ++ rest ≡ all
  pub as_many : length front ≡ number
  pub spread : AreSpread workers front
  pub taken : members ≡ reverse rest

pub collecting_starts : {M : Type 0} (all : List M) (count : ℕ) (workers : List (Work M)) (members : List M) → members ≡ [] → length all ≡ count → AreSpread workers all → IsCollecting all count workers members
collecting_starts all count workers members none many spread = record { front = all; rest = []; whole = append-nil all; as_many = many; spread = spread; taken = none }

pub one_taken : {M : Type 0} (all : List M) (number number' : ℕ) (workers : List (Work M)) (members : List M) → IsCollecting all number workers members → number ≡ number' + 1 → (d worker' : Work M) (members' : List M) → LastMoved (get_or workers (number' % length workers) d).members members worker'.members members' → IsCollecting all number' (slice_set workers (number' % length workers) worker') members'
one_taken {M} all number number' workers members so_far is d worker' members' moved = record {
  front = parted.front;
  rest = parted.last ∷ so_far.rest;
  whole = sym (append_assoc parted.front (parted.last ∷ []) so_far.rest) ∙ ap (λ l. l ++ so_far.rest) (sym parted.is) ∙ so_far.whole;
  as_many = many;
  spread = subst (λ k. AreSpread (slice_set workers (k % length workers) worker') parted.front) many (one_fewer workers parted.front parted.last spread (get_or workers (number' % length workers) d) here worker' members members' moved);
  taken = one_came workers parted.front parted.last spread (get_or workers (number' % length workers) d) here worker' members members' moved ∙ ap (λ l. l ++ parted.last ∷ []) so_far.taken ∙ sym (reverse-append (parted.last ∷ []) so_far.rest);
}
  where
    parted : HasLast so_far.front
    parted = some_last so_far.front (let many_so_far : length so_far.front ≡ number = so_far.as_many in omega (arith, is))

    many : length parted.front ≡ number'
    many = (let many_so_far : length so_far.front ≡ number = so_far.as_many in let sum : length so_far.front ≡ length parted.front + 1 = ap length parted.is ∙ length-append parted.front (parted.last ∷ []) in omega (arith, is))

    spread : AreSpread workers (parted.front ++ parted.last ∷ [])
    spread = subst (AreSpread workers) parted.is so_far.spread

    here : slice_get workers (length parted.front % length workers) ≡ Some (get_or workers (number' % length workers) d)
    here = ap (λ k. slice_get workers (k % length workers)) many ∙ slice_get-get_or workers (number' % length workers) d (mod_below number' (length workers) spread.some_worker)

no_front : {M : Type 0} (front rest : List M) → length front ≡ 0 → front ++ rest ≡ rest
no_front [] rest none = refl
no_front (x ∷ xs) rest none = absurd (omega (arith, none))

pub all_collected : {M : Type 0} (all : List M) (number : ℕ) (workers : List (Work M)) (members : List M) → IsCollecting all number workers members → number ≡ 0 → members ≡ reverse all
all_collected all number workers members so_far none = so_far.taken ∙ ap reverse (sym (no_front so_far.front so_far.rest (so_far.as_many ∙ none)) ∙ so_far.whole)
