-- Lists of which one element was changed, seen place by place.
use Rattle.std.proofs.Common.{◌≡◌, ℕ, zero, suc, Bool, true, false, cond, eqb, List, [], ◌∷◌, ◌++◌, length, map, Option, Some, None, option_map, refl, sym, ap, ◌∙◌, subst, arith}
use Rattle.std.specs.Prelude.{slice_get, slice_set, All}
use Rattle.std.proofs.lemmas.Bool.{cond-true, cond-false, eqb-true, eqb-false, eq-eqb, ne_eqb}
use Rattle.std.proofs.lemmas.List.Elements.{All-head, All-tail}
use Rattle.std.proofs.lemmas.Option.{none-some, same_Some, slice_get-map}
use Rattle.sb_message.specs.declared.message.Msg.{Msg}
use Rattle.run_laws.specs.NextEvent.{AreInboxes, AreAhead, with_port}
use Rattle.device_api.specs.Position.{Position}
use Rattle.run_laws.proofs.Lists.{slice_get-set_same, slice_get-set_other}
use Rattle.sync_rule.specs.Ports.{In, at_place}
use Rattle.sync_laws.specs.Stands.{inbox_at, inbox_in}

-- what holds of each element at its place holds of each after one was changed, if it then holds of that and of the others
pub each_place : {X : Type 0} (P Q : ℕ → X → Type 0) (i : ℕ) (f : X → X) (xs : List X) → ((p : ℕ) (x : X) → slice_get xs p ≡ Some x → P p x) → ((x : X) → slice_get xs i ≡ Some x → P i x → Q i (f x)) → ((p : ℕ) (x : X) → (p ≡ i → ⊥) → slice_get xs p ≡ Some x → P p x → Q p x) → (p : ℕ) (x : X) → slice_get (at_place i f xs) p ≡ Some x → Q p x
unfolding at_place
each_place P Q i f [] all here others p x is = absurd (none-some x is)
each_place P Q zero f (y ∷ ys) all here others zero x is = subst (Q 0) (same_Some (f y) x is) (here y refl (all 0 y refl))
each_place P Q zero f (y ∷ ys) all here others (suc p) x is = others (suc p) x (λ e. omega arith) is (all (suc p) x is)
each_place P Q (suc i) f (y ∷ ys) all here others zero x is = others 0 x (λ e. omega arith) is (all 0 x is)
each_place P Q (suc i) f (y ∷ ys) all here others (suc p) x is = each_place (λ q. P (suc q)) (λ q. Q (suc q)) i f ys (λ q z there. all (suc q) z there) here (λ q z differ there. others (suc q) z (λ e. differ (let same : q ≡ i = omega arith in same)) there) p x is

pub get_changed : {X : Type 0} (i : ℕ) (f : X → X) (xs : List X) (x : X) → slice_get xs i ≡ Some x → slice_get (at_place i f xs) i ≡ Some (f x)
unfolding at_place
get_changed i f [] x is = absurd (none-some x is)
get_changed zero f (y ∷ ys) x is = ap (λ z. Some (f z)) (same_Some y x is)
get_changed (suc i) f (y ∷ ys) x is = get_changed i f ys x is

pub get_other : {X : Type 0} (i p : ℕ) (f : X → X) (xs : List X) → (p ≡ i → ⊥) → slice_get (at_place i f xs) p ≡ slice_get xs p
unfolding at_place
get_other i p f [] differ = refl
get_other zero zero f (y ∷ ys) differ = absurd (differ refl)
get_other zero (suc p) f (y ∷ ys) differ = refl
get_other (suc i) zero f (y ∷ ys) differ = refl
get_other (suc i) (suc p) f (y ∷ ys) differ = get_other i p f ys (λ e. differ (let same : suc p ≡ suc i = omega arith in same))

pub map_changed : {X Y : Type 0} (g : X → Y) (i : ℕ) (f : X → X) (xs : List X) → ((x : X) → g (f x) ≡ g x) → map g (at_place i f xs) ≡ map g xs
unfolding at_place
map_changed g i f [] same = refl
map_changed g zero f (x ∷ xs) same = ap (λ y. y ∷ map g xs) (same x)
map_changed g (suc i) f (x ∷ xs) same = ap (λ l. g x ∷ l) (map_changed g i f xs same)

pub get_mapped : {X Y : Type 0} (f : X → Y) (xs : List X) (p : ℕ) (x : X) → slice_get xs p ≡ Some x → slice_get (map f xs) p ≡ Some (f x)
get_mapped f [] p x is = absurd (none-some x is)
get_mapped f (y ∷ ys) zero x is = ap (λ z. Some (f z)) (same_Some y x is)
get_mapped f (y ∷ ys) (suc p) x is = get_mapped f ys p x is

pub length_mapped : {X Y : Type 0} (f : X → Y) (xs : List X) → length (map f xs) ≡ length xs
length_mapped f [] = refl
length_mapped f (x ∷ xs) = ap suc (length_mapped f xs)

pub each_mapped : {X Y : Type 0} (P : ℕ → Y → Type 0) (f : X → Y) (xs : List X) → ((p : ℕ) (x : X) → slice_get xs p ≡ Some x → P p (f x)) → (p : ℕ) (y : Y) → slice_get (map f xs) p ≡ Some y → P p y
each_mapped P f [] all p y is = absurd (none-some y is)
each_mapped P f (x ∷ xs) all zero y is = subst (P 0) (same_Some (f x) y is) (all 0 x refl)
each_mapped P f (x ∷ xs) all (suc p) y is = each_mapped (λ q. P (suc q)) f xs (λ q z there. all (suc q) z there) p y is

-- lists by port of which one is another
pub port_same : (port : ℕ) (messages : List Msg) (lists : ℕ → List Msg) → with_port port messages lists port ≡ messages
port_same port messages lists = cond-true (eqb port port) messages (lists port) (eq-eqb port port refl)

pub port_other : (port p : ℕ) (messages : List Msg) (lists : ℕ → List Msg) → (p ≡ port → ⊥) → with_port port messages lists p ≡ lists p
port_other port p messages lists differ = cond-false (eqb p port) messages (lists p) (ne_eqb p port differ)

-- two lists by port that are the same
pub agree_at : (port : ℕ) (messages : List Msg) (lists others : ℕ → List Msg) → others port ≡ messages → ((p : ℕ) → (p ≡ port → ⊥) → others p ≡ lists p) → (p : ℕ) → with_port port messages lists p ≡ others p
agree_at port messages lists others here else p = at (eqb p port) refl
  where
    at : (b : Bool) → eqb p port ≡ b → cond b messages (lists p) ≡ others p
    at true e = sym here ∙ ap others (sym (eqb-true p port e))
    at false e = sym (else p (eqb-false p port e))

-- the inboxes after one port was changed
pub inboxes_changed : (port : ℕ) (f : In → In) (ins : List In) (i : In) → slice_get ins port ≡ Some i → (p : ℕ) → with_port port (f i).inbox (inbox_in ins) p ≡ inbox_in (at_place port f ins) p
inboxes_changed port f ins i is = agree_at port (f i).inbox (inbox_in ins) (inbox_in (at_place port f ins)) (ap inbox_at (get_changed port f ins i is)) (λ p differ. ap inbox_at (get_other port p f ins differ))

-- the same lists by port
pub boxes_same : (position : Position) (ports : ℕ) (inputs handled inbox others : ℕ → List Msg) → ((p : ℕ) → inbox p ≡ others p) → AreInboxes position ports inputs handled inbox → AreInboxes position ports inputs handled others
boxes_same position ports inputs handled inbox others same boxes = record {
  rises = boxes.rises;
  whole = λ p lt. boxes.whole p lt ∙ ap (λ l. handled p ++ l) (same p);
  reached = boxes.reached;
  waits = λ p lt. subst (λ l. AreAhead position p (length (handled p)) l) (same p) (boxes.waits p lt);
}

pub map_mapped : {X Y Z : Type 0} (g : Y → Z) (f : X → Y) (h : X → Z) (xs : List X) → ((x : X) → g (f x) ≡ h x) → map g (map f xs) ≡ map h xs
map_mapped g f h [] same = refl
map_mapped {X} {Y} {Z} g f h (x ∷ xs) same = ap (λ z. z ∷ map g (map f xs)) (same x) ∙ ap (λ l. h x ∷ l) (map_mapped g f h xs same)

pub all_at : {X : Type 0} (P : X → Type 0) (xs : List X) → All P xs → (p : ℕ) (x : X) → slice_get xs p ≡ Some x → P x
all_at P [] all p x is = absurd (none-some x is)
all_at P (y ∷ ys) all zero x is = subst P (same_Some y x is) (All-head P y ys all)
all_at P (y ∷ ys) all (suc p) x is = all_at P ys (All-tail P y ys all) p x is

pub not_nil : {X : Type 0} (x : X) (xs : List X) → [] ≡ x ∷ xs → ⊥
not_nil x xs e = let no : ◌≡◌ {A = ℕ} 0 (suc (length xs)) = ap length e in omega arith

-- what holds of each element holds of each after one was replaced, if it holds of the new one
pub each_replaced : {X : Type 0} (P : ℕ → X → Type 0) (xs : List X) (i : ℕ) (x y : X) → slice_get xs i ≡ Some x → P i y → ((p : ℕ) (z : X) → (p ≡ i → ⊥) → slice_get xs p ≡ Some z → P p z) → (p : ℕ) (z : X) → slice_get (slice_set xs i y) p ≡ Some z → P p z
each_replaced P xs i x y there here others p z is = at (eqb i p) refl
  where
    at : (b : Bool) → eqb i p ≡ b → P p z
    at true e = subst (λ q. P q z) (eqb-true i p e) (subst (P i) (same_Some y z (sym (slice_get-set_same xs i x y there) ∙ ap (slice_get (slice_set xs i y)) (eqb-true i p e) ∙ is)) here)
    at false e = others p z (λ same. eqb-false i p e (sym same)) (sym (slice_get-set_other xs i p y (eqb-false i p e)) ∙ is)

pub length_replaced : {X : Type 0} (xs : List X) (i : ℕ) (y : X) → length (slice_set xs i y) ≡ length xs
length_replaced [] i y = refl
length_replaced (x ∷ xs) zero y = refl
length_replaced (x ∷ xs) (suc i) y = ap suc (length_replaced xs i y)

some_mapped : {X Y : Type 0} (f : X → Y) (x : Option X) (y : Y) → option_map f x ≡ Some y → (a : X) × (x ≡ Some a) × (f a ≡ y)
some_mapped f None y e = absurd (none-some y e)
some_mapped f (Some a) y e = (a, refl, same_Some (f a) y e)

-- the element of a list whose image is at a place
pub mapped_at : {X Y : Type 0} (f : X → Y) (xs : List X) (ys : List Y) (i : ℕ) (y : Y) → map f xs ≡ ys → slice_get ys i ≡ Some y → (a : X) × (slice_get xs i ≡ Some a) × (f a ≡ y)
mapped_at f xs ys i y e is = some_mapped f (slice_get xs i) y (sym (slice_get-map f xs i) ∙ ap (λ l. slice_get l i) e ∙ is)
