-- The first messages of a stream are a stream.
use Rattle.std.specs.Prelude.{ℕ, ◌≡◌, ◌≤◌, ◌+◌, true, false, List, [], ◌∷◌, ◌++◌, length, map, slice_index_or, refl}
use Rattle.std.specs.List.{AllByRecursion}
use Rattle.std.specs.List.Sorted.{IsNonDecreasing}
use Rattle.std.proofs.Common.{arith, ap, sym, subst, length-append}
use Rattle.std.proofs.lemmas.List.{get_or_append_left}
use Rattle.cs_base.specs.declared.port_kind.PortKind.{PortKind}
use Rattle.sb_message.specs.declared.message.Msg.{Msg}
use Rattle.sb_message.specs.Stream.{IsStream, is_intro}
use Rattle.sb_message.specs.Receivable.{receivable}

-- what holds of each element holds of each of the first
pub each-front : {X : Type 0} (P : X → Type 0) (xs ys : List X) → AllByRecursion P (xs ++ ys) → AllByRecursion P xs
each-front P [] ys all = tt
each-front P (x ∷ xs) ys all = (all.0, each-front P xs ys all.1)

map-both : (xs ys : List Msg) → map (λ (message : Msg). message.at) (xs ++ ys) ≡ map (λ (message : Msg). message.at) xs ++ map (λ (message : Msg). message.at) ys
map-both [] ys = refl
map-both (x ∷ xs) ys = ap (λ l. x.at ∷ l) (map-both xs ys)

rises-front : (xs ys : List ℕ) → IsNonDecreasing (xs ++ ys) → IsNonDecreasing xs
rises-front xs ys rises i j d le lt = subst (λ x. x ≤ slice_index_or xs j d) (get_or_append_left xs ys d i (omega arith)) (subst (λ y. slice_index_or (xs ++ ys) i d ≤ y) (get_or_append_left xs ys d j lt) (rises i j d le (let longer : length (xs ++ ys) ≡ length xs + length ys = length-append xs ys in omega arith)))

abbrev head_or : Msg → List Msg → Msg
head_or m [] = m
head_or m (x ∷ xs) = x

abbrev tail_of : List Msg → List Msg
tail_of [] = []
tail_of (x ∷ xs) = xs

pub front-from : (kind : PortKind) (f : Msg) (xs ys : List Msg) → IsStream kind (f ∷ (xs ++ ys)) → IsStream kind (f ∷ xs)
front-from kind f xs ys s = record {
  first = f;
  later = xs;
  parts = refl;
  introduced = subst (λ (message : Msg). is_intro message.body ≡ true) (sym (ap (head_or f) s.parts)) s.introduced;
  once = each-front _ xs ys (subst (AllByRecursion (λ (message : Msg). is_intro message.body ≡ false)) (sym (ap tail_of s.parts)) s.once);
  receivable = each-front (λ (message : Msg). receivable kind message.body ≡ true) (f ∷ xs) ys s.receivable;
  in_order = rises-front (map (λ (message : Msg). message.at) (f ∷ xs)) (map (λ (message : Msg). message.at) ys) (subst IsNonDecreasing (map-both (f ∷ xs) ys) s.in_order);
}

pub stream_so_far : (kind : PortKind) (xs : List Msg) (m : Msg) (ys : List Msg) → IsStream kind ((xs ++ m ∷ []) ++ ys) → IsStream kind (xs ++ m ∷ [])
stream_so_far kind [] m ys s = front-from kind m [] ys s
stream_so_far kind (x ∷ xs) m ys s = front-from kind x (xs ++ m ∷ []) ys s
