-- A stream goes on with a message against which the stream rule says nothing.
use Rattle.std.specs.Prelude.{nat_lt, Bool, true, false, if◌then◌else◌, Option, Some, None}
use Rattle.std.proofs.Common.{◌≡◌, ℕ, zero, suc, ◌+◌, ◌<◌, ◌≤◌, List, [], ◌∷◌, ◌++◌, map, length, get_or, ap, sym, refl, subst, arith, length-append}
use Rattle.std.proofs.lemmas.Bool.Decides.{nat_tests}
use Rattle.std.proofs.lemmas.List.{get_or_append_left, get_or_push, map-append}
use Rattle.std.specs.List.{AllByRecursion}
use Rattle.std.specs.List.Sorted.{IsNonDecreasing}
use mathlib.Core.Logic.{dite}
use native.Mathlib.Decide.{dec_le}
use Rattle.cs_base.specs.declared.port_kind.PortKind.{PortKind}
use Rattle.sb_message.specs.declared.message.Msg.{Msg}
use Rattle.sb_message.specs.Receivable.{receivable}
use Rattle.sb_message.specs.Stream.{is_intro}
use Rattle.sb_frame.specs.Faults.{EndsAt, KeepsRule, rule_fault}

all_push : {A : Type 0} (P : A → Type 0) (l : List A) (x : A) → AllByRecursion P l → P x → AllByRecursion P (l ++ x ∷ [])
all_push P [] x all last = (last, tt)
all_push P (y ∷ ys) x all last = (all.0, all_push P ys x all.1 last)

all_later : (l : List Msg) (a b : ℕ) → a ≤ b → AllByRecursion (λ (m : Msg). m.at ≤ a) l → AllByRecursion (λ (m : Msg). m.at ≤ b) l
all_later [] a b le all = tt
all_later (x ∷ xs) a b le all = let h = all.0 in (omega arith, all_later xs a b le all.1)

under_all : (l : List Msg) (a : ℕ) → AllByRecursion (λ (m : Msg). m.at ≤ a) l → (i d : ℕ) → i < length (map (λ (m : Msg). m.at) l) → get_or (map (λ (m : Msg). m.at) l) i d ≤ a
under_all [] a all i d less = absurd (omega arith)
under_all (x ∷ xs) a all zero d less = all.0
under_all (x ∷ xs) a all (suc i) d less = under_all xs a all.1 i d (omega arith)

rises_more : (xs : List ℕ) (x : ℕ) → IsNonDecreasing xs → ((i d : ℕ) → i < length xs → get_or xs i d ≤ x) → IsNonDecreasing (xs ++ x ∷ [])
rises_more xs x rises under i j d le less =
    let longer : length (xs ++ x ∷ []) ≡ length xs + 1 = length-append xs (x ∷ []) in
    dite (dec_le (length xs) j)
    (λ last.
    let e : get_or (xs ++ x ∷ []) j d ≡ x = get_or_push xs x d j (omega arith) in
    dite (dec_le (length xs) i)
    (λ also. let f : get_or (xs ++ x ∷ []) i d ≡ x = get_or_push xs x d i (omega arith) in omega arith)
    (λ before. let f : get_or (xs ++ x ∷ []) i d ≡ get_or xs i d = get_or_append_left xs (x ∷ []) d i (omega arith) in let u = under i d (omega arith) in omega arith))
    (λ before.
    let e : get_or (xs ++ x ∷ []) j d ≡ get_or xs j d = get_or_append_left xs (x ∷ []) d j (omega arith) in
    let f : get_or (xs ++ x ∷ []) i d ≡ get_or xs i d = get_or_append_left xs (x ∷ []) d i (omega arith) in
    let u : get_or xs i d ≤ get_or xs j d = rises i j d le (omega arith) in
    omega arith)

is_first : {A : Type 0} (a : A) (b : Bool) → (if b then None else Some a) ≡ None → b ≡ true
is_first a true e = refl
is_first a false e = cc

is_later : {A : Type 0} (x y : A) (falls intro : Bool) → (if falls then Some x else if intro then Some y else None) ≡ None → (falls ≡ false) × (intro ≡ false)
is_later x y true intro e = cc
is_later x y false true e = cc
is_later x y false false e = (refl, refl)

not_below : (a b : ℕ) → nat_lt a b ≡ false → b ≤ a
not_below a b e = grind (arith, nat_tests)

goes_on : (kind : PortKind) (messages : List Msg) (at : ℕ) (m : Msg) → EndsAt kind messages at → at ≤ m.at → is_intro m.body ≡ false → receivable kind m.body ≡ true → EndsAt kind (messages ++ m ∷ []) m.at
goes_on kind messages at m ends le later fits =
    let s = ends.stream in
    let under = all_later messages at m.at le ends.reached in
    record {
      stream = record {
        first = s.first;
        later = s.later ++ m ∷ [];
        parts = ap (λ l. l ++ m ∷ []) s.parts;
        introduced = s.introduced;
        once = all_push (λ (x : Msg). is_intro x.body ≡ false) s.later m s.once later;
        receivable = all_push (λ (x : Msg). receivable kind x.body ≡ true) messages m s.receivable fits;
        in_order = subst IsNonDecreasing (sym (map-append (λ (x : Msg). x.at) messages (m ∷ [])))
            (rises_more (map (λ (x : Msg). x.at) messages) m.at s.in_order (under_all messages m.at under));
      };
      earlier = messages;
      last = m;
      parts = refl;
      last_at = refl;
      reached = all_push (λ (x : Msg). x.at ≤ m.at) messages m under (omega arith);
    }

begins : (kind : PortKind) (m : Msg) → is_intro m.body ≡ true → receivable kind m.body ≡ true → EndsAt kind (m ∷ []) m.at
begins kind m first fits = record {
  stream = record {
    first = m;
    later = [];
    parts = refl;
    introduced = first;
    once = tt;
    receivable = (fits, tt);
    in_order = λ i j d le less. let e : i ≡ j = omega arith in subst (λ n. get_or (m.at ∷ []) n d ≤ get_or (m.at ∷ []) j d) (sym e) (omega arith);
  };
  earlier = [];
  last = m;
  parts = refl;
  last_at = refl;
  reached = (omega arith, tt);
}

pub rule_more : (kind : PortKind) (messages : List Msg) (last : Option ℕ) (start : ℕ) (m : Msg) → KeepsRule kind messages last → rule_fault last start m ≡ None → receivable kind m.body ≡ true → KeepsRule kind (messages ++ m ∷ []) (Some m.at)
rule_more kind messages None start m keeps none fits = subst (λ l. EndsAt kind (l ++ m ∷ []) m.at) (sym keeps) (begins kind m (is_first _ (is_intro m.body) none) fits)
rule_more kind messages (Some last) start m keeps none fits =
    let later = is_later _ _ (nat_lt m.at last) (is_intro m.body) none in
    goes_on kind messages last m keeps (not_below m.at last later.0) later.1 fits
