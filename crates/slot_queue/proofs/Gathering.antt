-- Taking all messages out of the slots, round the end.
use Rattle.std.proofs.Common.{◌≡◌, ◌≢◌, ℕ, zero, suc, ◌+◌, ◌-◌, ◌%◌, ◌<◌, ◌≤◌, List, [], ◌∷◌, ◌++◌, length, take, get_or, set, ap, sym, refl, ◌∙◌, subst, arith, get_or-set_other, add-one}
use Rattle.std.proofs.Math.Nat.{add-mod_right, mod-eq_of_lt, mod-lt}
use Rattle.std.specs.Prelude.{Bool, true, false, Option, Some, None}
use mathlib.Core.Option.{some, some-injective, some-ne-none}
use mathlib.Core.Logic.{dite}
use native.Mathlib.Decide.{dec_le, ℕ_discrete}
use lib.ListN.{get_elem?}
use Rattle.atomic_table.proofs.Lists.{one_turn}
use Rattle.sb_message.specs.declared.message.Msg.{Msg}
use Rattle.slot_queue.specs.Closing.{Holds}
use Rattle.slot_queue.proofs.Places.{element}

-- the slots up to the k-th from `first` on are taken out, and what was in them is in the list
pub record Gathered (first slots k : ℕ) (items : List (Option Msg)) (filled : List Bool) (list : List Msg) : Type 0 where
  pub taken : (j : ℕ) → j < k → get_or filled ((first + j) % slots) false ≡ false
  pub left : (j : ℕ) → k ≤ j → j < slots → get_or filled ((first + j) % slots) false ≡ true
  pub got : (waiting : List Msg) → Holds first slots items waiting → list ≡ take k waiting

module _ {A : Type 0} where
  take_more : (l : List A) (k : ℕ) (a : A) → get_elem? l k ≡ some a → take (suc k) l ≡ take k l ++ a ∷ []
  take_more [] k a e = absurd (some-ne-none a (sym e))
  take_more (x ∷ xs) zero a e = ap (λ y. y ∷ []) (some-injective x a e)
  take_more (x ∷ xs) (suc k) a e = ap (λ l. x ∷ l) (take_more xs k a e)

  take_past : (l : List A) (k : ℕ) → length l ≤ k → take k l ≡ l
  take_past [] zero le = refl
  take_past [] (suc k) le = refl
  take_past (x ∷ xs) zero le = absurd (omega arith)
  take_past (x ∷ xs) (suc k) le = ap (λ l. x ∷ l) (take_past xs k (omega arith))

stays_free : (filled : List Bool) (i p : ℕ) → get_or filled p false ≡ false → get_or (set filled i false) p false ≡ false
stays_free [] i p e = refl
stays_free (x ∷ xs) zero zero e = refl
stays_free (x ∷ xs) zero (suc p) e = e
stays_free (x ∷ xs) (suc i) zero e = e
stays_free (x ∷ xs) (suc i) (suc p) e = stays_free xs i p e

now_free : (filled : List Bool) (i : ℕ) → get_or (set filled i false) i false ≡ false
now_free [] i = refl
now_free (x ∷ xs) zero = refl
now_free (x ∷ xs) (suc i) = now_free xs i

-- after the slot k, what the list is
pub next_gathered : (first slots k : ℕ) (items : List (Option Msg)) (filled : List Bool) (list longer : List Msg) → k < slots → Gathered first slots k items filled list
    → ((waiting : List Msg) → Holds first slots items waiting → list ≡ take k waiting → longer ≡ take (k + 1) waiting)
    → Gathered first slots (k + 1) items (set filled ((first + k) % slots) false) longer
next_gathered first slots k items filled list longer less g more = record {
  taken = λ j below. dite (ℕ_discrete j k)
      (λ e. subst (λ (i : ℕ). get_or (set filled ((first + k) % slots) false) ((first + i) % slots) false ≡ false) (sym e) (now_free filled ((first + k) % slots)))
      (λ ne. stays_free filled ((first + k) % slots) ((first + j) % slots) (g.taken j (omega arith)));
  left = λ j from below.
      let apart : (first + j) % slots ≢ (first + k) % slots = λ e. let same : first + k ≡ first + j = one_turn (first + k) (first + j) slots (omega arith) (omega arith) (sym e) in omega arith in
      get_or-set_other filled ((first + k) % slots) ((first + j) % slots) false false apart ∙ g.left j (omega arith) below;
  got = λ waiting holds. more waiting holds (g.got waiting holds);
}

-- the slot had a message
pub one_more : (first slots k : ℕ) (items : List (Option Msg)) (list : List Msg) (m : Msg) → k < slots → get_elem? items ((first + k) % slots) ≡ some (Some m)
    → (waiting : List Msg) → Holds first slots items waiting → list ≡ take k waiting → list ++ m ∷ [] ≡ take (k + 1) waiting
one_more first slots k items list m less found waiting holds so_far = dite (dec_le (length waiting) k)
    (λ past. let e : some (Some m) ≡ some None = sym found ∙ holds.empty k past less in absurd (cc e))
    (λ here.
    let next = element waiting k (omega arith) in
    let e : some (Some next.0) ≡ some (Some m) = sym (holds.full k next.0 next.1) ∙ found in
    let same : next.0 ≡ m = cc e in
    ap (λ l. l ++ m ∷ []) so_far ∙ sym (take_more waiting k m (next.1 ∙ ap some same)) ∙ ap (λ n. take n waiting) (sym (add-one k)))

-- the slot was empty
pub no_more : (first slots k : ℕ) (items : List (Option Msg)) (list : List Msg) → k < slots → get_elem? items ((first + k) % slots) ≡ some None
    → (waiting : List Msg) → Holds first slots items waiting → list ≡ take k waiting → list ≡ take (k + 1) waiting
no_more first slots k items list less found waiting holds so_far = dite (dec_le (length waiting) k)
    (λ past. so_far ∙ take_past waiting k past ∙ sym (take_past waiting (k + 1) (omega arith)))
    (λ here.
    let next = element waiting k (omega arith) in
    let e : some (Some next.0) ≡ some None = sym (holds.full k next.0 next.1) ∙ found in
    absurd (cc e))

pub none_gathered : (first slots : ℕ) (items : List (Option Msg)) (filled : List Bool) → ((p : ℕ) → p < slots → get_or filled p false ≡ true) → 0 < slots → Gathered first slots 0 items filled []
none_gathered first slots items filled full positive = record {
  taken = λ j below. absurd (omega arith);
  left = λ j from below. full ((first + j) % slots) (mod-lt (first + j) positive);
  got = λ waiting holds. refl;
}

pub all_free : (first slots : ℕ) (items : List (Option Msg)) (filled : List Bool) (list : List Msg) → first < slots → Gathered first slots slots items filled list → (p : ℕ) → p < slots → get_or filled p false ≡ false
all_free first slots items filled list within g p less = dite (dec_le first p)
    (λ after.
    let place : (first + (p - first)) % slots ≡ p = ap (λ n. n % slots) (omega arith) ∙ mod-eq_of_lt less in
    ap (λ n. get_or filled n false) (sym place) ∙ g.taken (p - first) (omega arith))
    (λ before.
    let around : first + (p + slots - first) ≡ p + slots = omega arith in
    let place : (first + (p + slots - first)) % slots ≡ p = ap (λ n. n % slots) around ∙ add-mod_right p slots ∙ mod-eq_of_lt less in
    ap (λ n. get_or filled n false) (sym place) ∙ g.taken (p + slots - first) (omega arith))

pub all_gathered : (first slots : ℕ) (items : List (Option Msg)) (filled : List Bool) (list : List Msg) → Gathered first slots slots items filled list → (waiting : List Msg) → Holds first slots items waiting → list ≡ waiting
all_gathered first slots items filled list g waiting holds = g.got waiting holds ∙ take_past waiting slots holds.within
