-- A label that is put into a map of labels, seen as a function.
use Rattle.std.proofs.Common.{◌≡◌, ℕ, Bool, true, false, cond, List, Option, Some, None, is_some, refl, sym, ap, ◌∙◌, ⊎_elim}
use Rattle.std.proofs.lemmas.Bool.{cases_Bool}
use Rattle.std.proofs.lemmas.Slice.Eq.{bytes_eq-Decides}
use Rattle.std.specs.Cmp.Lexicographic.{nat_list_eq_equiv}
use Rattle.std.specs.HashMap.{HashMap, get_by, UpdatesBy}
use Rattle.std.specs.Map.{lookup, KeepsOthers, IsKeyTest, AreApart}
use Rattle.std.specs.Option.{option_or}
use Rattle.std.specs.Str.{bytes_eq}

pub none_from : {X : Type 0} (o : Option X) → is_some o ≡ false → o ≡ None
none_from None absent = refl
none_from (Some x) absent = cc

apart : (label name key : List ℕ) → bytes_eq label name ≡ false → bytes_eq label key ≡ true → bytes_eq name key ≡ false
apart label name key differs same = nat_list_eq_equiv.symm name key ∙ sym (nat_list_eq_equiv.congr label key name same) ∙ differs

other_entries : {K X : Type 0} (eq : K → K → Bool) (test : K → Bool) (old new : List (K × X)) → KeepsOthers eq test old new
    → (other : K → Bool) → IsKeyTest eq other → AreApart test other → lookup other new ≡ lookup other old
unfolding KeepsOthers
other_entries eq test old new keeps = keeps

or_none : {X : Type 0} (o : Option X) → o ≡ option_or o None
or_none None = refl
or_none (Some x) = refl

module _ {K X S : Type 0} (bytes : K → List ℕ) (label : List ℕ) (old new : HashMap K X S) (value : X) where
  abbrev at : List ℕ → HashMap K X S → Option X
  at name = get_by (λ key. bytes_eq name (bytes key))

  here : (name : List ℕ) → bytes_eq name label ≡ true → at label new ≡ Some value → at label old ≡ None
      → at name new ≡ option_or (at name old) (cond (bytes_eq name label) (Some value) None)
  here name same found absent =
      let is : name ≡ label = (bytes_eq-Decides name label).0 same in
      ap (λ l. at l new) is ∙ found ∙ sym (ap (λ o. option_or o (cond (bytes_eq name label) (Some value) None)) (ap (λ l. at l old) is ∙ absent) ∙ ap (λ b. cond b (Some value) None) same)

  elsewhere : (name : List ℕ) → bytes_eq name label ≡ false → at name new ≡ at name old
      → at name new ≡ option_or (at name old) (cond (bytes_eq name label) (Some value) None)
  elsewhere name differs keeps = keeps ∙ or_none (at name old) ∙ sym (ap (λ b. option_or (at name old) (cond b (Some value) None)) differs)

  pub noted : UpdatesBy (λ x y. bytes_eq (bytes x) (bytes y)) (λ key. bytes_eq label (bytes key)) old new (Some value) → at label old ≡ None
      → (name : List ℕ) → at name new ≡ option_or (at name old) (cond (bytes_eq name label) (Some value) None)
  noted updates absent name =
      ⊎_elim
      (λ same. here name same updates.1 absent)
      (λ differs. elsewhere name differs (other_entries _ _ _ _ updates.3 _ (λ x y. nat_list_eq_equiv.congr name (bytes x) (bytes y)) (λ key. apart label name (bytes key) (nat_list_eq_equiv.symm label name ∙ differs))))
      (cases_Bool (bytes_eq name label))
