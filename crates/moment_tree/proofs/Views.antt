-- What an agenda's calls say, from the keys that they read.
use Rattle.std.specs.Prelude.{ℕ, ◌≡◌, ◌≢◌, ◌+◌, ◌*◌, ◌%◌, ◌≤◌, ◌<◌, List, Option, Some, None, IfSome, IfNone, map, get_or, drop, slice_get, slice_set, slice_index_or, All, length}
use Rattle.std.proofs.Common.{sym, ap, ◌∙◌, arith, subst}
use Rattle.std.proofs.lemmas.List.{get_or_default}
use Rattle.moment_tree.specs.declared.agenda.Moment.{Moment}
use Rattle.moment_tree.specs.Dues.{sooner, IsFirst, IsFirstBut, IsAlone}
use Rattle.moment_tree.specs.Keys.{never, due_of, IsOwn, IsAnother, IsTree}
use Rattle.moment_tree.proofs.Ways.{least}
use Rattle.moment_tree.proofs.Dues.{first_there, another_there, root_another's, first_first, others_first, none_due, alone, placed_dues, noted_dues}

-- a moment, if there is one, is that of a key
abbrev pub IsEntry : ℕ → Option Moment → Type 0
IsEntry key found = IfSome found (λ m. (due_of key ≡ Some m.at) × (m.component ≡ key % 64)) × IfNone found (key ≡ never)

module _ (n : ℕ) (keys : List ℕ) (tree : IsTree n keys) (dues : List (Option ℕ)) (view : map due_of (drop n keys) ≡ dues) where
  root : (key : ℕ) → key ≡ get_or keys 1 key → key ≡ get_or keys 1 0
  root key is = let some : 1 ≤ n = tree.some in let long : length keys ≡ 2 * n = tree.sized in is ∙ get_or_default keys 1 key 0 (omega arith)

  pub root_there : (key : ℕ) → key ≡ get_or keys 1 key → (found : Option Moment) → IsEntry key found → IfSome found (λ m. slice_get dues m.component ≡ Some (Some m.at))
  root_there key is None entry = tt
  root_there key is (Some m) entry = subst (λ xs. slice_get xs m.component ≡ Some (Some m.at)) view (first_there n keys tree m.at m.component (ap due_of (sym (root key is)) ∙ entry.0.0) (entry.0.1 ∙ ap (λ x. x % 64) (root key is)))

  pub root_first : (key : ℕ) → key ≡ get_or keys 1 key → (found : Option Moment) → IsEntry key found → IfSome found (λ m. IsFirst m.at m.component dues)
  root_first key is None entry = tt
  root_first key is (Some m) entry = subst (IsFirst m.at m.component) view (first_first n keys tree m.at m.component (ap due_of (sym (root key is)) ∙ entry.0.0) (entry.0.1 ∙ ap (λ x. x % 64) (root key is)))

  pub root_none : (key : ℕ) → key ≡ get_or keys 1 key → (found : Option Moment) → IsEntry key found → IfNone found (All (λ (due : Option ℕ). due ≡ None) dues)
  root_none key is None entry = subst (All (λ (due : Option ℕ). due ≡ None)) view (none_due n keys tree (sym (root key is) ∙ entry.1))
  root_none key is (Some m) entry = tt

  pub but_there : (own key : ℕ) → IsAnother n own keys key → (found : Option Moment) → IsEntry key found → IfSome found (λ m. slice_get dues m.component ≡ Some (Some m.at))
  but_there own key another None entry = tt
  but_there own key another (Some m) entry = subst (λ xs. slice_get xs m.component ≡ Some (Some m.at)) view (another_there n keys tree own key m.at m.component another entry.0.0 entry.0.1).0

  pub but_other : (own key : ℕ) → IsAnother n own keys key → (found : Option Moment) → IsEntry key found → IfSome found (λ m. m.component ≢ own)
  but_other own key another None entry = tt
  but_other own key another (Some m) entry = (another_there n keys tree own key m.at m.component another entry.0.0 entry.0.1).1

  pub root_another : (own key : ℕ) → n ≤ own → key ≡ get_or keys 1 key → IsAnother n own keys key
  root_another own key past is = root_another's n keys tree own key past (root key is)

  pub but_first : (own key : ℕ) → ((d : ℕ) → d < n → d ≢ own → key ≤ get_or keys (n + d) 0) → (found : Option Moment) → IsEntry key found → IfSome found (λ m. IsFirstBut own m.at m.component dues)
  but_first own key low None entry = tt
  but_first own key low (Some m) entry = subst (IsFirstBut own m.at m.component) view (others_first n keys tree own key m.at m.component low entry.0.0 entry.0.1)

  pub but_none : (own key : ℕ) → ((d : ℕ) → d < n → d ≢ own → key ≤ get_or keys (n + d) 0) → (found : Option Moment) → IsEntry key found → IfNone found (IsAlone own dues)
  but_none own key low None entry = subst (IsAlone own) view (alone n keys tree own key low entry.1)
  but_none own key low (Some m) entry = tt

  pub root_low : (own key : ℕ) → key ≡ get_or keys 1 key → (d : ℕ) → d < n → d ≢ own → key ≤ get_or keys (n + d) 0
  root_low own key is d lt ne = let some : 1 ≤ n = tree.some in let at : key ≡ get_or keys 1 0 = root key is in let le : get_or keys 1 0 ≤ get_or keys (n + d) 0 = least n keys tree.nodes (n + d) (omega arith) (omega arith) in omega arith

-- what is put in, by the new keys
module _ (n : ℕ) (keys0 keys : List ℕ) (tree : IsTree n keys0) (dues : List (Option ℕ)) (view : map due_of (drop n keys0) ≡ dues) (c key : ℕ) (lt : c < n) (own : IsOwn key c) (placed : drop n keys ≡ slice_set (drop n keys0) c key) where
  pub set_view : (due : Option ℕ) → due_of key ≡ due → map due_of (drop n keys) ≡ slice_set dues c due
  set_view due is = subst (λ xs. map due_of (drop n keys) ≡ slice_set xs c due) view (placed_dues n c key keys0 keys due placed is)

  pub note_view : (at : ℕ) → due_of key ≡ Some at → key < get_or keys0 (n + c) 0 → map due_of (drop n keys) ≡ slice_set dues c (Some (sooner at (slice_index_or dues c None)))
  note_view at is less = subst (λ xs. map due_of (drop n keys) ≡ slice_set xs c (Some (sooner at (slice_index_or xs c None)))) view (noted_dues n c key at keys0 keys tree lt placed is own less)
