-- Components one after another.
use Rattle.std.proofs.Common.{◌≡◌, ℕ, ◌+◌, ◌<◌, List, [], ◌∷◌, ◌++◌, length, take, drop, get_or, subst, length-append, Option, Some, None, refl, ap, sym, ◌∙◌, arith}
use Rattle.std.specs.Option.{option_or}
use Rattle.std.specs.List.{AllZip}
use Rattle.std.proofs.lemmas.List.{drop_more, take_more, map-append}
use Rattle.toml.specs.Data.{Data}
use Rattle.topology_file.specs.declared.component.Component.{Component}
use Rattle.topology_file.specs.declared.key.Key.TheVariants as key
use Rattle.topology_file.specs.declared.reason.Entry.TheVariants as entry
use Rattle.topology_file.specs.Ports.{names_of}
use Rattle.topology_file.specs.Fields.{text_at}
use Rattle.topology_file.specs.Faults.{component_fault}
use Rattle.topology_file.specs.Refusals.{Refusal, at_entry, components_refusal}
use Rattle.topology_file.specs.Spelled.{SpellsComponent}

-- one more pair at the end
pub AllZip_push : {A B : Type 0} (R : A → B → Type 0) (xs : List A) (ys : List B) (x : A) (y : B) → AllZip R xs ys → R x y → AllZip R (xs ++ x ∷ []) (ys ++ y ∷ [])
AllZip_push R [] [] x y pairs last = (last, tt)
AllZip_push R [] (z ∷ zs) x y pairs last = absurd pairs
AllZip_push R (w ∷ ws) [] x y pairs last = absurd pairs
AllZip_push R (w ∷ ws) (z ∷ zs) x y pairs last = (pairs.0, AllZip_push R ws zs x y pairs.1 last)

-- after so many entries
pub record AreRead (entries : List Data) (count : ℕ) (components : List Component) : Type 0 where
  pub number : length components ≡ count
  pub rest : components_refusal count (names_of components) (drop count entries) ≡ components_refusal 0 [] entries
  pub spelled : AllZip SpellsComponent (take count entries) components

pub none_read : (entries : List Data) → AreRead entries 0 []
none_read entries = record { number = refl; rest = refl; spelled = tt }

module _ (entries : List Data) (count : ℕ) (components : List Component) (d : Data) (within : count < length entries) (this : d ≡ get_or entries count d) (read : AreRead entries count components) where
  at_this : drop count entries ≡ d ∷ drop (count + 1) entries
  at_this = drop_more entries count d within ∙ ap (λ x. x ∷ drop (count + 1) entries) (sym this)

  abbrev rest_of : Option Refusal
  rest_of = components_refusal (count + 1) (names_of components ++ text_at d key.Name ∷ []) (drop (count + 1) entries)

  -- what is refused from here on
  from_here : option_or (at_entry (entry.Component count) (component_fault (names_of components) d)) rest_of ≡ components_refusal 0 [] entries
  from_here = sym (ap (components_refusal count (names_of components)) at_this) ∙ read.rest

  pub one_more_read : (c : Component) → component_fault (names_of components) d ≡ None → SpellsComponent d c → AreRead entries (count + 1) (components ++ c ∷ [])
  one_more_read c none spelled =
      let names : names_of (components ++ c ∷ []) ≡ names_of components ++ text_at d key.Name ∷ [] =
      map-append (λ (c : Component). c.name) components (c ∷ []) ∙ ap (λ name. names_of components ++ name ∷ []) spelled.name in
      let taken : take (count + 1) entries ≡ take count entries ++ d ∷ [] =
      take_more entries count d within ∙ ap (λ x. take count entries ++ x ∷ []) (sym this) in
      let Pairs : List Data → Type 0 = λ ds. AllZip SpellsComponent ds (components ++ c ∷ []) in
      record {
        number = omega (arith, length-append components (c ∷ []), read.number);
        rest = ap (λ names. components_refusal (count + 1) names (drop (count + 1) entries)) names ∙ sym (ap (λ fault. option_or (at_entry (entry.Component count) fault) rest_of) none) ∙ from_here;
        spelled = subst Pairs (sym taken) (AllZip_push SpellsComponent (take count entries) components d c read.spelled spelled);
      }

  pub refused_here : (refused : Refusal) → at_entry (entry.Component (length components)) (component_fault (names_of components) d) ≡ Some refused → components_refusal 0 [] entries ≡ Some refused
  refused_here refused here =
      let at_count : at_entry (entry.Component count) (component_fault (names_of components) d) ≡ Some refused = ap (λ n. at_entry (entry.Component n) (component_fault (names_of components) d)) (sym read.number) ∙ here in
      sym from_here ∙ ap (λ found. option_or found rest_of) at_count
