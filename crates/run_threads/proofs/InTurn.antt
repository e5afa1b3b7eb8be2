-- The runners of components, taken one after another.
use Rattle.std.proofs.Common.{◌≡◌, ℕ, ◌+◌, List, [], ◌∷◌, ◌++◌, length, map, reverse, Some, refl, sym, ap, ap₂, ◌∙◌, append_assoc, append-nil, length-append}
use Rattle.std.specs.Prelude.{slice_get}
use Rattle.std.proofs.lemmas.List.{reverse-append, reverse-reverse}
use Rattle.std.proofs.lemmas.Option.{same_Some}
use Rattle.cs_base.specs.declared.link.Link.{Link}
use Rattle.cs_base.specs.declared.port_kind.PortKind.{PortKind}
use Rattle.device_api.specs.Behaviour.{Behaviour}
use Rattle.mesh_core.specs.Start.{first_runner, first_runners}
use Rattle.mesh_core.proofs.Started.{IsMadeOf, made_of}
use Rattle.sync_laws.proofs.Changed.{get_mapped}
use Rattle.sync_rule.specs.declared.runner.Runner.{Runner}
use Rattle.run_threads.specs.Building.{starts_of}
use Rattle.run_threads.proofs.SeatsTaken.{get_middle}

-- so many of them were taken, and the others stand in turned order
pub record AreTaken {X : Type 0} (all : List X) (count : ℕ) (left : List X) : Type 0 where
  pub front : List X
  pub whole : front ++ reverse left ≡ all
  pub as_many : length front ≡ count

module _ {X : Type 0} (all : List X) where
  pub none_taken : (left : List X) → left ≡ reverse all → AreTaken all 0 left
  none_taken left is = record { front = []; whole = ap reverse is ∙ reverse-reverse all; as_many = refl }

  module _ (count : ℕ) (left left' : List X) (x : X) (taken : AreTaken all count left) (first : left ≡ left' ++ x ∷ []) where
    turned_left : reverse left ≡ x ∷ reverse left'
    turned_left = ap reverse first ∙ reverse-append left' (x ∷ [])

    pub next_there : slice_get all count ≡ Some x
    next_there = ap₂ slice_get (sym taken.whole ∙ ap (λ l. taken.front ++ l) turned_left) (sym taken.as_many) ∙ get_middle taken.front x (reverse left')

    pub one_taken : AreTaken all (count + 1) left'
    one_taken = record {
      front = taken.front ++ x ∷ [];
      whole = append_assoc taken.front (x ∷ []) (reverse left') ∙ ap (λ l. taken.front ++ l) (sym turned_left) ∙ taken.whole;
      as_many = length-append taken.front (x ∷ []) ∙ ap (λ n. n + 1) taken.as_many;
    }

  pub all_taken : (count : ℕ) (left : List X) → AreTaken all count left → left ≡ [] → count ≡ length all
  all_taken count left taken none = sym taken.as_many ∙ ap length (sym (append-nil taken.front) ∙ ap (λ l. taken.front ++ reverse l) (sym none) ∙ taken.whole)

-- a runner among the new ones
module _ {V : Type 0} (b : Behaviour V) (links : List Link) (end : ℕ) (all : List (Runner V)) (new : all ≡ first_runners b links end (starts_of all)) (c : ℕ) (r : Runner V) (there : slice_get all c ≡ Some r) where
  pub start_there : slice_get (starts_of all) c ≡ Some r.device
  start_there = get_mapped (λ x. x.device) all c r there

  pub is_first : r ≡ first_runner b links end c r.device
  is_first = (let made : IsMadeOf (first_runner b links end) c (starts_of all) r = made_of (first_runner b links end) c (starts_of all) r (ap (λ l. slice_get l c) (sym new) ∙ there) in made.is ∙ ap (first_runner b links end c) (same_Some made.x r.device (sym made.there ∙ start_there)))

  pub kinds_there : (kinds : List (List PortKind)) → map b.ports (starts_of all) ≡ kinds → slice_get kinds c ≡ Some (b.ports r.device)
  kinds_there kinds matches = ap (λ l. slice_get l c) (sym matches) ∙ get_mapped b.ports (starts_of all) c r.device start_there
