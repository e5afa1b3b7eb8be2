-- Links one after another.
use Rattle.std.proofs.Common.{◌≡◌, ℕ, ◌+◌, ◌<◌, List, [], ◌∷◌, ◌++◌, length, map, take, drop, get_or, length-append, Option, Some, None, refl, ap, sym, ◌∙◌, arith}
use Rattle.std.specs.Option.{option_or}
use Rattle.std.proofs.lemmas.List.{drop_more, take_more, map-append}
use Rattle.toml.specs.Data.{Data}
use Rattle.cs_base.specs.declared.link.Link.{Link}
use Rattle.cs_base.specs.declared.port_kind.PortKind.{PortKind}
use Rattle.topology_file.specs.declared.reason.Entry.TheVariants as entry
use Rattle.topology_file.specs.Links.{link_of, link_fault}
use Rattle.topology_file.specs.Refusals.{Refusal, at_entry, links_refusal}

module _ (names : List (List ℕ)) (kinds : List (List PortKind)) (entries : List Data) where
  -- after so many entries
  pub record AreJoined (count : ℕ) (links : List Link) : Type 0 where
    pub number : length links ≡ count
    pub rest : links_refusal names kinds count links (drop count entries) ≡ links_refusal names kinds 0 [] entries
    pub spelled : links ≡ map (link_of names) (take count entries)

  pub none_joined : AreJoined 0 []
  none_joined = record { number = refl; rest = refl; spelled = refl }

  module _ (count : ℕ) (links : List Link) (d : Data) (within : count < length entries) (this : d ≡ get_or entries count d) (joined : AreJoined count links) where
    at_this : drop count entries ≡ d ∷ drop (count + 1) entries
    at_this = drop_more entries count d within ∙ ap (λ x. x ∷ drop (count + 1) entries) (sym this)

    abbrev rest_of : Option Refusal
    rest_of = links_refusal names kinds (count + 1) (links ++ link_of names d ∷ []) (drop (count + 1) entries)

    -- what is refused from here on
    from_here : option_or (at_entry (entry.Link count) (link_fault names kinds links d)) rest_of ≡ links_refusal names kinds 0 [] entries
    from_here = sym (ap (links_refusal names kinds count links) at_this) ∙ joined.rest

    pub one_more_joined : (link : Link) → link_fault names kinds links d ≡ None → link ≡ link_of names d → AreJoined (count + 1) (links ++ link ∷ [])
    one_more_joined link none spelled =
        let taken : take (count + 1) entries ≡ take count entries ++ d ∷ [] =
        take_more entries count d within ∙ ap (λ x. take count entries ++ x ∷ []) (sym this) in
        record {
          number = omega (arith, length-append links (link ∷ []), joined.number);
          rest = ap (λ link. links_refusal names kinds (count + 1) (links ++ link ∷ []) (drop (count + 1) entries)) spelled ∙ sym (ap (λ fault. option_or (at_entry (entry.Link count) fault) rest_of) none) ∙ from_here;
          spelled = ap (λ links. links ++ link ∷ []) joined.spelled ∙ ap (λ link. map (link_of names) (take count entries) ++ link ∷ []) spelled ∙ sym (ap (map (link_of names)) taken ∙ map-append (link_of names) (take count entries) (d ∷ []));
        }

    pub refused_here : (refused : Refusal) → at_entry (entry.Link (length links)) (link_fault names kinds links d) ≡ Some refused → links_refusal names kinds 0 [] entries ≡ Some refused
    refused_here refused here =
        let at_count : at_entry (entry.Link count) (link_fault names kinds links d) ≡ Some refused = ap (λ n. at_entry (entry.Link n) (link_fault names kinds links d)) (sym joined.number) ∙ here in
        sym from_here ∙ ap (λ found. option_or found rest_of) at_count
