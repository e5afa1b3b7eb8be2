-- Ports and the components that have them.
use Rattle.std.proofs.Common.{◌≡◌, ℕ, ◌+◌, ◌<◌, true, Option, Some, List, length, ap, sym, ◌∙◌, subst, arith, eq-or-lt_of_le, ⊎_elim}
use Rattle.std.specs.Prelude.{is_some, slice_get, option_and_then}
use Rattle.std.proofs.lemmas.Option.{slice_get_cases}
use Rattle.std.proofs.lemmas.Bool.{false≢true}
use Rattle.cs_base.specs.Plan.{End, kind_at, uses_of, PortsInOneLink, InOneLink}
use Rattle.cs_base.specs.declared.port_kind.PortKind.{PortKind}
use Rattle.cs_base.specs.declared.link.Link.{Link}

-- each port of the first so many components is in exactly one link
abbrev pub AreInOneLink : List (List PortKind) → List Link → ℕ → Type 0
AreInOneLink kinds links count = (end : End) → end.component < count → is_some (kind_at kinds end) ≡ true → uses_of links end ≡ 1

-- there is an element at each place below the length, and at no other
pub is_some-slice_get : {X : Type 0} (xs : List X) (i : ℕ) → i < length xs → is_some (slice_get xs i) ≡ true
is_some-slice_get xs i below =
    ⊎_elim (λ found. ap is_some found.2) (λ past. absurd (omega (arith, past.0, below))) (slice_get_cases xs i).1

pub is_some-slice_get_within : {X : Type 0} (xs : List X) (i : ℕ) → is_some (slice_get xs i) ≡ true → i < length xs
is_some-slice_get_within xs i there =
    ⊎_elim (λ found. found.1) (λ past. absurd (false≢true (sym (ap is_some past.1) ∙ there))) (slice_get_cases xs i).1

kind_at-in : (kinds : List (List PortKind)) (end : End) (ports : List PortKind) → slice_get kinds end.component ≡ Some ports → kind_at kinds end ≡ slice_get ports end.port
kind_at-in kinds end ports at = ap (λ found. option_and_then (λ (ports : List PortKind). slice_get ports end.port) found) at

-- an end whose port exists is of a component that exists
pub component_within : (kinds : List (List PortKind)) (end : End) → is_some (kind_at kinds end) ≡ true → end.component < length kinds
component_within kinds end there =
    ⊎_elim (λ found. found.1) (λ past. absurd (false≢true (sym (ap (λ (found : Option (List PortKind)). is_some (option_and_then (λ (ports : List PortKind). slice_get ports end.port) found)) past.1) ∙ there))) (slice_get_cases kinds end.component).1

-- one more component
pub one_more_component : (kinds : List (List PortKind)) (links : List Link) (component : ℕ) (ports : List PortKind) → slice_get kinds component ≡ Some ports → AreInOneLink kinds links component → PortsInOneLink links component (length ports) → AreInOneLink kinds links (component + 1)
one_more_component kinds links component ports at before here end below there = ⊎_elim earlier this (eq-or-lt_of_le (omega (arith, below))) where
  earlier : end.component ≡ component → uses_of links end ≡ 1
  earlier same =
      let at_end : slice_get kinds end.component ≡ Some ports = ap (λ c. slice_get kinds c) same ∙ at in
      let below_ports : end.port < length ports = is_some-slice_get_within ports end.port (ap is_some (sym (kind_at-in kinds end ports at_end)) ∙ there) in
      let OnceAt : ℕ → Type 0 = λ c. uses_of links (record { component = c; port = end.port }) ≡ 1 in
      subst OnceAt (sym same) (here end.port below_ports)

  this : end.component < component → uses_of links end ≡ 1
  this lt = before end lt there

-- the ports of a component are among all ports
pub ports_of_component : (kinds : List (List PortKind)) (links : List Link) (component : ℕ) (ports : List PortKind) → slice_get kinds component ≡ Some ports → InOneLink kinds links → PortsInOneLink links component (length ports)
ports_of_component kinds links component ports at all port below =
    let end : End = record { component = component; port = port } in
    all end (ap is_some (kind_at-in kinds end ports at) ∙ is_some-slice_get ports port below)
