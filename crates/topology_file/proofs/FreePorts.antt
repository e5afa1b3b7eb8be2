-- Ports that are in a link.
use Rattle.std.proofs.Common.{◌≡◌, ℕ, zero, suc, ◌+◌, ◌-◌, ◌<◌, Bool, true, not, ◌&&◌, List, [], ◌∷◌, length, None, ap, sym, ◌∙◌, arith}
use Rattle.std.specs.Prelude.{is_some, slice_get}
use Rattle.std.specs.List.{list_all, range_with_len}
use Rattle.std.proofs.lemmas.Bool.{and_parts, false≢true}
use Rattle.cs_base.specs.declared.link.Link.{Link}
use Rattle.cs_base.specs.declared.port_kind.PortKind.{PortKind}
use Rattle.cs_base.specs.Plan.{End, kind_at}
use Rattle.topology_file.specs.declared.reason.Entry.TheVariants as entry
use Rattle.topology_file.specs.declared.reason.TopoReason.TheVariants.{PortFree}
use Rattle.topology_file.specs.Faults.{unless}
use Rattle.topology_file.specs.Links.{is_free}
use Rattle.topology_file.specs.Refusals.{at_entry, are_joined, ports_refusal}
use Rattle.topology_file.proofs.Sound.{or_none, unless_none}
use Rattle.topology_file.proofs.Answering.{at_entry_none}

-- one more number that passes
pub passed_one : (test : ℕ → Bool) (n count : ℕ) → n < count → test n ≡ true → list_all test (range_with_len n (count - n)) ≡ list_all test (range_with_len (n + 1) (count - (n + 1)))
passed_one test n count below holds =
    let more : count - n ≡ suc (count - (n + 1)) = omega arith in
    ap (λ m. list_all test (range_with_len n m)) more ∙ ap (λ b. b && list_all test (range_with_len (n + 1) (count - (n + 1)))) holds

passes_at : (test : ℕ → Bool) (a n k : ℕ) → list_all test (range_with_len a n) ≡ true → k < n → test (a + k) ≡ true
passes_at test a zero k all below = absurd (omega arith)
passes_at test a (suc n) zero all below =
    let same : a + 0 ≡ a = omega arith in
    ap test same ∙ (and_parts (test a) (list_all test (range_with_len (a + 1) n)) all).0
passes_at test a (suc n) (suc k) all below =
    let same : a + suc k ≡ (a + 1) + k = omega arith in
    ap test same ∙ passes_at test (a + 1) n k (and_parts (test a) (list_all test (range_with_len (a + 1) n)) all).1 (omega arith)

pub within_ports : (ports : List PortKind) (port : ℕ) → is_some (slice_get ports port) ≡ true → port < length ports
within_ports [] port there = absurd (false≢true there)
within_ports (kind ∷ ports) zero there = omega arith
within_ports (kind ∷ ports) (suc port) there = omega (arith, within_ports ports port there)

abbrev pub end_at : ℕ → ℕ → End
end_at component port = record { component = component; port = port }

-- where no port is free, each port is in a link
in_links : (links : List Link) (number : ℕ) (kinds : List (List PortKind)) → ports_refusal links number kinds ≡ None → (component port : ℕ) → is_some (kind_at kinds (end_at component port)) ≡ true → not (is_free links (end_at (number + component) port)) ≡ true
in_links links number [] none component port there = absurd (false≢true there)
in_links links number (ports ∷ kinds) none zero port there =
    let here = (or_none (at_entry (entry.Component number) (unless (are_joined links number (length ports)) PortFree)) (ports_refusal links (number + 1) kinds) none).0 in
    let all : are_joined links number (length ports) ≡ true = unless_none _ PortFree (at_entry_none (entry.Component number) _ here) in
    let same : number + 0 ≡ number = omega arith in
    let from_0 : port ≡ 0 + port = omega arith in
    ap (λ n. not (is_free links (end_at n port))) same ∙ (ap (λ p. not (is_free links (end_at number p))) from_0 ∙ passes_at (λ p. not (is_free links (end_at number p))) 0 (length ports) port all (within_ports ports port there))
in_links links number (ports ∷ kinds) none (suc component) port there =
    let rest = (or_none (at_entry (entry.Component number) (unless (are_joined links number (length ports)) PortFree)) (ports_refusal links (number + 1) kinds) none).1 in
    let same : number + suc component ≡ (number + 1) + component = omega arith in
    ap (λ n. not (is_free links (end_at n port))) same ∙ in_links links (number + 1) kinds rest component port there

pub each_in_link : (links : List Link) (kinds : List (List PortKind)) → ports_refusal links 0 kinds ≡ None → (end : End) → is_some (kind_at kinds end) ≡ true → not (is_free links end) ≡ true
each_in_link links kinds none end there =
    let same : 0 + end.component ≡ end.component = omega arith in
    sym (ap (λ n. not (is_free links (end_at n end.port))) same) ∙ in_links links 0 kinds none end.component end.port there
