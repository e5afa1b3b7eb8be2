-- No port of a wiring is free.
use Rattle.std.proofs.Common.{◌≡◌, ℕ, zero, suc, ◌+◌, ◌<◌, Bool, true, not, ◌&&◌, List, [], ◌∷◌, length, None, refl, ap, sym, ◌∙◌, arith}
use Rattle.std.specs.Prelude.{◌==◌, is_some, slice_get}
use Rattle.std.specs.List.{list_all, range_with_len}
use Rattle.cs_base.specs.declared.link.Link.{Link}
use Rattle.cs_base.specs.declared.port_kind.PortKind.{PortKind}
use Rattle.cs_base.specs.Plan.{kind_at, uses_of}
use Rattle.topology_file.specs.declared.reason.Entry.TheVariants as entry
use Rattle.topology_file.specs.declared.reason.TopoReason.TheVariants.{PortFree}
use Rattle.topology_file.specs.Faults.{unless}
use Rattle.topology_file.specs.Links.{is_free}
use Rattle.topology_file.specs.Refusals.{at_entry, are_joined, ports_refusal}
use Rattle.topology_file.proofs.FreePorts.{end_at}
use Rattle.topology_file.proofs.Passing.{none_or}

all_from : (test : ℕ → Bool) (a n : ℕ) → ((k : ℕ) → k < n → test (a + k) ≡ true) → list_all test (range_with_len a n) ≡ true
all_from test a zero each = refl
all_from test a (suc n) each =
    let here : a + 0 ≡ a = omega arith in
    let after : (k : ℕ) → k < n → test ((a + 1) + k) ≡ true =
    λ k below. let same : (a + 1) + k ≡ a + suc k = omega arith in ap test same ∙ each (suc k) (omega arith) in
    ap (λ b. b && list_all test (range_with_len (a + 1) n)) (sym (ap test here) ∙ each 0 (omega arith)) ∙ all_from test (a + 1) n after

port_there : (ports : List PortKind) (port : ℕ) → port < length ports → is_some (slice_get ports port) ≡ true
port_there [] port within = absurd (omega arith)
port_there (kind ∷ ports) zero within = refl
port_there (kind ∷ ports) (suc port) within = port_there ports port (omega arith)

pub ports_pass : (links : List Link) (number : ℕ) (kinds : List (List PortKind)) → ((component port : ℕ) → is_some (kind_at kinds (end_at component port)) ≡ true → uses_of links (end_at (number + component) port) ≡ 1) → ports_refusal links number kinds ≡ None
ports_pass links number [] once = refl
ports_pass links number (ports ∷ kinds) once =
    let at_number : number + 0 ≡ number = omega arith in
    let joined : (port : ℕ) → port < length ports → not (is_free links (end_at number (0 + port))) ≡ true =
    λ port within.
    let from_0 : 0 + port ≡ port = omega arith in
    let used : uses_of links (end_at number port) ≡ 1 = sym (ap (λ n. uses_of links (end_at n port)) at_number) ∙ once 0 port (port_there ports port within) in
    ap (λ p. not (is_free links (end_at number p))) from_0 ∙ ap (λ n. not (n == 0)) used in
    let all : are_joined links number (length ports) ≡ true = all_from (λ port. not (is_free links (end_at number port))) 0 (length ports) joined in
    let after : (component port : ℕ) → is_some (kind_at kinds (end_at component port)) ≡ true → uses_of links (end_at ((number + 1) + component) port) ≡ 1 =
    λ component port there.
    let same : (number + 1) + component ≡ number + suc component = omega arith in
    ap (λ n. uses_of links (end_at n port)) same ∙ once (suc component) port there in
    none_or _ _ (ap (λ b. at_entry (entry.Component number) (unless b PortFree)) all) (ports_pass links (number + 1) kinds after)
