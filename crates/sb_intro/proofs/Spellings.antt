-- The one introduction that bytes are.
use Rattle.std.proofs.Common.{◌≡◌, ℕ, zero, suc, ◌≤◌, true, false, ltb, eqb, List, length, None, Result, Ok, Err, IfOk, refl, ap, sym, ◌∙◌, arith}
use Rattle.std.specs.Result.{result_err}
use Rattle.std.proofs.lemmas.Bool.{eq-eqb, le-ltb}
use mathlib.Core.HLevel.{is_prop→PathP}
use native.Mathlib.Nat.{ℕ_set}
use Rattle.cs_base.specs.declared.port_kind.PortKind.{PortKind}
use Rattle.cs_base.specs.declared.port_kind.PortKind.TheVariants.{Eth, PcieDev, PcieHost, MemDev, MemHost}
use Rattle.field_layout.specs.Layout.{number_in, is_zero_elsewhere}
use Rattle.field_layout.proofs.Layouts.{number_in-1, number_in-4, number_in-8}
use Rattle.sb_intro.specs.declared.intro.Intro.{Intro}
use Rattle.sb_intro.specs.declared.intro_bad.IntroBad.{IntroBad}
use Rattle.sb_intro.specs.Spelling.{IsSpelled, code_of, refusal, version_field, kind_field, named_fields}

-- the kind of a number
kind_with : ℕ → PortKind
kind_with zero = Eth
kind_with (suc zero) = PcieDev
kind_with (suc (suc zero)) = PcieHost
kind_with (suc (suc (suc zero))) = MemDev
kind_with (suc (suc (suc (suc n)))) = MemHost

kind_with-code_of : (kind : PortKind) → kind_with (code_of kind) ≡ kind
unfolding kind_with
kind_with-code_of Eth = refl
kind_with-code_of PcieDev = refl
kind_with-code_of PcieHost = refl
kind_with-code_of MemDev = refl
kind_with-code_of MemHost = refl

code_of-le : (kind : PortKind) → code_of kind ≤ 4
code_of-le Eth = omega arith
code_of-le PcieDev = omega arith
code_of-le PcieHost = omega arith
code_of-le MemDev = omega arith
code_of-le MemHost = omega arith

same_kind : (a b : PortKind) → code_of a ≡ code_of b → a ≡ b
same_kind a b same = sym (kind_with-code_of a) ∙ ap kind_with same ∙ kind_with-code_of b

-- introductions with the same numbers are one
pub same_intro : (a b : Intro) → a.version ≡ b.version → a.kind ≡ b.kind → a.latency ≡ b.latency → a.interval ≡ b.interval → a.bar_len ≡ b.bar_len → a ≡ b
same_intro a b version kind latency interval bar_len =
    let one_proof : (n : ℕ) → IsProp (n ≡ 1) = λ n. hlevel ℕ_set in
    λ i. record {
      version = version i;
      kind = kind i;
      latency = latency i;
      interval = interval i;
      bar_len = bar_len i;
      current = is_prop→PathP (λ j. version j ≡ 1) (λ j. one_proof (version j)) a.current b.current i;
    }

pub one_intro : (a b : Intro) (ty : ℕ) (fields payload : List ℕ) → IsSpelled a ty fields payload → IsSpelled b ty fields payload → a ≡ b
one_intro a b ty fields payload x y = same_intro a b
    (sym (number_in-4 fields 0 _ (x.laid_out.held.0)) ∙ number_in-4 fields 0 _ (y.laid_out.held.0))
    (same_kind a.kind b.kind (sym (number_in-1 fields 4 _ (x.laid_out.held.1.0)) ∙ number_in-1 fields 4 _ (y.laid_out.held.1.0)))
    (sym (number_in-8 fields 8 _ (x.laid_out.held.1.1.0)) ∙ number_in-8 fields 8 _ (y.laid_out.held.1.1.0))
    (sym (number_in-8 fields 16 _ (x.laid_out.held.1.1.1.0)) ∙ number_in-8 fields 16 _ (y.laid_out.held.1.1.1.0))
    (sym (number_in-8 fields 24 _ (x.laid_out.held.1.1.1.1.0)) ∙ number_in-8 fields 24 _ (y.laid_out.held.1.1.1.1.0))

pub no_fault : (a : Intro) (ty : ℕ) (fields payload : List ℕ) → IsSpelled a ty fields payload → refusal ty fields payload ≡ None
no_fault a ty fields payload x =
    let is_type : eqb ty 1 ≡ true = eq-eqb ty 1 x.is_type in
    let version : eqb (number_in fields version_field) 1 ≡ true = eq-eqb _ 1 (number_in-4 fields 0 _ (x.laid_out.held.0) ∙ a.current) in
    let kind : ltb 4 (number_in fields kind_field) ≡ false = le-ltb 4 _ (omega (arith, number_in-1 fields 4 _ (x.laid_out.held.1.0), code_of-le a.kind)) in
    let empty : eqb (length payload) 0 ≡ true = eq-eqb _ 0 (ap length x.no_payload) in
    let zeros : is_zero_elsewhere named_fields fields ≡ true = x.laid_out.others in
    rw (is_type, version, kind, empty, zeros) refl

-- what is read so and refused so is what the bytes are
pub only_from : (r : Result Intro IntroBad) (ty : ℕ) (fields payload : List ℕ) → IfOk r (λ intro. IsSpelled intro ty fields payload) → result_err r ≡ refusal ty fields payload → (a : Intro) → IsSpelled a ty fields payload → r ≡ Ok a
only_from (Ok b) ty fields payload found refused a x = ap Ok (one_intro b a ty fields payload found x)
only_from (Err bad) ty fields payload found refused a x = absurd cc (no_fault a ty fields payload x)
