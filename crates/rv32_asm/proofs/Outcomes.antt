-- The outcome of a source's lines, taken one line at a time.
use Rattle.std.proofs.Common.{◌≡◌, ℕ, ◌+◌, ◌<◌, ◌≤◌, List, [], ◌∷◌, ◌++◌, length, get_or, drop, suc, Option, Some, None, Result, Ok, Err, refl, sym, ap, ◌∙◌, arith, append_assoc}
use Rattle.std.proofs.Math.Seq.{drop-cons}
use Rattle.std.proofs.lemmas.List.{append-nil, drop_all}
use Rattle.rv32_asm.specs.Assembled.{behind, with_line, outcome, line_bytes}
use Rattle.rv32_asm.specs.Faults.{fault}
use Rattle.rv32_asm.specs.declared.placed.Placed.{Placed}
use Rattle.rv32_asm.specs.declared.reason.AsmReason.{AsmReason}

behind_nothing : (rest : Result (List ℕ) (ℕ × AsmReason)) → behind [] rest ≡ rest
behind_nothing (Ok more) = refl
behind_nothing (Err refusal) = refl

behind_both : (first second : List ℕ) (rest : Result (List ℕ) (ℕ × AsmReason)) → behind first (behind second rest) ≡ behind (first ++ second) rest
behind_both first second (Ok more) = ap (λ bytes. Ok bytes) (sym (append_assoc first second more))
behind_both first second (Err refusal) = refl

module _ (place : List ℕ → Option ℕ) where
  -- the outcome, where `out` is what the first i lines have given
  pub so_far : (out : List ℕ) (i : ℕ) → List Placed → Result (List ℕ) (ℕ × AsmReason)
  so_far out i lines = behind out (outcome place (i + 1) (drop i lines))

  pub begun : (lines : List Placed) → so_far [] 0 lines ≡ outcome place 1 lines
  unfolding so_far
  begun lines = behind_nothing (outcome place 1 lines)

  next : (i : ℕ) (lines : List Placed) (line : Placed) → i < length lines → line ≡ get_or lines i line
      → outcome place (i + 1) (drop i lines) ≡ with_line (i + 1) (fault place line) (line_bytes place line) (outcome place (i + 1 + 1) (drop (i + 1) lines))
  unfolding outcome
  next i lines line lt is =
      let same : suc i ≡ i + 1 = omega arith in
      ap (outcome place (i + 1)) (drop-cons lines i line lt ∙ ap (λ x. x ∷ drop (suc i) lines) (sym is))
      ∙ ap (λ k. with_line (i + 1) (fault place line) (line_bytes place line) (outcome place (i + 1 + 1) (drop k lines))) same

  pub line_done : (out : List ℕ) (i : ℕ) (lines : List Placed) (line : Placed) → i < length lines → line ≡ get_or lines i line → fault place line ≡ None
      → so_far (out ++ line_bytes place line) (i + 1) lines ≡ so_far out i lines
  unfolding so_far
  line_done out i lines line lt is sound =
      let rest = outcome place (i + 1 + 1) (drop (i + 1) lines) in
      sym
      (ap (behind out) (next i lines line lt is)
      ∙ ap (λ f. behind out (with_line (i + 1) f (line_bytes place line) rest)) sound
      ∙ behind_both out (line_bytes place line) rest)

  pub line_at_fault : (out : List ℕ) (i : ℕ) (lines : List Placed) (line : Placed) (reason : AsmReason) → i < length lines → line ≡ get_or lines i line
      → fault place line ≡ Some reason → so_far out i lines ≡ Err (i + 1, reason)
  unfolding so_far
  line_at_fault out i lines line reason lt is found =
      let rest = outcome place (i + 1 + 1) (drop (i + 1) lines) in
      ap (behind out) (next i lines line lt is) ∙ ap (λ f. behind out (with_line (i + 1) f (line_bytes place line) rest)) found

  pub all_done : (out : List ℕ) (i : ℕ) (lines : List Placed) → length lines ≤ i → so_far out i lines ≡ Ok out
  unfolding so_far outcome
  all_done out i lines past = ap (λ rest. behind out (outcome place (i + 1) rest)) (drop_all i lines past) ∙ ap (λ bytes. Ok bytes) (append-nil out)
