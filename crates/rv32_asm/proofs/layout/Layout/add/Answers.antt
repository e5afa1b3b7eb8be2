use Rattle.std.proofs.Common.{◌≡◌, ◌+◌, ◌∷◌, [], ◌++◌, ap, ◌∙◌, arith}
use Rattle.rv32_asm.specs.LabelMap.{place_in}
use Rattle.rv32_asm.specs.Layout.{size_of}
use Rattle.rv32_asm.specs.declared.layout.Layout.{Layout}
use Rattle.rv32_asm.proofs.Placing.{added_with, added_without, entry}
use Rattle.rv32_asm.proofs.layout.Layout.add.Goals as goal
use Rattle.rv32_asm.proofs.layout.Layout.add.Goals.{in-Some+in_ok-twice-in-Some, in-None}

pub returns-clause-laid_out : goal.returns-clause-laid_out
returns-clause-laid_out c = λ before laid_out.
    let old = c.args.self.now in
    let line = c.args.line in
    let twice = c.match-label.twice in
    let new : Layout = record { lines = c.push.new.self; labels = c.match-label.self.labels; end = c.match-label.self.end } in
    let size : c.from.result ≡ size_of line.content = c.from.ensures ∙ c.size_of.ensures in
    elim c.match-label.branch [
      | in-Some+in_ok-twice-in-Some w ↦
          added_with before line old new laid_out w.in-Some.name twice w.in-Some.is
          (w.twice-is ∙ w.in_ok-twice-in-Some.ensures.known)
          (c.in_ok-push.ensures.ok ∙ ap (λ (s : Layout). s.lines ++ entry line old.end twice ∷ []) w.self-is)
          (λ name. ap (λ (s : Layout). place_in s.labels name) w.self-is ∙ w.in_ok-twice-in-Some.ensures.places name)
          (ap (λ (s : Layout). s.end) w.self-is ∙ ap (λ n. old.end + n) size)
      | in-None w ↦
          added_without before line old new laid_out twice w.in-None.is
          w.twice-is
          (c.in_ok-push.ensures.ok ∙ ap (λ (s : Layout). s.lines ++ entry line old.end twice ∷ []) w.self-is)
          (ap (λ (s : Layout). s.labels) w.self-is)
          (ap (λ (s : Layout). s.end) w.self-is ∙ ap (λ n. old.end + n) size)
    ]

pub returns-clause-grown : goal.returns-clause-grown
returns-clause-grown c =
    elim c.match-label.branch [
      | in-Some+in_ok-twice-in-Some w ↦ let e = ap (λ (s : Layout). s.end) w.self-is in omega (arith, e)
      | in-None w ↦ let e = ap (λ (s : Layout). s.end) w.self-is in omega (arith, e)
    ]
