use Rattle.std.proofs.Common.{◌≡◌, ◌<◌, ◌≤◌, ◌∙◌, Some, length, slice_get, refl, sym, ap, arith, rules, ⊎_elim}
use Rattle.std.proofs.lemmas.Bool.{cases_lt}
use Rattle.std.proofs.lemmas.Option.{slice_get_read}
use Rattle.global_model.specs.Inboxes.{end_at}
use Rattle.global_model.specs.Turn.{queue_at}
use Rattle.global_model.proofs.PortMarks.{none_there}
use Rattle.global_model.proofs.inboxes.Inboxes.filled_from.Goals as goal

pub returns-then-place-len-clause-idle : goal.returns-then-place-len-clause-idle
returns-then-place-len-clause-idle c = λ p le lt.
    let past : length c.self.inside.filled.items ≤ c.args.component = search rules in
    ap (λ lists. queue_at lists (end_at c.args.component p)) (sym c.self.view_is) ∙ none_there _ c.args.component p (let many = c.self.invariant.as_many in omega arith)

pub returns-clause-idle : goal.returns-clause-idle
returns-clause-idle c = λ p le lt.
    let masks = c.self.inside.filled.items in
    let within : c.args.component < length masks = search rules in
    let there : slice_get masks c.args.component ≡ Some c.index.result.now = slice_get_read masks (length masks) c.args.component c.index.result.now refl within c.index.ensures in
    let marked = c.next_marked.ensures in
    let is = c.min.ensures in
    ap (λ lists. queue_at lists (end_at c.args.component p)) (sym c.self.view_is)
    ∙ ⊎_elim (λ small. c.self.invariant.idle c.args.component c.index.result.now p there small (marked.unmarked p le (omega arith) small)) (λ large. absurd (let from = marked.below (omega arith) in omega arith)) (cases_lt p 32)
