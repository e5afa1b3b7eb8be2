use Rattle.std.proofs.Common.{◌≡◌, ℕ, List, [], ◌∷◌, ◌++◌, length, take, sym, ap, ◌∙◌, arith}
use Rattle.std.proofs.lemmas.List.{take_more, length-take-le}
use Rattle.switch_sim.specs.declared.entry.Entry.{Entry}
use Rattle.switch_sim.specs.Table.{put_at}
use Rattle.switch_sim.specs.TableLaws.{put_at_end}
use Rattle.switch_sim.proofs.table.Table.with_entries.Goals as goal

pub put-requires-clause-room : goal.put-requires-clause-room
put-requires-clause-room c =
    let i = c.loop-entry.entry-index in
    let so_far : length c.loop-entry.table ≡ i = ap (λ (es : List Entry). length es) c.loop-entry.invariant ∙ length-take-le i c.args.entries.now (omega (arith, c.loop-entry-test.true)) in
    omega (arith, c.len.ensures.len, so_far, c.loop-entry-test.true, c.requires)

pub loop-entry-preserved : goal.loop-entry-preserved
loop-entry-preserved c =
    let i = c.loop-entry.entry-index in
    let e = c.entry-item.result in
    c.put.ensures
    ∙ ap (λ (n : ℕ). put_at n e c.loop-entry.table) c.len.ensures.len
    ∙ put_at_end e c.loop-entry.table
    ∙ ap (λ (es : List Entry). es ++ e ∷ []) c.loop-entry.invariant
    ∙ ap (λ (x : Entry). take i c.args.entries.now ++ x ∷ []) c.entry-item.is
    ∙ sym (take_more c.args.entries.now i e c.loop-entry-test.true)
