use Rattle.std.proofs.Common.{ap, ◌∙◌, ◌++◌, arith}
use Rattle.std.specs.Int.{w64, to_le_bytes}
use Rattle.std.proofs.lemmas.Result.{on_ok_weaker}
use Rattle.sb_message.proofs.Spellings.{appends}
use Rattle.sb_message.proofs.writing.append.Goals as goal

pub returns-clause-ok : goal.returns-clause-ok
returns-clause-ok c =
    let parts = c.parts_of-parts in
    let timestamp = c.to_le_bytes.ensures ∙ ap (to_le_bytes w64) c.picoseconds.ensures in
    let second = c.in_ok-append-2.ensures.ok ∙ ap (λ bytes. c.append.new.self ++ bytes) timestamp in
    on_ok_weaker c.append-4.result
    (λ last. appends c.args.m.now parts.result.ty parts.result.fields parts.result.payload.now c.args.out.now c.append.new.self c.append-2.new.self c.append-3.new.self c.append-4.new.self parts.ensures.row parts.ensures.small (omega (arith, c.picoseconds.ensures, c.picoseconds.type_inv)) c.in_ok-append.ensures.ok second c.in_ok-append-3.ensures.ok last)
    c.append-4.ensures.ok
