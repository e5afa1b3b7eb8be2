use Rattle.std.proofs.Common.{◌≡◌, ◌++◌, ◌∙◌, ap, length, map, take, rules, arith}
use Rattle.std.proofs.lemmas.List.{take_all, length_push}
use Rattle.std.proofs.lemmas.Slice.Zip.{zip_turn, zip_end}
use Rattle.log_join.specs.Entries.{named_line, named_lines}
use Rattle.log_join.proofs.NamedLines.{named_lines_more, named_lines_whole}
use Rattle.log_join.proofs.entry.entries_of.Goals as goal

pub logs-preserved : goal.logs-preserved
logs-preserved c =
    let name = c.in-Some.name.now in
    let log = c.in-Some.log.now in
    let turn = zip_turn c.args.names.now c.args.logs.now.lists c.logs.yielded c.into_iter-name-iterator.result c.logs.name-iterator c.next.new.self c.next.result (search rules) (search rules) c.logs.yielded_by (c.in-Some.name, c.in-Some.log) c.in-Some.is c.next.ensures.steps in
    let whole : take c.lines.line-index c.as_slice-line-items.result.now ≡ log = take_all c.lines.line-index c.as_slice-line-items.result.now c.lines-test.false ∙ c.as_slice-line-items.ensures in
    let more = named_lines_more c.args.names.now c.args.logs.now.lists (length c.logs.yielded) name log turn.0 turn.1 (turn.2 name) (turn.3 log) in
    rw length_push (c.lines.invariant ∙ ap (λ lines. map named_line c.logs.entries.items ++ named_lines (name, lines)) whole ∙ ap (λ before. before ++ named_lines (name, log)) c.logs.invariant ∙ more)

pub returns : goal.returns
returns c =
    let whole = zip_end c.args.names.now c.args.logs.now.lists c.logs.yielded c.into_iter-name-iterator.result c.logs.name-iterator c.next.new.self c.next.result (search rules) (search rules) c.logs.yielded_by c.in-None.is c.next.ensures.steps in
    c.logs.invariant ∙ named_lines_whole c.args.names.now c.args.logs.now.lists (length c.logs.yielded) c.requires (omega arith)
