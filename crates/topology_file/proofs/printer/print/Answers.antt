use Rattle.std.proofs.lemmas.Result.{IfOk-weaker}
use Rattle.topology_file.proofs.FullRead.{read_again}
use Rattle.topology_file.proofs.Shallow.{full_shallow}
use Rattle.topology_file.proofs.printer.print.Goals as goal

pub text_of-requires : goal.text_of-requires
text_of-requires c = rw c.in_ok-table.ensures (full_shallow c.args.t.now)

pub returns-clause-text : goal.returns-clause-text
returns-clause-text c = rw c.in_ok-table.ensures at c.text_of.ensures.text

pub returns-clause-document : goal.returns-clause-document
returns-clause-document c = rw c.in_ok-table.ensures at c.text_of.ensures.document

pub returns-clause-read_again : goal.returns-clause-read_again
returns-clause-read_again c =
    let document = rw c.in_ok-table.ensures at c.text_of.ensures.document in
    let typed = rw c.as_slice.ensures at c.are_typed.ensures in
    IfOk-weaker c.text_of.result _ _ (λ text is_document. read_again c.args.t.now text typed is_document) document
