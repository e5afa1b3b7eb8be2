use Rattle.std.proofs.Common.{ap, ◌∙◌}
use Rattle.toml.specs.View.{view, members_view, table_view}
use Rattle.topology_file.specs.Full.{put}
use Rattle.topology_file.proofs.Putting.{members_view-insert}
use Rattle.topology_file.proofs.entry_writer.EntryWriter.put.Goals as goal

pub returns : goal.returns
returns c =
    ap members_view c.in_ok-insert.ensures.entries
    ∙ members_view-insert c.args.self.now.table.entries c.in_ok-name.name c.args.value
    ∙ ap (λ name. put name (view c.args.value) (table_view c.args.self.now.table)) (c.in_ok-name.ensures.ok ∙ c.text.ensures)
