use Rattle.toml.specs.View.{table_view}
use Rattle.toml.proofs.Views.{view-Table}
use Rattle.topology_file.proofs.Answering.{reads_document}
use Rattle.topology_file.proofs.reader.read.Goals as goal

pub returns : goal.returns
returns c =
    reads_document c.args.bytes.now (table_view c.in_ok-table.table) c.in_ok-table.ensures c.topology.result (rw (view-Table c.in_ok-table.table) at c.topology.ensures)
