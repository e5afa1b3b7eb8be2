use Rattle.toml.specs.View.{view}
use Rattle.topology_file.specs.Ports.{names_of}
use Rattle.topology_file.specs.Full.{full_link}
use Rattle.topology_file.proofs.Elements.{map_more}
use Rattle.topology_file.proofs.printer.link_entries.Goals as goal

pub loop-item-preserved : goal.loop-item-preserved
loop-item-preserved c =
    let t = c.args.t.now in
    let told = rw c.as_slice-components.ensures at c.in_ok-entry.ensures in
    let this = rw c.as_slice-item-items.ensures at c.item-item.is in
    let within = rw c.as_slice-item-items.ensures at c.loop-item-test.true in
    rw c.in_ok-push.ensures.items (map_more view (full_link (names_of t.components)) c.loop-item.entries.items t.wiring.links c.loop-item.item-index c.in_ok-entry.entry c.item-item.result c.loop-item.invariant within this told)
