use Rattle.std.proofs.Common.{◌≤◌, List, length, ap, le_trans}
use Rattle.switch_sim.specs.declared.entry.Entry.{Entry}
use Rattle.switch_sim.proofs.Files.{refiled}
use Rattle.switch_sim.proofs.table.Table.put.Goals as goal

pub invariant_of-self : goal.invariant_of-self
invariant_of-self c =
    let place : c.args.place ≤ length c.self.inside.entries.items = rw (ap (λ (es : List Entry). length es) c.self.view_is) c.requires.place in
    (rw c.put_at.ensures.entries (rw c.move_to.ensures (rw c.bucket_of.ensures.bucket (rw c.set.ensures (rw c.picoseconds.ensures (refiled c.self.inside.entries.items c.self.inside.chains.buckets c.self.inside.seen c.args.place c.args.entry c.self.invariant.0 place c.requires.room))))), le_trans c.self.invariant.1 c.put_at.ensures.room)
