use Rattle.std.proofs.Common.{ℕ, ◌≡◌, List, length, position, nat_le, ap, sym, ◌∙◌}
use Rattle.switch_sim.specs.declared.entry.Entry.{Entry}
use Rattle.switch_sim.proofs.Files.{found_by_time}
use Rattle.switch_sim.proofs.table.Table.first_seen_by.Goals as goal

pub returns : goal.returns
returns c =
    let full : length c.self.inside.entries.items ≡ 4096 = ap (λ (es : List Entry). length es) c.self.view_is ∙ c.requires in
    c.first_at_most.ensures
    ∙ ap (λ (n : ℕ). position (λ (m : ℕ). nat_le m n) c.self.inside.seen) c.picoseconds.ensures
    ∙ found_by_time (λ (m : ℕ). nat_le m c.args.time) c.self.inside.seen c.self.inside.entries.items (c.self.invariant.0.seen_sized ∙ sym full) c.self.invariant.0.timed
    ∙ ap (λ (es : List Entry). position (λ (e : Entry). nat_le e.seen c.args.time) es) c.self.view_is
