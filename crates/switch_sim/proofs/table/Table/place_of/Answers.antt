use Rattle.std.proofs.Common.{◌≡◌, List, position, true, sym, ap, ◌∙◌}
use Rattle.switch_sim.specs.declared.entry.Entry.{Entry}
use Rattle.switch_sim.specs.Table.{is_of}
use Rattle.switch_sim.proofs.Files.{search_found, search_ended}
use Rattle.switch_sim.proofs.table.Table.place_of.Goals as goal

pub returns-then-eq : goal.returns-then-eq
returns-then-eq c =
    let e : Entry = c.index.result.now in
    let same : is_of c.args.mac e ≡ true = sym c.eq.ensures ∙ c.if-eq.true in
    sym (sym (ap (λ (es : List Entry). position (is_of c.args.mac) es) c.self.view_is) ∙ search_found c.self.inside.entries.items c.self.inside.chains.buckets c.self.inside.seen c.self.invariant.0 c.args.mac c.loop-place.place e c.loop-place.invariant c.loop-place-test.true c.index.ensures same)

pub returns : goal.returns
returns c = sym (sym (ap (λ (es : List Entry). position (is_of c.args.mac) es) c.self.view_is) ∙ search_ended c.self.inside.entries.items c.self.inside.chains.buckets c.self.inside.seen c.self.invariant.0 c.args.mac c.loop-place.place c.loop-place.invariant c.loop-place-test.false)
