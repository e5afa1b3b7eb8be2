use Rattle.std.proofs.Common.{◌<◌, refl, sym, subst, length}
use Rattle.std.proofs.lemmas.Option.{slice_get_read}
use Rattle.sync_rule.specs.Ports.{posted}
use Rattle.sync_rule.proofs.Steps.{on_ok, changed_at}
use Rattle.sync_rule.proofs.outgoing_ports.OutgoingPorts.post.Goals as goal

pub returns : goal.returns
returns c =
    let view = c.self.view_is in
    let at = slice_get_read c.self.inside.items.items _ c.args.port c.index_mut.result.now refl (subst (λ l. c.args.port < length l) (sym view) c.requires.there) c.index_mut.ensures.value in
    on_ok c.post.result (λ same. changed_at c.self.inside.items.items c.args.self.now c.args.port c.index_mut.result.now c.post.new.self (posted c.args.t c.args.body) view at same) c.post.ensures
