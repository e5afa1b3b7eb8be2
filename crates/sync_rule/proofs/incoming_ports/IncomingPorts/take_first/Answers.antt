use Rattle.std.proofs.Common.{◌<◌, refl, sym, subst, length}
use Rattle.std.proofs.lemmas.Option.{slice_get_read}
use Rattle.sync_rule.proofs.Steps.{takes_at}
use Rattle.sync_rule.proofs.incoming_ports.IncomingPorts.take_first.Goals as goal

pub returns : goal.returns
returns c =
    let view = c.self.view_is in
    let at = slice_get_read c.self.inside.items.items _ c.args.port c.index_mut.result.now refl (subst (λ l. c.args.port < length l) (sym view) c.requires) c.index_mut.ensures.value in
    takes_at c.self.inside.items.items c.args.self.now c.args.port c.index_mut.result.now c.take.new.self c.take.result view at c.take.ensures.some c.take.ensures.taken c.take.ensures.none
