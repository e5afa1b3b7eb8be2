use Rattle.std.specs.Prelude.{◌+◌, ◌%◌, ◌++◌, take, Ok, Err}
use Rattle.std.specs.Option.{option_to_list}
use Rattle.std.proofs.Common.{refl, sym, subst}
use Rattle.std.proofs.lemmas.Result.{err_from_is_err_and}
use Rattle.tcp_proxy.specs.Receiving.{Incoming, IsFitIn, TurnedIn}
use Rattle.tcp_proxy.proofs.Asked.{turned}
use Rattle.tcp_proxy.proofs.proxy_in.ProxyIn.turn.Goals as goal

pub ask-asked-requires-clause-stands : goal.ask-asked-requires-clause-stands
ask-asked-requires-clause-stands g c =
    let seen = g.I.WireIn.seen in
    let port = g.T.TxPort in
    let i = c.self.inside in
    let kept = take i.used i.room.items in
    let fit : IsFitIn port.kind port.stands i.frames i.held kept c.args.far.now = subst (λ (o : Incoming g.row.I.Denot). IsFitIn port.kind port.stands o.frames o.held o.kept c.args.far.now) (sym c.self.view_is) c.requires in
    let pushed = c.push_all-pushed.ensures in
    let meets = pushed.on kept fit.pushed fit.meets in
    ((fit.pushed ++ pushed.messages) ++ option_to_list c.push_all-pushed.new.held, meets.carries)

pub returns-in_err-hop-clause-turned : goal.returns-in_err-hop-clause-turned
returns-in_err-hop-clause-turned g c =
    let seen = g.I.WireIn.seen in
    let port = g.T.TxPort in
    let i = c.self.inside in
    let kept = take i.used i.room.items in
    let fit : IsFitIn port.kind port.stands i.frames i.held kept c.args.far.now = subst (λ (o : Incoming g.row.I.Denot). IsFitIn port.kind port.stands o.frames o.held o.kept c.args.far.now) (sym c.self.view_is) c.requires in
    let old : Incoming g.row.I.Denot = record { wire = i.wire; kept = kept; frames = i.frames; held = i.held; turns = i.turns; still = i.still } in
    let mid : Incoming g.row.I.Denot = record { wire = i.wire; kept = kept; frames = c.push_all-pushed.new.frames; held = c.push_all-pushed.new.held; turns = i.turns; still = i.still } in
    let new : Incoming g.row.I.Denot = record { wire = c.ask-asked.new.wire; kept = take c.ask-asked.new.used c.ask-asked.new.room.items; frames = c.ask-asked.new.frames; held = c.push_all-pushed.new.held; turns = (i.turns + 1) % 18446744073709551616; still = i.still } in
    let p = err_from_is_err_and c.from_residual.result c.from_residual.ensures.1 in
    rw (p.1, p.2) (subst (λ (o : Incoming g.row.I.Denot). TurnedIn seen port.kind port.stands port.pushes port.refuses o new c.args.far.now c.push_all-pushed.new.far (Err c.in_err-hop.field-0.0)) c.self.view_is
    (turned seen port.kind port.stands port.pushes port.refuses old mid new c.args.far.now c.push_all-pushed.new.far c.push_all-pushed.result c.ask-asked.result (Err c.in_err-hop.field-0.0) c.is_over-stays.result fit c.push_all-pushed.ensures c.ask-asked.ensures.asked refl c.is_over-stays.ensures c.in_err-hop.ensures))

pub returns-clause-turned : goal.returns-clause-turned
returns-clause-turned g c =
    let seen = g.I.WireIn.seen in
    let port = g.T.TxPort in
    let i = c.self.inside in
    let kept = take i.used i.room.items in
    let fit : IsFitIn port.kind port.stands i.frames i.held kept c.args.far.now = subst (λ (o : Incoming g.row.I.Denot). IsFitIn port.kind port.stands o.frames o.held o.kept c.args.far.now) (sym c.self.view_is) c.requires in
    let old : Incoming g.row.I.Denot = record { wire = i.wire; kept = kept; frames = i.frames; held = i.held; turns = i.turns; still = i.still } in
    let mid : Incoming g.row.I.Denot = record { wire = i.wire; kept = kept; frames = c.push_all-pushed.new.frames; held = c.push_all-pushed.new.held; turns = i.turns; still = i.still } in
    let new : Incoming g.row.I.Denot = record { wire = c.ask-asked.new.wire; kept = take c.ask-asked.new.used c.ask-asked.new.room.items; frames = c.ask-asked.new.frames; held = c.push_all-pushed.new.held; turns = (i.turns + 1) % 18446744073709551616; still = c.still_after-self-inside.result } in
    subst (λ (o : Incoming g.row.I.Denot). TurnedIn seen port.kind port.stands port.pushes port.refuses o new c.args.far.now c.push_all-pushed.new.far (Ok c.in_ok-hop.hop)) c.self.view_is
    (turned seen port.kind port.stands port.pushes port.refuses old mid new c.args.far.now c.push_all-pushed.new.far c.push_all-pushed.result c.ask-asked.result (Ok c.in_ok-hop.hop) c.is_over-stays.result fit c.push_all-pushed.ensures c.ask-asked.ensures.asked refl c.is_over-stays.ensures c.in_ok-hop.ensures)
