use Rattle.std.specs.Prelude.{◌≤◌, ◌+◌, ◌%◌, length, Ok, Err}
use Rattle.std.proofs.Common.{refl, sym, subst}
use Rattle.std.proofs.lemmas.Result.{err_from_is_err_and}
use Rattle.tcp_proxy.specs.declared.hop.ProxyBad.TheVariants as bad
use Rattle.tcp_proxy.specs.Sending.{Outgoing, Sends, SendCause, TurnedOut}
use Rattle.tcp_proxy.proofs.SentBytes.{lacking, lost, turned, told_on}
use Rattle.tcp_proxy.proofs.proxy_out.ProxyOut.turn.Goals as goal

pub returns-in_err-taken-clause-turned : goal.returns-in_err-taken-clause-turned
returns-in_err-taken-clause-turned g c =
    let seen = g.O.WireOut.seen in
    let port = g.R.RxPort in
    let i = c.self.inside in
    let old : Outgoing g.row.O.Denot = record { wire = i.wire; kept = i.kept.items; gone = i.gone; turns = i.turns; still = i.still } in
    let new : Outgoing g.row.O.Denot = record { wire = i.wire; kept = c.take_all.new.kept.items; gone = i.gone; turns = (i.turns + 1) % 18446744073709551616; still = i.still } in
    let p = err_from_is_err_and c.from_residual.result c.from_residual.ensures.1 in
    rw (p.1, p.2) (subst (λ (o : Outgoing g.row.O.Denot). TurnedOut seen port.kind port.stands port.pops port.empties o new c.args.near.now c.take_all.new.near (Err bad.NoMemory)) c.self.view_is
    (lacking seen port.kind port.stands port.pops port.empties old new c.args.near.now c.take_all.new.near c.in_err-taken.field-0.0 c.in_err-taken.ensures refl refl))

pub returns-in_err-sent-clause-turned : goal.returns-in_err-sent-clause-turned
returns-in_err-sent-clause-turned g c =
    let seen = g.O.WireOut.seen in
    let port = g.R.RxPort in
    let i = c.self.inside in
    let old : Outgoing g.row.O.Denot = record { wire = i.wire; kept = i.kept.items; gone = i.gone; turns = i.turns; still = i.still } in
    let mid : Outgoing g.row.O.Denot = record { wire = i.wire; kept = c.take_all.new.kept.items; gone = i.gone; turns = (i.turns + 1) % 18446744073709551616; still = i.still } in
    let p = err_from_is_err_and c.from_residual-in_err-sent.result c.from_residual-in_err-sent.ensures.1 in
    rw (p.1, p.2) (subst (λ (o : Outgoing g.row.O.Denot). TurnedOut seen port.kind port.stands port.pops port.empties o c.send.new.self c.args.near.now c.take_all.new.near (Err bad.Lost)) c.self.view_is
    (lost seen port.kind port.stands port.pops port.empties old mid c.send.new.self c.args.near.now c.take_all.new.near c.in_ok-taken.taken c.in_err-sent.field-0.0 c.in_ok-taken.ensures refl refl c.in_err-sent.ensures.sends c.in_err-sent.ensures.cause))

pub returns-clause-turned : goal.returns-clause-turned
returns-clause-turned g c =
    let seen = g.O.WireOut.seen in
    let port = g.R.RxPort in
    let i = c.self.inside in
    let j = c.self-2.inside in
    let old : Outgoing g.row.O.Denot = record { wire = i.wire; kept = i.kept.items; gone = i.gone; turns = i.turns; still = i.still } in
    let mid : Outgoing g.row.O.Denot = record { wire = i.wire; kept = c.take_all.new.kept.items; gone = i.gone; turns = (i.turns + 1) % 18446744073709551616; still = i.still } in
    let after : Outgoing g.row.O.Denot = record { wire = j.wire; kept = j.kept.items; gone = j.gone; turns = j.turns; still = j.still } in
    let new : Outgoing g.row.O.Denot = record { wire = j.wire; kept = j.kept.items; gone = j.gone; turns = j.turns; still = c.still_after-self-inside.result } in
    let s : Sends seen mid after c.in_ok-sent.sent = subst (λ (o : Outgoing g.row.O.Denot). Sends seen mid o c.in_ok-sent.sent) (sym c.self-2.view_is) c.in_ok-sent.ensures.sends in
    let sends : Sends seen mid new c.in_ok-sent.sent = record { kept = s.kept; gone = s.gone; taken = s.taken } in
    let cause : SendCause seen mid after (Ok c.in_ok-sent.sent) = subst (λ (o : Outgoing g.row.O.Denot). SendCause seen mid o (Ok c.in_ok-sent.sent)) (sym c.self-2.view_is) c.in_ok-sent.ensures.cause in
    subst (λ (o : Outgoing g.row.O.Denot). TurnedOut seen port.kind port.stands port.pops port.empties o new c.args.near.now c.take_all.new.near (Ok c.hop_of-hop.result)) c.self.view_is
    (turned seen port.kind port.stands port.pops port.empties old mid new c.args.near.now c.take_all.new.near c.in_ok-taken.taken c.in_ok-sent.sent c.hop_of-hop.result c.in_ok-taken.ensures refl refl sends cause c.hop_of-hop.ensures)

pub returns-clause-told : goal.returns-clause-told
returns-clause-told g c told =
    let seen = g.O.WireOut.seen in
    let port = g.R.RxPort in
    let j = c.self-2.inside in
    let new : Outgoing g.row.O.Denot = record { wire = j.wire; kept = j.kept.items; gone = j.gone; turns = j.turns; still = c.still_after-self-inside.result } in
    let fits : c.args.self.now.gone ≤ length c.args.self.now.kept = subst (λ (o : Outgoing g.row.O.Denot). o.gone ≤ length o.kept) c.self.view_is c.self.invariant in
    told_on seen port.kind port.stands port.pops port.empties c.args.self.now new c.args.near.now c.take_all.new.near (Ok c.hop_of-hop.result) (returns-clause-turned g c) fits told
