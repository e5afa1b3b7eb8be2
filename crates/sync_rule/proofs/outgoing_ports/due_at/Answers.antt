use Rattle.std.proofs.Common.{◌≡◌, Some, refl, sym, ap, ◌∙◌, subst, arith, length, ◌+◌, ◌||◌}
use Rattle.std.specs.Prelude.{slice_get}
use Rattle.std.proofs.lemmas.Option.{slice_get_read}
use Rattle.sync_rule.specs.Times.{timer_of}
use Rattle.sync_rule.specs.ManyPorts.{WaitBelow}
use Rattle.sync_rule.specs.Soonest.{Soonest, sooner_at}
use Rattle.sync_rule.proofs.Soonests.{soonest_more}
use Rattle.sync_rule.proofs.Waiting.{wait_more}
use Rattle.sync_rule.proofs.outgoing_ports.due_at.Goals as goal

pub loop-port-preserved : goal.loop-port-preserved
loop-port-preserved c =
    let i = c.loop-port.port in
    let at : slice_get c.args.items.now i ≡ Some c.index-items-port.result = slice_get_read c.args.items.now _ i c.index-items-port.result refl c.loop-port-test.true c.index-items-port.is in
    record {
      timer = subst (Soonest timer_of c.args.items.now (i + 1)) (sym (c.sooner_at-timer.ensures ∙ ap (λ t. sooner_at c.loop-port.timer i (Some t)) c.sync_due.ensures)) (soonest_more timer_of c.args.items.now i c.index-items-port.result at c.loop-port.timer c.loop-port.invariant.timer);
      waits = subst (WaitBelow c.args.items.now (i + 1)) (sym (c.waits_too-waits.ensures ∙ ap (λ w. c.loop-port.waits || w) c.waits.ensures)) (wait_more c.args.items.now i c.index-items-port.result at c.loop-port.waits c.loop-port.invariant.waits);
    }

pub returns-clause-timer : goal.returns-clause-timer
returns-clause-timer c = let e : c.loop-port.port ≡ length c.args.items.now = omega (arith, c.loop-port.auto.port-end, c.loop-port-test.false) in subst (λ n. Soonest timer_of c.args.items.now n c.loop-port.timer) e c.loop-port.invariant.timer

pub returns-clause-waits : goal.returns-clause-waits
returns-clause-waits c = let e : c.loop-port.port ≡ length c.args.items.now = omega (arith, c.loop-port.auto.port-end, c.loop-port-test.false) in subst (λ n. WaitBelow c.args.items.now n c.loop-port.waits) e c.loop-port.invariant.waits
