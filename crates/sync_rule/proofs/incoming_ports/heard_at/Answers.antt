use Rattle.std.proofs.Common.{◌≡◌, Some, refl, sym, ap, ◌∙◌, subst, arith, length, ◌+◌}
use Rattle.std.specs.Prelude.{slice_get}
use Rattle.std.proofs.lemmas.Option.{slice_get_read}
use Rattle.sync_rule.specs.Times.{head_of, quiet_of}
use Rattle.sync_rule.specs.Soonest.{Soonest, sooner_at}
use Rattle.sync_rule.proofs.Soonests.{soonest_start, soonest_more}
use Rattle.sync_rule.proofs.incoming_ports.heard_at.Goals as goal

pub loop-port-init : goal.loop-port-init
loop-port-init c = record { head = soonest_start head_of c.args.items.now; quiet = soonest_start quiet_of c.args.items.now }

pub loop-port-preserved : goal.loop-port-preserved
loop-port-preserved c =
    let i = c.loop-port.port in
    let at : slice_get c.args.items.now i ≡ Some c.index-items-port.result = slice_get_read c.args.items.now _ i c.index-items-port.result refl c.loop-port-test.true c.index-items-port.is in
    record {
      head = subst (Soonest head_of c.args.items.now (i + 1)) (sym (c.sooner_at-head.ensures ∙ ap (sooner_at c.loop-port.head i) c.head.ensures)) (soonest_more head_of c.args.items.now i c.index-items-port.result at c.loop-port.head c.loop-port.invariant.head);
      quiet = subst (Soonest quiet_of c.args.items.now (i + 1)) (sym (c.sooner_at-quiet.ensures ∙ ap (sooner_at c.loop-port.quiet i) c.quiet.ensures)) (soonest_more quiet_of c.args.items.now i c.index-items-port.result at c.loop-port.quiet c.loop-port.invariant.quiet);
    }

pub returns-clause-head : goal.returns-clause-head
returns-clause-head c = let e : c.loop-port.port ≡ length c.args.items.now = omega (arith, c.loop-port.auto.port-end, c.loop-port-test.false) in subst (λ n. Soonest head_of c.args.items.now n c.loop-port.head) e c.loop-port.invariant.head

pub returns-clause-quiet : goal.returns-clause-quiet
returns-clause-quiet c = let e : c.loop-port.port ≡ length c.args.items.now = omega (arith, c.loop-port.auto.port-end, c.loop-port-test.false) in subst (λ n. Soonest quiet_of c.args.items.now n c.loop-port.quiet) e c.loop-port.invariant.quiet
