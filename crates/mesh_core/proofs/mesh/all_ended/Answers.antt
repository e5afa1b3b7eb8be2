use Rattle.std.proofs.Common.{refl, arith}
use Rattle.std.proofs.lemmas.Option.{slice_get_read, slice_get_within}
use Rattle.mesh_core.proofs.Ended.{one_more_ended}
use Rattle.mesh_core.proofs.mesh.all_ended.Goals as goal

pub loop-component-preserved : goal.loop-component-preserved
loop-component-preserved g c = one_more_ended g.V.Device.behaviour c.args.runners.now c.loop-component._component c.index-runners-component.result (slice_get_read c.args.runners.now _ c.loop-component._component c.index-runners-component.result refl c.loop-component-test.true c.index-runners-component.is) (c.ended.ensures.0 c.if-not-ended.false) c.loop-component.invariant

pub returns : goal.returns
returns g c = (λ _ p r there. c.loop-component.invariant p r (omega (arith, slice_get_within c.args.runners.now p r there, c.loop-component-test.false)) there, λ _. refl)
