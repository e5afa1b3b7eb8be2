use Rattle.std.proofs.Common.{◌≡◌, ◌≤◌, Some, length, refl, sym, ◌∙◌, subst, arith}
use Rattle.std.specs.Prelude.{slice_get, slice_set, nat_lt}
use Rattle.std.proofs.lemmas.Bool.{false≢true}
use Rattle.std.proofs.lemmas.Option.{slice_get_read}
use Rattle.mesh_core.specs.State.{State}
use Rattle.mesh_core.specs.Walk.{RunsOn}
use Rattle.mesh_core.proofs.Stepped.{no_component}
use Rattle.mesh_core.proofs.Walked.{not_run, runs_on, throughout_in}
use Rattle.mesh_core.proofs.mesh.Mesh.run_on.Goals as goal

pub returns-then-component-len : goal.returns-then-component-len
returns-then-component-len g c = not_run g.V.Device.behaviour c.args.awake c.args.component c.args.self.now (λ _. (no_component g.V.Device.behaviour c.args.self.now c.args.component (subst (λ (mesh : State _). length mesh.runners ≤ c.args.component) c.self.view_is (let past = c.if-component-len.true in let len = c.len.ensures in omega arith))).not_enabled)

pub returns-then-not-includes : goal.returns-then-not-includes
returns-then-not-includes g c = not_run g.V.Device.behaviour c.args.awake c.args.component c.args.self.now (λ everyone. absurd (false≢true (sym c.if-not-includes.true ∙ c.includes.ensures everyone)))

pub events-requires : goal.events-requires
events-requires g c =
    let there = slice_get_read c.self.inside.runners.items _ c.args.component c.index_mut.result.now refl (let within = c.if-component-len.false in let len = c.len.ensures in omega arith) c.index_mut.ensures.value in
    record { ready = throughout_in g.V.Device.behaviour g.V.Device.settled g.met.V.Device.lawful c.args.self.now c.requires c.args.component c.index_mut.result.now (subst (λ (mesh : State _). slice_get mesh.runners c.args.component ≡ Some c.index_mut.result.now) c.self.view_is there) }

pub returns : goal.returns
returns g c =
    let there = slice_get_read c.self.inside.runners.items _ c.args.component c.index_mut.result.now refl (let within = c.if-component-len.false in let len = c.len.ensures in omega arith) c.index_mut.ensures.value in
    subst (λ (mesh : State _). RunsOn g.V.Device.behaviour c.args.awake c.args.component mesh (record { runners = slice_set c.self.inside.runners.items c.args.component c.events.new.self; ways = c.self.inside.ways.items; carriers = c.self.inside.carriers.items }) (nat_lt 0 c.in_ok-ran.ran)) c.self.view_is (runs_on g.V.Device.behaviour c.args.awake (record { runners = c.self.inside.runners.items; ways = c.self.inside.ways.items; carriers = c.self.inside.carriers.items }) c.args.component c.index_mut.result.now there c.events.new.self 18446744073709551615 c.in_ok-ran.ran (omega arith) c.in_ok-ran.ensures (nat_lt 0 c.in_ok-ran.ran) refl)
