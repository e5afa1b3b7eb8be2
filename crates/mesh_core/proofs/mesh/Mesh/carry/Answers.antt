use Rattle.std.proofs.Common.{◌≤◌, false, length, sym, ◌∙◌, subst, arith}
use Rattle.std.proofs.lemmas.Bool.{false≢true}
use Rattle.mesh_core.specs.State.{State}
use Rattle.mesh_core.proofs.Stepped.{no_sender, no_receiver}
use Rattle.mesh_core.proofs.Walked.{not_carried, nothing_between, whoever, or_none}
use Rattle.mesh_core.proofs.mesh.Mesh.carry.Goals as goal

pub returns-then-channel-len : goal.returns-then-channel-len
returns-then-channel-len g c = (false, not_carried g.V.Device.behaviour c.args.awake c.args.channel c.args.self.now (λ _. (no_sender g.V.Device.behaviour c.args.self.now c.args.channel (subst (λ (mesh : State _). length mesh.ways ≤ c.args.channel) c.self.view_is (let past = c.if-channel-len.true in let len = c.len.ensures in omega arith))).not_enabled) (λ _. (no_receiver g.V.Device.behaviour c.args.self.now c.args.channel (subst (λ (mesh : State _). length mesh.ways ≤ c.args.channel) c.self.view_is (let past = c.if-channel-len.true in let len = c.len.ensures in omega arith))).not_enabled) (λ _. nothing_between g.V.Device.behaviour c.args.channel c.args.self.now (subst (λ (mesh : State _). length mesh.ways ≤ c.args.channel) c.self.view_is (let past = c.if-channel-len.true in let len = c.len.ensures in omega arith))), or_none c.args.woken.moved)

pub returns-then-not-touches : goal.returns-then-not-touches
returns-then-not-touches g c = (false, not_carried g.V.Device.behaviour c.args.awake c.args.channel c.args.self.now (λ everyone. absurd (false≢true (sym c.if-not-touches.true ∙ c.touches.ensures everyone))) (λ everyone. absurd (false≢true (sym c.if-not-touches.true ∙ c.touches.ensures everyone))) (λ everyone. absurd (false≢true (sym c.if-not-touches.true ∙ c.touches.ensures everyone))), or_none c.args.woken.moved)

pub returns : goal.returns
returns g c = (c.in_ok-moved.moved, whoever g.V.Device.behaviour c.args.awake c.args.channel c.args.self.now c.carry_all.new.self c.in_ok-moved.moved c.in_ok-moved.ensures, c.along.ensures)
