use Rattle.std.proofs.Common.{length, ◌≤◌, subst, arith}
use Rattle.std.proofs.lemmas.Result.{IfOk-weaker}
use Rattle.mesh_core.specs.State.{State}
use Rattle.mesh_core.proofs.Between.{within, all_moved}
use Rattle.mesh_core.proofs.Stepped.{no_move}
use Rattle.mesh_core.proofs.Walked.{no_bytes}
use Rattle.mesh_core.proofs.mesh.Mesh.move_all.Goals as goal

pub returns-then-channel-len : goal.returns-then-channel-len
returns-then-channel-len g c = no_bytes g.V.Device.behaviour c.args.channel c.args.self.now (λ n. (no_move g.V.Device.behaviour c.args.self.now c.args.channel n (subst (λ (mesh : State _). length mesh.ways ≤ c.args.channel) c.self.view_is (let past = c.if-channel-len.true in let len = c.len.ensures in omega arith))).not_enabled)

pub index-requires : goal.index-requires
index-requires g c = omega (arith, within g.V.Device.behaviour g.V.Device.settled c.self.inside.runners.items c.self.inside.ways.items c.self.inside.carriers.items c.args.self.now c.self.view_is c.requires c.args.channel (let past = c.if-channel-len.false in let len = c.len.ensures in omega arith))

pub returns : goal.returns
returns g c = IfOk-weaker c.move_bytes.result _ _ (λ moved made. all_moved g.V.Device.behaviour g.V.Device.settled c.self.inside.runners.items c.self.inside.ways.items c.self.inside.carriers.items c.args.self.now c.self.view_is c.requires c.args.channel (let past = c.if-channel-len.false in let len = c.len.ensures in omega arith) c.index.result.now c.index.ensures c.in_pipe-bytes.result c.in_pipe-bytes.ensures c.move_bytes.new.self moved made) c.move_bytes.ensures
