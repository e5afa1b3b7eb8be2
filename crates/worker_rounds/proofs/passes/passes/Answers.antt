use Rattle.std.proofs.Common.{◌≡◌, ◌+◌, arith, subst}
use Rattle.worker_rounds.specs.Passes.{EachWent}
use Rattle.worker_rounds.specs.Rounds.Passed.{all_still, all_made}
use Rattle.worker_rounds.proofs.Passing.{none_went, each_on, have_counted}
use Rattle.worker_rounds.proofs.passes.passes.Goals as goal

pub loop-made-init : goal.loop-made-init
loop-made-init g c = record { went = none_went g.M.Member.does c.args.members.now; fit = c.requires.fit }

pub returns-then-all_still-clause-passed : goal.returns-then-all_still-clause-passed
returns-then-all_still-clause-passed g c =
    let went = each_on g.M.Member.does c.args.members.now c.loop-made.members c.pass.new.members c.loop-made.made 1 c.loop-made.invariant.went c.in_ok-pass.ensures.went in
    all_still (c.loop-made.made + 1) (omega arith) (omega arith) went (have_counted g.M.Member.does g.M.Member.turns g.met.M.Member.counts c.args.members.now c.pass.new.members (c.loop-made.made + 1) went (omega arith)) (c.all_still.ensures.0 c.if-all_still.true)

pub loop-made-preserved : goal.loop-made-preserved
loop-made-preserved g c = record {
  went = each_on g.M.Member.does c.args.members.now c.loop-made.members c.pass.new.members c.loop-made.made 1 c.loop-made.invariant.went c.in_ok-pass.ensures.went;
  fit = c.in_ok-pass.ensures.fit;
}

pub returns-clause-passed : goal.returns-clause-passed
returns-clause-passed g c =
    let all : c.loop-made.made ≡ 4096 = omega arith in
    let went = subst (λ n. EachWent g.M.Member.does n c.args.members.now c.loop-made.members) all c.loop-made.invariant.went in
    all_made went (have_counted g.M.Member.does g.M.Member.turns g.met.M.Member.counts c.args.members.now c.loop-made.members 4096 went (omega arith))
