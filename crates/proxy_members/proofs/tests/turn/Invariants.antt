use Rattle.proxy_members.proofs.tests.turn.Given as goal

abbrev pub invariant-loop : goal.invariant-loop
invariant-loop g l = g.M.Member.fits l.member
