use Rattle.proxy_members.proofs.tests.turn_both.Given as goal

abbrev pub invariant-loop : goal.invariant-loop
invariant-loop g l = record { first : g.M.Member.fits l.first; last : g.N.Member.fits l.last }
