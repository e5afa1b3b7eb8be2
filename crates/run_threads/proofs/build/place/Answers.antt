use Rattle.run_threads.proofs.build.place.Goals as goal

pub returns-clause-placed : goal.returns-clause-placed
returns-clause-placed g c = record { part = c.in_ok-part.part; made = c.in_ok-part.ensures.part; dealt = c.in_ok-deal.ensures.dealt }
