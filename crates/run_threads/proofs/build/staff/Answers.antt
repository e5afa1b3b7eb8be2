use Rattle.run_threads.proofs.SharedOut.{nears_are_new, fars_are_new}
use Rattle.run_threads.proofs.build.staff.Goals as goal

pub workers_of-requires-clause-nears : goal.workers_of-requires-clause-nears
workers_of-requires-clause-nears g c =
    let shared = c.in_ok-nears.ensures in
    rw (c.as_slice-2.ensures.value, shared.nears_are, c.as_slice.ensures) (nears_are_new c.args.wiring.now.kinds c.args.queues.now c.args.wiring.now.links c.requires.new.queues_are)

pub workers_of-requires-clause-fars : goal.workers_of-requires-clause-fars
workers_of-requires-clause-fars g c =
    let shared = c.in_ok-nears.ensures in
    rw (c.as_slice-3.ensures.value, shared.fars_are, c.as_slice.ensures) (fars_are_new c.args.wiring.now.kinds c.args.queues.now c.args.wiring.now.links c.requires.new.queues_are)
