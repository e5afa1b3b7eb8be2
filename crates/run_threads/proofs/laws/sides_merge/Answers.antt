use Rattle.run_threads.proofs.Merged.{many_queues, are_merged}
use Rattle.run_threads.proofs.laws.sides_merge.Goals as goal

pub returns : goal.returns
returns c = λ kinds links queues new_producers new_consumers senders receivers outs ins new seats outs_named ins_named. are_merged links queues (many_queues kinds links queues new_producers new_consumers new) senders receivers outs ins seats outs_named ins_named
