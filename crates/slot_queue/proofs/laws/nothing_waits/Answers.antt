use Rattle.slot_queue.proofs.Changes.{is_empty}
use Rattle.slot_queue.proofs.laws.nothing_waits.Goals as goal

pub returns : goal.returns
returns c plan state stands word = is_empty plan.kind plan.slots state.words state.homes stands.lists stands.queue word
