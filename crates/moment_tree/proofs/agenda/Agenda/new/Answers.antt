use Rattle.moment_tree.proofs.Dues.{start_dues}
use Rattle.moment_tree.proofs.agenda.Agenda.new.Goals as goal

pub returns : goal.returns
returns c = start_dues c.args.components c.in_ok-keys.keys.items (c.in_ok-keys.ensures.items_if_clones_equal (λ a b. b))
