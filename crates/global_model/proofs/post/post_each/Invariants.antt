use Rattle.std.proofs.Common.{length}
use Rattle.global_model.proofs.PostLaws.{Posts}
use Rattle.global_model.proofs.Counting.{Counting}
use Rattle.global_model.proofs.post.post_each.Given as goal

abbrev pub invariant-sends : goal.invariant-sends
invariant-sends l = record {
  posts : Posts l.routes l.from l.t l.fn.sends l.initial.inboxes l.initial.agenda l.sends l.inboxes l.agenda;
  counting : Counting l.routes l.from l.t l.fn.sends l.initial.tallies l.sends l.tallies;
}

abbrev pub decreases-sends : goal.decreases-sends
decreases-sends l = length l.sends
