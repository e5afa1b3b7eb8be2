use Rattle.std.proofs.Common.{arith, ◌+◌, ◌^◌, ◌<◌, ◌≤◌, ap, sym, append-nil, ◌∙◌}
use Rattle.global_model.proofs.PostLaws.{posts_start, next_routed, posts_none, posts_at, posts_over}
use Rattle.global_model.proofs.Counting.{counting_starts, counting_none, counting_at, counting_over}
use Rattle.global_model.proofs.post.post_each.Goals as goal

pub sends-init : goal.sends-init
sends-init c = record {
  posts = posts_start c.args.routes.now c.args.from c.args.t c.args.sends.now c.reverse.new.self c.args.inboxes.now c.args.agenda.now c.reverse.ensures c.requires.routed;
  counting = counting_starts c.args.routes.now c.args.from c.args.t c.args.sends.now c.reverse.new.self c.args.tallies.now c.reverse.ensures;
}

pub get-requires : goal.get-requires
get-requires c = (next_routed c.sends.invariant.posts c.in-Some.port c.in-Some.body c.pop.new.self c.in-Some.ensures.last).there

pub sends-preserved-in_default-get : goal.sends-preserved-in_default-get
sends-preserved-in_default-get c = record {
  posts = posts_none c.sends.invariant.posts c.in-Some.port c.in-Some.body c.pop.new.self c.in-Some.ensures.last c.in_default-get.ensures;
  counting = counting_none c.sends.invariant.counting c.in-Some.port c.in-Some.body c.pop.new.self c.in-Some.ensures.last c.in_default-get.ensures;
}

pub overflow_add-at : goal.overflow_add-at
overflow_add-at c =
    let short : c.in-Some-get.route.latency ≤ 10 ^ 12 = (next_routed c.sends.invariant.posts c.in-Some.port c.in-Some.body c.pop.new.self c.in-Some.ensures.last).short c.in-Some-get.route c.in-Some-get.ensures in
    let in_run : c.args.t < 10 ^ 15 = c.requires.in_run in
    omega (arith, short, in_run, c.picoseconds.ensures, c.picoseconds-in-Some.ensures)

pub note-requires : goal.note-requires
note-requires c =
    let short : c.in-Some-get.route.latency ≤ 10 ^ 12 = (next_routed c.sends.invariant.posts c.in-Some.port c.in-Some.body c.pop.new.self c.in-Some.ensures.last).short c.in-Some-get.route c.in-Some-get.ensures in
    let in_run : c.args.t < 10 ^ 15 = c.requires.in_run in
    omega (arith, short, in_run, c.picoseconds.ensures, c.picoseconds-in-Some.ensures)

pub push-requires : goal.push-requires
push-requires c = (next_routed c.sends.invariant.posts c.in-Some.port c.in-Some.body c.pop.new.self c.in-Some.ensures.last).arrives c.in-Some-get.route c.in-Some-get.ensures

pub sends-preserved : goal.sends-preserved
sends-preserved c = record {
  posts =
      posts_at c.sends.invariant.posts c.in-Some.port c.in-Some.body c.pop.new.self c.in-Some-get.route (c.picoseconds.result + c.picoseconds-in-Some.result) c.push.new.self c.note.new.self c.in-Some.ensures.last c.in-Some-get.ensures
      (ap (λ x. x + c.picoseconds-in-Some.result) c.picoseconds.ensures ∙ ap (λ x. c.args.t + x) c.picoseconds-in-Some.ensures)
      c.in_ok-push.ensures c.note.ensures;
  counting = counting_at c.sends.invariant.counting c.in-Some.port c.in-Some.body c.pop.new.self c.in-Some-get.route c.send.new.self c.in-Some.ensures.last c.in-Some-get.ensures c.send.ensures;
}

pub returns-clause-arrives : goal.returns-clause-arrives
returns-clause-arrives c = (posts_over c.sends.invariant.posts c.in_default.ensures.none).0

pub returns-clause-noted : goal.returns-clause-noted
returns-clause-noted c = (posts_over c.sends.invariant.posts c.in_default.ensures.none).1

pub returns-clause-emptied : goal.returns-clause-emptied
returns-clause-emptied c = sym (append-nil c.pop.new.self) ∙ sym c.in_default.ensures.last ∙ c.in_default.ensures.none

pub returns-clause-counted : goal.returns-clause-counted
returns-clause-counted c = counting_over c.sends.invariant.counting c.in_default.ensures.none
