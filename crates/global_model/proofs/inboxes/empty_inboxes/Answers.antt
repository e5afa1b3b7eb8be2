use Rattle.std.proofs.Common.{◌+◌, length, ap, ◌∙◌, []}
use Rattle.std.specs.Prelude.{slice_get}
use Rattle.std.proofs.lemmas.List.{length_push}
use Rattle.global_model.proofs.Nested.{filled_more}
use Rattle.global_model.proofs.inboxes.empty_inboxes.Goals as goal

pub loop-port-preserved : goal.loop-port-preserved
loop-port-preserved c =
    let before = c.loop-port.inboxes.items in
    let is = c.in_ok-push.ensures.items in
    (ap length is ∙ length_push before c.new.result ∙ ap (λ n. n + 1) c.loop-port.invariant.0, λ p lt. ap (λ xs. slice_get xs p) is ∙ filled_more before [] c.new.result c.loop-port._port c.loop-port.invariant.0 c.new.ensures c.loop-port.invariant.1 p lt)
