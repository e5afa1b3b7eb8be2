use Rattle.std.proofs.Common.{◌≡◌, ◌+◌, ◌<◌, length, sym, subst, ap, ◌∙◌}
use Rattle.std.specs.Prelude.{All, ℕ, slice_get, slice_set}
use Rattle.device_api.specs.declared.component.Component.{Component}
use Rattle.global_model.specs.Tally.{counted_on}
use Rattle.sb_message.specs.declared.message.Body.{Body}
use Rattle.sb_message.specs.Receivable.{MaySend}
use Rattle.device_api.specs.Behaviour.{SendsAndLines}
use Rattle.global_model.specs.Inboxes.{end_at, IsSoonest}
use Rattle.global_model.specs.Post.{events_along}
use Rattle.global_model.specs.Step.{HasStepped, IsReady, moment_in, late_of}
use Rattle.global_model.specs.Turn.{inputs_of}
use Rattle.global_model.proofs.StepLaws.{routed_after, there_after, same_read, stepped}
use Rattle.global_model.proofs.step.step.Goals as goal

pub post-requires-clause-routed : goal.post-requires-clause-routed
post-requires-clause-routed g c =
    let b = g.V.Device.behaviour in
    let component = c.index_mut-component.result.now in
    let ready = c.requires.ready in
    let same = same_read c.args.components.now.items c.args.moment.now.component ready.0 component ready.1 c.index_mut-component.ensures.value in
    let is_ready : IsReady b g.V.Device.settled c.args.moment.now.at c.args.moment.now.component c.args.routes.now c.args.inboxes.now component = subst (λ x. IsReady b g.V.Device.settled c.args.moment.now.at c.args.moment.now.component c.args.routes.now c.args.inboxes.now x) (sym same) ready.2 in
    let ports = b.ports component.device in
    let turned = c.in_ok-due.ensures in
    let sent : c.done.inside.sends ≡ (moment_in b c.args.moment.now.at c.args.moment.now.component c.args.inboxes.now component.device).sends = ap (λ (x : SendsAndLines). x.sends) c.done.view_is ∙ turned.sends in
    routed_after ports c.args.routes.now (c.args.moment.now.at + 1) c.args.moment.now.component (length ports) c.args.inboxes.now c.turn.new.inboxes c.done.inside.sends is_ready.routed turned.left (subst (λ sends. All (λ (sent : ℕ × Body). MaySend ports sent.0 sent.1) sends) (sym sent) turned.whole.sendable)

pub soonest-next-requires : goal.soonest-next-requires
soonest-next-requires g c =
    let b = g.V.Device.behaviour in
    let component = c.index_mut-component.result.now in
    let ready = c.requires.ready in
    let same = same_read c.args.components.now.items c.args.moment.now.component ready.0 component ready.1 c.index_mut-component.ensures.value in
    let is_ready : IsReady b g.V.Device.settled c.args.moment.now.at c.args.moment.now.component c.args.routes.now c.args.inboxes.now component = subst (λ x. IsReady b g.V.Device.settled c.args.moment.now.at c.args.moment.now.component c.args.routes.now c.args.inboxes.now x) (sym same) ready.2 in
    λ p lt. there_after (c.args.moment.now.at + 1) c.args.moment.now.component (length (b.ports component.device)) (events_along c.args.routes.now c.args.moment.now.component c.args.moment.now.at c.done.inside.sends) c.args.inboxes.now c.turn.new.inboxes c.post.new.inboxes (end_at c.args.moment.now.component p) (is_ready.waits.there p (subst (λ n. p < n) c.ports-ports.ensures lt)) (c.in_ok-due.ensures.left (end_at c.args.moment.now.component p)) (c.in_ok-post.ensures.arrives (end_at c.args.moment.now.component p))

pub returns-clause-stepped : goal.returns-clause-stepped
returns-clause-stepped g c = λ other is.
    let b = g.V.Device.behaviour in
    let component = c.index_mut-component.result.now in
    let turned = c.in_ok-due.ensures in
    let sent : c.done.inside.sends ≡ (moment_in b c.args.moment.now.at c.args.moment.now.component c.args.inboxes.now component.device).sends = ap (λ (x : SendsAndLines). x.sends) c.done.view_is ∙ turned.sends in
    let same = same_read c.args.components.now.items c.args.moment.now.component other component is c.index_mut-component.ensures.value in
    subst (λ x. HasStepped b g.V.Device.settled c.args.moment.now.at c.args.moment.now.component c.args.routes.now x c.args.components.now.items c.args.inboxes.now c.args.agenda.now (slice_set c.args.components.now.items c.args.moment.now.component c.turn.new.component) c.post.new.inboxes c.post.new.agenda c.soonest-next.result) same
    (stepped c.args.moment.now.at c.args.moment.now.component c.args.routes.now component c.args.components.now.items c.args.inboxes.now c.args.agenda.now c.turn.new.component c.done.inside.sends c.turn.new.inboxes c.post.new.inboxes c.late-last.result c.soonest-next.result c.post.new.agenda turned.device turned.log sent turned.left turned.whole c.in_ok-post.ensures.arrives c.in_ok-post.ensures.noted (c.late-last.ensures ∙ ap late_of turned.due) (subst (λ n. IsSoonest c.late-last.result n (inputs_of c.post.new.inboxes c.args.moment.now.component) c.soonest-next.result) c.ports-ports.ensures c.soonest-next.ensures))

pub returns-clause-counted : goal.returns-clause-counted
returns-clause-counted g c = λ other is k.
    let b = g.V.Device.behaviour in
    let component = c.index_mut-component.result.now in
    let sent : c.done.inside.sends ≡ (moment_in b c.args.moment.now.at c.args.moment.now.component c.args.inboxes.now component.device).sends = ap (λ (x : SendsAndLines). x.sends) c.done.view_is ∙ c.in_ok-due.ensures.sends in
    let same = same_read c.args.components.now.items c.args.moment.now.component other component is c.index_mut-component.ensures.value in
    c.in_ok-post.ensures.counted k
    ∙ ap (λ sends. counted_on k c.args.routes.now c.args.moment.now.component c.args.moment.now.at sends (slice_get c.args.tallies.now k)) sent
    ∙ ap (λ (x : Component g.row.V.Denot). counted_on k c.args.routes.now c.args.moment.now.component c.args.moment.now.at (moment_in b c.args.moment.now.at c.args.moment.now.component c.args.inboxes.now x.device).sends (slice_get c.args.tallies.now k)) same
