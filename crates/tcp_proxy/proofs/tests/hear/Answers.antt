use Rattle.std.proofs.Common.{ap, sym, ◌∙◌}
use Rattle.port_queue.specs.Plain.{Plain}
use Rattle.tcp_proxy.proofs.Filling.{filled_first}
use Rattle.tcp_proxy.proofs.tests.hear.Goals as goal

pub fill-requires : goal.fill-requires
fill-requires c =
    filled_first c.new-proxy.result c.in_ok-queue.queue (ap (λ (q : Plain). q.held) c.in_ok-queue.ensures) c.new-proxy.ensures.kept c.new-proxy.ensures.carries
    (ap (λ (q : Plain). q.kind) c.in_ok-queue.ensures ∙ sym c.new-proxy.ensures.kind)
