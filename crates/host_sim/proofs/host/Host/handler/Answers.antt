use Rattle.std.proofs.Common.{◌≡◌, ◌∙◌, ap, ℕ, Option, unwrap_or}
use Rattle.rv32_core.specs.Csr.{csr_of}
use Rattle.host_sim.specs.Machine.{Machine}
use Rattle.host_sim.proofs.host.Host.handler.Goals as goal

pub returns : goal.returns
unfolding csr_of
returns c =
    let here : c.unwrap_or.result ≡ c.self.inside.core.mtvec = c.unwrap_or.ensures ∙ ap (λ (o : Option ℕ). unwrap_or o 0) c.csr.ensures in
    here ∙ ap (λ (s : Machine). s.core.mtvec) c.self.view_is
