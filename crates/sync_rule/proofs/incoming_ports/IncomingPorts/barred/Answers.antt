use Rattle.std.proofs.Common.{ℕ, ◌∙◌, subst}
use Rattle.std.specs.Prelude.{MatchOption}
use Rattle.sync_rule.specs.ManyPorts.{Bars, IsLeastBar}
use Rattle.sync_rule.proofs.incoming_ports.IncomingPorts.barred.Goals as goal

pub returns : goal.returns
returns c = subst (λ l. MatchOption c.barred_at.result ((p : ℕ) → Bars l c.args.needed p → ⊥) (IsLeastBar l c.args.needed)) (c.as_slice.ensures.value ∙ c.self.view_is) c.barred_at.ensures
