use Rattle.std.proofs.Common.{ap, ◌∙◌}
use Rattle.cosim_cmd.specs.Model.{run_text}
use Rattle.cosim_cmd.proofs.model.logged.Goals as goal

pub returns-in_ok-run_text-in-Ok-clause-logged : goal.returns-in_ok-run_text-in-Ok-clause-logged
returns-in_ok-run_text-in-Ok-clause-logged c =
    record {
      fit = c.in-Ok.ensures.started.fit;
      joined = c.in_ok-run_text-in-Ok.ensures ∙ ap (run_text c.args.stats c.args.topology.now) c.in-Ok.ensures.started.started.starts;
    }
