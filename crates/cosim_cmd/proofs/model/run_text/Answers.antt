use Rattle.std.proofs.lemmas.Result.{IfOk-weaker}
use Rattle.cosim_cmd.proofs.model.run_text.Goals as goal

pub outcome_text-requires : goal.outcome_text-requires
outcome_text-requires c = (c.args.devices.items, record { matches = c.requires.matches; logs = c.in_ok-outcome.ensures.logs; counts = c.in_ok-outcome.ensures.counts })

pub returns : goal.returns
returns c = IfOk-weaker c.outcome_text.result _ _ (λ text is. is c.args.devices.items (record { matches = c.requires.matches; logs = c.in_ok-outcome.ensures.logs; counts = c.in_ok-outcome.ensures.counts })) c.outcome_text.ensures
