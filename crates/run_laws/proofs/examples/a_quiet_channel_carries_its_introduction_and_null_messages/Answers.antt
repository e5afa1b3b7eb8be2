use Rattle.std.proofs.Common.{refl}
use Rattle.device_api.specs.Transcript.{script, stamped_after, bound_from}
use Rattle.run_laws.proofs.examples.a_quiet_channel_carries_its_introduction_and_null_messages.Goals as goal

pub returns-clause-messages : goal.returns-clause-messages
unfolding script stamped_after
returns-clause-messages c = refl

pub returns-clause-no_events : goal.returns-clause-no_events
unfolding script stamped_after
returns-clause-no_events c = refl

pub returns-clause-heard : goal.returns-clause-heard
unfolding script stamped_after bound_from
returns-clause-heard c = refl
