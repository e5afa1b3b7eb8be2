use Rattle.std.proofs.Common.{refl}
use Rattle.device_api.specs.World.{global_until, slot, arrivals, arrivals_on, take_all, events_of}
use Rattle.device_api.specs.Transcript.{script, stamped_after}
use Rattle.run_laws.proofs.examples.a_null_message_is_sent_each_interval.Goals as goal

pub returns-clause-with_two_frames : goal.returns-clause-with_two_frames
unfolding global_until slot arrivals arrivals_on take_all events_of script stamped_after
returns-clause-with_two_frames c = refl

pub returns-clause-on_the_quiet_channel : goal.returns-clause-on_the_quiet_channel
unfolding global_until slot arrivals arrivals_on take_all events_of script stamped_after
returns-clause-on_the_quiet_channel c = refl
