use Rattle.std.proofs.Common.{refl}
use Rattle.std.specs.Fmt.{digits}
use Rattle.device_api.specs.World.{global_until, slot, arrivals, arrivals_on, take_all, events_of}
use Rattle.device_api.specs.Transcript.{script, stamped_after}
use Rattle.run_laws.proofs.examples.a_frame_puts_the_timer_off.Goals as goal

pub returns-clause-logs : goal.returns-clause-logs
unfolding digits global_until slot arrivals arrivals_on take_all events_of script stamped_after
returns-clause-logs c = refl

pub returns-clause-with_two_frames : goal.returns-clause-with_two_frames
unfolding digits global_until slot arrivals arrivals_on take_all events_of script stamped_after
returns-clause-with_two_frames c = refl

pub returns-clause-two_sends : goal.returns-clause-two_sends
unfolding digits global_until slot arrivals arrivals_on take_all events_of script stamped_after
returns-clause-two_sends c = refl

pub returns-clause-nine_on_the_quiet_channel : goal.returns-clause-nine_on_the_quiet_channel
unfolding digits global_until slot arrivals arrivals_on take_all events_of script stamped_after
returns-clause-nine_on_the_quiet_channel c = refl
