use Rattle.std.proofs.Common.{refl}
use Rattle.std.specs.Fmt.{digits}
use Rattle.device_api.specs.World.{global_until, slot, arrivals, arrivals_on, take_all, events_of}
use Rattle.device_api.specs.Transcript.{script, stamped_after}
use Rattle.run_laws.proofs.examples.two_beacons_log_what_they_send_and_receive.Goals as goal

pub returns-clause-until_2600 : goal.returns-clause-until_2600
unfolding digits global_until slot arrivals arrivals_on take_all events_of script stamped_after
returns-clause-until_2600 c = refl

pub returns-clause-until_2500 : goal.returns-clause-until_2500
unfolding digits global_until slot arrivals arrivals_on take_all events_of script stamped_after
returns-clause-until_2500 c = refl

pub returns-clause-both_send : goal.returns-clause-both_send
unfolding digits global_until slot arrivals arrivals_on take_all events_of script stamped_after
returns-clause-both_send c = refl
