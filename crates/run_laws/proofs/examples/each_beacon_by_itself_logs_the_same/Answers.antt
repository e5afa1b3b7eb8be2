use Rattle.std.proofs.Common.{refl}
use Rattle.run_laws.proofs.Beacons.{are_wired, beacons_send_events, its_log}
use Rattle.run_laws.proofs.examples.each_beacon_by_itself_logs_the_same.Goals as goal

pub returns-clause-first : goal.returns-clause-first
returns-clause-first c = λ sent received local. its_log 0 _ _ _ (c.local_runs_are_the_global_run.ensures.runs _ sent received 2600 are_wired beacons_send_events local 0 _ refl) c.two_beacons_log_what_they_send_and_receive.ensures.until_2600 refl

pub returns-clause-second : goal.returns-clause-second
returns-clause-second c = λ sent received local. its_log 1 _ _ _ (c.local_runs_are_the_global_run.ensures.runs _ sent received 2600 are_wired beacons_send_events local 1 _ refl) c.two_beacons_log_what_they_send_and_receive.ensures.until_2600 refl
