use Rattle.std.proofs.Common.{inl, inr}
use Rattle.cosim_cmd.proofs.Breaking.{dialed_by}
use Rattle.cosim_cmd.proofs.threads.run_devices.Goals as goal

pub returns-in-Err-Lost-clause-dialed : goal.returns-in-Err-Lost-clause-dialed
returns-in-Err-Lost-clause-dialed g c = dialed_by _ _ (inl c.requires.none_left) c.run_whole-ran.result c.run_whole-ran.ensures.told

pub returns-in-Ok-ended-clause-dialed : goal.returns-in-Ok-ended-clause-dialed
returns-in-Ok-ended-clause-dialed g c = dialed_by _ _ (inr c.in-Ok.ensures.ends) c.run_whole-ran.result c.run_whole-ran.ensures.told

pub returns-in-Err-clause-dialed : goal.returns-in-Err-clause-dialed
returns-in-Err-clause-dialed g c = dialed_by _ _ (inr c.in-Ok.ensures.ends) c.run_whole-ran.result c.run_whole-ran.ensures.told
