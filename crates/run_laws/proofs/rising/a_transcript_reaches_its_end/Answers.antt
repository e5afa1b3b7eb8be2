use Rattle.std.proofs.Common.{le_trans}
use Rattle.run_laws.proofs.Timestamps.{script_ahead}
use Rattle.run_laws.proofs.rising.a_transcript_reaches_its_end.Goals as goal

pub returns : goal.returns
returns c = λ kind ch sends end least most. le_trans (script_ahead kind ch sends end least most).timer (script_ahead kind ch sends end least most).bound
