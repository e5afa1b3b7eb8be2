use Rattle.run_laws.proofs.Grown.{by_event}
use Rattle.run_laws.proofs.one_event.a_transcript_grows_by_an_event.Goals as goal

pub returns : goal.returns
returns g c = λ b ports inputs s position last end kind ch r only later within run before. by_event b ports inputs s position last end kind ch only later within r run before
