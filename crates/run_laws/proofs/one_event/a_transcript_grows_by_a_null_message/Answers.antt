use Rattle.device_api.specs.Position.{sync_key}
use Rattle.run_laws.proofs.Grown.{by_sync, by_none}
use Rattle.run_laws.proofs.one_event.a_transcript_grows_by_a_null_message.Goals as goal

pub returns-clause-own : goal.returns-clause-own
returns-clause-own g c = λ b ports inputs s position u end kind ch only later within run due. by_sync b ports inputs s position u end kind ch only later within run due

pub returns-clause-others : goal.returns-clause-others
returns-clause-others g c = λ b ports inputs s position u port end kind ch only later within run before. by_none b ports inputs s position (sync_key u port) end kind ch only later within run before
