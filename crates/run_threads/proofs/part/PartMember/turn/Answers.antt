use Rattle.std.proofs.Common.{refl, ap, ◌∙◌}
use Rattle.std.specs.Prelude.{slice_get}
use Rattle.run_threads.specs.Parts.{number_or}
use Rattle.run_threads.proofs.Faults.{wrong_introduction, no_memory}
use Rattle.run_threads.proofs.part.PartMember.turn.Goals as goal

pub returns-in-Err-WrongIntro-clause-failed : goal.returns-in-Err-WrongIntro-clause-failed
returns-in-Err-WrongIntro-clause-failed g c = wrong_introduction c.args.self.now _ c.in-Err-WrongIntro.field-0 (record { component = refl; departures = refl; arrivals = refl; failed = c.in-Err-WrongIntro.ensures.failed }) c.in-Err-WrongIntro.port c.in-Err-WrongIntro.field-0-1 c.number_at.result c.in-Err-WrongIntro.field-0-is (c.number_at.ensures ∙ ap (λ l. number_or (slice_get l c.in-Err-WrongIntro.port)) c.as_slice.ensures)

pub returns-clause-failed : goal.returns-clause-failed
returns-clause-failed g c = no_memory c.args.self.now _ c.in-Err-NoMemory.field-0 (record { component = refl; departures = refl; arrivals = refl; failed = c.in-Err-NoMemory.ensures.failed }) c.in-Err-NoMemory.field-0-is
