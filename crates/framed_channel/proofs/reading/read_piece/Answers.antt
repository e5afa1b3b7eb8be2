use Rattle.std.specs.Prelude.{Err}
use Rattle.std.proofs.Common.{ap, ◌∙◌}
use Rattle.framed_channel.proofs.Faultless.{lacks_memory}
use Rattle.framed_channel.proofs.reading.read_piece.Goals as goal

pub returns-in-Err-clause-err : goal.returns-in-Err-clause-err
returns-in-Err-clause-err c = c.feed.ensures.no_memory (c.in-Err.is ∙ ap Err (lacks_memory c.args.frames.now c.feed.new.self c.args.piece.now c.in-Err.field-0 c.requires c.in-Err.ensures.first_fault c.feed.ensures.kind))
