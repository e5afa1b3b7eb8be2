use Rattle.load_gen.proofs.Pinging.{never_at_fault, ping_short}
use Rattle.load_gen.proofs.program.load_image.Goals as goal

pub unreachable-requires : goal.unreachable-requires
unreachable-requires c =
    let e = c.in-Err-At in
    never_at_fault e.field-0 e.field-0-0 e.field-0-1 e.field-0-is e.ensures.refusal

pub returns-in-Ok-clause-fits : goal.returns-in-Ok-clause-fits
returns-in-Ok-clause-fits c = ping_short c.in-Ok.bytes c.in-Ok.ensures.bytes
