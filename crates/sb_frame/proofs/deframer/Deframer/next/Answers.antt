use Rattle.std.proofs.Common.{subst, sym}
use Rattle.sb_frame.specs.Deframing.{Deframing, Stands}
use Rattle.sb_frame.proofs.Feeding.{next_stands}
use Rattle.sb_frame.proofs.deframer.Deframer.next.Goals as goal

pub returns-clause-stands : goal.returns-clause-stands
returns-clause-stands c = λ stream given s.
    let old : Deframing = record { place = c.self.inside.walk; begun = c.self.inside.begun; fault = c.self.inside.fault } in
    next_stands c.take.result old c.take.new.self stream given c.take.ensures (subst (λ d. Stands d stream given) (sym c.self.view_is) s)
