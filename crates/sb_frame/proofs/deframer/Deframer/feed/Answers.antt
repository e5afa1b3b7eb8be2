use Rattle.std.specs.Prelude.{◌≡◌, ◌++◌, Some}
use Rattle.std.proofs.Common.{subst, sym, ap, refl, ◌∙◌}
use Rattle.sb_frame.specs.Deframing.{Deframing, Stands}
use Rattle.sb_frame.proofs.Feeding.{is_first_fault, stays_bad}
use Rattle.sb_frame.proofs.deframer.Deframer.feed.Goals as goal

pub returns-in-Some-clause-first_fault : goal.returns-in-Some-clause-first_fault
returns-in-Some-clause-first_fault c = λ stream given s none.
    let d = c.args.self.now in
    let is : d.fault ≡ Some c.in-Some.bad = sym (ap (λ (x : Deframing). x.fault) c.self.view_is) ∙ c.in-Some.is in
    is_first_fault d (stream ++ c.args.piece.now) given c.in-Some.bad is (stays_bad d stream c.args.piece.now given c.in-Some.bad is s)

pub returns-in-Err-clause-first_fault : goal.returns-in-Err-clause-first_fault
returns-in-Err-clause-first_fault c = λ stream given s none.
    let b = c.in-Err.bad in
    let after = stream ++ c.args.piece.now in
    let d : Deframing = record { place = c.self-2.inside.walk; begun = c.self-2.inside.begun; fault = Some b } in
    let stands : Stands d after given = subst (λ (x : Deframing). Stands (record x { fault = Some b }) after given) (sym c.self-2.view_is) (c.in-Err.ensures.err stream given s none) in
    is_first_fault d after given b refl stands
