use Rattle.std.specs.Prelude.{None, Some, ◌++◌, ◌≡◌, ◌-◌, length, take, drop}
use Rattle.std.proofs.Common.{subst, sym, ap, ◌∙◌}
use Rattle.std.proofs.lemmas.List.{take_rest}
use Rattle.std.proofs.lemmas.Result.{err_from_is_err_and}
use Rattle.sb_frame.specs.Deframing.{Deframing, Finishes, FinishesIn, ReadsTo, StopsIn}
use Rattle.sb_frame.proofs.Feeding.{goes_on, stops_later}
use Rattle.sb_frame.proofs.deframer.Deframer.take_in.Goals as goal

pub returns-in_err-read-clause-err : goal.returns-in_err-read-clause-err
returns-in_err-read-clause-err c = λ stream given s.
    let failed = c.in_err-read in
    let old = c.args.self.now in
    let piece = c.args.piece.now in
    let n = c.in-Some.taken in
    let mid : Deframing = record { place = c.self.inside.walk; begun = c.self.inside.begun; fault = c.self.inside.fault } in
    let finishes : FinishesIn old piece mid n = subst (λ d. FinishesIn old piece d n) (sym c.self.view_is) (subst (Finishes old piece c.finish_begun.new.self) c.in-Some.is c.in_ok-taken.ensures.ok) in
    let p = err_from_is_err_and c.from_residual-in_err-read.result c.from_residual-in_err-read.ensures.1 in
    rw (p.1, p.2) (λ none. stops_later old mid (record { place = c.read.new.self; begun = c.self.inside.begun; fault = c.self.inside.fault }) stream piece given n failed.field-0.0 c.requires.no_fault finishes (λ g b r. subst (λ l. StopsIn c.read.new.self g b l failed.field-0.0) (take_rest piece n) (failed.ensures.err g b r none)) s)

pub returns-clause-ok : goal.returns-clause-ok
returns-clause-ok c = λ stream given s.
    let old = c.args.self.now in
    let piece = c.args.piece.now in
    let n = c.in-Some.taken in
    let mid : Deframing = record { place = c.self.inside.walk; begun = c.self.inside.begun; fault = c.self.inside.fault } in
    let finishes : FinishesIn old piece mid n = subst (λ d. FinishesIn old piece d n) (sym c.self.view_is) (subst (Finishes old piece c.finish_begun.new.self) c.in-Some.is c.in_ok-taken.ensures.ok) in
    let still : c.self.inside.fault ≡ None = ap (λ (d : Deframing). d.fault) c.self.view_is ∙ c.in_ok-taken.ensures.fault ∙ c.requires.no_fault in
    let rest = drop c.in_ok-read.read (drop n piece) in
    let part = take (length piece - n) (drop n piece) in
    let left : take (length part - c.in_ok-read.read) (drop c.in_ok-read.read part) ≡ rest = take_rest part c.in_ok-read.read ∙ ap (drop c.in_ok-read.read) (take_rest piece n) in
    let begun : c.swap.new.x ≡ rest = c.swap.ensures.x_after ∙ c.in_ok-append.ensures.ok ∙ ap (λ l. c.self.inside.spare ++ l) left ∙ ap (λ l. l ++ rest) c.self.invariant in
    goes_on old mid (record { place = c.read.new.self; begun = c.swap.new.x; fault = c.self.inside.fault }) stream piece given n c.in_ok-read.read c.requires.no_fault still finishes (λ g b r. subst (λ l. ReadsTo c.read.new.self g b l c.in_ok-read.read) (take_rest piece n) (c.in_ok-read.ensures.ok g b r)) begun s
