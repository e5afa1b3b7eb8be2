use Rattle.std.proofs.Common.{sym, subst}
use Rattle.std.specs.Prelude.{IfOk, IfErr}
use Rattle.cosim_cmd.specs.declared.request.Request.{Request as Asked}
use Rattle.cosim_cmd.specs.Request.{HasStations}
use Rattle.cosim_cmd.specs.Said.{requested}
use Rattle.cosim_cmd.specs.Inputs.{AsksAtMostOf}
use Rattle.cosim_cmd.specs.Local.{Answers, IsAnswerBad}
use Rattle.cosim_cmd.proofs.local.answer.Goals as goal

pub returns-in-OnFiles-clause-made : goal.returns-in-OnFiles-clause-made
returns-in-OnFiles-clause-made g c =
    let before = g.F.Files.seen c.args.files.now in
    let after = g.F.Files.seen c.output.new.files in
    subst (λ (r : Asked). IfOk c.output.result (Answers (requested r) before after)) (sym c.in-OnFiles.is) c.output.ensures.made

pub returns-in-OnFiles-clause-refused : goal.returns-in-OnFiles-clause-refused
returns-in-OnFiles-clause-refused g c =
    let before = g.F.Files.seen c.args.files.now in
    let after = g.F.Files.seen c.output.new.files in
    subst (λ (r : Asked). IfErr c.output.result (IsAnswerBad (requested r) before after)) (sym c.in-OnFiles.is) c.output.ensures.refused

pub returns-in-OnFiles-clause-asked : goal.returns-in-OnFiles-clause-asked
returns-in-OnFiles-clause-asked g c =
    let before = g.F.Files.seen c.args.files.now in
    let after = g.F.Files.seen c.output.new.files in
    subst (λ (r : Asked). AsksAtMostOf (requested r) before after) (sym c.in-OnFiles.is) c.output.ensures.asked

pub loaded-requires : goal.loaded-requires
loaded-requires g c = subst (λ (r : Asked). HasStations (requested r)) c.in-Load.is c.requires
