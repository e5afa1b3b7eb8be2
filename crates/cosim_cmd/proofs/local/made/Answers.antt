use Rattle.std.proofs.Common.{◌≡◌, ap, sym, subst}
use Rattle.std.specs.Prelude.{IfOk, IfErr}
use Rattle.std.proofs.lemmas.Result.{IfErr-weaker}
use Rattle.cosim_cmd.specs.Said.{said}
use Rattle.cosim_cmd.specs.Sentence.{Sentence, Check, Model, Serial, Replay, Asm}
use Rattle.cosim_cmd.specs.Outputs.{IsOutput}
use Rattle.cosim_cmd.specs.Local.{OfRest, Lacks}
use Rattle.cosim_cmd.proofs.Reading.{check_made, asm_made, model_lacks, serial_lacks, replay_lacks}
use Rattle.cosim_cmd.proofs.local.made.Goals as goal

pub returns-in-Ok-clause-made : goal.returns-in-Ok-clause-made
returns-in-Ok-clause-made g c =
    let r = c.args.sentence.now in
    let bytes = c.args.bytes.now in
    let seen = g.F.Files.seen c.args.files.now in
    let is : said r ≡ Check c.in-Check.file.now = ap said c.in-Check.is in
    check_made r bytes seen c.in-Ok.text c.in-Check.file.now is c.in-Ok.ensures.checked

pub returns-in-Ok-assembled-clause-made : goal.returns-in-Ok-assembled-clause-made
returns-in-Ok-assembled-clause-made g c =
    let r = c.args.sentence.now in
    let bytes = c.args.bytes.now in
    let seen = g.F.Files.seen c.args.files.now in
    let is : said r ≡ Asm c.in-Asm.file.now = ap said c.in-Asm.is in
    asm_made r bytes seen c.in-Ok-assembled.text c.in-Asm.file.now is c.in-Ok-assembled.ensures.assembled

pub returns-in-Model-clause-made : goal.returns-in-Model-clause-made
returns-in-Model-clause-made g c =
    let r = c.args.sentence.now in
    let bytes = c.args.bytes.now in
    let before = g.F.Files.seen c.args.files.now in
    let after = g.F.Files.seen c.modelled.new.files in
    let is : said r ≡ Model c.in-Model.file.now c.in-Model.stats = ap said c.in-Model.is in
    subst (λ (s : Sentence). IfOk c.modelled.result (λ text. OfRest (record { sentence = s; bytes = bytes }) before after (λ inputs. IsOutput s inputs text))) (sym is) c.modelled.ensures.modelled

pub returns-in-Model-clause-refused : goal.returns-in-Model-clause-refused
returns-in-Model-clause-refused g c =
    let r = c.args.sentence.now in
    let bytes = c.args.bytes.now in
    let before = g.F.Files.seen c.args.files.now in
    let after = g.F.Files.seen c.modelled.new.files in
    let is : said r ≡ Model c.in-Model.file.now c.in-Model.stats = ap said c.in-Model.is in
    subst (λ (s : Sentence). IfErr c.modelled.result (Lacks (record { sentence = s; bytes = bytes }) before after)) (sym is)
    (IfErr-weaker c.modelled.result _ _ (model_lacks c.in-Model.file.now c.in-Model.stats bytes before after) c.modelled.ensures.refused)

pub returns-in-Serial-clause-made : goal.returns-in-Serial-clause-made
returns-in-Serial-clause-made g c =
    let r = c.args.sentence.now in
    let bytes = c.args.bytes.now in
    let before = g.F.Files.seen c.args.files.now in
    let after = g.F.Files.seen c.modelled-in-Serial.new.files in
    let is : said r ≡ Serial c.in-Serial.file.now c.in-Serial.stats = ap said c.in-Serial.is in
    subst (λ (s : Sentence). IfOk c.modelled-in-Serial.result (λ text. OfRest (record { sentence = s; bytes = bytes }) before after (λ inputs. IsOutput s inputs text))) (sym is) c.modelled-in-Serial.ensures.modelled

pub returns-in-Serial-clause-refused : goal.returns-in-Serial-clause-refused
returns-in-Serial-clause-refused g c =
    let r = c.args.sentence.now in
    let bytes = c.args.bytes.now in
    let before = g.F.Files.seen c.args.files.now in
    let after = g.F.Files.seen c.modelled-in-Serial.new.files in
    let is : said r ≡ Serial c.in-Serial.file.now c.in-Serial.stats = ap said c.in-Serial.is in
    subst (λ (s : Sentence). IfErr c.modelled-in-Serial.result (Lacks (record { sentence = s; bytes = bytes }) before after)) (sym is)
    (IfErr-weaker c.modelled-in-Serial.result _ _ (serial_lacks c.in-Serial.file.now c.in-Serial.stats bytes before after) c.modelled-in-Serial.ensures.refused)

pub returns-in-Replay-clause-made : goal.returns-in-Replay-clause-made
returns-in-Replay-clause-made g c =
    let r = c.args.sentence.now in
    let bytes = c.args.bytes.now in
    let before = g.F.Files.seen c.args.files.now in
    let after = g.F.Files.seen c.replayed.new.files in
    let is : said r ≡ Replay c.in-Replay.file.now c.in-Replay.schedule.now = ap said c.in-Replay.is in
    subst (λ (s : Sentence). IfOk c.replayed.result (λ text. OfRest (record { sentence = s; bytes = bytes }) before after (λ inputs. IsOutput s inputs text))) (sym is) c.replayed.ensures.replayed

pub returns-in-Replay-clause-refused : goal.returns-in-Replay-clause-refused
returns-in-Replay-clause-refused g c =
    let r = c.args.sentence.now in
    let bytes = c.args.bytes.now in
    let before = g.F.Files.seen c.args.files.now in
    let after = g.F.Files.seen c.replayed.new.files in
    let is : said r ≡ Replay c.in-Replay.file.now c.in-Replay.schedule.now = ap said c.in-Replay.is in
    subst (λ (s : Sentence). IfErr c.replayed.result (Lacks (record { sentence = s; bytes = bytes }) before after)) (sym is)
    (IfErr-weaker c.replayed.result _ _ (replay_lacks c.in-Replay.file.now c.in-Replay.schedule.now bytes before after) c.replayed.ensures.refused)
