use Rattle.std.proofs.lemmas.Result.{IfOk-weaker, IfErr-weaker}
use Rattle.cosim_cmd.specs.Broken.{wires}
use Rattle.cosim_cmd.specs.declared.threads.RunOutput.{RunOutput}
use Rattle.cosim_cmd.proofs.RunReading.{text_made, text_bad, text_asked, text_dialed}
use Rattle.cosim_cmd.proofs.threads.run_of_text.Goals as goal

pub returns-clause-made : goal.returns-clause-made
returns-clause-made g c =
    let w = wires g.D.Out.WireOut.seen g.D.In.WireIn.seen (g.D.Dialer.seen c.args.dial.now) (g.D.Dialer.seen c.on_threads.new.dial) c.on_threads.new.ends.items in
    let before = g.F.Files.seen c.args.files.now in
    let after = g.F.Files.seen c.on_threads.new.files in
    IfOk-weaker c.on_threads.result _ _ (λ (made : RunOutput). text_made w c.args.bytes.now c.in-Ok.topology c.in-Ok.ensures.spelled before after c.args.words.now.stats made.text made.rests.items) c.on_threads.ensures.made

pub returns-clause-refused : goal.returns-clause-refused
returns-clause-refused g c =
    let w = wires g.D.Out.WireOut.seen g.D.In.WireIn.seen (g.D.Dialer.seen c.args.dial.now) (g.D.Dialer.seen c.on_threads.new.dial) c.on_threads.new.ends.items in
    let before = g.F.Files.seen c.args.files.now in
    let after = g.F.Files.seen c.on_threads.new.files in
    IfErr-weaker c.on_threads.result _ _ (text_bad w c.args.bytes.now c.in-Ok.topology c.in-Ok.ensures.spelled before after) c.on_threads.ensures.refused

pub returns-clause-asked : goal.returns-clause-asked
returns-clause-asked g c =
    let w = wires g.D.Out.WireOut.seen g.D.In.WireIn.seen (g.D.Dialer.seen c.args.dial.now) (g.D.Dialer.seen c.on_threads.new.dial) c.on_threads.new.ends.items in
    let before = g.F.Files.seen c.args.files.now in
    let after = g.F.Files.seen c.on_threads.new.files in
    text_asked w c.args.bytes.now c.in-Ok.topology c.in-Ok.ensures.spelled before after c.on_threads.ensures.asked

pub returns-clause-dialed : goal.returns-clause-dialed
returns-clause-dialed g c =
    let w = wires g.D.Out.WireOut.seen g.D.In.WireIn.seen (g.D.Dialer.seen c.args.dial.now) (g.D.Dialer.seen c.on_threads.new.dial) c.on_threads.new.ends.items in
    let before = g.F.Files.seen c.args.files.now in
    let after = g.F.Files.seen c.on_threads.new.files in
    text_dialed w c.args.bytes.now c.in-Ok.topology c.in-Ok.ensures.spelled before after c.on_threads.ensures.dialed
