use Rattle.std.proofs.lemmas.Result.{IfOk-weaker, IfErr-weaker}
use Rattle.cosim_cmd.proofs.ReplayReading.{text_written, text_bad, text_asked}
use Rattle.cosim_cmd.proofs.replay.replayed.Goals as goal

pub returns-clause-replayed : goal.returns-clause-replayed
returns-clause-replayed g c =
    let t = c.in-Ok.topology in
    IfOk-weaker c.on_topology.result _ _ (text_written c.args.bytes.now t c.in-Ok.ensures.spelled c.args.schedule.now (g.F.Files.seen c.args.files.now) (g.F.Files.seen c.on_topology.new.files)) c.on_topology.ensures.written

pub returns-clause-refused : goal.returns-clause-refused
returns-clause-refused g c =
    let t = c.in-Ok.topology in
    IfErr-weaker c.on_topology.result _ _ (text_bad c.args.bytes.now t c.in-Ok.ensures.spelled c.args.schedule.now (g.F.Files.seen c.args.files.now) (g.F.Files.seen c.on_topology.new.files)) c.on_topology.ensures.refused

pub returns-clause-asked : goal.returns-clause-asked
returns-clause-asked g c =
    let t = c.in-Ok.topology in
    text_asked c.args.bytes.now t c.in-Ok.ensures.spelled c.args.schedule.now (g.F.Files.seen c.args.files.now) (g.F.Files.seen c.on_topology.new.files) c.on_topology.ensures.asked
