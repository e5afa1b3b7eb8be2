use Rattle.std.proofs.Common.{◌≡◌, ◌∙◌, List, sym, subst}
use Rattle.std.proofs.lemmas.Result.{IfOk-weaker, IfErr-weaker}
use Rattle.device_set.specs.Images.{image_names}
use Rattle.cosim_cmd.specs.declared.refusal.OutputBad.{OutputBad}
use Rattle.cosim_cmd.specs.Sentence.{Text}
use Rattle.cosim_cmd.specs.Inputs.{AreRead, AsksBeginning, IsOneUnread}
use Rattle.cosim_cmd.specs.Refusals.{IsFault}
use Rattle.cosim_cmd.specs.Replay.{IsSystemBad}
use Rattle.cosim_cmd.proofs.ReplayReading.{program_unread, programs_asked, program_long, both_written, both_bad, both_asked}
use Rattle.cosim_cmd.proofs.replay.on_topology.Goals as goal

pub returns-in-Err-clause-refused : goal.returns-in-Err-clause-refused
returns-in-Err-clause-refused g c =
    let t = c.args.topology.now in
    let name = c.args.name.now in
    let before = g.F.Files.seen c.args.files.now in
    let mid = g.F.Files.seen c.contents.new.files in
    let are : c.as_slice.result.now ≡ image_names t.components = c.as_slice.ensures.value ∙ c.in_ok-names.ensures in
    let why : IsFault (IsOneUnread (image_names t.components) before mid) c.in-Err.fault = subst (λ (names : List Text). IsFault (IsOneUnread names before mid) c.in-Err.fault) are c.in-Err.ensures.refused in
    subst (λ (bad : OutputBad). IsSystemBad t name before mid bad) (sym c.unread.ensures) (program_unread t name before mid c.in-Err.fault why)

pub returns-in-Err-clause-asked : goal.returns-in-Err-clause-asked
returns-in-Err-clause-asked g c =
    let t = c.args.topology.now in
    let before = g.F.Files.seen c.args.files.now in
    let mid = g.F.Files.seen c.contents.new.files in
    let are : c.as_slice.result.now ≡ image_names t.components = c.as_slice.ensures.value ∙ c.in_ok-names.ensures in
    programs_asked t c.args.name.now before mid (subst (λ (names : List Text). AsksBeginning names before mid) are c.contents.ensures.asked)

pub returns-in-Ok-started-clause-written : goal.returns-in-Ok-started-clause-written
returns-in-Ok-started-clause-written g c =
    let t = c.args.topology.now in
    let before = g.F.Files.seen c.args.files.now in
    let mid = g.F.Files.seen c.contents.new.files in
    let after = g.F.Files.seen c.scheduled.new.files in
    let images = c.in-Ok.images.items in
    let are : c.as_slice.result.now ≡ image_names t.components = c.as_slice.ensures.value ∙ c.in_ok-names.ensures in
    let read : AreRead (image_names t.components) before mid images = subst (λ (names : List Text). AreRead names before mid images) are c.in-Ok.ensures.read in
    let ready = c.in-Ok-started.ensures.started in
    IfOk-weaker c.scheduled.result _ _ (both_written t c.args.name.now before mid images read after c.contents.ensures.files_kept c.in-Ok.ensures.no_fault ready.fit c.in-Ok-started.devices.items ready.started.starts) c.scheduled.ensures.written

pub returns-in-Ok-started-clause-refused : goal.returns-in-Ok-started-clause-refused
returns-in-Ok-started-clause-refused g c =
    let t = c.args.topology.now in
    let before = g.F.Files.seen c.args.files.now in
    let mid = g.F.Files.seen c.contents.new.files in
    let after = g.F.Files.seen c.scheduled.new.files in
    let images = c.in-Ok.images.items in
    let are : c.as_slice.result.now ≡ image_names t.components = c.as_slice.ensures.value ∙ c.in_ok-names.ensures in
    let read : AreRead (image_names t.components) before mid images = subst (λ (names : List Text). AreRead names before mid images) are c.in-Ok.ensures.read in
    let ready = c.in-Ok-started.ensures.started in
    IfErr-weaker c.scheduled.result _ _ (both_bad t c.args.name.now before mid images read after c.contents.ensures.files_kept c.in-Ok.ensures.no_fault ready.fit c.in-Ok-started.devices.items ready.started.starts) c.scheduled.ensures.refused

pub returns-in-Ok-started-clause-asked : goal.returns-in-Ok-started-clause-asked
returns-in-Ok-started-clause-asked g c =
    let t = c.args.topology.now in
    let before = g.F.Files.seen c.args.files.now in
    let mid = g.F.Files.seen c.contents.new.files in
    let after = g.F.Files.seen c.scheduled.new.files in
    let images = c.in-Ok.images.items in
    let are : c.as_slice.result.now ≡ image_names t.components = c.as_slice.ensures.value ∙ c.in_ok-names.ensures in
    let read : AreRead (image_names t.components) before mid images = subst (λ (names : List Text). AreRead names before mid images) are c.in-Ok.ensures.read in
    let ready = c.in-Ok-started.ensures.started in
    both_asked t c.args.name.now before mid images read after c.contents.ensures.files_kept c.in-Ok.ensures.no_fault ready.fit c.in-Ok-started.devices.items ready.started.starts c.scheduled.ensures.asked

pub returns-clause-refused : goal.returns-clause-refused
returns-clause-refused g c =
    let t = c.args.topology.now in
    let name = c.args.name.now in
    let before = g.F.Files.seen c.args.files.now in
    let mid = g.F.Files.seen c.contents.new.files in
    let images = c.in-Ok.images.items in
    let are : c.as_slice.result.now ≡ image_names t.components = c.as_slice.ensures.value ∙ c.in_ok-names.ensures in
    let read : AreRead (image_names t.components) before mid images = subst (λ (names : List Text). AreRead names before mid images) are c.in-Ok.ensures.read in
    subst (λ (bad : OutputBad). IsSystemBad t name before mid bad) (sym c.too_long.ensures) (program_long t name before mid images read c.in-Err-started.fault c.in-Err-started.ensures.refused)

pub returns-clause-asked : goal.returns-clause-asked
returns-clause-asked g c =
    let t = c.args.topology.now in
    let before = g.F.Files.seen c.args.files.now in
    let mid = g.F.Files.seen c.contents.new.files in
    let are : c.as_slice.result.now ≡ image_names t.components = c.as_slice.ensures.value ∙ c.in_ok-names.ensures in
    programs_asked t c.args.name.now before mid (subst (λ (names : List Text). AsksBeginning names before mid) are c.contents.ensures.asked)
