use Rattle.std.proofs.Common.{◌≡◌, sym, ◌∙◌, subst}
use Rattle.device_set.specs.Images.{image_names}
use Rattle.cosim_cmd.specs.declared.refusal.OutputBad.{OutputBad}
use Rattle.cosim_cmd.specs.Model.{IsModelBad}
use Rattle.cosim_cmd.proofs.Reading.{images_modelled, images_long, images_unread, images_asked}
use Rattle.cosim_cmd.proofs.model.modelled.Goals as goal

pub returns-in-Ok-logged-clause-modelled : goal.returns-in-Ok-logged-clause-modelled
returns-in-Ok-logged-clause-modelled g c =
    let t = c.in-Ok.topology in
    let are : c.as_slice.result.now ≡ image_names t.components = c.as_slice.ensures.value ∙ c.in_ok-names.ensures in
    images_modelled c.args.bytes.now t c.in-Ok.ensures.spelled c.as_slice.result.now are (g.F.Files.seen c.args.files.now) (g.F.Files.seen c.contents.new.files) c.args.stats c.in-Ok-contents.images.items c.in-Ok-contents.ensures.read c.in-Ok-logged.text c.in-Ok-logged.ensures.logged

pub returns-in-Ok-logged-clause-asked : goal.returns-in-Ok-logged-clause-asked
returns-in-Ok-logged-clause-asked g c =
    let t = c.in-Ok.topology in
    let are : c.as_slice.result.now ≡ image_names t.components = c.as_slice.ensures.value ∙ c.in_ok-names.ensures in
    images_asked c.args.bytes.now t c.in-Ok.ensures.spelled c.as_slice.result.now are (g.F.Files.seen c.args.files.now) (g.F.Files.seen c.contents.new.files) c.contents.ensures.asked

pub returns-in-Ok-contents-clause-refused : goal.returns-in-Ok-contents-clause-refused
returns-in-Ok-contents-clause-refused g c =
    let t = c.in-Ok.topology in
    let are : c.as_slice.result.now ≡ image_names t.components = c.as_slice.ensures.value ∙ c.in_ok-names.ensures in
    let before = g.F.Files.seen c.args.files.now in
    let after = g.F.Files.seen c.contents.new.files in
    subst (λ (bad : OutputBad). IsModelBad c.args.bytes.now before after bad) (sym c.too_long.ensures) (images_long c.args.bytes.now t c.in-Ok.ensures.spelled c.as_slice.result.now are before after c.in-Ok-contents.images.items c.in-Ok-contents.ensures.read c.in-Err-logged.fault c.in-Err-logged.ensures.refused)

pub returns-in-Ok-contents-clause-asked : goal.returns-in-Ok-contents-clause-asked
returns-in-Ok-contents-clause-asked g c =
    let t = c.in-Ok.topology in
    let are : c.as_slice.result.now ≡ image_names t.components = c.as_slice.ensures.value ∙ c.in_ok-names.ensures in
    let before = g.F.Files.seen c.args.files.now in
    let after = g.F.Files.seen c.contents.new.files in
    images_asked c.args.bytes.now t c.in-Ok.ensures.spelled c.as_slice.result.now are before after c.contents.ensures.asked

pub returns-clause-refused : goal.returns-clause-refused
returns-clause-refused g c =
    let t = c.in-Ok.topology in
    let are : c.as_slice.result.now ≡ image_names t.components = c.as_slice.ensures.value ∙ c.in_ok-names.ensures in
    let before = g.F.Files.seen c.args.files.now in
    let after = g.F.Files.seen c.contents.new.files in
    subst (λ (bad : OutputBad). IsModelBad c.args.bytes.now before after bad) (sym c.unread.ensures) (images_unread c.args.bytes.now t c.in-Ok.ensures.spelled c.as_slice.result.now are before after c.in-Err.fault c.in-Err.ensures.refused)

pub returns-clause-asked : goal.returns-clause-asked
returns-clause-asked g c =
    let t = c.in-Ok.topology in
    let are : c.as_slice.result.now ≡ image_names t.components = c.as_slice.ensures.value ∙ c.in_ok-names.ensures in
    let before = g.F.Files.seen c.args.files.now in
    let after = g.F.Files.seen c.contents.new.files in
    images_asked c.args.bytes.now t c.in-Ok.ensures.spelled c.as_slice.result.now are before after c.contents.ensures.asked
