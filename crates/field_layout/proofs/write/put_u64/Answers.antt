use Rattle.std.proofs.Common.{ap, ◌∙◌}
use Rattle.field_layout.specs.Layout.{overwritten}
use Rattle.field_layout.proofs.Layouts.{laid_out_more}
use Rattle.field_layout.proofs.write.put_u64.Goals as goal

pub returns-clause-laid_out : goal.returns-clause-laid_out
returns-clause-laid_out c =
    laid_out_more c.args.place 8 c.args.value c.args.bytes.now _ (c.put.ensures ∙ ap (overwritten c.args.bytes.now c.args.place) c.to_le_bytes.ensures) c.requires c.ranges.value.fits
