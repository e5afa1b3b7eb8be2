use Rattle.std.proofs.Common.{◌≡◌, ◌%◌, ◌∷◌, [], sym, ap, ◌∙◌, arith}
use Rattle.field_layout.specs.Layout.{overwritten}
use Rattle.field_layout.proofs.Layouts.{laid_out_more}
use Rattle.field_layout.proofs.write.put_u8.Goals as goal

pub returns-clause-laid_out : goal.returns-clause-laid_out
returns-clause-laid_out c =
    let byte : c.args.value % 256 ≡ c.args.value = omega (arith, c.ranges.value.fits) in
    let is = c.put.ensures ∙ ap (λ b. overwritten c.args.bytes.now c.args.place (b ∷ [])) (sym byte) in
    laid_out_more c.args.place 1 c.args.value c.args.bytes.now _ is c.requires c.ranges.value.fits
