use Rattle.std.proofs.Common.{rules, ◌≡◌, ◌+◌, ◌∷◌, ◌∙◌, ℕ, List, drop, true, sym, ap}
use Rattle.std.proofs.Math.Seq.{drop-cons}
use Rattle.device_set.specs.Images.{fits, next_image, too_long_from}
use Rattle.device_set.proofs.Starting.{one_fits}
use Rattle.device_set.proofs.images.first_too_long.Goals as goal

pub loop-number-preserved : goal.loop-number-preserved
loop-number-preserved c =
    let components = c.args.components.now in
    let n = c.loop-number.number in
    let left = c.loop-number.left.now in
    let item = c.index-components-number.result in
    let split : drop n components ≡ item ∷ drop (n + 1) components = search (rules, drop-cons) in
    let is : fits item.config (next_image left) ≡ true = ap (λ (image : List ℕ). fits item.config image) (sym c.next_image.ensures) ∙ sym c.fits.ensures ∙ c.if-not-fits.false in
    c.loop-number.invariant ∙ one_fits components left n item split is ∙ ap (λ (images : List (List ℕ)). too_long_from (n + 1) (drop (n + 1) components) images) (sym c.images_after-left.ensures)
