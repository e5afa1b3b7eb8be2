use Rattle.std.proofs.Common.{rules, ◌≡◌, ◌+◌, ◌∷◌, ◌++◌, ◌∙◌, ℕ, List, [], drop, sym, ap, true}
use Rattle.std.proofs.Math.Seq.{drop-cons}
use Rattle.device_set.specs.Images.{fits, next_image, too_long_from}
use Rattle.device_set.specs.Starts.{start_of, starts_of}
use Rattle.device_set.proofs.Starting.{one_started, one_settled, one_fits, none_too_long, IsStarted}
use Rattle.device_set.proofs.starts.start_all.Goals as goal

pub loop-component-preserved : goal.loop-component-preserved
loop-component-preserved c =
    let components = c.args.components.now in
    let n = c.loop-component.component-index in
    let left = c.loop-component.left.now in
    let item = c.component-item.result in
    let split : drop n components ≡ item ∷ drop (n + 1) components = search (rules, drop-cons) in
    let fit : fits item.config (next_image left) ≡ true = none_too_long components left n item split c.loop-component.invariant.fit in
    let told : c.in_ok-device.device ≡ start_of item.config c.next_image.result.now = search rules in
    let is : c.in_ok-device.device ≡ start_of item.config (next_image left) = told ∙ ap (λ (image : List ℕ). start_of item.config image) c.next_image.ensures in
    let settled : IsStarted c.in_ok-device.device = search rules in
    let added : c.push.new.self.items ≡ c.loop-component.devices.items ++ c.in_ok-device.device ∷ [] = search rules in
    record {
      started = one_started components c.args.images.now left n item c.in_ok-device.device c.loop-component.devices.items c.push.new.self.items split is c.loop-component.invariant.started added ∙ ap (λ (images : List (List ℕ)). c.push.new.self.items ++ starts_of (drop (n + 1) components) images) (sym c.images_after-left.ensures);
      at_start = one_settled c.loop-component.devices.items c.push.new.self.items c.in_ok-device.device c.loop-component.invariant.at_start settled added;
      fit = ap (λ (images : List (List ℕ)). too_long_from (n + 1) (drop (n + 1) components) images) c.images_after-left.ensures ∙ sym (one_fits components left n item split fit) ∙ c.loop-component.invariant.fit;
    }

pub start_one-requires : goal.start_one-requires
start_one-requires c =
    let components = c.args.components.now in
    let n = c.loop-component.component-index in
    let left = c.loop-component.left.now in
    let item = c.component-item.result in
    let split : drop n components ≡ item ∷ drop (n + 1) components = search (rules, drop-cons) in
    ap (λ (image : List ℕ). fits item.config image) c.next_image.ensures ∙ none_too_long components left n item split c.loop-component.invariant.fit
