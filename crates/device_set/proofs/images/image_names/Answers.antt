use Rattle.std.proofs.Common.{rules, ◌≡◌, ◌+◌, ◌∷◌, ◌++◌, drop}
use Rattle.std.specs.Option.{option_to_list}
use Rattle.std.proofs.Math.Seq.{drop-cons}
use Rattle.device_set.specs.Images.{image_name}
use Rattle.device_set.proofs.Starting.{one_named}
use Rattle.device_set.proofs.images.image_names.Goals as goal

pub loop-component-preserved : goal.loop-component-preserved
loop-component-preserved c =
    let components = c.args.topology.now.components in
    let n = c.loop-component.component-index in
    let split : drop n components ≡ c.component-item.result ∷ drop (n + 1) components = search (rules, drop-cons) in
    let added : c.add_name.new.names.items ≡ c.loop-component.names.items ++ option_to_list (image_name c.component-item.result.config) = search rules in
    one_named components n c.component-item.result c.loop-component.names.items c.add_name.new.names.items split c.loop-component.invariant added
