-- One component more is started; and the ports of the devices.
use Rattle.std.proofs.Common.{ℕ, ◌≡◌, ◌+◌, Bool, true, false, List, [], ◌∷◌, ◌++◌, drop, Some, None, ap₂, sym, ◌∙◌, append_assoc, refl}
use Rattle.std.specs.Prelude.{All, map}
use Rattle.std.specs.Option.{option_to_list}
use Rattle.std.proofs.lemmas.List.Elements.{All-nil, All-cons, All-append}
use Rattle.std.proofs.lemmas.Option.{none-some}
use Rattle.cs_base.specs.declared.port_kind.PortKind.{PortKind}
use Rattle.topology_file.specs.declared.config.Config.{Config}
use Rattle.topology_file.specs.declared.config.Config.TheVariants.{Beacon, Switch, Memory, Host, Nic}
use Rattle.topology_file.specs.declared.component.Component.{Component}
use Rattle.topology_file.specs.Ports.{kinds_of, ports_of}
use Rattle.device_set.specs.declared.any_device.AnyDevice.{AnyDevice}
use Rattle.device_set.specs.AnyKind.{any_device, IsSettledDevice}
use Rattle.device_set.specs.Images.{image_name, image_names, next_image, images_after, fits, too_long_from}
use Rattle.device_set.specs.Starts.{start_of, starts_of}

-- ONE MORE

pub one_started : (components : List Component) (images left : List (List ℕ)) (n : ℕ) (c : Component) (device : AnyDevice) (before after : List AnyDevice) → drop n components ≡ c ∷ drop (n + 1) components → device ≡ start_of c.config (next_image left) → starts_of components images ≡ before ++ starts_of (drop n components) left → after ≡ before ++ device ∷ [] → starts_of components images ≡ after ++ starts_of (drop (n + 1) components) (images_after c.config left)
one_started components images left n c device before after split is so_far added =
    let next : starts_of (drop n components) left ≡ device ∷ starts_of (drop (n + 1) components) (images_after c.config left) = rw (split, is) refl in
    rw (so_far, next, added) (sym (append_assoc before (device ∷ []) (starts_of (drop (n + 1) components) (images_after c.config left))))

-- one program more is not too long, or is
pub one_fits : (components : List Component) (left : List (List ℕ)) (n : ℕ) (c : Component) → drop n components ≡ c ∷ drop (n + 1) components → fits c.config (next_image left) ≡ true → too_long_from n (drop n components) left ≡ too_long_from (n + 1) (drop (n + 1) components) (images_after c.config left)
one_fits components left n c split is = rw (split, is) refl

pub one_too_long : (components : List Component) (left : List (List ℕ)) (n : ℕ) (c : Component) → drop n components ≡ c ∷ drop (n + 1) components → fits c.config (next_image left) ≡ false → too_long_from n (drop n components) left ≡ Some n
one_too_long components left n c split is = rw (split, is) refl

pub none_too_long : (components : List Component) (left : List (List ℕ)) (n : ℕ) (c : Component) → drop n components ≡ c ∷ drop (n + 1) components → too_long_from n (drop n components) left ≡ None → fits c.config (next_image left) ≡ true
none_too_long components left n c split none = at (fits c.config (next_image left)) refl
  where
    at : (b : Bool) → fits c.config (next_image left) ≡ b → fits c.config (next_image left) ≡ true
    at true is = is
    at false is = absurd (none-some n (sym none ∙ one_too_long components left n c split is))

pub one_named : (components : List Component) (n : ℕ) (c : Component) (before after : List (List ℕ)) → drop n components ≡ c ∷ drop (n + 1) components → image_names components ≡ before ++ image_names (drop n components) → after ≡ before ++ option_to_list (image_name c.config) → image_names components ≡ after ++ image_names (drop (n + 1) components)
one_named components n c before after split so_far added =
    let next : image_names (drop n components) ≡ option_to_list (image_name c.config) ++ image_names (drop (n + 1) components) = rw split refl in
    rw (so_far, next, added) (sym (append_assoc before (option_to_list (image_name c.config)) (image_names (drop (n + 1) components))))

abbrev pub IsStarted : AnyDevice → Type 0
IsStarted device = IsSettledDevice device 0

pub one_settled : (before after : List AnyDevice) (device : AnyDevice) → All IsStarted before → IsStarted device → after ≡ before ++ device ∷ [] → All IsStarted after
one_settled before after device settled is added = rw added (All-append IsStarted before (device ∷ []) settled (All-cons IsStarted device [] is (All-nil IsStarted)))

-- PORTS

ports-start_of : (config : Config) (image : List ℕ) → any_device.ports (start_of config image) ≡ ports_of config
ports-start_of (Beacon b) image = refl
ports-start_of (Switch s) image = refl
ports-start_of (Memory m) image = refl
ports-start_of (Host h) image = refl
ports-start_of (Nic n) image = refl

pub ports-starts_of : (components : List Component) (images : List (List ℕ)) → map any_device.ports (starts_of components images) ≡ kinds_of components
ports-starts_of [] images = refl
ports-starts_of (c ∷ more) images = ap₂ (λ (ports : List PortKind) (kinds : List (List PortKind)). ports ∷ kinds) (ports-start_of c.config (next_image images)) (ports-starts_of more (images_after c.config images))
