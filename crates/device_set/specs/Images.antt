-- The programs of hosts: which files hold them, which of them is whose, and which are too long.
use Rattle.std.specs.Prelude.{ℕ, ◌+◌, Bool, true, nat_le, List, [], ◌∷◌, ◌++◌, length, drop, Option, Some, None, if◌then◌else◌}
use Rattle.std.specs.Option.{option_to_list}
use Rattle.topology_file.specs.declared.config.Config.{Config}
use Rattle.topology_file.specs.declared.config.Config.TheVariants as config
use Rattle.topology_file.specs.declared.component.Component.{Component}

-- the name of the file with the program of a host; other components have none
abbrev pub image_name : Config → Option (List ℕ)
image_name (config.Host c) = Some c.image
image_name other = None

-- the names of the programs of all hosts, in the order of the components
abbrev pub image_names : List Component → List (List ℕ)
image_names [] = []
image_names (c ∷ more) = option_to_list (image_name c.config) ++ image_names more

-- of the programs that are left, the next host's; it is empty where none is left
abbrev pub next_image : List (List ℕ) → List ℕ
next_image [] = []
next_image (image ∷ more) = image

-- the programs that are left after a component
abbrev pub images_after : Config → List (List ℕ) → List (List ℕ)
images_after (config.Host c) images = drop 1 images
images_after other images = images

-- whether a program is not longer than the RAM of its host
abbrev pub fits : Config → List ℕ → Bool
fits (config.Host c) image = nat_le (length image) c.ram
fits other image = true

-- the first component whose program is too long, where the first of the list has number i
abbrev pub too_long_from : ℕ → List Component → List (List ℕ) → Option ℕ
too_long_from i [] images = None
too_long_from i (c ∷ more) images = if fits c.config (next_image images) then too_long_from (i + 1) more (images_after c.config images) else Some i
