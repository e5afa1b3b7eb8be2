-- The programs of the hosts fit.
use Rattle.std.proofs.Common.{◌≡◌, ℕ, ◌+◌, ◌≤◌, Bool, true, List, [], ◌∷◌, map, length, drop, None, refl, ap, ◌∙◌, arith, replicate, zero, suc}
use Rattle.std.specs.Prelude.{nat_le}
use Rattle.std.specs.List.{list_all, range_with_len}
use Rattle.std.proofs.lemmas.Bool.Decides.{nat_tests}
use Rattle.topology_file.specs.declared.config.Config.{Config}
use Rattle.topology_file.specs.declared.config.Config.TheVariants as config
use Rattle.topology_file.specs.declared.component.Component.{Component}
use Rattle.device_set.specs.Images.{next_image, images_after, fits, too_long_from}
use Rattle.load_gen.specs.Load.{Setup, Host, Member, setup_of, member_of, members}
use Rattle.load_gen.proofs.Systems.{both_left, both_right, le_from, each}

-- whether a member has room for each program of this size
abbrev has_room : Setup → Bool
has_room (Host ram cycle pcie mem hart image) = nat_le 65536 ram
has_room other = true

abbrev is_roomy : Member → Bool
is_roomy m = has_room m.setup

abbrev are_roomy : ℕ → Bool
are_roomy n = list_all is_roomy (members n)

all_are_roomy : list_all are_roomy (range_with_len 1 30) ≡ true
all_are_roomy = refl

abbrev is_short : List ℕ → Bool
is_short image = nat_le (length image) 65536

-- of short programs each next one is short
next_short : (images : List (List ℕ)) → list_all is_short images ≡ true → length (next_image images) ≤ 65536
next_short [] short = omega arith
next_short (image ∷ more) short = le_from (length image) 65536 (both_left _ _ short)

rest_short : (images : List (List ℕ)) → list_all is_short images ≡ true → list_all is_short (drop 1 images) ≡ true
rest_short [] short = refl
rest_short (image ∷ more) short = both_right (is_short image) _ short

short_after : (c : Config) (images : List (List ℕ)) → list_all is_short images ≡ true → list_all is_short (images_after c images) ≡ true
short_after (config.Host c) images short = rest_short images short
short_after (config.Nic c) images short = short
short_after (config.Switch c) images short = short
short_after (config.Beacon c) images short = short
short_after (config.Memory c) images short = short

below_both : (size ram most : ℕ) → size ≤ most → nat_le most ram ≡ true → nat_le size ram ≡ true
below_both size ram most short room = let most_in : most ≤ ram = le_from most ram room in grind (arith, nat_tests)

next_fits : (c : Config) (images : List (List ℕ)) → has_room (setup_of c) ≡ true → list_all is_short images ≡ true → fits c (next_image images) ≡ true
next_fits (config.Host c) images room short = below_both (length (next_image images)) c.ram 65536 (next_short images short) room
next_fits (config.Nic c) images room short = refl
next_fits (config.Switch c) images room short = refl
next_fits (config.Beacon c) images room short = refl
next_fits (config.Memory c) images room short = refl

none_long : (i : ℕ) (cs : List Component) (images : List (List ℕ)) → list_all is_roomy (map member_of cs) ≡ true → list_all is_short images ≡ true → too_long_from i cs images ≡ None
none_long i [] images room short = refl
none_long i (c ∷ more) images room short =
    let first : fits c.config (next_image images) ≡ true = next_fits c.config images (both_left _ _ room) short in
    rw first (none_long (i + 1) more (images_after c.config images) (both_right (is_roomy (member_of c)) _ room) (short_after c.config images short))

alike_short : (n : ℕ) (program : List ℕ) → is_short program ≡ true → list_all is_short (replicate n program) ≡ true
alike_short zero program short = refl
alike_short (suc n) program short = rw short (alike_short n program short)

-- a short program fits each host of a system
pub none_too_long : (n : ℕ) → 1 ≤ n → n ≤ 30 → (cs : List Component) → map member_of cs ≡ members n → (program : List ℕ) → length program ≤ 65536 → too_long_from 0 cs (replicate n program) ≡ None
none_too_long n least most cs are program short =
    let room : are_roomy n ≡ true = each are_roomy 1 30 n all_are_roomy least (omega arith) in
    let is : is_short program ≡ true = grind (arith, nat_tests) in
    none_long 0 cs (replicate n program) (ap (list_all is_roomy) are ∙ room) (alike_short n program is)
