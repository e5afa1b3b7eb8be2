-- Lists that are built element by element.
use Rattle.std.proofs.Common.{◌≡◌, ℕ, suc, ◌+◌, ◌<◌, ◌≤◌, List, [], ◌∷◌, ◌++◌, length, drop, get_or, map, refl, sym, ap, ap₂, ◌∙◌, arith, append_assoc, append-nil, drop-cons}
use Rattle.std.proofs.Math.ListN.{drop_of_length-le}
use Rattle.cs_base.specs.declared.link.Link.{Link}
use Rattle.cs_base.specs.Plan.{first_end, second_end}
use Rattle.device_api.specs.Channels.{channels}
use Rattle.mesh_core.specs.declared.way.Way.{Way}
use Rattle.mesh_core.specs.State.{way_of, seat_of}
use Rattle.mesh_core.specs.Start.{numbered, two_each}

-- one element more
pub numbered_more : {X Y : Type 0} (f : ℕ → X → Y) (xs : List X) (so_far whole : List Y) (i : ℕ) (d : X) → i < length xs → so_far ++ numbered f i (drop i xs) ≡ whole → (so_far ++ f i (get_or xs i d) ∷ []) ++ numbered f (i + 1) (drop (i + 1) xs) ≡ whole
unfolding numbered
numbered_more f xs so_far whole i d lt before = append_assoc so_far (f i (get_or xs i d) ∷ []) (numbered f (i + 1) (drop (i + 1) xs)) ∙ ap (λ (n : ℕ). so_far ++ f i (get_or xs i d) ∷ numbered f n (drop n xs)) (let same : i + 1 ≡ suc i = omega arith in same) ∙ ap (λ l. so_far ++ numbered f i l) (sym (drop-cons xs i d lt)) ∙ before

pub two_more : {X Y : Type 0} (f g : X → Y) (xs : List X) (so_far whole : List Y) (i : ℕ) (x : X) → i < length xs → x ≡ get_or xs i x → so_far ++ two_each f g (drop i xs) ≡ whole → ((so_far ++ f x ∷ []) ++ g x ∷ []) ++ two_each f g (drop (i + 1) xs) ≡ whole
unfolding two_each
two_more f g xs so_far whole i x lt read before = append_assoc (so_far ++ f x ∷ []) (g x ∷ []) (two_each f g (drop (i + 1) xs)) ∙ append_assoc so_far (f x ∷ []) (g x ∷ two_each f g (drop (i + 1) xs)) ∙ ap₂ (λ y (n : ℕ). so_far ++ f y ∷ (g y ∷ two_each f g (drop n xs))) read (let same : i + 1 ≡ suc i = omega arith in same) ∙ ap (λ l. so_far ++ two_each f g l) (sym (drop-cons xs i x lt)) ∙ before

-- all of them
drop_all : {X : Type 0} (xs : List X) (i : ℕ) → length xs ≤ i → drop i xs ≡ []
drop_all xs i past = drop_of_length-le xs past

pub numbered_ends : {X Y : Type 0} (f : ℕ → X → Y) (xs : List X) (so_far whole : List Y) (i : ℕ) → length xs ≤ i → so_far ++ numbered f i (drop i xs) ≡ whole → so_far ≡ whole
unfolding numbered
numbered_ends f xs so_far whole i past before = sym (append-nil so_far) ∙ ap (λ l. so_far ++ numbered f i l) (sym (drop_all xs i past)) ∙ before

pub two_end : {X Y : Type 0} (f g : X → Y) (xs : List X) (so_far whole : List Y) (i : ℕ) → length xs ≤ i → so_far ++ two_each f g (drop i xs) ≡ whole → so_far ≡ whole
unfolding two_each
two_end f g xs so_far whole i past before = sym (append-nil so_far) ∙ ap (λ l. so_far ++ two_each f g l) (sym (drop_all xs i past)) ∙ before

-- the ways of the two channels of a link
abbrev pub way_forth : Link → Way
way_forth link = record { from = seat_of (first_end link); to = seat_of (second_end link) }

abbrev pub way_back : Link → Way
way_back link = record { from = seat_of (second_end link); to = seat_of (first_end link) }

pub ways_are : (links : List Link) → two_each way_forth way_back links ≡ map way_of (channels links)
unfolding two_each
ways_are [] = refl
ways_are (link ∷ more) = ap (λ l. way_forth link ∷ (way_back link ∷ l)) (ways_are more)
