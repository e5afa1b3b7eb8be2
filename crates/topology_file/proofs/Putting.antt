-- A table with a further key.
use Rattle.std.proofs.Common.{◌≡◌, List, [], ◌∷◌, String, Global, Ordering, Less, Equal, Greater, string_bytes, refl, ◌∙◌}
use Rattle.std.specs.Ordering.{match_ordering}
use Rattle.std.specs.String.{string_cmp}
use Rattle.std.specs.BTreeMap.{insert_entry}
use Rattle.toml.specs.declared.value.Value.{Value}
use Rattle.toml.specs.View.{view, members_view}
use Rattle.topology_file.specs.Full.{put}

abbrev Held : Type 0
Held = String Global × Value

match_members : (o : Ordering) (a b c : List Held) → members_view (match_ordering o a b c) ≡ match_ordering o (members_view a) (members_view b) (members_view c)
match_members Less a b c = refl
match_members Equal a b c = refl
match_members Greater a b c = refl

-- what a table says once a key was inserted
pub members_view-insert : (held : List Held) (k : String Global) (v : Value) → members_view (insert_entry string_cmp held k v) ≡ put (string_bytes k) (view v) (members_view held)
members_view-insert [] k v = refl
members_view-insert (e ∷ held) k v =
    match_members (string_cmp k e.0) _ _ _ ∙ rw (members_view-insert held k v)
