use Rattle.std.proofs.Common.{◌≡◌, None, rules}
use Rattle.toml.specs.View.{view}
use Rattle.topology_file.specs.Keys.{link_keys}
use Rattle.topology_file.specs.Faults.{own_fault}
use Rattle.topology_file.specs.Valid.{IsValidLink}
use Rattle.topology_file.proofs.Validity.{valid_link, seats_between}
use Rattle.topology_file.proofs.link.link.Goals as goal

pub link_between-requires : goal.link_between-requires
link_between-requires c =
    let none : own_fault link_keys (view c.args.entry.now) ≡ None = search rules in
    valid_link (view c.args.entry.now) none

pub joined_between-requires : goal.joined_between-requires
joined_between-requires c =
    let none : own_fault link_keys (view c.args.entry.now) ≡ None = search rules in
    let valid : IsValidLink (view c.args.entry.now) = valid_link (view c.args.entry.now) none in
    rw c.link_between.ensures (seats_between c.in-Some-component_named.a c.in-Some-component_named-2.b (view c.args.entry.now) c.in-Some-component_named.ensures.within c.in-Some-component_named-2.ensures.within valid)
