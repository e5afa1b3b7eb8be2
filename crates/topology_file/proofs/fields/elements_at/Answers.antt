use Rattle.std.proofs.Common.{sym}
use Rattle.topology_file.proofs.Elements.{list_of-items_view}
use Rattle.topology_file.proofs.fields.elements_at.Goals as goal

pub returns-in-Some-as_array : goal.returns-in-Some-as_array
returns-in-Some-as_array c =
    rw (← c.in-Some.ensures, ← c.in-Some-as_array.ensures, c.as_slice.ensures.value) (sym (list_of-items_view _))
