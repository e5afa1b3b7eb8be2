use Rattle.std.proofs.Common.{◌≡◌, true}
use Rattle.cs_base.specs.Names.{is_name}
use Rattle.cs_base.specs.NameBytes.{stored_is}
use Rattle.cs_base.proofs.name.Name.new.Goals as goal

pub invariant_of-result : goal.invariant_of-result
invariant_of-result c =
    let named : is_name c.args.bytes.now ≡ true = cc in
    rw c.copy_from_slice.ensures.after (stored_is c.args.bytes.now named)
