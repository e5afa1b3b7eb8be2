use Rattle.std.proofs.Common.{◌≡◌, ◌+◌, ◌*◌, ◌/◌, ◌%◌, arith}
use Rattle.std.specs.Int.Bits.{bit_xor, bit_and, xor_add_and}
use Rattle.std.proofs.lemmas.Nat.{and_mask}
use Rattle.moment_tree.proofs.keys.beside.Goals as goal

pub returns : goal.returns
returns c =
    let sum = xor_add_and c.args.node 1 in
    let last : bit_and c.args.node 1 ≡ c.args.node % 2 = and_mask c.args.node 1 in
    omega (arith, sum, last)
