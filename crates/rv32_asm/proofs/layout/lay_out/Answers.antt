use Rattle.std.proofs.Common.{◌≡◌, length, rules}
use Rattle.rv32_asm.proofs.UnderWay.{finished}
use Rattle.rv32_asm.proofs.layout.lay_out.Goals as goal

pub returns : goal.returns
returns c =
    let empty : length c.loop-rest.rest.now ≡ 0 = search rules in
    finished c.args.source.now c.loop-rest.rest.now c.loop-rest.layout c.loop-rest.invariant empty
