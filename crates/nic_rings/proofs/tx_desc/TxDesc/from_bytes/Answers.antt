use Rattle.std.proofs.Common.{arith}
use Rattle.nic_rings.proofs.Sixteen.{tx_joined}
use Rattle.nic_rings.proofs.tx_desc.TxDesc.from_bytes.Goals as goal

pub returns-clause-back : goal.returns-clause-back
returns-clause-back c =
    tx_joined c.args.b.now _ (omega arith) c.u64_at.ensures.held c.u16_at.ensures.held c.u8_at.ensures.held c.u8_at-2.ensures.held
    c.u8_at-3.ensures.held c.u8_at-4.ensures.held c.u16_at-2.ensures.held
