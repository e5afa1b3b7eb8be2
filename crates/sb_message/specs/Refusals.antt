-- Refusals of a body as refusals of the message.
use Rattle.eth_proto.specs.declared.eth_bad.EthBad.{EthBad}
use Rattle.eth_proto.specs.declared.eth_bad.EthBad.TheVariants as eth
use Rattle.mem_proto.specs.declared.mem_bad.MemBad.{MemBad}
use Rattle.mem_proto.specs.declared.mem_bad.MemBad.TheVariants as mem
use Rattle.pcie_proto.specs.declared.pcie_bad.PcieBad.{PcieBad}
use Rattle.pcie_proto.specs.declared.pcie_bad.PcieBad.TheVariants as pcie
use Rattle.sb_message.specs.declared.msg_bad.MsgBad.{MsgBad}
use Rattle.sb_message.specs.declared.msg_bad.MsgBad.TheVariants.{Upper, NoMemory}
use Rattle.sb_message.specs.declared.msg_bad.UpperBad.TheVariants.{Pcie, Mem, Eth}

-- want of memory stays what it is
abbrev pub eth_refusal : EthBad → MsgBad
eth_refusal eth.NoMemory = NoMemory
eth_refusal eth.UnknownType = Upper (Eth eth.UnknownType)
eth_refusal eth.TooShort = Upper (Eth eth.TooShort)
eth_refusal eth.TooLong = Upper (Eth eth.TooLong)
eth_refusal eth.LengthDiffers = Upper (Eth eth.LengthDiffers)
eth_refusal eth.FieldNotZero = Upper (Eth eth.FieldNotZero)

abbrev pub mem_refusal : MemBad → MsgBad
mem_refusal mem.NoMemory = NoMemory
mem_refusal mem.UnknownType = Upper (Mem mem.UnknownType)
mem_refusal mem.LengthRange = Upper (Mem mem.LengthRange)
mem_refusal mem.LengthDiffers = Upper (Mem mem.LengthDiffers)
mem_refusal mem.FieldNotZero = Upper (Mem mem.FieldNotZero)

abbrev pub pcie_refusal : PcieBad → MsgBad
pcie_refusal pcie.NoMemory = NoMemory
pcie_refusal pcie.UnknownType = Upper (Pcie pcie.UnknownType)
pcie_refusal pcie.BadBar = Upper (Pcie pcie.BadBar)
pcie_refusal pcie.LengthRange = Upper (Pcie pcie.LengthRange)
pcie_refusal pcie.LengthDiffers = Upper (Pcie pcie.LengthDiffers)
pcie_refusal pcie.FieldNotZero = Upper (Pcie pcie.FieldNotZero)
