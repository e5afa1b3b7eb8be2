-- Adapters as parts: what is kept of one, and the adapter of a configuration that parts make.
use Rattle.std.specs.Prelude.{◌≡◌, All}
use Rattle.cs_base.specs.declared.configs.NicConfig.{NicConfig}
use Rattle.eth_proto.specs.Frame.{IsFrame}
use Rattle.nic_regs.specs.Parts.{IsValid}
use Rattle.nic_regs.specs.Registers as registers
use Rattle.nic_regs.specs.Registers.{Registers, line_of}
use Rattle.nic_8254x.specs.declared.parts.NicParts.{NicParts}
use Rattle.nic_8254x.specs.State.{Adapter}
use Rattle.nic_8254x.specs.Sound.{IsOrdered}
use Rattle.nic_8254x.specs.Valid.{IsAdapter}

-- an adapter with these registers and the other parts
abbrev pub standing : Registers → NicParts → Adapter
standing regs parts = record {
  regs = regs;
  queue = parts.queue;
  filled = parts.from;
  receiving = parts.rx;
  work = parts.work;
  sending = parts.tx;
  next_id = parts.next_id;
  told = parts.told;
}

-- an adapter of a configuration with these parts
abbrev pub resumed : NicConfig → NicParts → Adapter
resumed config parts = standing (registers.resumed config.mac parts.regs) parts

abbrev pub nic_parts : Adapter → NicParts
nic_parts s = record {
  regs = s.regs.parts;
  queue = s.queue;
  next_id = s.next_id;
  told = s.told;
  from = s.filled;
  rx = s.receiving;
  work = s.work;
  tx = s.sending;
}

-- an adapter may stand so before and after each event
pub record Stands (s : Adapter) : Type 0 where
  pub frames : All IsFrame s.queue
  pub engines : IsAdapter s.queue s.filled s.receiving s.sending
  pub ordered : IsOrdered s
  pub told : s.told ≡ line_of s.regs

-- an adapter of the configuration may have these parts
pub record IsValidFor (config : NicConfig) (parts : NicParts) : Type 0 where
  pub regs : IsValid parts.regs
  pub stands : Stands (resumed config parts)

-- the adapter has the configuration's address
abbrev pub IsOf : NicConfig → Adapter → Type 0
IsOf config s = s.regs.mac ≡ config.mac

-- with the configuration that the adapter was started with, the parts make it again
abbrev pub MakeAgain : NicParts → Adapter → Type 0
MakeAgain parts s = (config : NicConfig) → IsOf config s → resumed config parts ≡ s
