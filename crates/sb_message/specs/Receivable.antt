-- Which bodies a port may receive and send, and which of them are events.
use Rattle.std.specs.Prelude.{ℕ, ◌≡◌, Bool, true, false, List, slice_get, Some}
use Rattle.cs_base.specs.declared.port_kind.PortKind.{PortKind}
use Rattle.cs_base.specs.declared.port_kind.PortKind.TheVariants.{Eth, PcieDev, PcieHost, MemDev, MemHost}
use Rattle.cs_base.specs.Plan.{partner}
use Rattle.mem_proto.specs.declared.message.MemMsg.{MemMsg}
use Rattle.mem_proto.specs.declared.message.MemMsg.TheVariants as mem
use Rattle.sb_message.specs.declared.message.Body.{Body}
use Rattle.sb_message.specs.declared.message.Body.TheVariants as body

-- the kind of a port
abbrev pub is_eth : PortKind → Bool
is_eth Eth = true
is_eth PcieDev = false
is_eth PcieHost = false
is_eth MemDev = false
is_eth MemHost = false

abbrev pub is_pcie_dev : PortKind → Bool
is_pcie_dev Eth = false
is_pcie_dev PcieDev = true
is_pcie_dev PcieHost = false
is_pcie_dev MemDev = false
is_pcie_dev MemHost = false

abbrev pub is_pcie_host : PortKind → Bool
is_pcie_host Eth = false
is_pcie_host PcieDev = false
is_pcie_host PcieHost = true
is_pcie_host MemDev = false
is_pcie_host MemHost = false

abbrev pub is_mem_dev : PortKind → Bool
is_mem_dev Eth = false
is_mem_dev PcieDev = false
is_mem_dev PcieHost = false
is_mem_dev MemDev = true
is_mem_dev MemHost = false

abbrev pub is_mem_host : PortKind → Bool
is_mem_host Eth = false
is_mem_host PcieDev = false
is_mem_host PcieHost = false
is_mem_host MemDev = false
is_mem_host MemHost = true

-- a memory device receives what is asked of it, and its host the answers
abbrev pub is_receiver : MemMsg → PortKind → Bool
is_receiver (mem.Read id addr len) kind = is_mem_dev kind
is_receiver (mem.Write id addr bytes) kind = is_mem_dev kind
is_receiver (mem.ReadDone id bytes) kind = is_mem_host kind
is_receiver (mem.WriteDone id) kind = is_mem_host kind

-- null messages and introductions can be received at every port, every other body at ports of one kind
abbrev pub receivable : PortKind → Body → Bool
receivable kind body.Sync = true
receivable kind (body.Intro intro) = true
receivable kind (body.Dev message) = is_pcie_host kind
receivable kind (body.Host message) = is_pcie_dev kind
receivable kind (body.Mem message) = is_receiver message kind
receivable kind (body.Eth frame) = is_eth kind

-- null messages and introductions move clocks and are no events
abbrev pub is_event : Body → Bool
is_event body.Sync = false
is_event (body.Intro intro) = false
is_event (body.Dev message) = true
is_event (body.Host message) = true
is_event (body.Mem message) = true
is_event (body.Eth frame) = true

-- an event that the port with this number may receive
pub record MayReceive (ports : List PortKind) (port : ℕ) (body : Body) : Type 0 where
  pub kind : PortKind
  pub at_port : slice_get ports port ≡ Some kind
  pub fits : receivable kind body ≡ true
  pub event : is_event body ≡ true

-- an event that the port with this number may send: its partner may receive it
pub record MaySend (ports : List PortKind) (port : ℕ) (body : Body) : Type 0 where
  pub kind : PortKind
  pub at_port : slice_get ports port ≡ Some kind
  pub fits : receivable (partner kind) body ≡ true
  pub event : is_event body ≡ true
