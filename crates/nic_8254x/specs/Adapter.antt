-- An adapter of the Intel 8254x family as a device: port 0 is its PCIe port, port 1 its Ethernet port.
use Rattle.std.specs.Prelude.{ℕ, Bool, true, false, [], ◌∷◌, length, None}
use Rattle.cs_base.specs.declared.port_kind.PortKind.TheVariants.{Eth, PcieDev}
use Rattle.sb_message.specs.declared.message.Body.{Body}
use Rattle.sb_message.specs.declared.message.Body.TheVariants as body
use Rattle.pcie_proto.specs.declared.from_host.HostMsg.{HostMsg}
use Rattle.pcie_proto.specs.declared.from_host.HostMsg.TheVariants as host
use Rattle.pcie_proto.specs.declared.from_device.DevMsg.TheVariants as dev
use Rattle.device_api.specs.Behaviour.{Behaviour, Reaction}
use Rattle.device_api.specs.World.{rest, followed_by}
use Rattle.nic_regs.specs.Registers.{line_of}
use Rattle.nic_8254x.specs.State.{Adapter}
use Rattle.nic_8254x.specs.Arrival.{arrives}
use Rattle.nic_8254x.specs.Receiving.{receives, rx_read_done, rx_write_done}
use Rattle.nic_8254x.specs.Sending.{sends_on, tx_read_done, tx_write_done}
use Rattle.nic_8254x.specs.Access.{reads, writes}

-- ids are those of one engine alone, so a completion is that of at most one
unfoldable pub hears : Adapter → HostMsg → Reaction Adapter
hears s (host.Read id bar offset length) = reads s id offset length
hears s (host.Write id bar offset bytes) = writes s id offset bytes
hears s (host.ReadDone id bytes) = followed_by (tx_read_done s s.sending id bytes) (λ more. rx_read_done more more.receiving id bytes)
hears s (host.WriteDone id) = followed_by (tx_write_done s s.sending id) (λ more. rx_write_done more more.receiving id)

unfoldable pub feels : Adapter → Body → Reaction Adapter
feels s (body.Host message) = hears s message
feels s (body.Eth frame) = arrives s frame
feels s _ = rest s

abbrev pub tells_level : Adapter → (high : Bool) → Reaction Adapter
tells_level s high = record { state = record s { told = high }; sends = (0, body.Dev (dev.Level high)) ∷ []; lines = [] }

-- the interrupt line is told where it differs from what was last told
abbrev pub tells_at : Adapter → (told line : Bool) → Reaction Adapter
tells_at s true true = rest s
tells_at s true false = tells_level s false
tells_at s false true = tells_level s true
tells_at s false false = rest s

unfoldable pub tells : Adapter → Reaction Adapter
tells s = tells_at s s.told (line_of s.regs)

-- first what arrives has its effect; then the transmit engine goes on, then the receive engine; then the line is told
unfoldable pub takes : Adapter → (t port : ℕ) → Body → Reaction Adapter
takes s t port message =
    followed_by (followed_by (followed_by (feels s message) (λ more. sends_on more more.sending)) (λ more. receives more more.receiving)) tells

-- an adapter is never due by itself
abbrev pub adapter : Behaviour Adapter
adapter = record { ports = λ s. PcieDev ∷ Eth ∷ []; due = λ s. None; take = takes; tick = λ s t. rest s }
