-- The type of a message by its body, and which types a kind of port receives.
use Rattle.std.specs.Prelude.{ℕ, Bool, true, ◌&&◌, ◌||◌, ◌==◌, nat_le, if◌then◌else◌}
use Rattle.cs_base.specs.declared.port_kind.PortKind.{PortKind}
use Rattle.mem_proto.specs.Spelling as mem
use Rattle.pcie_proto.specs.FromDevice as dev
use Rattle.pcie_proto.specs.FromHost as host
use Rattle.sb_message.specs.declared.message.Body.{Body}
use Rattle.sb_message.specs.declared.message.Body.TheVariants as body
use Rattle.sb_message.specs.Receivable.{is_eth, is_pcie_dev, is_pcie_host, is_mem_dev, is_mem_host}

abbrev pub body_type : Body → ℕ
body_type body.Sync = 0x00
body_type (body.Intro intro) = 0x01
body_type (body.Dev message) = dev.type_of message
body_type (body.Host message) = host.type_of message
body_type (body.Mem message) = mem.type_of message
body_type (body.Eth frame) = 0x70

-- the types of what devices and hosts of PCIe links send, and of what is sent on memory links
abbrev pub is_dev_type : ℕ → Bool
is_dev_type ty = nat_le 0x40 ty && nat_le ty 0x44

abbrev pub is_host_type : ℕ → Bool
is_host_type ty = nat_le 0x60 ty && nat_le ty 0x63

abbrev pub is_mem_type : ℕ → Bool
is_mem_type ty = nat_le 0x50 ty && nat_le ty 0x53

-- whether a port of this kind may receive a message of this type that is an event: a device what its host sends, and so on
abbrev pub is_event_type_of : PortKind → ℕ → Bool
is_event_type_of kind ty =
    if is_dev_type ty then is_pcie_host kind
    else if is_host_type ty then is_pcie_dev kind
    else if is_mem_type ty then (if nat_le ty 0x51 then is_mem_dev kind else is_mem_host kind)
    else (ty == 0x70) && is_eth kind

-- whether a port of this kind may receive a message of this type
abbrev pub is_type_of : PortKind → ℕ → Bool
is_type_of kind ty = (ty == 0x00) || ((ty == 0x01) || is_event_type_of kind ty)

-- whether a message has this type
abbrev pub is_known_type : ℕ → Bool
is_known_type ty = (ty == 0x00) || ((ty == 0x01) || (if is_dev_type ty then true else if is_host_type ty then true else if is_mem_type ty then true else (ty == 0x70)))
