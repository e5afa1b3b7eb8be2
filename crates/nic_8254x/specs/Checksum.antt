-- The checksums of an adapter: the one that it inserts, and that of a packet which it received.
use Rattle.std.specs.Prelude.{ℕ, ◌+◌, ◌-◌, ◌/◌, ◌%◌, ◌&&◌, nat_le, nat_lt, if◌then◌else◌, List, [], ◌∷◌, length, drop}
use Rattle.lane_kernels.specs.Checksum.{ones_sum_of}
use Rattle.field_layout.specs.Layout.{overwritten}
use Rattle.nic_rings.specs.declared.tx_desc.TxDesc.{TxDesc}
use Rattle.nic_regs.specs.Registers.{has}

-- the sum of a received frame from PCSS on, 0 where that is past its end
abbrev pub packet_checksum : (start : ℕ) → List ℕ → ℕ
packet_checksum start frame = if nat_lt start (length frame) then ones_sum_of (drop start frame) else 0

-- the complement of the sum of a frame from a place on, the high byte first
abbrev pub checksum_bytes : List ℕ → ℕ → List ℕ
checksum_bytes frame start = let sum = 65535 - ones_sum_of (drop start frame) in sum / 256 ∷ sum % 256 ∷ []

-- CMD.IC, bit 2, has the checksum inserted at CSO, where both places are within the frame
abbrev pub checksummed : TxDesc → List ℕ → List ℕ
checksummed d frame =
    if has d.cmd 0x4 && nat_le (d.cso + 2) (length frame) && nat_lt d.css (length frame)
    then overwritten frame d.cso (checksum_bytes frame d.css)
    else frame
