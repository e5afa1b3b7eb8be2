-- Rings of descriptors: 16 bytes each, those from the head to before the tail being the adapter's.
use Rattle.std.specs.Prelude.{ℕ, ◌+◌, ◌-◌, ◌*◌, ◌/◌, ◌%◌, ◌^◌, ◌&&◌, nat_lt, if◌then◌else◌}
use Rattle.nic_rings.specs.declared.ring.Ring.{Ring}

abbrev pub count_of : Ring → ℕ
count_of ring = ring.len / 16

-- how many descriptors are the adapter's
abbrev pub free_in : Ring → ℕ
free_in ring =
    if nat_lt ring.head (count_of ring) && nat_lt ring.tail (count_of ring)
    then (ring.tail + count_of ring - ring.head) % count_of ring
    else 0

-- the address of the descriptor at the head
abbrev pub head_address : Ring → ℕ
head_address ring = (ring.base + 16 * ring.head) % 2 ^ 64

-- the head after that descriptor
abbrev pub next_head : Ring → ℕ
next_head ring = (ring.head + 1) % count_of ring
