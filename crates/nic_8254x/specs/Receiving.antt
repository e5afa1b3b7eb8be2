-- The receive engine: the first frame of the queue goes to the buffers of the host, one descriptor after another.
use Rattle.std.specs.Prelude.{ℕ, ◌+◌, ◌-◌, ◌%◌, ◌^◌, Bool, ◌&&◌, ◌==◌, min, nat_lt, if◌then◌else◌, List, [], ◌∷◌, ◌++◌, length, take, drop, codes, decimal}
use Rattle.sb_message.specs.declared.message.Body.{Body}
use Rattle.sb_message.specs.declared.message.Body.TheVariants as body
use Rattle.pcie_proto.specs.declared.from_device.DevMsg.TheVariants as dev
use Rattle.device_api.specs.Behaviour.{Reaction}
use Rattle.device_api.specs.World.{rest}
use Rattle.nic_rings.specs.declared.rx_desc.RxDesc.{RxDesc}
use Rattle.nic_rings.specs.Descriptors.{rx_desc_of, rx_bytes}
use Rattle.nic_rings.specs.Rings.{count_of, free_in, head_address, next_head}
use Rattle.nic_regs.specs.Registers.{Registers, buffer_size, raised, rx_on, rx_ring_of, with_rx_head}
use Rattle.nic_8254x.specs.declared.state.RxStep.{RxStep}
use Rattle.nic_8254x.specs.declared.state.RxStep.TheVariants.{Idle, Read, Data, Back}
use Rattle.nic_8254x.specs.State.{Adapter, has_id}
use Rattle.nic_8254x.specs.Checksum.{packet_checksum}

-- the first frame that waits
abbrev pub first : List (List ℕ) → List ℕ
first [] = []
first (frame ∷ frames) = frame

-- bytes are moved in pieces of at most 2,048
abbrev pub piece : (length done : ℕ) → ℕ
piece length done = min 2048 (length - done)

-- what is asked for takes the next id
abbrev pub asks : Adapter → RxStep → Body → Reaction Adapter
asks s step message = record { state = record s { receiving = step; next_id = s.next_id + 1 }; sends = (0, message) ∷ []; lines = [] }

-- an engine that rests reads the descriptor at the head, where a frame waits for it
abbrev pub may_receive : Adapter → Bool
may_receive s = nat_lt 0 (length s.queue) && rx_on s.regs && nat_lt 0 (free_in (rx_ring_of s.regs)) && has_id s

abbrev pub reads_descriptor : Adapter → Reaction Adapter
reads_descriptor s =
    let place = head_address (rx_ring_of s.regs) in
    asks s (Read s.next_id place) (body.Dev (dev.Read s.next_id place 16))

unfoldable pub starts_receiving : Adapter → Reaction Adapter
starts_receiving s = if may_receive s then reads_descriptor s else rest s

abbrev pub receives : Adapter → RxStep → Reaction Adapter
receives s Idle = starts_receiving s
receives s _ = rest s

-- the next piece of a part goes to the descriptor's buffer
abbrev pub writes_piece : Adapter → (place address part done : ℕ) → Reaction Adapter
writes_piece s place address part done =
    asks s (Data s.next_id place address part done)
    (body.Dev (dev.Write s.next_id ((address + done) % 2 ^ 64) (take (piece part done) (drop (s.filled + done) (first s.queue)))))

-- the descriptor was read: a part of the frame goes to its buffer, at most the size of a buffer
abbrev pub has_descriptor : Adapter → (place : ℕ) → List ℕ → Reaction Adapter
has_descriptor s place bytes =
    writes_piece s place (rx_desc_of bytes).addr (min (buffer_size s.regs) (length (first s.queue) - s.filled)) 0

-- whether a part is the frame's last
abbrev pub is_last : Adapter → (part : ℕ) → Bool
is_last s part = s.filled + part == length (first s.queue)

-- the descriptor that holds a part: with DD, and with EOP at the last part
abbrev pub filled_descriptor : Adapter → (address part : ℕ) → RxDesc
filled_descriptor s address part = record {
  addr = address;
  length = part;
  checksum = packet_checksum s.regs.parts.pcss (first s.queue);
  status = if is_last s part then 3 else 1;
  errors = 0;
  special = 0;
}

unfoldable pub filled_bytes : Adapter → (address part : ℕ) → List ℕ
filled_bytes s address part = rx_bytes (filled_descriptor s address part)

-- the part was written: the descriptor is written back
abbrev pub writes_back : Adapter → (place address part : ℕ) → Reaction Adapter
writes_back s place address part = asks s (Back s.next_id part) (body.Dev (dev.Write s.next_id place (filled_bytes s address part)))

abbrev pub piece_written : Adapter → (place address part done : ℕ) → Reaction Adapter
piece_written s place address part done =
    let written = done + piece part done in
    if nat_lt written part then writes_piece s place address part written else writes_back s place address part

-- the head advances, but in a ring that doesn't have it
abbrev pub with_next_rx : Registers → Registers
with_next_rx regs =
    let ring = rx_ring_of regs in
    if nat_lt ring.head (count_of ring) then with_rx_head regs (next_head ring) else regs

-- the whole frame is received: it leaves the queue, and the cause RXT0, bit 7, is raised
abbrev pub frame_received : Adapter → Reaction Adapter
frame_received s = record {
  state = record s { regs = raised s.regs 0x80; queue = drop 1 s.queue; filled = 0 };
  sends = [];
  lines = (codes "rx " ++ decimal (length (first s.queue))) ∷ [];
}

-- the descriptor was written back
abbrev pub part_received : Adapter → (part : ℕ) → Reaction Adapter
part_received s part =
    let over = record s { receiving = Idle; regs = with_next_rx s.regs } in
    if is_last s part then frame_received over else rest (record over { filled = s.filled + part })

-- a completed read of so many bytes: of the descriptor, where that is asked for
unfoldable pub rx_read_done : Adapter → RxStep → (id : ℕ) → List ℕ → Reaction Adapter
rx_read_done s (Read asked place) id bytes =
    if (asked == id) && (length bytes == 16) && has_id s then has_descriptor s place bytes else rest s
rx_read_done s _ id bytes = rest s

-- a completed write: of a piece, or of the descriptor
unfoldable pub rx_write_done : Adapter → RxStep → (id : ℕ) → Reaction Adapter
rx_write_done s (Data asked place address part done) id =
    if (asked == id) && has_id s then piece_written s place address part done else rest s
rx_write_done s (Back asked part) id = if asked == id then part_received s part else rest s
rx_write_done s _ id = rest s
