-- The transmit engine: frames are read from the buffers of the host, one descriptor after another, and sent.
use Rattle.std.specs.Prelude.{ℕ, ◌+◌, ◌-◌, ◌%◌, ◌^◌, Bool, ◌&&◌, ◌||◌, ◌==◌, not, nat_lt, if◌then◌else◌, List, [], ◌∷◌, ◌++◌, length, replicate, codes, decimal, bit_or}
use Rattle.sb_message.specs.declared.message.Body.{Body}
use Rattle.sb_message.specs.declared.message.Body.TheVariants as body
use Rattle.pcie_proto.specs.declared.from_device.DevMsg.TheVariants as dev
use Rattle.device_api.specs.Behaviour.{Reaction}
use Rattle.device_api.specs.World.{rest, followed_by}
use Rattle.nic_rings.specs.declared.tx_desc.TxDesc.{TxDesc}
use Rattle.nic_rings.specs.Descriptors.{tx_desc_of}
use Rattle.nic_rings.specs.Rings.{count_of, free_in, head_address, next_head}
use Rattle.nic_regs.specs.Registers.{Registers, has, pads, raised, tx_on, tx_ring_of, with_tx_head}
use Rattle.nic_8254x.specs.declared.state.TxStep.{TxStep}
use Rattle.nic_8254x.specs.declared.state.TxStep.TheVariants.{Idle, Read, Data, Back}
use Rattle.nic_8254x.specs.State.{Adapter, has_id}
use Rattle.nic_8254x.specs.Checksum.{checksummed}
use Rattle.nic_8254x.specs.Receiving.{piece}

-- what is asked for takes the next id
abbrev pub asks : Adapter → TxStep → Body → Reaction Adapter
asks s step message = record { state = record s { sending = step; next_id = s.next_id + 1 }; sends = (0, message) ∷ []; lines = [] }

-- an engine that rests reads the descriptor at the head
abbrev pub may_send : Adapter → Bool
may_send s = tx_on s.regs && nat_lt 0 (free_in (tx_ring_of s.regs)) && has_id s

abbrev pub reads_descriptor : Adapter → Reaction Adapter
reads_descriptor s =
    let place = head_address (tx_ring_of s.regs) in
    asks s (Read s.next_id place) (body.Dev (dev.Read s.next_id place 16))

unfoldable pub starts_sending : Adapter → Reaction Adapter
starts_sending s = if may_send s then reads_descriptor s else rest s

abbrev pub sends_on : Adapter → TxStep → Reaction Adapter
sends_on s Idle = starts_sending s
sends_on s _ = rest s

-- the head advances, but in a ring that doesn't have it; where it then equals the tail, the cause TXQE, bit 1, is raised
abbrev pub with_next_tx : Registers → Registers
with_next_tx regs =
    let ring = tx_ring_of regs in
    if not (nat_lt ring.head (count_of ring)) then regs
    else if next_head ring == ring.tail then raised (with_tx_head regs (next_head ring)) 0x2
    else with_tx_head regs (next_head ring)

-- the engine is done with the descriptor
abbrev pub advances : Adapter → Adapter
advances s = record s { sending = Idle; regs = with_next_tx s.regs }

-- the bits of CMD: EOP 0, IC 2, RS 3, DEXT 5
abbrev pub is_end : TxDesc → Bool
is_end d = has d.cmd 0x1

abbrev pub reports : TxDesc → Bool
reports d = has d.cmd 0x8

abbrev pub is_extended : TxDesc → Bool
is_extended d = has d.cmd 0x20

-- a short frame is padded with zeros to 60 bytes, where TCTL.PSP is set
abbrev pub padded : Registers → List ℕ → List ℕ
padded regs frame = if pads regs then frame ++ replicate (60 - length frame) 0 else frame

abbrev pub sends_frame : Adapter → List ℕ → Reaction Adapter
sends_frame s frame = record {
  state = record s { work = [] };
  sends = (1, body.Eth frame) ∷ [];
  lines = (codes "tx " ++ decimal (length frame)) ∷ [];
}

abbrev pub drops_frame : Adapter → Reaction Adapter
drops_frame s = record { state = record s { work = [] }; sends = []; lines = codes "drop size" ∷ [] }

-- the frame that is sent of what was read
abbrev pub frame_of : Adapter → TxDesc → List ℕ
frame_of s d = padded s.regs (checksummed d s.work)

-- a frame of 14 to 1,514 bytes is sent, any other dropped
unfoldable pub completes : Adapter → TxDesc → Reaction Adapter
completes s d =
    if nat_lt (length s.work) 14 || nat_lt 1514 (length s.work)
    then drops_frame s
    else sends_frame s (frame_of s d)

-- one byte at place 12 of the descriptor, with DD set
abbrev pub writes_back : Adapter → (place : ℕ) → TxDesc → Reaction Adapter
writes_back s place d = asks s (Back s.next_id) (body.Dev (dev.Write s.next_id ((place + 12) % 2 ^ 64) (bit_or d.status 1 ∷ [])))

-- with RS the descriptor is written back, else the head advances at once
abbrev pub reports_or_advances : TxDesc → (place : ℕ) → Adapter → Reaction Adapter
reports_or_advances d place s = if reports d then writes_back s place d else rest (advances s)

-- the descriptor's bytes are there
abbrev pub finishes : Adapter → (place : ℕ) → TxDesc → Reaction Adapter
finishes s place d =
    if is_end d then followed_by (completes s d) (reports_or_advances d place) else reports_or_advances d place s

abbrev pub reads_piece : Adapter → (place : ℕ) → (descriptor : List ℕ) → (done : ℕ) → Reaction Adapter
reads_piece s place descriptor done =
    let d = tx_desc_of descriptor in
    asks s (Data s.next_id place descriptor done) (body.Dev (dev.Read s.next_id ((d.addr + done) % 2 ^ 64) (piece d.length done)))

abbrev pub skips : Adapter → Reaction Adapter
skips s = record { state = advances s; sends = []; lines = codes "skip dext" ∷ [] }

-- the next bytes, or the end of the descriptor
abbrev pub goes_on : Adapter → (place : ℕ) → (descriptor : List ℕ) → (done : ℕ) → Reaction Adapter
goes_on s place descriptor done =
    let d = tx_desc_of descriptor in
    if nat_lt done d.length then reads_piece s place descriptor done else finishes s place d

-- whether going on asks for something, for which an id is needed
abbrev pub needs_id : TxDesc → (done : ℕ) → Bool
needs_id d done = nat_lt done d.length || reports d

abbrev pub has_descriptor : Adapter → (place : ℕ) → List ℕ → Reaction Adapter
has_descriptor s place bytes =
    if is_extended (tx_desc_of bytes) then skips s
    else if needs_id (tx_desc_of bytes) 0 && not (has_id s) then rest s
    else goes_on s place bytes 0

abbrev pub piece_read : Adapter → (place : ℕ) → (descriptor : List ℕ) → (done : ℕ) → List ℕ → Reaction Adapter
piece_read s place descriptor done bytes =
    let read = done + length bytes in
    if needs_id (tx_desc_of descriptor) read && not (has_id s) then rest s
    else goes_on (record s { work = s.work ++ bytes }) place descriptor read

-- a completed read: of the descriptor, or of a piece
unfoldable pub tx_read_done : Adapter → TxStep → (id : ℕ) → List ℕ → Reaction Adapter
tx_read_done s (Read asked place) id bytes = if (asked == id) && (length bytes == 16) then has_descriptor s place bytes else rest s
tx_read_done s (Data asked place descriptor done) id bytes =
    if (asked == id) && (length bytes == piece (tx_desc_of descriptor).length done) then piece_read s place descriptor done bytes else rest s
tx_read_done s _ id bytes = rest s

-- the descriptor was written back: the cause TXDW, bit 0, is raised, and the head advances
unfoldable pub tx_write_done : Adapter → TxStep → (id : ℕ) → Reaction Adapter
tx_write_done s (Back asked) id = if asked == id then rest (advances (record s { regs = raised s.regs 0x1 })) else rest s
tx_write_done s _ id = rest s
