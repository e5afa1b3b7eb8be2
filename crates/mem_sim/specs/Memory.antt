-- The memory device: a list of bytes that is read and written over a memory link. It answers at once.
use Rattle.std.specs.Prelude.{ℕ, List, [], ◌∷◌, ◌++◌, length, replicate, codes, decimal, None, ⊤, if◌then◌else◌}
use Rattle.cs_base.specs.Texts.{hexadecimal}
use Rattle.cs_base.specs.declared.configs.MemoryConfig.{MemoryConfig}
use Rattle.cs_base.specs.declared.port_kind.PortKind.TheVariants.{MemDev}
use Rattle.mem_proto.specs.declared.message.MemMsg.{MemMsg}
use Rattle.mem_proto.specs.declared.message.MemMsg.TheVariants as mem
use Rattle.sb_message.specs.declared.message.Body.{Body}
use Rattle.sb_message.specs.declared.message.Body.TheVariants as body
use Rattle.device_api.specs.Behaviour.{Reaction, Behaviour}
use Rattle.device_api.specs.World.{rest}
use Rattle.ram_map.specs.Contents.{is_within, bytes_at, copied_in, filled}

-- zeros at the start
abbrev pub started : MemoryConfig → List ℕ
started config = filled config.size []

abbrev pub access_line : List ℕ → ℕ → ℕ → List ℕ
access_line word address size = word ++ hexadecimal address ++ 32 ∷ decimal size

abbrev pub fault_line : ℕ → List ℕ
fault_line address = codes "fault " ++ hexadecimal address

-- an answer, and what is logged
abbrev pub answers : List ℕ → MemMsg → List ℕ → Reaction (List ℕ)
answers bytes answer line = record { state = bytes; sends = (0, body.Mem answer) ∷ []; lines = line ∷ [] }

-- a read that isn't wholly inside is answered with zeros
abbrev pub reads : List ℕ → (id address size : ℕ) → Reaction (List ℕ)
reads bytes id address size = if is_within bytes address size then answers bytes (mem.ReadDone id (bytes_at bytes address size)) (access_line (codes "read ") address size) else answers bytes (mem.ReadDone id (replicate size 0)) (fault_line address)

-- of a write that isn't wholly inside nothing is stored
abbrev pub writes : List ℕ → (id address : ℕ) → List ℕ → Reaction (List ℕ)
writes bytes id address written = if is_within bytes address (length written) then answers (copied_in bytes address written) (mem.WriteDone id) (access_line (codes "write ") address (length written)) else answers bytes (mem.WriteDone id) (fault_line address)

abbrev pub takes : List ℕ → MemMsg → Reaction (List ℕ)
takes bytes (mem.Read id address size) = reads bytes id address size
takes bytes (mem.Write id address written) = writes bytes id address written
takes bytes other = rest bytes

abbrev pub memory_take : List ℕ → Body → Reaction (List ℕ)
memory_take bytes (body.Mem message) = takes bytes message
memory_take bytes other = rest bytes

-- its one port is a device's of a memory link, and it does nothing by itself
abbrev pub memory : Behaviour (List ℕ)
memory = record { ports = λ bytes. MemDev ∷ []; due = λ bytes. None; take = λ bytes t port arrived. memory_take bytes arrived; tick = λ bytes t. rest bytes }

-- nothing in it depends on time
abbrev pub IsSettledMemory : List ℕ → ℕ → Type 0
IsSettledMemory bytes x = ⊤
