-- How long the spelling of a message is.

use Rattle.std.proofs.Common.{◌≡◌, ℕ, ◌+◌, ◌-◌, ◌≤◌, List, length, take, drop, ap, arith, length-drop}
use Rattle.std.proofs.lemmas.List.{length-take}
use Rattle.sb_message.specs.declared.message.Body.{Body}
use Rattle.sb_message.specs.declared.message.Body.TheVariants as body
use Rattle.sb_message.specs.declared.message.Msg.{Msg}
use Rattle.sb_message.specs.Spelling.{SpellsBody, IsSpelled}
use Rattle.pcie_proto.specs.FromDevice as dev
use Rattle.pcie_proto.specs.FromHost as host
use Rattle.mem_proto.specs.Spelling as mem
use Rattle.pcie_proto.specs.declared.from_device.DevMsg.{DevMsg}
use Rattle.pcie_proto.specs.declared.from_device.DevMsg.TheVariants as dev_msg
use Rattle.pcie_proto.specs.declared.from_host.HostMsg.{HostMsg}
use Rattle.pcie_proto.specs.declared.from_host.HostMsg.TheVariants as host_msg
use Rattle.mem_proto.specs.declared.message.MemMsg.{MemMsg}
use Rattle.mem_proto.specs.declared.message.MemMsg.TheVariants as mem_msg

dev_payload : (m : DevMsg) (ty : ℕ) (fields payload : List ℕ) → dev.IsSpelled m ty fields payload → length payload ≤ 2048
dev_payload (dev_msg.Read id addr len) ty fields payload s = let e = ap length s.whole in omega arith
dev_payload (dev_msg.Write id addr bytes) ty fields payload s = let e = ap length s.whole in let r = s.in_range in omega arith
dev_payload (dev_msg.Level high) ty fields payload s = let e = ap length s.whole in omega arith
dev_payload (dev_msg.ReadDone id bytes) ty fields payload s = let e = ap length s.whole in let r = s.in_range in omega arith
dev_payload (dev_msg.WriteDone id) ty fields payload s = let e = ap length s.whole in omega arith

host_payload : (m : HostMsg) (ty : ℕ) (fields payload : List ℕ) → host.IsSpelled m ty fields payload → length payload ≤ 2048
host_payload (host_msg.Read id bar addr len) ty fields payload s = let e = ap length s.whole in omega arith
host_payload (host_msg.Write id bar addr bytes) ty fields payload s = let e = ap length s.whole in let r = s.in_range in omega arith
host_payload (host_msg.ReadDone id bytes) ty fields payload s = let e = ap length s.whole in let r = s.in_range in omega arith
host_payload (host_msg.WriteDone id) ty fields payload s = let e = ap length s.whole in omega arith

mem_payload : (m : MemMsg) (ty : ℕ) (fields payload : List ℕ) → mem.IsSpelled m ty fields payload → length payload ≤ 2048
mem_payload (mem_msg.Read id addr len) ty fields payload s = let e = ap length s.access.whole in omega arith
mem_payload (mem_msg.Write id addr bytes) ty fields payload s = let e = ap length s.access.whole in let r = s.access.in_range in omega arith
mem_payload (mem_msg.ReadDone id bytes) ty fields payload s = let e = ap length s.access.whole in let r = s.access.in_range in omega arith
mem_payload (mem_msg.WriteDone id) ty fields payload s = let e = ap length s.access.whole in omega arith

pub payload_bound : (b : Body) (ty : ℕ) (fields payload : List ℕ) → SpellsBody b ty fields payload → length payload ≤ 2048
payload_bound body.Sync ty fields payload s = let e = ap length s.no_payload in omega arith
payload_bound (body.Intro i) ty fields payload s = let e = ap length s.no_payload in omega arith
payload_bound (body.Dev m) ty fields payload s = dev_payload m ty fields payload s
payload_bound (body.Host m) ty fields payload s = host_payload m ty fields payload s
payload_bound (body.Mem m) ty fields payload s = mem_payload m ty fields payload s
payload_bound (body.Eth frame) ty fields payload s = let e = ap length s.whole in let r = s.is_frame in omega arith

-- a message has 64 to 2,112 bytes
pub spelled_length : (m : Msg) (bytes : List ℕ) → IsSpelled m bytes → (64 ≤ length bytes) × (length bytes ≤ 2112)
spelled_length m bytes s =
    let most : length (drop 64 bytes) ≤ 2048 = payload_bound m.body s.ty (take 48 bytes) (drop 64 bytes) s.row in
    let last : length (take 1 (drop 63 bytes)) ≡ 1 = ap length s.owned.written in
    (omega (arith, length-take 1 (drop 63 bytes), length-drop 63 bytes), omega (arith, length-drop 64 bytes))
