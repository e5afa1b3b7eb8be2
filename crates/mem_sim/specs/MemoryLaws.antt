-- The memory device keeps what every device keeps.
use Rattle.std.specs.Prelude.{ℕ, ◌≡◌, Bool, true, false, List, [], ◌∷◌, length, replicate, codes, if◌then◌else◌, refl}
use Rattle.std.proofs.Common.{arith}
use Rattle.std.proofs.lemmas.Option.{none-some}
use Rattle.std.proofs.lemmas.List.Elements.{All-nil, All-cons}
use Rattle.cs_base.specs.declared.port_kind.PortKind.TheVariants.{MemDev, MemHost}
use Rattle.mem_proto.specs.declared.message.MemMsg.{MemMsg}
use Rattle.mem_proto.specs.declared.message.MemMsg.TheVariants as mem
use Rattle.sb_message.specs.declared.message.Body.{Body}
use Rattle.sb_message.specs.declared.message.Body.TheVariants as body
use Rattle.sb_message.specs.Receivable.{MaySend, is_event, is_receiver}
use Rattle.device_api.specs.Behaviour.{Reaction, IsLawful, IsOrderly, AreEvents}
use Rattle.device_api.specs.World.{rest}
use Rattle.ram_map.specs.Contents.{is_within, bytes_at, copied_in}
use Rattle.mem_sim.specs.Memory.{access_line, fault_line, answers, takes, memory_take, memory, IsSettledMemory}

-- what each reaction keeps
pub record Keeps (bytes : List ℕ) (r : Reaction (List ℕ)) : Type 0 where
  pub events : AreEvents r.sends
  pub orderly : (t : ℕ) → IsOrderly memory IsSettledMemory bytes t r

either : (bytes : List ℕ) (b : Bool) (r other : Reaction (List ℕ)) → Keeps bytes r → Keeps bytes other → Keeps bytes (if b then r else other)
either bytes true r other keeps keeps_other = keeps
either bytes false r other keeps keeps_other = keeps_other

rest_keeps : (bytes : List ℕ) → Keeps bytes (rest bytes)
rest_keeps bytes = record {
  events = All-nil (λ (sent : ℕ × Body). is_event sent.1 ≡ true);
  orderly = λ t. record { same_ports = refl; settled_after = tt; sendable = All-nil (λ (sent : ℕ × Body). MaySend (MemDev ∷ []) sent.0 sent.1) };
}

answer_keeps : (bytes after : List ℕ) (answer : MemMsg) (line : List ℕ) → is_receiver answer MemHost ≡ true → Keeps bytes (answers after answer line)
answer_keeps bytes after answer line fits = record {
  events = All-cons (λ (sent : ℕ × Body). is_event sent.1 ≡ true) (0, body.Mem answer) [] refl (All-nil (λ (sent : ℕ × Body). is_event sent.1 ≡ true));
  orderly = λ t. record {
    same_ports = refl;
    settled_after = tt;
    sendable = All-cons (λ (sent : ℕ × Body). MaySend (MemDev ∷ []) sent.0 sent.1) (0, body.Mem answer) [] (record { kind = MemDev; at_port = refl; fits = fits; event = refl }) (All-nil (λ (sent : ℕ × Body). MaySend (MemDev ∷ []) sent.0 sent.1));
  };
}

takes_keep : (bytes : List ℕ) (message : MemMsg) → Keeps bytes (takes bytes message)
takes_keep bytes (mem.Read id address size) = either bytes (is_within bytes address size) (answers bytes (mem.ReadDone id (bytes_at bytes address size)) (access_line (codes "read ") address size)) (answers bytes (mem.ReadDone id (replicate size 0)) (fault_line address)) (answer_keeps bytes bytes (mem.ReadDone id (bytes_at bytes address size)) (access_line (codes "read ") address size) refl) (answer_keeps bytes bytes (mem.ReadDone id (replicate size 0)) (fault_line address) refl)
takes_keep bytes (mem.Write id address written) = either bytes (is_within bytes address (length written)) (answers (copied_in bytes address written) (mem.WriteDone id) (access_line (codes "write ") address (length written))) (answers bytes (mem.WriteDone id) (fault_line address)) (answer_keeps bytes (copied_in bytes address written) (mem.WriteDone id) (access_line (codes "write ") address (length written)) refl) (answer_keeps bytes bytes (mem.WriteDone id) (fault_line address) refl)
takes_keep bytes other = rest_keeps bytes

memory_keeps : (bytes : List ℕ) (arrived : Body) → Keeps bytes (memory_take bytes arrived)
memory_keeps bytes (body.Mem message) = takes_keep bytes message
memory_keeps bytes other = rest_keeps bytes

pub memory_lawful : IsLawful memory IsSettledMemory
memory_lawful = record {
  at = λ s. record {
    few_ports = λ x settled. omega arith;
    take_sends_events = λ t port arrived. (memory_keeps s arrived).events;
    tick_sends_events = λ t. (rest_keeps s).events;
    settled_later = λ x y settled le. tt;
    take_orderly = λ t port arrived may due in_run settled. (memory_keeps s arrived).orderly t;
    due_after_take = λ t port arrived may due in_run settled. tt;
    tick_orderly = λ t due in_run settled. absurd (none-some t due);
    due_after_tick = λ t due in_run settled. tt;
  };
}
