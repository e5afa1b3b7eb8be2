-- The host: a device that runs an instruction each cycle, or takes an interrupt.
use Rattle.std.specs.Prelude.{ℕ, ◌+◌, ◌-◌, ◌%◌, ◌^◌, ◌≤◌, nat_le, List, Option, None, if◌then◌else◌}
use Rattle.sb_message.specs.declared.message.Body.{Body}
use Rattle.sb_message.specs.declared.message.Body.TheVariants as body
use Rattle.device_api.specs.Behaviour.{Reaction, Behaviour}
use Rattle.device_api.specs.World.{rest}
use Rattle.rv32_core.specs.Execution.{stepped, interrupted, takes_interrupt}
use Rattle.ram_map.specs.Contents.{loaded}
use Rattle.host_sim.specs.Machine.{Machine, ports_of, due_of, due_after, with_core}
use Rattle.host_sim.specs.Console.{traps}
use Rattle.host_sim.specs.Accesses.{acts}
use Rattle.host_sim.specs.Arrivals.{ram_base, takes_dev, takes_mem}
use Rattle.host_sim.specs.Sound.{IsSound}

-- instructions are in RAM alone
abbrev pub fetched : List ℕ → ℕ → Option ℕ
fetched ram pc = if nat_le ram_base pc then loaded ram (pc - ram_base) 4 else None

unfoldable pub instructs : Machine → Reaction Machine
instructs s =
    let step = stepped s.core (fetched s.ram s.core.pc) in
    acts (with_core s step.state) step.act

unfoldable pub interrupts : Machine → Reaction Machine
interrupts s = traps (with_core s (interrupted s.core)) 0x8000_000B

unfoldable pub runs : Machine → Reaction Machine
runs s = if takes_interrupt s.core then interrupts s else instructs s

-- the tick is counted when it is over
unfoldable pub ticks_once : Machine → (t : ℕ) → Reaction Machine
ticks_once s t =
    let ran = runs (due_after s t) in
    record {
      state = record ran.state { ticks = (ran.state.ticks + 1) % 2 ^ 64 };
      sends = ran.sends;
      lines = ran.lines;
    }

unfoldable pub takes : Machine → (t port : ℕ) → Body → Reaction Machine
takes s t port (body.Dev message) = takes_dev s t port message
takes s t port (body.Mem message) = takes_mem s t port message
takes s t port _ = rest s

abbrev pub host : Behaviour Machine
host = record { ports = λ s. ports_of s.map; due = λ s. due_of s.phase; take = takes; tick = ticks_once }

-- the facts of a host that stay as they are whatever it does; they depend on no time
pub record IsSettledHost (s : Machine) (x : ℕ) : Type 0 where
  pub some_cycle : 1 ≤ s.cycle
  pub few_ports : s.map.pcie + s.map.mem ≤ 32
  pub sound : IsSound s
