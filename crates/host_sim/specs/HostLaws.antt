-- The host keeps what every device keeps.
use Rattle.std.specs.Prelude.{ℕ, ◌≡◌, ◌+◌, ◌-◌, ◌*◌, ◌/◌, ◌%◌, ◌≤◌, ◌<◌, ◌⊎◌, zero, suc, Bool, true, false, ◌&&◌, nat_lt, nat_le, ◌==◌, List, [], ◌∷◌, ◌++◌, length, replicate, slice_get, Option, Some, None, All, ⊤, if◌then◌else◌, refl}
use Rattle.std.proofs.Common.{ap, sym, subst, arith, inl, inr, ◌∙◌}
use Rattle.std.proofs.lemmas.List.{length-replicate}
use Rattle.std.proofs.lemmas.Option.{none-some}
use Rattle.std.proofs.lemmas.Bool.{and_parts, false≢true}
use Rattle.std.proofs.lemmas.Bool.Decides.{nat_tests}
use Rattle.std.proofs.lemmas.List.Elements.{All-nil, All-cons}
use Rattle.cs_base.specs.declared.configs.HostConfig.{HostConfig}
use Rattle.cs_base.specs.declared.port_kind.PortKind.{PortKind}
use Rattle.cs_base.specs.declared.port_kind.PortKind.TheVariants.{Eth, PcieDev, PcieHost, MemDev, MemHost}
use Rattle.mem_proto.specs.declared.message.MemMsg.{MemMsg}
use Rattle.mem_proto.specs.declared.message.MemMsg.TheVariants as mem
use Rattle.pcie_proto.specs.declared.from_device.DevMsg.{DevMsg}
use Rattle.pcie_proto.specs.declared.from_device.DevMsg.TheVariants as dev
use Rattle.pcie_proto.specs.declared.from_host.HostMsg.{HostMsg}
use Rattle.sb_message.specs.declared.message.Body.{Body}
use Rattle.sb_message.specs.declared.message.Body.TheVariants as body
use Rattle.sb_message.specs.Receivable.{MayReceive, MaySend, is_event, is_pcie_host}
use Rattle.device_api.specs.Behaviour.{Reaction, IsLawful, IsOrderly, IsNotPast, IsLater}
use Rattle.device_api.specs.World.{rest}
use Rattle.rv32_core.specs.declared.act.Act.{Act}
use Rattle.rv32_core.specs.declared.act.Act.TheVariants as act
use Rattle.rv32_core.specs.declared.pending.Pending.TheVariants as access
use Rattle.rv32_core.specs.CoreState.{CoreState}
use Rattle.rv32_core.specs.Execution.{takes_interrupt}
use Rattle.ram_map.specs.declared.map.Map.{Map}
use Rattle.ram_map.specs.declared.place.Place.{Place}
use Rattle.ram_map.specs.declared.place.Place.TheVariants as place
use Rattle.ram_map.specs.Places.{placed, device_place, bar_place, window_place, word_place, is_in}
use Rattle.host_sim.specs.declared.state.HostState.{HostState}
use Rattle.host_sim.specs.declared.state.HostState.TheVariants.{Due, Access, Asleep, Halted}
use Rattle.host_sim.specs.Machine.{Machine, ports_of, due_of, due_after}
use Rattle.host_sim.specs.Console.{flushes, prints, ends, halts, traps}
use Rattle.host_sim.specs.Accesses.{finishes, after_load, after_store, last_id, asks, asks_load, asks_store, loads_at, loads, stores_console, stores_halt, stores_ram, stores_at, stores, acts}
use Rattle.host_sim.specs.Arrivals.{is_awaited, is_load_of, is_store, read_done, write_done, sets_level, dma_read, dma_write, takes_dev, takes_mem}
use Rattle.host_sim.specs.Sound.{Fits, IsSound}
use Rattle.host_sim.specs.Parts.{IsOf}
use Rattle.host_sim.specs.Host.{instructs, interrupts, runs, ticks_once, takes, host, IsSettledHost}
use Rattle.host_sim.specs.HostKeeps.{Sizes, sizes_of, Keeps, KeepsAt, takes_keep, ticks_keep}

-- WHAT IS SENT

-- what is sent has a property
abbrev pub Sends : (ℕ × Body → Type 0) → Reaction Machine → Type 0
Sends P r = All P r.sends

one : (P : ℕ × Body → Type 0) (port : ℕ) (message : Body) → P (port, message) → All P ((port, message) ∷ [])
one P port message p = All-cons P (port, message) [] p (All-nil P)

either : (P : ℕ × Body → Type 0) (b : Bool) (x y : Reaction Machine) → Sends P x → Sends P y → Sends P (if b then x else y)
either P true x y p q = p
either P false x y p q = q

flushes_sends : (P : ℕ × Body → Type 0) (s : Machine) → Sends P (flushes s)
unfolding flushes
flushes_sends P s = All-nil P

prints_sends : (P : ℕ × Body → Type 0) (s : Machine) (byte : ℕ) → Sends P (prints s byte)
unfolding prints
prints_sends P s byte =
    either P (byte == 0x0A) _ _ (flushes_sends P s) (either P (nat_le 120 (length s.kept + 1)) _ _ (flushes_sends P _) (All-nil P))

ends_sends : (P : ℕ × Body → Type 0) (s : Machine) → Sends P (ends s)
unfolding ends
ends_sends P s = either P (length s.kept == 0) _ _ (All-nil P) (flushes_sends P _)

halts_sends : (P : ℕ × Body → Type 0) (s : Machine) (value : ℕ) → Sends P (halts s value)
unfolding halts
halts_sends P s value = ends_sends P s

traps_sends : (P : ℕ × Body → Type 0) (s : Machine) (cause : ℕ) → Sends P (traps s cause)
unfolding traps
traps_sends P s cause = either P (s.core.mtvec == 0) (ends s) (rest s) (ends_sends P s) (All-nil P)

finishes_sends : (P : ℕ × Body → Type 0) (s : Machine) (did : Act) → Sends P (finishes s did)
unfolding finishes
finishes_sends P s (act.Trapped cause) = traps_sends P s cause
finishes_sends P s act.Done = All-nil P
finishes_sends P s act.Wait = All-nil P
finishes_sends P s (act.Load address size) = All-nil P
finishes_sends P s (act.Store address size value) = All-nil P

load_sends : (P : ℕ × Body → Type 0) (s : Machine) (value : Option ℕ) → Sends P (after_load s value)
unfolding after_load
load_sends P s value = finishes_sends P _ _

store_sends : (P : ℕ × Body → Type 0) (s : Machine) (done : Bool) → Sends P (after_store s done)
unfolding after_store
store_sends P s done = finishes_sends P _ _

asks_sends : (P : ℕ × Body → Type 0) (s : Machine) (port : ℕ) (message : Body) → P (port, message) → Sends P (asks s port message)
unfolding asks
asks_sends P s port message p = one P port message p

asks_load_sends : (P : ℕ × Body → Type 0) (s : Machine) (port : ℕ) (message : Body) → P (port, message) → Sends P (asks_load s port message)
unfolding asks_load
asks_load_sends P s port message p = either P (s.next_id == last_id) _ _ (load_sends P s None) (asks_sends P s port message p)

asks_store_sends : (P : ℕ × Body → Type 0) (s : Machine) (port : ℕ) (message : Body) → P (port, message) → Sends P (asks_store s port message)
unfolding asks_store
asks_store_sends P s port message p = either P (s.next_id == last_id) _ _ (store_sends P s false) (asks_sends P s port message p)

-- what may be asked for at a place has the property
abbrev pub AsksWell : (ℕ × Body → Type 0) → Place → Type 0
AsksWell P (place.Bar port offset) = (message : HostMsg) → P (port, body.Host message)
AsksWell P (place.Window port offset) =
    ((id address len : ℕ) → P (port, body.Mem (mem.Read id address len)))
    × ((id address : ℕ) (bytes : List ℕ) → P (port, body.Mem (mem.Write id address bytes)))
AsksWell P _ = ⊤

loads_at_sends : (P : ℕ × Body → Type 0) (s : Machine) (size : ℕ) (at : Place) → AsksWell P at → Sends P (loads_at s size at)
unfolding loads_at
loads_at_sends P s size (place.Ram offset) well = load_sends P s _
loads_at_sends P s size place.Cycles well = load_sends P s _
loads_at_sends P s size (place.Bar port offset) well = asks_load_sends P s port _ (well _)
loads_at_sends P s size (place.Window port offset) well = asks_load_sends P s port _ (well.0 _ _ _)
loads_at_sends P s size place.Console well = load_sends P s _
loads_at_sends P s size place.Halt well = load_sends P s _
loads_at_sends P s size place.Nowhere well = load_sends P s _

console_sends : (P : ℕ × Body → Type 0) (s : Machine) (size value : ℕ) → Sends P (stores_console s size value)
unfolding stores_console
console_sends P s size value = either P (size == 1) _ _ (prints_sends P _ _) (store_sends P s false)

halt_sends : (P : ℕ × Body → Type 0) (s : Machine) (size value : ℕ) → Sends P (stores_halt s size value)
unfolding stores_halt
halt_sends P s size value = either P (size == 4) _ _ (halts_sends P _ _) (store_sends P s false)

ram_sends : (P : ℕ × Body → Type 0) (s : Machine) (offset size value : ℕ) → Sends P (stores_ram s offset size value)
unfolding stores_ram
ram_sends P s offset size value = store_sends P _ _

stores_at_sends : (P : ℕ × Body → Type 0) (s : Machine) (size value : ℕ) (at : Place) → AsksWell P at → Sends P (stores_at s size value at)
unfolding stores_at
stores_at_sends P s size value (place.Ram offset) well = ram_sends P s offset size value
stores_at_sends P s size value place.Console well = console_sends P s size value
stores_at_sends P s size value place.Halt well = halt_sends P s size value
stores_at_sends P s size value (place.Bar port offset) well = asks_store_sends P s port _ (well _)
stores_at_sends P s size value (place.Window port offset) well = asks_store_sends P s port _ (well.1 _ _ _)
stores_at_sends P s size value place.Cycles well = store_sends P s false
stores_at_sends P s size value place.Nowhere well = store_sends P s false

acts_sends : (P : ℕ × Body → Type 0) (s : Machine) (did : Act) → ((address : ℕ) → AsksWell P (placed s.map address)) → Sends P (acts s did)
unfolding acts loads stores
acts_sends P s act.Done well = All-nil P
acts_sends P s act.Wait well = All-nil P
acts_sends P s (act.Trapped cause) well = traps_sends P s cause
acts_sends P s (act.Load address size) well = loads_at_sends P s size _ (well address)
acts_sends P s (act.Store address size value) well = stores_at_sends P s size value _ (well address)

instructs_sends : (P : ℕ × Body → Type 0) (s : Machine) → ((address : ℕ) → AsksWell P (placed s.map address)) → Sends P (instructs s)
unfolding instructs
instructs_sends P s well = acts_sends P _ _ well

interrupts_sends : (P : ℕ × Body → Type 0) (s : Machine) → Sends P (interrupts s)
unfolding interrupts
interrupts_sends P s = traps_sends P _ _

runs_sends : (P : ℕ × Body → Type 0) (s : Machine) → ((address : ℕ) → AsksWell P (placed s.map address)) → Sends P (runs s)
unfolding runs
runs_sends P s well = either P (takes_interrupt s.core) _ _ (interrupts_sends P s) (instructs_sends P s well)

ticks_sends : (P : ℕ × Body → Type 0) (s : Machine) (t : ℕ) → ((address : ℕ) → AsksWell P (placed s.map address)) → Sends P (ticks_once s t)
unfolding ticks_once
ticks_sends P s t well = runs_sends P (due_after s t) well

read_done_sends : (P : ℕ × Body → Type 0) (s : Machine) (t port id : ℕ) (bytes : List ℕ) → Sends P (read_done s t port id bytes)
unfolding read_done
read_done_sends P s t port id bytes =
    either P (is_awaited s.phase port id && is_load_of s.core.pending (length bytes)) _ _ (load_sends P _ _) (All-nil P)

write_done_sends : (P : ℕ × Body → Type 0) (s : Machine) (t port id : ℕ) → Sends P (write_done s t port id)
unfolding write_done
write_done_sends P s t port id =
    either P (is_awaited s.phase port id && is_store s.core.pending) _ _ (store_sends P _ _) (All-nil P)

dev_sends : (P : ℕ × Body → Type 0) (s : Machine) (t port : ℕ) (message : DevMsg) → ((answer : HostMsg) → P (port, body.Host answer)) → Sends P (takes_dev s t port message)
unfolding takes_dev dma_read dma_write sets_level
dev_sends P s t port (dev.Read id address len) p = one P port _ (p _)
dev_sends P s t port (dev.Write id address bytes) p = one P port _ (p _)
dev_sends P s t port (dev.Level high) p = All-nil P
dev_sends P s t port (dev.ReadDone id bytes) p = read_done_sends P s t port id bytes
dev_sends P s t port (dev.WriteDone id) p = write_done_sends P s t port id

mem_sends : (P : ℕ × Body → Type 0) (s : Machine) (t port : ℕ) (message : MemMsg) → Sends P (takes_mem s t port message)
unfolding takes_mem
mem_sends P s t port (mem.ReadDone id bytes) = read_done_sends P s t port id bytes
mem_sends P s t port (mem.WriteDone id) = write_done_sends P s t port id
mem_sends P s t port (mem.Read id address len) = All-nil P
mem_sends P s t port (mem.Write id address bytes) = All-nil P

-- what an answer to a device has, if the body is from one
abbrev pub AnswersWell : (ℕ × Body → Type 0) → ℕ → Body → Type 0
AnswersWell P port (body.Dev message) = (answer : HostMsg) → P (port, body.Host answer)
AnswersWell P port _ = ⊤

takes_sends : (P : ℕ × Body → Type 0) (s : Machine) (t port : ℕ) (arrived : Body) → AnswersWell P port arrived → Sends P (takes s t port arrived)
unfolding takes
takes_sends P s t port (body.Dev message) p = dev_sends P s t port message p
takes_sends P s t port (body.Mem message) p = mem_sends P s t port message
takes_sends P s t port body.Sync p = All-nil P
takes_sends P s t port (body.Intro intro) p = All-nil P
takes_sends P s t port (body.Host message) p = All-nil P
takes_sends P s t port (body.Eth message) p = All-nil P

-- each send is an event

events_at : (at : Place) → AsksWell (λ (sent : ℕ × Body). is_event sent.1 ≡ true) at
events_at (place.Ram offset) = tt
events_at place.Cycles = tt
events_at place.Console = tt
events_at place.Halt = tt
events_at place.Nowhere = tt
events_at (place.Bar port offset) = λ message. refl
events_at (place.Window port offset) = (λ id address len. refl, λ id address bytes. refl)

answer_events : (port : ℕ) (arrived : Body) → AnswersWell (λ (sent : ℕ × Body). is_event sent.1 ≡ true) port arrived
answer_events port (body.Dev message) = λ answer. refl
answer_events port (body.Mem message) = tt
answer_events port body.Sync = tt
answer_events port (body.Intro intro) = tt
answer_events port (body.Host message) = tt
answer_events port (body.Eth message) = tt

-- each send is by a port that may send it

at_pcie : (n port : ℕ) (others : List PortKind) → port < n → slice_get (replicate n PcieHost ++ others) port ≡ Some PcieHost
at_pcie zero port others lt = absurd (omega arith)
at_pcie (suc n) zero others lt = refl
at_pcie (suc n) (suc port) others lt = at_pcie n port others (omega arith)

at_mem_alone : (n port : ℕ) → port < n → slice_get (replicate n MemHost) port ≡ Some MemHost
at_mem_alone zero port lt = absurd (omega arith)
at_mem_alone (suc n) zero lt = refl
at_mem_alone (suc n) (suc port) lt = at_mem_alone n port (omega arith)

at_mem : (n m port : ℕ) → n ≤ port → port < n + m → slice_get (replicate n PcieHost ++ replicate m MemHost) port ≡ Some MemHost
at_mem zero m port le lt = at_mem_alone m port (omega arith)
at_mem (suc n) m zero le lt = absurd (omega arith)
at_mem (suc n) m (suc port) le lt = at_mem n m port (omega arith) (omega arith)

-- the kind of each port, as the code tells it
pub kind_below : (m : Map) (port : ℕ) → port < m.pcie → slice_get (ports_of m) port ≡ Some PcieHost
kind_below m port lt = at_pcie m.pcie port (replicate m.mem MemHost) lt

pub kind_from : (m : Map) (port : ℕ) → m.pcie ≤ port → port < m.pcie + m.mem → slice_get (ports_of m) port ≡ Some MemHost
kind_from m port le lt = at_mem m.pcie m.mem port le lt

length_of_ports : (n m : ℕ) → length (replicate n PcieHost ++ replicate m MemHost) ≡ n + m
length_of_ports zero m = length-replicate m MemHost ∙ (let e : m ≡ 0 + m = omega arith in e)
length_of_ports (suc n) m = ap suc (length_of_ports n m) ∙ (let e : suc (n + m) ≡ suc n + m = omega arith in e)

pub ports_count : (m : Map) → length (ports_of m) ≡ m.pcie + m.mem
ports_count m = length_of_ports m.pcie m.mem

bar_sends : (m : Map) (offset : ℕ) → offset < m.pcie * 0x10_0000 → AsksWell (λ (sent : ℕ × Body). MaySend (ports_of m) sent.0 sent.1) (bar_place offset)
bar_sends m offset lt = at (nat_le 0x2_0000 (offset % 0x10_0000))
  where
    at : (b : Bool) → AsksWell (λ (sent : ℕ × Body). MaySend (ports_of m) sent.0 sent.1) (if b then place.Nowhere else place.Bar (offset / 0x10_0000) (offset % 0x10_0000))
    at true = tt
    at false = λ message. record { kind = PcieHost; at_port = kind_below m (offset / 0x10_0000) (omega arith); fits = refl; event = refl }

window_sends : (m : Map) (offset : ℕ) → offset < m.mem * 0x100_0000 → AsksWell (λ (sent : ℕ × Body). MaySend (ports_of m) sent.0 sent.1) (window_place m.pcie offset)
window_sends m offset lt =
    let there : slice_get (ports_of m) (m.pcie + offset / 0x100_0000) ≡ Some MemHost = kind_from m (m.pcie + offset / 0x100_0000) (omega arith) (omega arith) in
    (λ id address len. record { kind = MemHost; at_port = there; fits = refl; event = refl }, λ id address bytes. record { kind = MemHost; at_port = there; fits = refl; event = refl })

word_sends : (P : ℕ × Body → Type 0) (address : ℕ) → AsksWell P (word_place address)
word_sends P address = console (address == 0x1000_0000)
  where
    cycles : (b : Bool) → AsksWell P (if b then place.Cycles else place.Nowhere)
    cycles true = tt
    cycles false = tt

    halt : (b : Bool) → AsksWell P (if b then place.Halt else if address == 0x1000_0008 then place.Cycles else place.Nowhere)
    halt true = tt
    halt false = cycles (address == 0x1000_0008)

    console : (b : Bool) → AsksWell P (if b then place.Console else if address == 0x1000_0004 then place.Halt else if address == 0x1000_0008 then place.Cycles else place.Nowhere)
    console true = tt
    console false = halt (address == 0x1000_0004)

placed_sends : (m : Map) (address : ℕ) → AsksWell (λ (sent : ℕ × Body). MaySend (ports_of m) sent.0 sent.1) (placed m address)
placed_sends m address = ram (is_in 0x8000_0000 m.ram address)
  where
    window : (b : Bool) → is_in 0x6000_0000 (m.mem * 0x100_0000) address ≡ b → AsksWell (λ (sent : ℕ × Body). MaySend (ports_of m) sent.0 sent.1) (if b then window_place m.pcie (address - 0x6000_0000) else word_place address)
    window true is =
        let parts : (nat_le 0x6000_0000 address ≡ true) × (nat_lt (address - 0x6000_0000) (m.mem * 0x100_0000) ≡ true) = and_parts (nat_le 0x6000_0000 address) (nat_lt (address - 0x6000_0000) (m.mem * 0x100_0000)) is in
        window_sends m (address - 0x6000_0000) (grind (arith, nat_tests, parts.1))
    window false is = word_sends (λ (sent : ℕ × Body). MaySend (ports_of m) sent.0 sent.1) address

    bar : (b : Bool) → is_in 0x4000_0000 (m.pcie * 0x10_0000) address ≡ b → AsksWell (λ (sent : ℕ × Body). MaySend (ports_of m) sent.0 sent.1) (if b then bar_place (address - 0x4000_0000) else if is_in 0x6000_0000 (m.mem * 0x100_0000) address then window_place m.pcie (address - 0x6000_0000) else word_place address)
    bar true is =
        let parts : (nat_le 0x4000_0000 address ≡ true) × (nat_lt (address - 0x4000_0000) (m.pcie * 0x10_0000) ≡ true) = and_parts (nat_le 0x4000_0000 address) (nat_lt (address - 0x4000_0000) (m.pcie * 0x10_0000)) is in
        bar_sends m (address - 0x4000_0000) (grind (arith, nat_tests, parts.1))
    bar false is = window (is_in 0x6000_0000 (m.mem * 0x100_0000) address) refl

    ram : (b : Bool) → AsksWell (λ (sent : ℕ × Body). MaySend (ports_of m) sent.0 sent.1) (if b then place.Ram (address - 0x8000_0000) else device_place m address)
    ram true = tt
    ram false = bar (is_in 0x4000_0000 (m.pcie * 0x10_0000) address) refl

-- an answer goes back by the port of its request
answers_may : (ports : List PortKind) (port : ℕ) (arrived : Body) → MayReceive ports port arrived → AnswersWell (λ (sent : ℕ × Body). MaySend ports sent.0 sent.1) port arrived
answers_may ports port (body.Dev message) may = λ answer. at may.kind may.at_port may.fits answer
  where
    at : (kind : PortKind) → slice_get ports port ≡ Some kind → is_pcie_host kind ≡ true → (answer : HostMsg) → MaySend ports port (body.Host answer)
    at PcieHost there fits answer = record { kind = PcieHost; at_port = there; fits = refl; event = refl }
    at Eth there fits answer = absurd (false≢true fits)
    at PcieDev there fits answer = absurd (false≢true fits)
    at MemDev there fits answer = absurd (false≢true fits)
    at MemHost there fits answer = absurd (false≢true fits)
answers_may ports port (body.Mem message) may = tt
answers_may ports port body.Sync may = tt
answers_may ports port (body.Intro intro) may = tt
answers_may ports port (body.Host message) may = tt
answers_may ports port (body.Eth message) may = tt

-- THE LAWS

settled_of : (s after : Machine) (x y : ℕ) → IsSettledHost s x → sizes_of after ≡ sizes_of s → IsSound after → IsSettledHost after y
settled_of s after x y settled same sound = record {
  some_cycle = subst (λ (n : ℕ). 1 ≤ n) (sym (ap (λ (z : Sizes). z.cycle) same)) settled.some_cycle;
  few_ports = subst (λ (m : Map). m.pcie + m.mem ≤ 32) (sym (ap (λ (z : Sizes). z.map) same)) settled.few_ports;
  sound = sound;
}

same_ports_of : (s after : Machine) → sizes_of after ≡ sizes_of s → ports_of after.map ≡ ports_of s.map
same_ports_of s after same = ap (λ (z : Sizes). ports_of z.map) same

take_orderly : (s : Machine) (t port : ℕ) (arrived : Body) → MayReceive (ports_of s.map) port arrived → IsNotPast t (due_of s.phase) → IsSettledHost s (t + 1) → IsOrderly host IsSettledHost s t (takes s t port arrived)
take_orderly s t port arrived may due settled =
    let keeps : KeepsAt (sizes_of s) t (takes s t port arrived).state = takes_keep s t port arrived due settled.sound in
    record {
      same_ports = same_ports_of s (takes s t port arrived).state keeps.same;
      settled_after = settled_of s (takes s t port arrived).state (t + 1) (t + 1) settled keeps.same keeps.sound;
      sendable = takes_sends (λ (sent : ℕ × Body). MaySend (ports_of s.map) sent.0 sent.1) s t port arrived (answers_may (ports_of s.map) port arrived may);
    }

tick_orderly : (s : Machine) (t : ℕ) → IsSettledHost s (t + 1) → IsOrderly host IsSettledHost s t (ticks_once s t)
tick_orderly s t settled =
    let keeps : Keeps (sizes_of s) (t + s.cycle) (ticks_once s t).state = ticks_keep s t settled.sound.whole in
    record {
      same_ports = same_ports_of s (ticks_once s t).state keeps.same;
      settled_after = settled_of s (ticks_once s t).state (t + 1) (t + 1) settled keeps.same keeps.sound;
      sendable = ticks_sends (λ (sent : ℕ × Body). MaySend (ports_of s.map) sent.0 sent.1) s t (placed_sends s.map);
    }

later_of : (t cycle : ℕ) (after : HostState) → 1 ≤ cycle → (after ≡ Due (t + cycle)) ⊎ (due_of after ≡ None) → IsLater t (due_of after)
later_of t cycle after some (inl e) = subst (λ (p : HostState). IsLater t (due_of p)) (sym e) (let later : t < t + cycle = omega arith in later)
later_of t cycle after some (inr e) = subst (λ (o : Option ℕ). IsLater t o) (sym e) tt

few_of : (m : Map) → m.pcie + m.mem ≤ 32 → length (ports_of m) ≤ 32
few_of m few = subst (λ (n : ℕ). n ≤ 32) (sym (ports_count m)) few

-- a host that is due waits for no completion
due_fits : (m : Map) (core : CoreState) (next_id : ℕ) (kept : List ℕ) (phase : HostState) (t : ℕ) → due_of phase ≡ Some t → Fits m core next_id kept phase → core.pending ≡ access.Nothing
due_fits m core next_id kept (Due u) t due fits = fits
due_fits m core next_id kept Asleep t due fits = fits.0
due_fits m core next_id kept Halted t due fits = fits.0
due_fits m core next_id kept (Access port id) t due fits = absurd (none-some t due)

pub due_free : (s : Machine) (t x : ℕ) → due_of s.phase ≡ Some t → IsSettledHost s x → s.core.pending ≡ access.Nothing
due_free s t x due settled = due_fits s.map s.core s.next_id s.kept s.phase t due settled.sound.fits

-- a host of a configuration stays one
of_same : (config : HostConfig) (s after : Machine) → sizes_of after ≡ sizes_of s → IsOf config s → IsOf config after
of_same config s after same is = record {
  map = ap (λ (z : Sizes). z.map) same ∙ is.map;
  cycle = ap (λ (z : Sizes). z.cycle) same ∙ is.cycle;
  hart = ap (λ (z : Sizes). z.hart) same ∙ is.hart;
}

pub takes_of : (config : HostConfig) (s : Machine) (t port : ℕ) (arrived : Body) → IsNotPast t (due_of s.phase) → IsSettledHost s (t + 1) → IsOf config s → IsOf config (takes s t port arrived).state
takes_of config s t port arrived due settled is = of_same config s (takes s t port arrived).state (takes_keep s t port arrived due settled.sound).same is

pub ticks_of : (config : HostConfig) (s : Machine) (t : ℕ) → IsSettledHost s (t + 1) → IsOf config s → IsOf config (ticks_once s t).state
ticks_of config s t settled is = of_same config s (ticks_once s t).state (ticks_keep s t settled.sound.whole).same is

pub host_lawful : IsLawful host IsSettledHost
host_lawful = record {
  at = λ s. record {
    few_ports = λ x settled. few_of s.map settled.few_ports;
    take_sends_events = λ t port arrived. takes_sends (λ (sent : ℕ × Body). is_event sent.1 ≡ true) s t port arrived (answer_events port arrived);
    tick_sends_events = λ t. ticks_sends (λ (sent : ℕ × Body). is_event sent.1 ≡ true) s t (λ address. events_at (placed s.map address));
    settled_later = λ x y settled le. settled_of s s x y settled refl settled.sound;
    take_orderly = λ t port arrived may due in_run settled. take_orderly s t port arrived may due settled;
    due_after_take = λ t port arrived may due in_run settled. (takes_keep s t port arrived due settled.sound).not_past;
    tick_orderly = λ t due in_run settled. tick_orderly s t settled;
    due_after_tick = λ t due in_run settled. later_of t s.cycle _ settled.some_cycle (ticks_keep s t settled.sound.whole).still_due;
  };
}
