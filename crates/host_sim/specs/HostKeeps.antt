-- What a host keeps, whatever it does.
use Rattle.std.specs.Prelude.{ℕ, zero, suc, ◌≡◌, ◌≢◌, ◌+◌, ◌-◌, ◌≤◌, ◌<◌, ◌⊎◌, Bool, true, false, ◌&&◌, nat_le, ◌==◌, List, [], ◌∷◌, ◌++◌, length, replicate, slice_set, Option, Some, None, if◌then◌else◌, refl}
use Rattle.std.proofs.Common.{ap, sym, subst, arith, inl, inr, ◌∙◌, length-append}
use Rattle.std.proofs.lemmas.List.{length-replicate, length-set, nil_from_length}
use Rattle.std.proofs.lemmas.Bool.{false≢true}
use Rattle.std.proofs.lemmas.Bool.Decides.{nat_tests}
use Rattle.std.proofs.lemmas.List.Elements.{All-nil, All-cons, All-append}
use Rattle.cs_base.specs.declared.configs.HostConfig.{HostConfig}
use Rattle.mem_proto.specs.declared.message.MemMsg.{MemMsg}
use Rattle.mem_proto.specs.declared.message.MemMsg.TheVariants as mem
use Rattle.pcie_proto.specs.declared.from_device.DevMsg.{DevMsg}
use Rattle.pcie_proto.specs.declared.from_device.DevMsg.TheVariants as dev
use Rattle.sb_message.specs.declared.message.Body.{Body}
use Rattle.sb_message.specs.declared.message.Body.TheVariants as body
use Rattle.device_api.specs.Behaviour.{Reaction, IsNotPast}
use Rattle.device_api.specs.World.{rest}
use Rattle.rv32_core.specs.declared.act.Act.{Act}
use Rattle.rv32_core.specs.declared.act.Act.TheVariants as act
use Rattle.rv32_core.specs.declared.pending.Pending.{Pending}
use Rattle.rv32_core.specs.declared.pending.Pending.TheVariants as access
use Rattle.rv32_core.specs.CoreState.{CoreState}
use Rattle.rv32_core.specs.Execution.{Awaits, stepped, trapped, passed, results, finished, load_finished, store_finished, interrupted, takes_interrupt, wakes}
use Rattle.rv32_core.specs.StepLaws.{IsSameLine, Leaves, stepped_awaits, stepped_leaves, load_finished_line, store_finished_line}
use Rattle.ram_map.specs.declared.map.Map.{Map}
use Rattle.ram_map.specs.declared.place.Place.{Place}
use Rattle.ram_map.specs.declared.place.Place.TheVariants as place
use Rattle.ram_map.specs.Places.{placed}
use Rattle.ram_map.specs.Contents.{is_within, stored, copied_in}
use Rattle.ram_map.specs.ContentsLaws.{stored_length, copied_in_length, filled_length}
use Rattle.host_sim.specs.declared.state.HostState.{HostState}
use Rattle.host_sim.specs.declared.state.HostState.TheVariants.{Due, Access, Asleep, Halted}
use Rattle.host_sim.specs.Machine.{Machine, started_with, due_of, due_after, with_core}
use Rattle.host_sim.specs.Console.{flushes, prints, ends, halts, traps}
use Rattle.host_sim.specs.Accesses.{finishes, after_load, after_store, last_id, asks, asks_load, asks_store, loads_at, loads, stored_done, stores_console, stores_halt, stores_ram, stores_at, stores, acts}
use Rattle.host_sim.specs.Arrivals.{is_any_high, is_awaited, is_load_of, is_store, read_done, write_done, with_level, is_asleep, sets_level, is_ram, ram_base, ram_written, dma_read, dma_write, takes_dev, takes_mem}
use Rattle.host_sim.specs.Sound.{IsUnended, port_at, port_asked, Fits, IsWhole, IsSound}
use Rattle.host_sim.specs.Host.{fetched, instructs, interrupts, runs, ticks_once, takes}

-- what no host changes of itself
pub record Sizes : Type 0 where
  pub map : Map
  pub cycle : ℕ
  pub hart : ℕ

abbrev pub sizes_of : Machine → Sizes
sizes_of s = record { map = s.map; cycle = s.cycle; hart = s.core.hart }

-- a host at work, which is due at `due` if nothing else comes of it
record IsAtWork (sizes : Sizes) (due : ℕ) (s : Machine) : Type 0 where
  same : sizes_of s ≡ sizes
  phase : s.phase ≡ Due due
  whole : IsWhole s

-- a host after its work: it is due then or not at all
pub record Keeps (sizes : Sizes) (due : ℕ) (after : Machine) : Type 0 where
  pub same : sizes_of after ≡ sizes
  pub still_due : (after.phase ≡ Due due) ⊎ (due_of after.phase ≡ None)
  pub sound : IsSound after

either_keeps : (sizes : Sizes) (due : ℕ) (b : Bool) (x y : Reaction Machine) → Keeps sizes due x.state → Keeps sizes due y.state → Keeps sizes due (if b then x else y).state
either_keeps sizes due true x y p q = p
either_keeps sizes due false x y p q = q

-- the work is over, and nothing is pending
over : (sizes : Sizes) (due : ℕ) (s : Machine) → IsAtWork sizes due s → s.core.pending ≡ access.Nothing → Keeps sizes due s
over sizes due s work free = record {
  same = work.same;
  still_due = inl work.phase;
  sound = record {
    whole = work.whole;
    fits = subst (λ (p : HostState). Fits s.map s.core s.next_id s.kept p) (sym work.phase) free;
  };
}

-- THE CONSOLE, THE HALT AND THE TRAP

empty_unended : IsUnended []
empty_unended = record { short = omega arith; one_line = All-nil (λ (byte : ℕ). byte ≢ 0x0A) }

longer_unended : (kept : List ℕ) (byte : ℕ) → IsUnended kept → (byte == 0x0A) ≡ false → nat_le 120 (length kept + 1) ≡ false → IsUnended (kept ++ byte ∷ [])
longer_unended kept byte unended other short = record {
  short = let short : length kept + 1 < 120 = grind (arith, nat_tests, short) in omega (arith, length-append kept (byte ∷ []));
  one_line =
      let is_other : byte ≢ 0x0A = grind (arith, nat_tests, other) in
      All-append (λ (byte : ℕ). byte ≢ 0x0A) kept (byte ∷ []) unended.one_line (All-cons (λ (byte : ℕ). byte ≢ 0x0A) byte [] is_other (All-nil (λ (byte : ℕ). byte ≢ 0x0A)));
}

keeping : (sizes : Sizes) (due : ℕ) (s : Machine) (kept : List ℕ) → IsAtWork sizes due s → IsUnended kept → IsAtWork sizes due (record s { kept = kept })
keeping sizes due s kept work unended = record {
  same = work.same;
  phase = work.phase;
  whole = record { ram = work.whole.ram; levels = work.whole.levels; line = work.whole.line; kept = unended };
}

flushed : (sizes : Sizes) (due : ℕ) (s : Machine) → IsAtWork sizes due s → s.core.pending ≡ access.Nothing → Keeps sizes due (record s { kept = [] })
flushed sizes due s work free = over sizes due (record s { kept = [] }) (keeping sizes due s [] work empty_unended) free

prints_keep : (sizes : Sizes) (due : ℕ) (s : Machine) (byte : ℕ) → IsAtWork sizes due s → s.core.pending ≡ access.Nothing → Keeps sizes due (prints s byte).state
unfolding prints flushes
prints_keep sizes due s byte work free = feed (byte == 0x0A) refl
  where
    longer : Machine
    longer = record s { kept = s.kept ++ byte ∷ [] }

    full : (byte == 0x0A) ≡ false → (b : Bool) → nat_le 120 (length s.kept + 1) ≡ b → Keeps sizes due (if b then flushes longer else rest longer).state
    full other true is = flushed sizes due s work free
    full other false is = over sizes due longer (keeping sizes due s (s.kept ++ byte ∷ []) work (longer_unended s.kept byte work.whole.kept other is)) free

    feed : (b : Bool) → (byte == 0x0A) ≡ b → Keeps sizes due (if b then flushes s else if nat_le 120 (length s.kept + 1) then flushes longer else rest longer).state
    feed true is = flushed sizes due s work free
    feed false is = full is (nat_le 120 (length s.kept + 1)) refl

ended : (sizes : Sizes) (due : ℕ) (s : Machine) → IsAtWork sizes due s → s.core.pending ≡ access.Nothing → s.kept ≡ [] → Keeps sizes due (record s { phase = Halted })
ended sizes due s work free empty = record {
  same = work.same;
  still_due = inr refl;
  sound = record {
    whole = record { ram = work.whole.ram; levels = work.whole.levels; line = work.whole.line; kept = work.whole.kept };
    fits = (free, empty);
  };
}

ends_keep : (sizes : Sizes) (due : ℕ) (s : Machine) → IsAtWork sizes due s → s.core.pending ≡ access.Nothing → Keeps sizes due (ends s).state
unfolding ends flushes
ends_keep sizes due s work free = at (length s.kept == 0) refl
  where
    at : (b : Bool) → (length s.kept == 0) ≡ b → Keeps sizes due (if b then rest (record s { phase = Halted }) else flushes (record s { phase = Halted })).state
    at true is = ended sizes due s work free (nil_from_length s.kept (grind (arith, nat_tests, is)))
    at false is = ended sizes due (record s { kept = [] }) (keeping sizes due s [] work empty_unended) free refl

halts_keep : (sizes : Sizes) (due : ℕ) (s : Machine) (value : ℕ) → IsAtWork sizes due s → s.core.pending ≡ access.Nothing → Keeps sizes due (halts s value).state
unfolding halts
halts_keep sizes due s value work free = ends_keep sizes due s work free

traps_keep : (sizes : Sizes) (due : ℕ) (s : Machine) (cause : ℕ) → IsAtWork sizes due s → s.core.pending ≡ access.Nothing → Keeps sizes due (traps s cause).state
unfolding traps
traps_keep sizes due s cause work free =
    either_keeps sizes due (s.core.mtvec == 0) (ends s) (rest s) (ends_keep sizes due s work free) (over sizes due s work free)

-- THE END OF AN ACCESS

finishes_keep : (sizes : Sizes) (due : ℕ) (s : Machine) (did : Act) → IsAtWork sizes due s → s.core.pending ≡ access.Nothing → Keeps sizes due (finishes s did).state
unfolding finishes
finishes_keep sizes due s (act.Trapped cause) work free = traps_keep sizes due s cause work free
finishes_keep sizes due s act.Done work free = over sizes due s work free
finishes_keep sizes due s act.Wait work free = over sizes due s work free
finishes_keep sizes due s (act.Load address size) work free = over sizes due s work free
finishes_keep sizes due s (act.Store address size value) work free = over sizes due s work free

-- another core of the same hart, with its external line as it was
recored : (sizes : Sizes) (due : ℕ) (s : Machine) (core : CoreState) → IsAtWork sizes due s → IsSameLine s.core core → IsAtWork sizes due (with_core s core)
recored sizes due s core work line = record {
  same = ap (λ (hart : ℕ). record { map = s.map; cycle = s.cycle; hart = hart }) line.hart ∙ work.same;
  phase = work.phase;
  whole = record { ram = work.whole.ram; levels = work.whole.levels; line = line.external ∙ work.whole.line; kept = work.whole.kept };
}

finished_free : (c : CoreState) (value : ℕ) (pending : Pending) → (finished c value pending).state.pending ≡ access.Nothing
unfolding results passed
finished_free c value (access.Load at size rd is_signed) = refl
finished_free c value (access.Store at size stored) = refl
finished_free c value access.Nothing = refl

load_free : (c : CoreState) (value : Option ℕ) → (load_finished c value).state.pending ≡ access.Nothing
unfolding load_finished trapped
load_free c None = refl
load_free c (Some value) = finished_free c value c.pending

store_free : (c : CoreState) (done : Bool) → (store_finished c done).state.pending ≡ access.Nothing
unfolding store_finished trapped passed
store_free c true = refl
store_free c false = refl

load_keeps : (sizes : Sizes) (due : ℕ) (s : Machine) (value : Option ℕ) → IsAtWork sizes due s → Keeps sizes due (after_load s value).state
unfolding after_load
load_keeps sizes due s value work =
    let core : CoreState = (load_finished s.core value).state in
    finishes_keep sizes due (with_core s core) _ (recored sizes due s core work (load_finished_line s.core value)) (load_free s.core value)

store_keeps : (sizes : Sizes) (due : ℕ) (s : Machine) (done : Bool) → IsAtWork sizes due s → Keeps sizes due (after_store s done).state
unfolding after_store
store_keeps sizes due s done work =
    let core : CoreState = (store_finished s.core done).state in
    finishes_keep sizes due (with_core s core) _ (recored sizes due s core work (store_finished_line s.core done)) (store_free s.core done)

-- ACCESSES

asks_keep : (sizes : Sizes) (due : ℕ) (s : Machine) (port : ℕ) (message : Body) → IsAtWork sizes due s → port_asked s.map s.core.pending ≡ Some port → Keeps sizes due (asks s port message).state
unfolding asks
asks_keep sizes due s port message work asked = record {
  same = work.same;
  still_due = inr refl;
  sound = record {
    whole = record { ram = work.whole.ram; levels = work.whole.levels; line = work.whole.line; kept = work.whole.kept };
    fits = (asked, omega arith);
  };
}

asks_load_keep : (sizes : Sizes) (due : ℕ) (s : Machine) (port : ℕ) (message : Body) → IsAtWork sizes due s → port_asked s.map s.core.pending ≡ Some port → Keeps sizes due (asks_load s port message).state
unfolding asks_load
asks_load_keep sizes due s port message work asked =
    either_keeps sizes due (s.next_id == last_id) _ _ (load_keeps sizes due s None work) (asks_keep sizes due s port message work asked)

asks_store_keep : (sizes : Sizes) (due : ℕ) (s : Machine) (port : ℕ) (message : Body) → IsAtWork sizes due s → port_asked s.map s.core.pending ≡ Some port → Keeps sizes due (asks_store s port message).state
unfolding asks_store
asks_store_keep sizes due s port message work asked =
    either_keeps sizes due (s.next_id == last_id) _ _ (store_keeps sizes due s false work) (asks_keep sizes due s port message work asked)

loads_at_keep : (sizes : Sizes) (due : ℕ) (s : Machine) (size : ℕ) (at : Place) → IsAtWork sizes due s → port_asked s.map s.core.pending ≡ port_at at → Keeps sizes due (loads_at s size at).state
unfolding loads_at
loads_at_keep sizes due s size (place.Ram offset) work asked = load_keeps sizes due s _ work
loads_at_keep sizes due s size place.Cycles work asked = load_keeps sizes due s _ work
loads_at_keep sizes due s size (place.Bar port offset) work asked = asks_load_keep sizes due s port _ work asked
loads_at_keep sizes due s size (place.Window port offset) work asked = asks_load_keep sizes due s port _ work asked
loads_at_keep sizes due s size place.Console work asked = load_keeps sizes due s _ work
loads_at_keep sizes due s size place.Halt work asked = load_keeps sizes due s _ work
loads_at_keep sizes due s size place.Nowhere work asked = load_keeps sizes due s _ work

done_at_work : (sizes : Sizes) (due : ℕ) (s : Machine) → IsAtWork sizes due s → IsAtWork sizes due (stored_done s)
done_at_work sizes due s work = recored sizes due s (store_finished s.core true).state work (store_finished_line s.core true)

console_keeps : (sizes : Sizes) (due : ℕ) (s : Machine) (size value : ℕ) → IsAtWork sizes due s → Keeps sizes due (stores_console s size value).state
unfolding stores_console
console_keeps sizes due s size value work =
    either_keeps sizes due (size == 1) _ _ (prints_keep sizes due (stored_done s) _ (done_at_work sizes due s work) (store_free s.core true)) (store_keeps sizes due s false work)

halt_keeps : (sizes : Sizes) (due : ℕ) (s : Machine) (size value : ℕ) → IsAtWork sizes due s → Keeps sizes due (stores_halt s size value).state
unfolding stores_halt
halt_keeps sizes due s size value work =
    either_keeps sizes due (size == 4) _ _ (halts_keep sizes due (stored_done s) _ (done_at_work sizes due s work) (store_free s.core true)) (store_keeps sizes due s false work)

ram_keeps : (sizes : Sizes) (due : ℕ) (s : Machine) (offset size value : ℕ) → IsAtWork sizes due s → Keeps sizes due (stores_ram s offset size value).state
unfolding stores_ram
ram_keeps sizes due s offset size value work =
    let after : Machine = record s { ram = stored s.ram offset size value } in
    let at_work : IsAtWork sizes due after = record {
      same = work.same;
      phase = work.phase;
      whole = record { ram = stored_length s.ram offset size value ∙ work.whole.ram; levels = work.whole.levels; line = work.whole.line; kept = work.whole.kept };
    } in
    store_keeps sizes due after (is_within s.ram offset size) at_work

stores_at_keep : (sizes : Sizes) (due : ℕ) (s : Machine) (size value : ℕ) (at : Place) → IsAtWork sizes due s → port_asked s.map s.core.pending ≡ port_at at → Keeps sizes due (stores_at s size value at).state
unfolding stores_at
stores_at_keep sizes due s size value (place.Ram offset) work asked = ram_keeps sizes due s offset size value work
stores_at_keep sizes due s size value place.Console work asked = console_keeps sizes due s size value work
stores_at_keep sizes due s size value place.Halt work asked = halt_keeps sizes due s size value work
stores_at_keep sizes due s size value (place.Bar port offset) work asked = asks_store_keep sizes due s port _ work asked
stores_at_keep sizes due s size value (place.Window port offset) work asked = asks_store_keep sizes due s port _ work asked
stores_at_keep sizes due s size value place.Cycles work asked = store_keeps sizes due s false work
stores_at_keep sizes due s size value place.Nowhere work asked = store_keeps sizes due s false work

-- INSTRUCTIONS

slept : (sizes : Sizes) (due : ℕ) (s : Machine) → IsAtWork sizes due s → s.core.pending ≡ access.Nothing → wakes s.core ≡ false → Keeps sizes due (record s { phase = Asleep })
slept sizes due s work free quiet = record {
  same = work.same;
  still_due = inr refl;
  sound = record {
    whole = record { ram = work.whole.ram; levels = work.whole.levels; line = work.whole.line; kept = work.whole.kept };
    fits = (free, quiet);
  };
}

acts_keep : (sizes : Sizes) (due : ℕ) (s : Machine) (did : Act) → IsAtWork sizes due s → Awaits did s.core.pending → (did ≡ act.Wait → wakes s.core ≡ false) → Keeps sizes due (acts s did).state
unfolding acts loads stores
acts_keep sizes due s act.Done work awaits asleep = over sizes due s work awaits
acts_keep sizes due s act.Wait work awaits asleep = slept sizes due s work awaits (asleep refl)
acts_keep sizes due s (act.Trapped cause) work awaits asleep = traps_keep sizes due s cause work awaits
acts_keep sizes due s (act.Load address size) work awaits asleep =
    loads_at_keep sizes due s size (placed s.map address) work (ap (λ (p : Pending). port_asked s.map p) awaits.2)
acts_keep sizes due s (act.Store address size value) work awaits asleep =
    stores_at_keep sizes due s size value (placed s.map address) work (ap (λ (p : Pending). port_asked s.map p) awaits)

instructs_keep : (sizes : Sizes) (due : ℕ) (s : Machine) → IsAtWork sizes due s → Keeps sizes due (instructs s).state
unfolding instructs
instructs_keep sizes due s work =
    let word : Option ℕ = fetched s.ram s.core.pc in
    let leaves : Leaves s.core (stepped s.core word) = stepped_leaves s.core word in
    acts_keep sizes due (with_core s (stepped s.core word).state) (stepped s.core word).act (recored sizes due s (stepped s.core word).state work leaves.line) (stepped_awaits s.core word) leaves.asleep

interrupts_keep : (sizes : Sizes) (due : ℕ) (s : Machine) → IsAtWork sizes due s → Keeps sizes due (interrupts s).state
unfolding interrupts trapped
interrupts_keep sizes due s work =
    traps_keep sizes due (with_core s (interrupted s.core)) _ (recored sizes due s (interrupted s.core) work (record { external = refl; hart = refl })) refl

runs_keep : (sizes : Sizes) (due : ℕ) (s : Machine) → IsAtWork sizes due s → Keeps sizes due (runs s).state
unfolding runs
runs_keep sizes due s work =
    either_keeps sizes due (takes_interrupt s.core) _ _ (interrupts_keep sizes due s work) (instructs_keep sizes due s work)

begins : (s : Machine) (t : ℕ) → IsWhole s → IsAtWork (sizes_of s) (t + s.cycle) (due_after s t)
begins s t whole = record {
  same = refl;
  phase = refl;
  whole = record { ram = whole.ram; levels = whole.levels; line = whole.line; kept = whole.kept };
}

pub ticks_keep : (s : Machine) (t : ℕ) → IsWhole s → Keeps (sizes_of s) (t + s.cycle) (ticks_once s t).state
unfolding ticks_once
ticks_keep s t whole =
    let ran : Keeps (sizes_of s) (t + s.cycle) (runs (due_after s t)).state = runs_keep (sizes_of s) (t + s.cycle) (due_after s t) (begins s t whole) in
    let still : IsWhole (runs (due_after s t)).state = ran.sound.whole in
    record {
      same = ran.same;
      still_due = ran.still_due;
      sound = record {
        whole = record { ram = still.ram; levels = still.levels; line = still.line; kept = still.kept };
        fits = ran.sound.fits;
      };
    }

-- WHAT ARRIVES

-- after something that it took at t
pub record KeepsAt (sizes : Sizes) (t : ℕ) (after : Machine) : Type 0 where
  pub same : sizes_of after ≡ sizes
  pub not_past : IsNotPast t (due_of after.phase)
  pub sound : IsSound after

quiet : (s : Machine) (t : ℕ) → IsNotPast t (due_of s.phase) → IsSound s → KeepsAt (sizes_of s) t s
quiet s t due sound = record { same = refl; not_past = due; sound = sound }

either_at : (sizes : Sizes) (t : ℕ) (b : Bool) (x y : Reaction Machine) → KeepsAt sizes t x.state → KeepsAt sizes t y.state → KeepsAt sizes t (if b then x else y).state
either_at sizes t true x y p q = p
either_at sizes t false x y p q = q

due_again : (t cycle : ℕ) → IsNotPast t (due_of (Due (t + cycle)))
due_again t cycle = let e : t ≤ t + cycle = omega arith in e

not_past_of : (t cycle : ℕ) (after : HostState) → (after ≡ Due (t + cycle)) ⊎ (due_of after ≡ None) → IsNotPast t (due_of after)
not_past_of t cycle after (inl e) = subst (λ (p : HostState). IsNotPast t (due_of p)) (sym e) (due_again t cycle)
not_past_of t cycle after (inr e) = subst (λ (o : Option ℕ). IsNotPast t o) (sym e) tt

resumes : (sizes : Sizes) (t cycle : ℕ) (after : Machine) → Keeps sizes (t + cycle) after → KeepsAt sizes t after
resumes sizes t cycle after keeps = record { same = keeps.same; not_past = not_past_of t cycle after.phase keeps.still_due; sound = keeps.sound }

read_done_keeps : (s : Machine) (t port id : ℕ) (bytes : List ℕ) → IsNotPast t (due_of s.phase) → IsSound s → KeepsAt (sizes_of s) t (read_done s t port id bytes).state
unfolding read_done
read_done_keeps s t port id bytes due sound =
    either_at _ _ (is_awaited s.phase port id && is_load_of s.core.pending (length bytes)) _ _
    (resumes _ t s.cycle _ (load_keeps (sizes_of s) (t + s.cycle) (due_after s t) _ (begins s t sound.whole)))
    (quiet s t due sound)

write_done_keeps : (s : Machine) (t port id : ℕ) → IsNotPast t (due_of s.phase) → IsSound s → KeepsAt (sizes_of s) t (write_done s t port id).state
unfolding write_done
write_done_keeps s t port id due sound =
    either_at _ _ (is_awaited s.phase port id && is_store s.core.pending) _ _
    (resumes _ t s.cycle _ (store_keeps (sizes_of s) (t + s.cycle) (due_after s t) true (begins s t sound.whole)))
    (quiet s t due sound)

-- a level that doesn't wake the host leaves what it waits for
fits_still : (m : Map) (core : CoreState) (next_id : ℕ) (kept : List ℕ) (phase : HostState) (high : Bool) → (is_asleep phase && wakes (record core { external = high })) ≡ false → Fits m core next_id kept phase → Fits m (record core { external = high }) next_id kept phase
fits_still m core next_id kept (Due t) high not_woken fits = fits
fits_still m core next_id kept (Access port id) high not_woken fits = fits
fits_still m core next_id kept Asleep high not_woken fits = (fits.0, not_woken)
fits_still m core next_id kept Halted high not_woken fits = fits

-- one that wakes it finds nothing pending
fits_woken : (m : Map) (core : CoreState) (next_id : ℕ) (kept : List ℕ) (phase : HostState) (b : Bool) → (is_asleep phase && b) ≡ true → Fits m core next_id kept phase → core.pending ≡ access.Nothing
fits_woken m core next_id kept Asleep b woken fits = fits.0
fits_woken m core next_id kept (Due t) b woken fits = absurd (false≢true woken)
fits_woken m core next_id kept (Access port id) b woken fits = absurd (false≢true woken)
fits_woken m core next_id kept Halted b woken fits = absurd (false≢true woken)

level_keeps : (s : Machine) (t port : ℕ) (high : Bool) → IsNotPast t (due_of s.phase) → IsSound s → KeepsAt (sizes_of s) t (sets_level s t port high).state
unfolding sets_level
level_keeps s t port high due sound = at (is_asleep s.phase && wakes (with_level s port high).core) refl
  where
    levels : List Bool
    levels = slice_set s.levels port high

    at : (b : Bool) → (is_asleep s.phase && wakes (with_level s port high).core) ≡ b → KeepsAt (sizes_of s) t (if b then due_after (with_level s port high) t else with_level s port high)
    at true is = record {
      same = refl;
      not_past = due_again t s.cycle;
      sound = record {
        whole = record { ram = sound.whole.ram; levels = length-set s.levels port high ∙ sound.whole.levels; line = refl; kept = sound.whole.kept };
        fits = fits_woken s.map s.core s.next_id s.kept s.phase _ is sound.fits;
      };
    }
    at false is = record {
      same = refl;
      not_past = due;
      sound = record {
        whole = record { ram = sound.whole.ram; levels = length-set s.levels port high ∙ sound.whole.levels; line = refl; kept = sound.whole.kept };
        fits = fits_still s.map s.core s.next_id s.kept s.phase (is_any_high levels) is sound.fits;
      };
    }

written_length : (s : Machine) (address : ℕ) (bytes : List ℕ) → length (ram_written s address bytes) ≡ length s.ram
written_length s address bytes = at (is_ram s address (length bytes))
  where
    at : (b : Bool) → length (if b then copied_in s.ram (address - ram_base) bytes else s.ram) ≡ length s.ram
    at true = copied_in_length s.ram (address - ram_base) bytes
    at false = refl

dma_write_keeps : (s : Machine) (t port id address : ℕ) (bytes : List ℕ) → IsNotPast t (due_of s.phase) → IsSound s → KeepsAt (sizes_of s) t (dma_write s port id address bytes).state
unfolding dma_write
dma_write_keeps s t port id address bytes due sound = record {
  same = refl;
  not_past = due;
  sound = record {
    whole = record { ram = written_length s address bytes ∙ sound.whole.ram; levels = sound.whole.levels; line = sound.whole.line; kept = sound.whole.kept };
    fits = sound.fits;
  };
}

dev_keeps : (s : Machine) (t port : ℕ) (message : DevMsg) → IsNotPast t (due_of s.phase) → IsSound s → KeepsAt (sizes_of s) t (takes_dev s t port message).state
unfolding takes_dev dma_read
dev_keeps s t port (dev.Read id address len) due sound = quiet s t due sound
dev_keeps s t port (dev.Write id address bytes) due sound = dma_write_keeps s t port id address bytes due sound
dev_keeps s t port (dev.Level high) due sound = level_keeps s t port high due sound
dev_keeps s t port (dev.ReadDone id bytes) due sound = read_done_keeps s t port id bytes due sound
dev_keeps s t port (dev.WriteDone id) due sound = write_done_keeps s t port id due sound

mem_keeps : (s : Machine) (t port : ℕ) (message : MemMsg) → IsNotPast t (due_of s.phase) → IsSound s → KeepsAt (sizes_of s) t (takes_mem s t port message).state
unfolding takes_mem
mem_keeps s t port (mem.ReadDone id bytes) due sound = read_done_keeps s t port id bytes due sound
mem_keeps s t port (mem.WriteDone id) due sound = write_done_keeps s t port id due sound
mem_keeps s t port (mem.Read id address len) due sound = quiet s t due sound
mem_keeps s t port (mem.Write id address bytes) due sound = quiet s t due sound

pub takes_keep : (s : Machine) (t port : ℕ) (arrived : Body) → IsNotPast t (due_of s.phase) → IsSound s → KeepsAt (sizes_of s) t (takes s t port arrived).state
unfolding takes
takes_keep s t port (body.Dev message) due sound = dev_keeps s t port message due sound
takes_keep s t port (body.Mem message) due sound = mem_keeps s t port message due sound
takes_keep s t port body.Sync due sound = quiet s t due sound
takes_keep s t port (body.Intro intro) due sound = quiet s t due sound
takes_keep s t port (body.Host message) due sound = quiet s t due sound
takes_keep s t port (body.Eth message) due sound = quiet s t due sound

-- AT THE START

low : (ports : ℕ) → false ≡ is_any_high (replicate ports false)
low zero = refl
low (suc ports) = low ports

pub started_sound : (config : HostConfig) (image : List ℕ) → length image ≤ config.ram → IsSound (started_with config image)
started_sound config image fits = record {
  whole = record {
    ram = filled_length config.ram image fits;
    levels = length-replicate config.pcie false;
    line = low config.pcie;
    kept = empty_unended;
  };
  fits = refl;
}
