-- What becomes of the wires of a run's channels by proxy, and for what a run is broken off.
use Rattle.std.specs.Prelude.{ℕ, ◌≡◌, ◌≤◌, ◌⊎◌, ◌++◌, List, [], length, take, slice_get, option_map, Some, None, false, ⊤}
use Rattle.cs_base.specs.declared.wire_end.WireEnd.{WireEnd}
use Rattle.cs_base.specs.Outside.{Rose}
use Rattle.cs_base.specs.Wires.{DialerSeen, OutSeen, InSeen}
use Rattle.device_set.specs.Starts.{too_long}
use Rattle.lane_kernels.specs.declared.differ.Differ.{Differ}
use Rattle.proxy_crew.specs.Dialing.{DialedAll, DialFailed}
use Rattle.proxy_members.specs.Differing.{AllAgree, AgreeBelow, IsFirstToDiffer}
use Rattle.run_threads.specs.Proxied.{proxied}
use Rattle.slot_queue.specs.Closing.{Remains}
use Rattle.thread_run.specs.Whole.{AreEndsOf, AreBetween, LosesWire, HasBadPeer}
use Rattle.topology_file.specs.declared.topology.Topology.{Topology}
use Rattle.worker_rounds.specs.declared.mesh_bad.MeshBad.{MeshBad}
use Rattle.worker_rounds.specs.declared.mesh_bad.MeshBad.TheVariants as fault
use Rattle.cosim_cmd.specs.declared.breaks.Break.{Break}
use Rattle.cosim_cmd.specs.declared.breaks.Break.TheVariants.{Lost, Peer, Differs}
use Rattle.cosim_cmd.specs.declared.refusal.OutputBad.{OutputBad}
use Rattle.cosim_cmd.specs.declared.refusal.OutputBad.TheVariants as bad
use Rattle.cosim_cmd.specs.Lines.{break_line}

-- what wires tell of themselves, what the dialer tells before and after, and what is left of the
-- channels by proxy
pub record Wires (O I : Type 0) : Type 0 where
  pub out : O → OutSeen
  pub wire : I → InSeen
  pub before : DialerSeen
  pub after : DialerSeen
  pub ends : List (WireEnd O I)

abbrev pub wires : {O I : Type 0} → (O → OutSeen) → (I → InSeen) → DialerSeen → DialerSeen
    → List (WireEnd O I) → Wires O I
wires out wire before after ends = record {
  out = out;
  wire = wire;
  before = before;
  after = after;
  ends = ends;
}

-- nothing was dialed, and nothing is left
pub record AreUntouched {O I : Type 0} (w : Wires O I) : Type 0 where
  pub none_dialed : w.after ≡ w.before
  pub none_left : w.ends ≡ []

-- one end is left for each of a topology's channels by proxy, in order
abbrev pub AreLeftOf : {O I : Type 0} → Wires O I → Topology → Type 0
AreLeftOf w t = AreEndsOf w.out w.wire t.wiring.kinds t.wiring.links w.ends

-- the first of a topology's channels by proxy were dialed, in order, so many as were; and what is
-- left is nothing, or the end of each
pub record AreDialedFor {O I : Type 0} (w : Wires O I) (t : Topology) : Type 0 where
  pub count : ℕ
  pub within : count ≤ length (proxied t.wiring.links)
  pub dialed : w.after.dialed
      ≡ option_map (λ before. before ++ take count (proxied t.wiring.links)) w.before.dialed
  pub left : (w.ends ≡ []) ⊎ AreLeftOf w t

-- each of a topology's channels by proxy was dialed, in order; on each the bytes that came are the
-- beginning of those that were to go; these are the frames of what its near queue gave, and the bytes
-- that came those of what its far queue was given
pub record HasCarried {O I : Type 0} (w : Wires O I) (t : Topology) (rests : List Remains)
    : Type 0 where
  pub dialed : DialedAll (proxied t.wiring.links) w.before w.after
  pub left : AreLeftOf w t
  pub between : AreBetween t.wiring.kinds t.wiring.links rests w.ends
  pub agree : AllAgree w.ends

-- ---- for what a run is broken off

-- the wire of this channel can't be had: its dial was the last one, and failed
abbrev pub FailsToDial : {O I : Type 0} → Wires O I → Topology → ℕ → Type 0
FailsToDial w t channel = DialFailed (proxied t.wiring.links) channel w.before w.after

-- the bytes that came on this channel differ from those that were to go first at this offset, and on
-- the channels before it they don't
pub record HasDifference {O I : Type 0} (w : Wires O I) (channel offset : ℕ) : Type 0 where
  pub differ : Differ
  pub offset_is : offset ≡ differ.offset
  pub first : IsFirstToDiffer w.ends channel differ
  pub below : AgreeBelow w.ends channel

abbrev pub IsBreak : {O I : Type 0} → Wires O I → Topology → Break → Type 0
IsBreak w t (Lost channel) = FailsToDial w t channel ⊎ LosesWire w.out w.wire w.ends channel
IsBreak w t (Peer channel offset reason) = HasBadPeer t.wiring.kinds t.wiring.links w.ends channel
    (fault.Peer channel offset reason)
IsBreak w t (Differs channel offset) = HasDifference w channel offset

-- it is so, and the line says it
pub record IsBrokenOff {O I : Type 0} (w : Wires O I) (t : Topology) (cause : Break)
    (line : List ℕ) : Type 0 where
  pub why : IsBreak w t cause
  pub named : line ≡ break_line cause

-- so it is of a run whose programs fit their hosts
pub record IsBrokenRun {O I : Type 0} (w : Wires O I) (t : Topology) (images : List (List ℕ))
    (cause : Break) (line : List ℕ) : Type 0 where
  pub fit : too_long t images ≡ None
  pub broken : IsBrokenOff w t cause line

-- why devices at their start don't run to their end
abbrev pub IsRunFault : {O I : Type 0} → Wires O I → Topology → OutputBad → Type 0
IsRunFault w t bad.NoMemory = ⊤
IsRunFault w t (bad.Broken cause line) = IsBrokenOff w t cause line
IsRunFault w t _ = ⊥

-- ---- what a refusal tells

-- it tells this cause, unless memory is wanting
abbrev pub Tells : Break → OutputBad → Type 0
Tells cause bad.NoMemory = ⊤
Tells cause (bad.Broken told line) = (told ≡ cause) × (line ≡ break_line cause)
Tells cause _ = ⊥

-- it tells this fault of a run
abbrev pub TellsFault : MeshBad → OutputBad → Type 0
TellsFault (fault.Lost channel) told = Tells (Lost channel) told
TellsFault (fault.Peer channel offset reason) told = Tells (Peer channel offset reason) told
TellsFault (fault.Differs channel differ) told = Tells (Differs channel differ.offset) told
TellsFault fault.NoMemory told = told ≡ bad.NoMemory

-- ---- wires that hold

-- neither end of a wire failed, and its stream hasn't ended
pub record Holds {O I : Type 0} (out : O → OutSeen) (wire : I → InSeen) (end : WireEnd O I)
    : Type 0 where
  pub none_failed_out : (out end.out).faults ≡ 0
  pub none_failed_in : (wire end.wire).faults ≡ 0
  pub not_ended : (wire end.wire).ended ≡ false

-- no dial failed, each wire holds, and what came is the beginning of what was to go
pub record AllHold {O I : Type 0} (w : Wires O I) : Type 0 where
  pub none_failed : Rose w.before.faults w.after.faults → ⊥
  pub each : (k : ℕ) (end : WireEnd O I) → slice_get w.ends k ≡ Some end → Holds w.out w.wire end
  pub agree : AllAgree w.ends
