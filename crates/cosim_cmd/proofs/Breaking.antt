-- For what a run is broken off.
use Rattle.std.proofs.Common.{ℕ, ◌≡◌, ◌+◌, ◌<◌, true, false, List, [], ◌++◌, length, None, Result, Ok, Err, refl, sym, ap, ◌∙◌, subst, inl, inr, arith}
use Rattle.std.specs.Prelude.{◌⊎◌, IsTrue, option_map}
use Rattle.std.proofs.Math.Seq.{take-length}
use Rattle.std.proofs.lemmas.Option.{slice_get_within}
use Rattle.cs_base.specs.declared.wire_end.WireEnd.{WireEnd}
use Rattle.proxy_crew.specs.Dialing.{DialedAll, DialedSome, DialFailed, DialTells}
use Rattle.proxy_crew.specs.declared.build_bad.BuildBad.{BuildBad}
use Rattle.proxy_crew.specs.declared.build_bad.BuildBad.TheVariants as build
use Rattle.run_threads.specs.Proxied.{proxied}
use Rattle.tcp_proxy.proofs.Parting.{not_prefix}
use Rattle.thread_run.specs.Whole.{IsCause}
use Rattle.topology_file.specs.declared.topology.Topology.{Topology}
use Rattle.worker_rounds.specs.declared.mesh_bad.MeshBad.{MeshBad}
use Rattle.worker_rounds.specs.declared.mesh_bad.MeshBad.TheVariants as fault
use Rattle.cosim_cmd.specs.declared.breaks.Break.{Break}
use Rattle.cosim_cmd.specs.declared.breaks.Break.TheVariants.{Lost, Peer, Differs}
use Rattle.cosim_cmd.specs.declared.refusal.OutputBad.{OutputBad}
use Rattle.cosim_cmd.specs.declared.refusal.OutputBad.TheVariants as bad
use Rattle.cosim_cmd.specs.Lines.{break_line}
use Rattle.cosim_cmd.specs.Broken.{Wires, AreLeftOf, AreDialedFor, IsBreak, IsRunFault, Tells, TellsFault, Holds, AllHold}
use Rattle.cosim_cmd.specs.Threads.{IsReadyBad, IsEarly}
use Rattle.device_set.specs.Starts.{too_long}

module _ {O I : Type 0} (w : Wires O I) (t : Topology) where
  -- what tells a cause that there is
  pub told : (cause : Break) → IsBreak w t cause → (bad : OutputBad) → Tells cause bad → IsRunFault w t bad
  told cause why bad.NoMemory tells = tt
  told cause why (bad.File line) tells = absurd tells
  told cause why (bad.Topology line) tells = absurd tells
  told cause why (bad.Image line) tells = absurd tells
  told cause why (bad.Broken other line) tells = record {
    why = subst (IsBreak w t) (sym tells.0) why;
    named = tells.1 ∙ ap break_line (sym tells.0);
  }
  told cause why (bad.Schedule line) tells = absurd tells
  told cause why (bad.Asm line) tells = absurd tells

  -- what tells the fault of a run
  pub told_fault : (fault : MeshBad) → IsCause w.out w.wire t.wiring.kinds t.wiring.links w.ends fault → (bad : OutputBad) → TellsFault fault bad → IsRunFault w t bad
  told_fault (fault.Lost channel) why bad tells = told (Lost channel) (inr why) bad tells
  told_fault (fault.Peer channel offset reason) why bad tells = told (Peer channel offset reason) why bad tells
  told_fault (fault.Differs channel differ) why bad tells =
      told (Differs channel differ.offset) (record { differ = differ; offset_is = refl; first = why.0; below = why.1 }) bad tells
  told_fault fault.NoMemory why bad tells = subst (IsRunFault w t) (sym tells) tt

  -- devices whose programs fit
  pub fault_ready : (images : List (List ℕ)) → too_long t images ≡ None → (bad : OutputBad) → IsRunFault w t bad → IsReadyBad w t images bad
  fault_ready images fit bad.NoMemory why = tt
  fault_ready images fit (bad.File line) why = absurd why
  fault_ready images fit (bad.Topology line) why = absurd why
  fault_ready images fit (bad.Image line) why = absurd why
  fault_ready images fit (bad.Broken cause line) why = record { fit = fit; broken = why }
  fault_ready images fit (bad.Schedule line) why = absurd why
  fault_ready images fit (bad.Asm line) why = absurd why

  pub not_early : (bad : OutputBad) → IsRunFault w t bad → IsEarly bad → ⊥
  not_early bad.NoMemory why early = early
  not_early (bad.File line) why early = why
  not_early (bad.Topology line) why early = why
  not_early (bad.Image line) why early = why
  not_early (bad.Broken cause line) why early = early
  not_early (bad.Schedule line) why early = why
  not_early (bad.Asm line) why early = why

  -- no run is broken off whose wires hold
  wire_lost : (end : WireEnd O I) → Holds w.out w.wire end → (0 < (w.out end.out).faults) ⊎ ((0 < (w.wire end.wire).faults) ⊎ IsTrue (w.wire end.wire).ended) → ⊥
  wire_lost end holds (inl out) = omega (arith, out, holds.none_failed_out)
  wire_lost end holds (inr (inl wire)) = omega (arith, wire, holds.none_failed_in)
  wire_lost end holds (inr (inr ended)) = let clash : false ≡ true = sym holds.not_ended ∙ ended in cc

  pub none_breaks : AllHold w → (cause : Break) → IsBreak w t cause → ⊥
  none_breaks hold (Lost channel) (inl failed) = hold.none_failed failed.failed
  none_breaks hold (Lost channel) (inr lost) = wire_lost lost.end (hold.each lost.place lost.end lost.there) lost.lost
  none_breaks hold (Peer channel offset reason) is = is.differs (hold.agree.each is.place is.end is.there)
  none_breaks hold (Differs channel offset) is =
      let first = is.first in
      not_prefix first.end.sent first.end.got is.differ.offset is.differ.got first.differs.came first.differs.first (hold.agree.each first.place first.end first.there)

-- ---- what is dialed

module _ {O I : Type 0} (w : Wires O I) (t : Topology) (left : (w.ends ≡ []) ⊎ AreLeftOf w t) where
  abbrev channels : List ℕ
  channels = proxied t.wiring.links

  -- all channels
  dialed_all : DialedAll channels w.before w.after → AreDialedFor w t
  dialed_all all = record {
    count = length channels;
    within = omega arith;
    dialed = all.dialed ∙ ap (λ (some : List ℕ). option_map (λ before. before ++ some) w.before.dialed) (sym (take-length channels));
    left = left;
  }

  -- those up to one whose dial failed
  dialed_to : (channel : ℕ) → DialFailed channels channel w.before w.after → AreDialedFor w t
  dialed_to channel failed = record {
    count = failed.place + 1;
    within = let below : failed.place < length channels = slice_get_within channels failed.place channel failed.there in omega (arith, below);
    dialed = failed.dialed;
    left = left;
  }

  -- those before memory was wanting
  dialed_some : DialedSome channels w.before w.after → AreDialedFor w t
  dialed_some some = record { count = some.count; within = some.within; dialed = some.dialed; left = left }

  -- whatever the dials came to
  pub dialed_by : {T : Type 0} (made : Result T BuildBad) → DialTells made channels w.before w.after → AreDialedFor w t
  dialed_by (Ok made) told = dialed_all told
  dialed_by (Err (build.Lost channel)) told = dialed_to channel told
  dialed_by (Err build.NoMemory) told = dialed_some told
