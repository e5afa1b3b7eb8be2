-- What `run` reads, and what it is refused for.
use Rattle.std.proofs.Common.{ℕ, ◌≡◌, ◌≤◌, ◌↔◌, Bool, List, ◌∷◌, Some, refl, sym, ap, ap₂, ◌∙◌, subst, drop, inl, inr, arith}
use Rattle.std.proofs.lemmas.Option.{same_Some}
use Rattle.cs_base.specs.Outside.{FilesSeen}
use Rattle.slot_queue.specs.Closing.{Remains}
use Rattle.thread_run.specs.Whole.{AreWhole}
use Rattle.topology_file.specs.declared.topology.Topology.{Topology}
use Rattle.device_set.specs.declared.any_device.AnyDevice.{AnyDevice}
use Rattle.device_set.specs.AnyKind.{any_device}
use Rattle.cosim_cmd.specs.declared.breaks.Break.TheVariants as broken
use Rattle.cosim_cmd.specs.declared.refusal.Fault.{Fault}
use Rattle.cosim_cmd.specs.declared.refusal.Fault.TheVariants as fault
use Rattle.cosim_cmd.specs.declared.refusal.OutputBad.{OutputBad}
use Rattle.cosim_cmd.specs.declared.refusal.OutputBad.TheVariants as bad
use Rattle.cosim_cmd.specs.declared.refusal.Refusal.{Refusal}
use Rattle.cosim_cmd.specs.declared.refusal.Refusal.TheVariants as refused
use Rattle.cosim_cmd.specs.Refusals.{IsFault, status_of, output_status, unread_of}
use Rattle.cosim_cmd.specs.Sentence.{Text, Sentence, Serial, file_of}
use Rattle.cosim_cmd.specs.RunWords.{Run, SaysRun, SaysNoRun, workers_and_rest, file_and_stats}
use Rattle.cosim_cmd.specs.Inputs.{IsReadAs, IsUnreadAs}
use Rattle.cosim_cmd.specs.Model.{OfTopology, run_text, AreReady}
use Rattle.cosim_cmd.specs.Broken.{Wires, AreDialedFor, HasCarried, AllHold}
use Rattle.cosim_cmd.specs.Local.{Lacks, CanTake, IsOutputBad, Stays}
use Rattle.cosim_cmd.specs.Threads.{as_serial, IsThreaded, DialsForText, DialsInOrder, Breaks, IsTextBad, IsRunBad, IsRunRefusal, IsEarlyRefusal, IsEarly, CanRunWords}
use Rattle.cosim_cmd.proofs.Accepting.{made}
use Rattle.cosim_cmd.proofs.Breaking.{none_breaks}
use Rattle.cosim_cmd.proofs.Reading.{lacks, of_system, unread_file}

-- devices that are ready are those of the topology at their start
pub ready_threaded : {O I : Type 0} (w : Wires O I) (stats : Bool) (t : Topology) (images : List (List ℕ)) (devices : List AnyDevice) → AreReady t images devices → (text : List ℕ) (rests : List Remains) → text ≡ run_text stats t devices → AreWhole any_device devices t.wiring.links t.wiring.end rests → HasCarried w t rests → IsThreaded w stats t images text rests
ready_threaded w stats t images devices ready text rests text_is rests_are carried = record {
  logged = record { fit = ready.fit; joined = text_is ∙ ap (run_text stats t) ready.started.starts };
  rests_are = subst (λ (starts : List AnyDevice). AreWhole any_device starts t.wiring.links t.wiring.end rests) ready.started.starts rests_are;
  carried = carried;
}

-- ---- why it is refused

-- what a text is refused for, its command is
module _ {O I : Type 0} (w : Wires O I) (file : Text) (stats : Bool) (before mid after : FilesSeen) (bytes : List ℕ) (kept : mid.held ≡ before.held) (no_fault : mid.faults ≡ before.faults) (read : IsReadAs file before mid bytes) where
  abbrev s : Sentence
  s = Serial file stats

  as_text : (bad : OutputBad) → Lacks (record { sentence = s; bytes = bytes }) mid after bad → IsOutputBad s before after bad
  as_text = lacks s before mid after bytes kept no_fault read

  pub run_lacks : (bad : OutputBad) → IsTextBad w bytes mid after bad → IsRunBad w s before after bad
  run_lacks bad.NoMemory why = tt
  run_lacks (bad.File line) why = as_text (bad.File line) why
  run_lacks (bad.Topology line) why = as_text (bad.Topology line) why
  run_lacks (bad.Image line) why = as_text (bad.Image line) why
  run_lacks (bad.Broken cause line) why = of_system s before mid after bytes kept no_fault read (Breaks w cause line) why
  run_lacks (bad.Schedule line) why = absurd why
  run_lacks (bad.Asm line) why = absurd why

  pub run_dials : DialsForText w bytes mid after → DialsInOrder w s before after
  run_dials (inl none) = inl none
  run_dials (inr of) = inr (of_system s before mid after bytes kept no_fault read (λ bytes _. OfTopology bytes (AreDialedFor w)) of)

-- its file can't be read
pub run_unread : {O I : Type 0} (w : Wires O I) (s : Sentence) (before after : FilesSeen) (fault : Fault) → IsFault (IsUnreadAs (file_of s) before after) fault → IsRunBad w s before after (unread_of fault)
run_unread w s before after (fault.Line line) is = unread_file s before after (fault.Line line) is
run_unread w s before after fault.NoMemory is = tt

-- what can be run is refused for want of memory alone, where no read fails and the wires hold
module _ {O I : Type 0} (w : Wires O I) (before after : FilesSeen) (s : Sentence) (can : CanTake s before.held) (stays : Stays before.faults after.faults) (hold : AllHold w) where
  as_made : (bad : OutputBad) → IsOutputBad s before after bad → output_status bad ≡ 1
  as_made bad why = made before after s can.inputs can.names can.are_further can.more_told can.told can.accepted bad why stays

  pub run_answer : (bad : OutputBad) → IsRunBad w s before after bad → output_status bad ≡ 1
  run_answer bad.NoMemory why = refl
  run_answer (bad.File line) why = as_made (bad.File line) why
  run_answer (bad.Topology line) why = as_made (bad.Topology line) why
  run_answer (bad.Image line) why = as_made (bad.Image line) why
  run_answer (bad.Broken cause line) why = absurd (none_breaks w why.fact.topology hold cause why.fact.fact.broken.why)
  run_answer (bad.Schedule line) why = as_made (bad.Schedule line) why
  run_answer (bad.Asm line) why = as_made (bad.Asm line) why

-- ---- the words

behind : (a b : Text) (xs ys : List Text) → a ∷ xs ≡ b ∷ ys → xs ≡ ys
behind a b xs ys same = ap (λ (l : List Text). drop 1 l) same

taken_of : (p q : Text × List Text) → Some p ≡ Some q → p.1 ≡ q.1
taken_of p q same = ap (λ (x : Text × List Text). x.1) (same_Some p q same)

said_of : (p q : Text × Bool) → Some p ≡ Some q → (p.0 ≡ q.0) × (p.1 ≡ q.1)
said_of p q same = (ap (λ (x : Text × Bool). x.0) (same_Some p q same), ap (λ (x : Text × Bool). x.1) (same_Some p q same))

-- the words say one file, and whether the statistics are asked for
pub one_sentence : (words : List Text) (a b : Run) → SaysRun words a → SaysRun words b → as_serial a ≡ as_serial b
one_sentence words a b says also =
    let more : says.more ≡ also.more = behind _ _ _ _ (sym says.command ∙ also.command) in
    let others : says.others ≡ also.others = taken_of (says.value, says.others) (also.value, also.others) (sym says.taken ∙ ap workers_and_rest more ∙ also.taken) in
    let both = said_of (a.file, a.stats) (b.file, b.stats) (sym says.rest ∙ ap file_and_stats others ∙ also.rest) in
    ap₂ Serial both.0 both.1

no_usage : (bad : OutputBad) → output_status bad ≡ 2 → ⊥
no_usage bad.NoMemory status = omega (arith, status)
no_usage (bad.File line) status = omega (arith, status)
no_usage (bad.Topology line) status = omega (arith, status)
no_usage (bad.Image line) status = omega (arith, status)
no_usage (bad.Broken (broken.Lost channel) line) status = omega (arith, status)
no_usage (bad.Broken (broken.Peer channel offset reason) line) status = omega (arith, status)
no_usage (bad.Broken (broken.Differs channel offset) line) status = omega (arith, status)
no_usage (bad.Schedule line) status = omega (arith, status)
no_usage (bad.Asm line) status = omega (arith, status)

-- a status from 2 to 5 is that of what is refused before anything is dialed
early : (bad : OutputBad) → 2 ≤ output_status bad → output_status bad ≤ 5 → IsEarly bad
early bad.NoMemory least most = omega (arith, least)
early (bad.File line) least most = tt
early (bad.Topology line) least most = tt
early (bad.Image line) least most = tt
early (bad.Broken (broken.Lost channel) line) least most = omega (arith, most)
early (bad.Broken (broken.Peer channel offset reason) line) least most = omega (arith, most)
early (bad.Broken (broken.Differs channel offset) line) least most = omega (arith, most)
early (bad.Schedule line) least most = tt
early (bad.Asm line) least most = tt

pub early_refusal : (refusal : Refusal) → 2 ≤ status_of refusal → status_of refusal ≤ 5 → IsEarlyRefusal refusal
early_refusal refused.NoMemory least most = omega (arith, least)
early_refusal refused.Usage least most = tt
early_refusal (refused.NoOutput bad) least most = early bad least most
early_refusal refused.Out least most = omega (arith, most)

module _ {O I : Type 0} (w : Wires O I) (words : List Text) (before after : FilesSeen) where
  -- the status for words that are no sentence
  pub run_usage : (refusal : Refusal) → IsRunRefusal w words before after refusal → (status_of refusal ≡ 1 → ⊥) → (status_of refusal ≡ 2) ↔ SaysNoRun words
  run_usage refused.NoMemory why other = absurd (other refl)
  run_usage refused.Usage why other = (λ is. why, λ none. refl)
  run_usage refused.Out why other = (λ is. absurd (let no : 9 ≡ 2 → ⊥ = omega arith in no is), λ none. absurd (none why.1.output.run why.1.output.says))
  run_usage (refused.NoOutput bad) why other = (λ is. absurd (no_usage bad is), λ none. absurd (none why.run why.says))

  pub run_answered : (refusal : Refusal) → IsRunRefusal w words before after refusal → (refusal ≡ refused.Out → ⊥) → CanRunWords words before.held → Stays before.faults after.faults → AllHold w → status_of refusal ≡ 1
  run_answered refused.NoMemory why written can stays hold = refl
  run_answered refused.Usage why written can stays hold = absurd (why can.run can.says)
  run_answered refused.Out why written can stays hold = absurd (written refl)
  run_answered (refused.NoOutput bad) why written can stays hold =
      let same : as_serial why.run ≡ as_serial can.run = one_sentence words why.run can.run why.says can.says in
      run_answer w before after (as_serial can.run) can.fact stays hold bad (subst (λ (s : Sentence). IsRunBad w s before after bad) same why.fact)
