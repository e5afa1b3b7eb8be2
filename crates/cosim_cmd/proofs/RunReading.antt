-- The files of a run on threads: the programs of hosts.
use Rattle.std.proofs.Common.{ℕ, Bool, List, inl, inr}
use Rattle.std.specs.Prelude.{◌⊎◌}
use Rattle.cs_base.specs.Outside.{FilesSeen}
use Rattle.slot_queue.specs.Closing.{Remains}
use Rattle.topology_file.specs.declared.topology.Topology.{Topology}
use Rattle.topology_file.specs.Reading.{IsTopologyText}
use Rattle.cosim_cmd.specs.declared.refusal.OutputBad.{OutputBad}
use Rattle.cosim_cmd.specs.declared.refusal.OutputBad.TheVariants as bad
use Rattle.cosim_cmd.specs.declared.refusal.Fault.{Fault}
use Rattle.cosim_cmd.specs.declared.refusal.Fault.TheVariants as fault
use Rattle.cosim_cmd.specs.Refusals.{IsFault, unread_of, too_long_of}
use Rattle.cosim_cmd.specs.Sentence.{Text}
use Rattle.cosim_cmd.specs.Inputs.{AreImages, AreRead, IsOneUnread, OfRead, AsksIfAny}
use Rattle.cosim_cmd.specs.Model.{IsTooLong}
use Rattle.cosim_cmd.specs.Broken.{Wires, AreUntouched, AreDialedFor}
use Rattle.cosim_cmd.specs.Replay.{AreOfHosts}
use Rattle.cosim_cmd.specs.Threads.{IsThreaded, IsRunOf, DialsForSystem, DialsForText, IsReadyBad, IsSystemBad, IsTextBad}

-- ---- devices with these programs

module _ {O I : Type 0} (w : Wires O I) (t : Topology) (images : List (List ℕ)) where
  pub long_ready : (fault : Fault) → IsFault (IsTooLong t images) fault → IsReadyBad w t images (too_long_of fault)
  long_ready (fault.Line line) is = is
  long_ready fault.NoMemory is = tt

-- ---- a topology, and the programs that its hosts' files hold

module _ {O I : Type 0} (w : Wires O I) (t : Topology) (before after : FilesSeen) (names : List Text) (are : AreOfHosts t names) where
  pub programs_unread : (fault : Fault) → IsFault (IsOneUnread names before after) fault → IsSystemBad w t before after (unread_of fault)
  programs_unread (fault.Line line) is = record { names = names; are_names = are; unread = is }
  programs_unread fault.NoMemory is = tt

  module _ (images : List (List ℕ)) (read : AreRead names before after images) where
    of_programs : (P : List (List ℕ) → Type 0) → P images → OfRead (AreOfHosts t) before after P
    of_programs P fact = record { names = names; are_names = are; contents = images; read = read; fact = fact }

    pub programs_bad : (bad : OutputBad) → IsReadyBad w t images bad → IsSystemBad w t before after bad
    programs_bad bad.NoMemory why = tt
    programs_bad (bad.File line) why = absurd why
    programs_bad (bad.Topology line) why = absurd why
    programs_bad (bad.Image line) why = of_programs (λ images. IsTooLong t images line) why
    programs_bad (bad.Broken cause line) why = record { names = names; are_names = are; contents = images; read = read; fact = why }
    programs_bad (bad.Schedule line) why = absurd why
    programs_bad (bad.Asm line) why = absurd why

    pub programs_dialed : AreUntouched w ⊎ AreDialedFor w t → DialsForSystem w t before after
    programs_dialed (inl none) = inl none
    programs_dialed (inr some) = inr (of_programs (λ _. AreDialedFor w t) some)

-- ---- a topology text

module _ {O I : Type 0} (w : Wires O I) (bytes : List ℕ) (t : Topology) (spelled : IsTopologyText bytes t) (before after : FilesSeen) where
  are_of_text : (names : List Text) → AreOfHosts t names → AreImages bytes names
  are_of_text names are = record { topology = t; spelled = spelled; are_images = are }

  pub text_made : (stats : Bool) (text : List ℕ) (rests : List Remains) → OfRead (AreOfHosts t) before after (λ images. IsThreaded w stats t images text rests) → OfRead (AreImages bytes) before after (λ images. IsRunOf w stats bytes images text rests)
  text_made stats text rests of = record {
    names = of.names;
    are_names = are_of_text of.names of.are_names;
    contents = of.contents;
    read = of.read;
    fact = record { topology = t; spelled = spelled; fact = of.fact };
  }

  pub text_bad : (bad : OutputBad) → IsSystemBad w t before after bad → IsTextBad w bytes before after bad
  text_bad bad.NoMemory why = tt
  text_bad (bad.File line) why = record { names = why.names; are_names = are_of_text why.names why.are_names; unread = why.unread }
  text_bad (bad.Topology line) why = absurd why
  text_bad (bad.Image line) why = record {
    names = why.names;
    are_names = are_of_text why.names why.are_names;
    contents = why.contents;
    read = why.read;
    fact = record { topology = t; spelled = spelled; fact = why.fact };
  }
  text_bad (bad.Broken cause line) why = record {
    names = why.names;
    are_names = are_of_text why.names why.are_names;
    contents = why.contents;
    read = why.read;
    fact = record { topology = t; spelled = spelled; fact = why.fact };
  }
  text_bad (bad.Schedule line) why = absurd why
  text_bad (bad.Asm line) why = absurd why

  pub text_asked : AsksIfAny (AreOfHosts t) before after → AsksIfAny (AreImages bytes) before after
  text_asked (inl none) = inl none
  text_asked (inr some) = inr (record { names = some.names; are_names = are_of_text some.names some.are_names; asked = some.asked })

  pub text_dialed : DialsForSystem w t before after → DialsForText w bytes before after
  text_dialed (inl none) = inl none
  text_dialed (inr of) = inr (record {
    names = of.names;
    are_names = are_of_text of.names of.are_names;
    contents = of.contents;
    read = of.read;
    fact = record { topology = t; spelled = spelled; fact = of.fact };
  })
