-- The files of a replay: the programs of hosts, and then the schedule.
use Rattle.std.proofs.Common.{ℕ, ◌≡◌, List, [], ◌∷◌, ◌++◌, None, refl, ap, sym, ◌∙◌, subst, inl, inr, append-nil, append_assoc}
use Rattle.cs_base.specs.Outside.{FilesSeen}
use Rattle.device_set.specs.declared.any_device.AnyDevice.{AnyDevice}
use Rattle.device_set.specs.Images.{image_names}
use Rattle.device_set.specs.Starts.{starts_of, too_long}
use Rattle.topology_file.specs.declared.topology.Topology.{Topology}
use Rattle.topology_file.specs.Reading.{IsTopologyText}
use Rattle.cosim_cmd.specs.declared.refusal.Fault.{Fault}
use Rattle.cosim_cmd.specs.declared.refusal.Fault.TheVariants as fault
use Rattle.cosim_cmd.specs.declared.refusal.OutputBad.{OutputBad}
use Rattle.cosim_cmd.specs.declared.refusal.OutputBad.TheVariants as bad
use Rattle.cosim_cmd.specs.Sentence.{Text}
use Rattle.cosim_cmd.specs.Inputs.{AreImagesAnd, AsksAtMost, AsksBeginning, AsksIfAny, IsBeginning, IsReadAs, IsUnreadAs, AreRead, OfOneRead, OfRead, IsOneUnread}
use Rattle.cosim_cmd.specs.Model.{IsTooLong}
use Rattle.cosim_cmd.specs.Refusals.{IsFault, unread_of, too_long_of, unplayed_of}
use Rattle.cosim_cmd.specs.Replay.{IsStepped, IsUnplayed, Replays, IsFaulty, WithSchedule, IsReplay, IsScheduleBad, IsSystemBad, IsReplayBad, AreForReplay}
use Rattle.cosim_cmd.proofs.Reading.{AsksFor-more, AreTold-push, IsTold-along, unread_next, asks_one_more}

-- ---- the schedule alone

module _ (t : Topology) (devices : List AnyDevice) (name : Text) (before after : FilesSeen) where
  pub schedule_unread : (fault : Fault) → IsFault (IsUnreadAs name before after) fault → IsScheduleBad t devices name before after (unread_of fault)
  schedule_unread (fault.Line line) is = is
  schedule_unread fault.NoMemory is = tt

  pub schedule_unplayed : (bytes : List ℕ) → IsReadAs name before after bytes → (fault : Fault) → IsFault (IsUnplayed t devices bytes) fault → IsScheduleBad t devices name before after (unplayed_of fault)
  schedule_unplayed bytes read (fault.Line line) is = record { bytes = bytes; read = read; fact = is }
  schedule_unplayed bytes read fault.NoMemory is = tt

-- ---- the programs, and then the schedule

module _ (t : Topology) (name : Text) (before mid : FilesSeen) where
  abbrev hosts : List Text
  hosts = image_names t.components

  abbrev all : List Text
  all = hosts ++ name ∷ []

  one_more : (some : List Text) → IsBeginning some hosts → IsBeginning some all
  one_more some begun = record {
    later = begun.later ++ name ∷ [];
    whole = ap (λ names. names ++ name ∷ []) begun.whole ∙ append_assoc some begun.later (name ∷ []);
  }

  pub program_unread : (fault : Fault) → IsFault (IsOneUnread hosts before mid) fault → IsSystemBad t name before mid (unread_of fault)
  program_unread (fault.Line line) is = record {
    names = all;
    are_names = refl;
    unread = record {
      earlier = is.earlier;
      name = is.name;
      beginning = one_more (is.earlier ++ is.name ∷ []) is.beginning;
      asked = is.asked;
      failed = is.failed;
      named = is.named;
    };
  }
  program_unread fault.NoMemory is = tt

  pub programs_asked : AsksBeginning hosts before mid → AsksIfAny (AreForReplay t name) before mid
  programs_asked some = inr (record {
    names = all;
    are_names = refl;
    asked = record { some = some.some; beginning = one_more some.some some.beginning; asked = some.asked };
  })

  module _ (images : List (List ℕ)) (read : AreRead hosts before mid images) where
    pub program_long : (fault : Fault) → IsFault (IsTooLong t images) fault → IsSystemBad t name before mid (too_long_of fault)
    program_long (fault.Line line) is = record { names = hosts; are_names = refl; contents = images; read = read; fact = is }
    program_long fault.NoMemory is = tt

    module _ (after : FilesSeen) (kept : mid.held ≡ before.held) (no_fault : mid.faults ≡ before.faults) (fit : too_long t images ≡ None) (devices : List AnyDevice) (starts : devices ≡ starts_of t.components images) where
      both_read : (P : List (List ℕ) → List ℕ → Type 0) → OfOneRead name mid after (λ schedule. P images schedule) → OfRead (AreForReplay t name) before after (λ contents. WithSchedule contents P)
      both_read P of = record {
        names = all;
        are_names = refl;
        contents = images ++ of.bytes ∷ [];
        read = record {
          asked = AsksFor-more hosts (name ∷ []) before mid after read.asked of.read.asked;
          told = AreTold-push before hosts images name of.bytes read.told (IsTold-along before mid kept name of.bytes of.read.told);
        };
        fact = record { images = images; schedule = of.bytes; behind = refl; fact = of.fact };
      }

      pub both_written : (text : List ℕ) → OfOneRead name mid after (λ schedule. IsStepped t devices schedule text) → OfRead (AreForReplay t name) before after (λ contents. WithSchedule contents (λ images schedule. Replays t images schedule text))
      both_written text of = both_read (λ images schedule. Replays t images schedule text) (record {
        bytes = of.bytes;
        read = of.read;
        fact = (fit, subst (λ devices. IsStepped t devices of.bytes text) starts of.fact);
      })

      pub both_bad : (bad : OutputBad) → IsScheduleBad t devices name mid after bad → IsSystemBad t name before after bad
      both_bad bad.NoMemory why = tt
      both_bad (bad.File line) why = record {
        names = all;
        are_names = refl;
        unread = unread_next before mid after hosts all name [] (sym (append-nil all)) read.asked no_fault (fault.Line line) why;
      }
      both_bad (bad.Topology line) why = absurd why
      both_bad (bad.Broken cause line) why = absurd why
      both_bad (bad.Image line) why = absurd why
      both_bad (bad.Schedule line) why = both_read (λ images schedule. IsFaulty t images schedule line) (record {
        bytes = why.bytes;
        read = why.read;
        fact = (fit, subst (λ devices. IsUnplayed t devices why.bytes line) starts why.fact);
      })
      both_bad (bad.Asm line) why = absurd why

      pub both_asked : AsksAtMost name mid after → AsksIfAny (AreForReplay t name) before after
      both_asked most = inr (record {
        names = all;
        are_names = refl;
        asked = asks_one_more before mid after hosts all name [] (sym (append-nil all)) read.asked most;
      })

-- ---- of a topology text

module _ (bytes : List ℕ) (t : Topology) (spelled : IsTopologyText bytes t) (name : Text) (before after : FilesSeen) where
  are_further : (names : List Text) → AreForReplay t name names → AreImagesAnd bytes name names
  are_further names are = record { images = image_names t.components; are_images = record { topology = t; spelled = spelled; are_images = refl }; behind = are }

  pub text_written : (text : List ℕ) → OfRead (AreForReplay t name) before after (λ contents. WithSchedule contents (λ images schedule. Replays t images schedule text)) → OfRead (AreImagesAnd bytes name) before after (λ contents. IsReplay bytes contents text)
  text_written text of = record {
    names = of.names;
    are_names = are_further of.names of.are_names;
    contents = of.contents;
    read = of.read;
    fact = record { images = of.fact.images; schedule = of.fact.schedule; behind = of.fact.behind; fact = record { topology = t; spelled = spelled; fact = of.fact.fact } };
  }

  pub text_bad : (bad : OutputBad) → IsSystemBad t name before after bad → IsReplayBad bytes name before after bad
  text_bad bad.NoMemory why = tt
  text_bad (bad.File line) why = record { names = why.names; are_names = are_further why.names why.are_names; unread = why.unread }
  text_bad (bad.Topology line) why = absurd why
  text_bad (bad.Broken cause line) why = absurd why
  text_bad (bad.Image line) why = record {
    names = why.names;
    are_names = record { topology = t; spelled = spelled; are_images = why.are_names };
    contents = why.contents;
    read = why.read;
    fact = record { topology = t; spelled = spelled; fact = why.fact };
  }
  text_bad (bad.Schedule line) why = record {
    names = why.names;
    are_names = are_further why.names why.are_names;
    contents = why.contents;
    read = why.read;
    fact = record { images = why.fact.images; schedule = why.fact.schedule; behind = why.fact.behind; fact = record { topology = t; spelled = spelled; fact = why.fact.fact } };
  }
  text_bad (bad.Asm line) why = absurd why

  pub text_asked : AsksIfAny (AreForReplay t name) before after → AsksIfAny (AreImagesAnd bytes name) before after
  text_asked (inl none) = inl none
  text_asked (inr some) = inr (record { names = some.names; are_names = are_further some.names some.are_names; asked = some.asked })
