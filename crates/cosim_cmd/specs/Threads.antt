-- What `run` writes and leaves: what `model` writes, its queues, closed, and what is left of its channels
-- by proxy.
use Rattle.std.specs.Prelude.{ℕ, ◌⊎◌, Bool, List, Option, ⊤}
use Rattle.cs_base.specs.Outside.{FilesSeen}
use Rattle.slot_queue.specs.Closing.{Remains}
use Rattle.thread_run.specs.Whole.{AreWhole}
use Rattle.topology_file.specs.declared.topology.Topology.{Topology}
use Rattle.device_set.specs.AnyKind.{any_device}
use Rattle.device_set.specs.Starts.{starts_of}
use Rattle.cosim_cmd.specs.Sentence.{Text, Sentence, Serial}
use Rattle.cosim_cmd.specs.RunWords.{Run, SaysNoRun, OfRun}
use Rattle.cosim_cmd.specs.Inputs.{AreImages, AsksNothing, AsksInOrder, OfRead, IsUnreadOf}
use Rattle.cosim_cmd.specs.Model.{OfTopology, IsLogged, IsTooLong, IsModelBad}
use Rattle.cosim_cmd.specs.Broken.{Wires, AreUntouched, AreDialedFor, HasCarried, IsBrokenRun}
use Rattle.cosim_cmd.specs.Replay.{AreOfHosts}
use Rattle.cosim_cmd.specs.Local.{OfInputs, OfSystem, IsOutputBad, CanTake}
use Rattle.cosim_cmd.specs.declared.breaks.Break.{Break}
use Rattle.cosim_cmd.specs.declared.refusal.OutputBad.{OutputBad}
use Rattle.cosim_cmd.specs.declared.refusal.OutputBad.TheVariants as bad
use Rattle.cosim_cmd.specs.declared.refusal.Refusal.{Refusal}
use Rattle.cosim_cmd.specs.declared.refusal.Refusal.TheVariants as refused

-- the text is that of the global run of the topology's devices from their start, the queues hold the
-- transcripts of that run, and what went by proxy came
pub record IsThreaded {O I : Type 0} (w : Wires O I) (stats : Bool) (t : Topology)
    (images : List (List ℕ)) (text : List ℕ) (rests : List Remains) : Type 0 where
  pub logged : IsLogged stats t images text
  pub rests_are : AreWhole any_device (starts_of t.components images) t.wiring.links
      t.wiring.end rests
  pub carried : HasCarried w t rests

-- so it is of the topology of a text
abbrev pub IsRunOf : {O I : Type 0} → Wires O I → Bool → List ℕ → List (List ℕ) → List ℕ
    → List Remains → Type 0
IsRunOf w stats bytes images text rests = OfTopology bytes
    (λ t. IsThreaded w stats t images text rests)

-- the files that `run` reads are those of `serial`
abbrev pub as_serial : Run → Sentence
as_serial run = Serial run.file run.stats

-- its files were read, and this is what it writes and leaves
abbrev pub MakesRun : {O I : Type 0} → Wires O I → Run → FilesSeen → FilesSeen → List ℕ
    → List Remains → Type 0
MakesRun w run before after text rests = OfInputs (as_serial run) before after
    (λ inputs. IsRunOf w run.stats inputs.text inputs.more text rests)

-- the words are a sentence of `run`, and this is what it writes and leaves
abbrev pub IsRunOutput : {O I : Type 0} → Wires O I → List Text → FilesSeen → FilesSeen
    → List Remains → List ℕ → Type 0
IsRunOutput w words before after rests text = OfRun words
    (λ run. MakesRun w run before after text rests)

-- this is what it writes, whatever queues it leaves
pub record IsRunText {O I : Type 0} (w : Wires O I) (words : List Text)
    (before after : FilesSeen) (text : List ℕ) : Type 0 where
  pub rests : List Remains
  pub output : IsRunOutput w words before after rests text

-- its files were asked for in order, so many as were, and none where the words are no sentence
abbrev pub AsksForRun : List Text → FilesSeen → FilesSeen → Type 0
AsksForRun words before after = AsksNothing before after
    ⊎ OfRun words (λ run. AsksInOrder (as_serial run) before after)

-- ---- which channels it dials

-- nothing is dialed, or first ones of the channels by proxy of a topology with these programs
abbrev pub DialsForSystem : {O I : Type 0} → Wires O I → Topology → FilesSeen → FilesSeen → Type 0
DialsForSystem w t before after = AreUntouched w
    ⊎ OfRead (AreOfHosts t) before after (λ _. AreDialedFor w t)

-- of the topology of a text
abbrev pub DialsForText : {O I : Type 0} → Wires O I → List ℕ → FilesSeen → FilesSeen → Type 0
DialsForText w bytes before after = AreUntouched w
    ⊎ OfRead (AreImages bytes) before after (λ _. OfTopology bytes (AreDialedFor w))

-- of that of a sentence's file
abbrev pub DialsForFile : {O I : Type 0} → Wires O I → Sentence → FilesSeen → FilesSeen → Type 0
DialsForFile w s before after = OfSystem s before after
    (λ bytes _. OfTopology bytes (AreDialedFor w))

abbrev pub DialsInOrder : {O I : Type 0} → Wires O I → Sentence → FilesSeen → FilesSeen → Type 0
DialsInOrder w s before after = AreUntouched w ⊎ DialsForFile w s before after

-- of that of the words' file
abbrev pub DialsForRun : {O I : Type 0} → Wires O I → List Text → FilesSeen → FilesSeen → Type 0
DialsForRun w words before after = AreUntouched w
    ⊎ OfRun words (λ run. DialsForFile w (as_serial run) before after)

-- ---- why it is refused

-- why devices with these programs can't be run
abbrev pub IsReadyBad : {O I : Type 0} → Wires O I → Topology → List (List ℕ) → OutputBad → Type 0
IsReadyBad w t images bad.NoMemory = ⊤
IsReadyBad w t images (bad.Image line) = IsTooLong t images line
IsReadyBad w t images (bad.Broken cause line) = IsBrokenRun w t images cause line
IsReadyBad w t images _ = ⊥

-- why the system of a topology can't
abbrev pub IsSystemBad : {O I : Type 0} → Wires O I → Topology → FilesSeen → FilesSeen
    → OutputBad → Type 0
IsSystemBad w t before after bad.NoMemory = ⊤
IsSystemBad w t before after (bad.File line) = IsUnreadOf (AreOfHosts t) before after line
IsSystemBad w t before after (bad.Image line) = OfRead (AreOfHosts t) before after
    (λ images. IsTooLong t images line)
IsSystemBad w t before after (bad.Broken cause line) = OfRead (AreOfHosts t) before after
    (λ images. IsBrokenRun w t images cause line)
IsSystemBad w t before after _ = ⊥

-- a run of the topology of a text is broken off
abbrev pub Breaks : {O I : Type 0} → Wires O I → Break → List ℕ → List ℕ → List (List ℕ) → Type 0
Breaks w cause line bytes images = OfTopology bytes (λ t. IsBrokenRun w t images cause line)

-- why the system of a text can't: for what `model` can't, or it is broken off
abbrev pub IsTextBad : {O I : Type 0} → Wires O I → List ℕ → FilesSeen → FilesSeen → OutputBad
    → Type 0
IsTextBad w bytes before after (bad.Broken cause line) = OfRead (AreImages bytes) before after
    (Breaks w cause line bytes)
IsTextBad w bytes before after other = IsModelBad bytes before after other

-- why there is no output, where these are the files that are read: for what `serial` has none, or it is
-- broken off
abbrev pub IsRunBad : {O I : Type 0} → Wires O I → Sentence → FilesSeen → FilesSeen → OutputBad
    → Type 0
IsRunBad w s before after (bad.Broken cause line) = OfSystem s before after (Breaks w cause line)
IsRunBad w s before after other = IsOutputBad s before after other

-- why `run` is refused
abbrev pub IsRunRefusal : {O I : Type 0} → Wires O I → List Text → FilesSeen → FilesSeen → Refusal
    → Type 0
IsRunRefusal w words before after refused.NoMemory = ⊤
IsRunRefusal w words before after refused.Usage = SaysNoRun words
IsRunRefusal w words before after (refused.NoOutput bad) = OfRun words
    (λ run. IsRunBad w (as_serial run) before after bad)
IsRunRefusal w words before after refused.Out = (text : List ℕ) × IsRunText w words before after text

-- it is refused before anything is dialed
abbrev pub IsEarly : OutputBad → Type 0
IsEarly bad.NoMemory = ⊥
IsEarly (bad.Broken cause line) = ⊥
IsEarly _ = ⊤

abbrev pub IsEarlyRefusal : Refusal → Type 0
IsEarlyRefusal refused.Usage = ⊤
IsEarlyRefusal (refused.NoOutput bad) = IsEarly bad
IsEarlyRefusal _ = ⊥

-- ---- what it can take

-- the words are a sentence of `run`, and its files are told to hold what `serial` can take
abbrev pub CanRunWords : List Text → (Text → Option (List ℕ)) → Type 0
CanRunWords words held = OfRun words (λ run. CanTake (as_serial run) held)
