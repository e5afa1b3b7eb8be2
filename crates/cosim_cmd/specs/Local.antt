-- What a command has done where it is refused, and where it isn't.
use Rattle.std.specs.Prelude.{ℕ, ◌≡◌, ◌∷◌, List, Option, Some, None, ⊤}
use Rattle.std.specs.List.{AllZip}
use Rattle.cs_base.specs.Outside.{FilesSeen, SinkSeen, Rose}
use Rattle.cosim_cmd.specs.declared.refusal.OutputBad.{OutputBad}
use Rattle.cosim_cmd.specs.declared.refusal.OutputBad.TheVariants as bad
use Rattle.cosim_cmd.specs.declared.refusal.Refusal.{Refusal}
use Rattle.cosim_cmd.specs.declared.refusal.Refusal.TheVariants as refused
use Rattle.cosim_cmd.specs.Sentence.{Text, Sentence, file_of}
use Rattle.cosim_cmd.specs.Request.{Request, OnFiles, Load, request_of}
use Rattle.cosim_cmd.specs.Inputs.{Inputs, AreImages, AreFurther, OfRequest, AsksNothing, AsksIfAny, OfOneRead, AreRead, OfRead, IsUnreadOf, HasRead, IsUnread}
use Rattle.cosim_cmd.specs.Outputs.{IsOutput, LacksTopology, LacksHostRoom, LacksStep, LacksProgram, Accepts}
use Rattle.cosim_cmd.specs.Load.{IsLoaded}
use Rattle.cosim_cmd.specs.Refusals.{status_of, line_of}
use Rattle.cosim_cmd.specs.Written.{IsWhole, IsCut, IsAttempted}

-- ---- a sentence whose file holds these bytes

pub record Task : Type 0 where
  pub sentence : Sentence
  pub bytes : List ℕ

-- the names of its other files
abbrev pub further_of : Task → List Text → Type 0
further_of task names = AreFurther task.sentence task.bytes names

-- the other files were read, and of what they hold a fact holds
abbrev pub OfRest : Task → FilesSeen → FilesSeen → (Inputs → Type 0) → Type 0
OfRest task before after P = OfRead (further_of task) before after (λ more. P (record { text = task.bytes; more = more }))

-- the programs of hosts were read, and of them a fact holds
abbrev pub OfPrograms : Task → FilesSeen → FilesSeen → (List (List ℕ) → Type 0) → Type 0
OfPrograms task before after P = OfRead (AreImages task.bytes) before after P

-- why there is no output
abbrev pub Lacks : Task → FilesSeen → FilesSeen → OutputBad → Type 0
Lacks task before after bad.NoMemory = ⊤
Lacks task before after (bad.File line) = IsUnreadOf (further_of task) before after line
Lacks task before after (bad.Topology line) = LacksTopology task.sentence task.bytes line × AsksNothing before after
Lacks task before after (bad.Broken cause line) = ⊥
Lacks task before after (bad.Image line) = OfPrograms task before after (λ images. LacksHostRoom task.sentence task.bytes images line)
Lacks task before after (bad.Schedule line) = OfRest task before after (λ inputs. LacksStep task.sentence inputs line)
Lacks task before after (bad.Asm line) = LacksProgram task.sentence task.bytes line × AsksNothing before after

-- the first ones of the other files were asked for, if any
abbrev pub AsksFurther : Task → FilesSeen → FilesSeen → Type 0
AsksFurther task before after = AsksIfAny (further_of task) before after

-- ---- a sentence

-- all files of the command were read, and of what they hold a fact holds
pub record OfInputs (s : Sentence) (before after : FilesSeen) (P : Inputs → Type 0) : Type 0 where
  pub inputs : Inputs
  pub read : HasRead s before after inputs
  pub fact : P inputs

-- the command's files were read, and the text is the output for them
abbrev pub Makes : Sentence → FilesSeen → FilesSeen → List ℕ → Type 0
Makes s before after text = OfInputs s before after (λ inputs. IsOutput s inputs text)

-- the command's file was read, and of its bytes a fact holds
abbrev pub OfFile : Sentence → FilesSeen → FilesSeen → (List ℕ → Type 0) → Type 0
OfFile s before after P = OfOneRead (file_of s) before after P

-- the command's file and then the programs of hosts were read, and of both a fact holds
pub record OfSystem (s : Sentence) (before after : FilesSeen) (P : List ℕ → List (List ℕ) → Type 0) : Type 0 where
  pub bytes : List ℕ
  pub names : List Text
  pub are_images : AreImages bytes names
  pub images : List (List ℕ)
  pub read : AreRead (file_of s ∷ names) before after (bytes ∷ images)
  pub fact : P bytes images

-- why a command has no output
abbrev pub IsOutputBad : Sentence → FilesSeen → FilesSeen → OutputBad → Type 0
IsOutputBad s before after bad.NoMemory = ⊤
IsOutputBad s before after (bad.File line) = IsUnread s before after line
IsOutputBad s before after (bad.Topology line) = OfFile s before after (λ bytes. LacksTopology s bytes line)
IsOutputBad s before after (bad.Broken cause line) = ⊥
IsOutputBad s before after (bad.Image line) = OfSystem s before after (λ bytes images. LacksHostRoom s bytes images line)
IsOutputBad s before after (bad.Schedule line) = OfInputs s before after (λ inputs. LacksStep s inputs line)
IsOutputBad s before after (bad.Asm line) = OfFile s before after (λ bytes. LacksProgram s bytes line)

-- ---- what the words ask for

-- the text is the output; for `load` that of its number, and no file is asked for
abbrev pub Answers : Request → FilesSeen → FilesSeen → List ℕ → Type 0
Answers (OnFiles s) before after text = Makes s before after text
Answers (Load stations as_text) before after text = IsLoaded stations as_text text × AsksNothing before after

-- why there is no output; for `load` want of memory alone
abbrev pub IsAnswerBad : Request → FilesSeen → FilesSeen → OutputBad → Type 0
IsAnswerBad (OnFiles s) before after why = IsOutputBad s before after why
IsAnswerBad (Load stations as_text) before after why = why ≡ bad.NoMemory

-- the text is the output that the words ask for
abbrev pub IsOutputOf : List Text → FilesSeen → FilesSeen → List ℕ → Type 0
IsOutputOf words before after text = OfRequest words (λ request. Answers request before after text)

-- why a command is refused
abbrev pub IsRefusal : List Text → FilesSeen → FilesSeen → Refusal → Type 0
IsRefusal words before after refused.NoMemory = ⊤
IsRefusal words before after refused.Usage = request_of words ≡ None
IsRefusal words before after (refused.NoOutput bad) = OfRequest words (λ request. IsAnswerBad request before after bad)
IsRefusal words before after refused.Out = (text : List ℕ) × IsOutputOf words before after text

-- a text of which a fact holds was written whole, or in part
pub record Writes (before after : SinkSeen) (P : List ℕ → Type 0) : Type 0 where
  pub text : List ℕ
  pub fact : P text
  pub whole : IsWhole before after text

pub record WritesInPart (before after : SinkSeen) (P : List ℕ → Type 0) : Type 0 where
  pub text : List ℕ
  pub fact : P text
  pub cut : IsCut before after text

-- the status is that of a refusal for which there is a reason, and its line was said
pub record Says (status : ℕ) (before after : SinkSeen) (P : Refusal → Type 0) : Type 0 where
  pub refusal : Refusal
  pub status_is : status ≡ status_of refusal
  pub fact : P refusal
  pub said : IsAttempted before after (line_of refusal)

-- the files of a command are told to hold what it can take
pub record CanTake (s : Sentence) (held : Text → Option (List ℕ)) : Type 0 where
  pub inputs : Inputs
  pub told : held (file_of s) ≡ Some inputs.text
  pub names : List Text
  pub are_further : AreFurther s inputs.text names
  pub more_told : AllZip (λ name bytes. held name ≡ Some bytes) names inputs.more
  pub accepted : Accepts s inputs

-- `load` needs no file
abbrev pub CanAnswer : Request → (Text → Option (List ℕ)) → Type 0
CanAnswer (OnFiles s) held = CanTake s held
CanAnswer (Load stations as_text) held = ⊤

-- the words ask for what can be answered
abbrev pub IsAccepted : List Text → (Text → Option (List ℕ)) → Type 0
IsAccepted words held = OfRequest words (λ request. CanAnswer request held)

-- a count of faults didn't rise
abbrev pub Stays : ℕ → ℕ → Type 0
Stays before after = Rose before after → ⊥
