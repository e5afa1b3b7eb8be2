-- Which files a command reads, in order, and what was read of them.
use Rattle.std.specs.Prelude.{ℕ, ◌≡◌, ◌⊎◌, ◌++◌, ◌∷◌, [], List, Some, option_map}
use Rattle.std.specs.List.{AllZip}
use Rattle.cs_base.specs.Outside.{FilesSeen, IsTold, Rose}
use Rattle.topology_file.specs.declared.topology.Topology.{Topology}
use Rattle.topology_file.specs.Reading.{IsTopologyText}
use Rattle.device_set.specs.Images.{image_names}
use Rattle.cosim_cmd.specs.Sentence.{Text, Sentence, Check, Model, Serial, Replay, Asm, file_of}
use Rattle.cosim_cmd.specs.Request.{Request, OnFiles, Load, request_of}
use Rattle.cosim_cmd.specs.Lines.{file_line}

-- the bytes of the command's file, and of the files that it reads after that one, in order
pub record Inputs : Type 0 where
  pub text : List ℕ
  pub more : List (List ℕ)

-- the names of the programs of a topology text's hosts, in the order of the components
pub record AreImages (bytes : List ℕ) (names : List Text) : Type 0 where
  pub topology : Topology
  pub spelled : IsTopologyText bytes topology
  pub are_images : names ≡ image_names topology.components

-- the names of the programs of a topology text's hosts, and behind them that of a schedule
pub record AreImagesAnd (bytes : List ℕ) (schedule : Text) (names : List Text) : Type 0 where
  pub images : List Text
  pub are_images : AreImages bytes images
  pub behind : names ≡ images ++ schedule ∷ []

-- the names of the files that a command reads after its own, which holds these bytes
abbrev pub AreFurther : Sentence → List ℕ → List Text → Type 0
AreFurther (Check file) bytes names = names ≡ []
AreFurther (Model file stats) bytes names = AreImages bytes names
AreFurther (Serial file stats) bytes names = AreImages bytes names
AreFurther (Replay file schedule) bytes names = AreImagesAnd bytes schedule names
AreFurther (Asm file) bytes names = names ≡ []

-- the words ask for something, and of that a fact holds
pub record OfRequest (words : List Text) (P : Request → Type 0) : Type 0 where
  pub request : Request
  pub asked : request_of words ≡ Some request
  pub fact : P request

-- ---- names, asked for in order

abbrev pub AsksNothing : FilesSeen → FilesSeen → Type 0
AsksNothing before after = after.asked ≡ before.asked

-- the names asked for have grown by these
abbrev pub AsksFor : List Text → FilesSeen → FilesSeen → Type 0
AsksFor names before after = after.asked ≡ option_map (λ earlier. earlier ++ names) before.asked

abbrev pub AsksAtMost : Text → FilesSeen → FilesSeen → Type 0
AsksAtMost name before after = AsksNothing before after ⊎ AsksFor (name ∷ []) before after

-- some names are the first ones of all
pub record IsBeginning (some all : List Text) : Type 0 where
  pub later : List Text
  pub whole : all ≡ some ++ later

-- the first ones of these names were asked for, in order
pub record AsksBeginning (names : List Text) (before after : FilesSeen) : Type 0 where
  pub some : List Text
  pub beginning : IsBeginning some names
  pub asked : AsksFor some before after

-- a file was read, or it was asked for and the read failed
pub record IsReadAs (name : Text) (before after : FilesSeen) (bytes : List ℕ) : Type 0 where
  pub asked : AsksFor (name ∷ []) before after
  pub told : IsTold (before.held name) bytes

pub record IsUnreadAs (name : Text) (before after : FilesSeen) (line : List ℕ) : Type 0 where
  pub asked : AsksFor (name ∷ []) before after
  pub failed : Rose before.faults after.faults
  pub named : line ≡ file_line name

-- a file was read, and of its bytes a fact holds
pub record OfOneRead (name : Text) (before after : FilesSeen) (P : List ℕ → Type 0) : Type 0 where
  pub bytes : List ℕ
  pub read : IsReadAs name before after bytes
  pub fact : P bytes

-- what is told of each of these names is the bytes beside it
abbrev pub AreTold : FilesSeen → List Text → List (List ℕ) → Type 0
AreTold files names contents = AllZip (λ name bytes. IsTold (files.held name) bytes) names contents

-- the files of these names were read, in order
pub record AreRead (names : List Text) (before after : FilesSeen) (contents : List (List ℕ)) : Type 0 where
  pub asked : AsksFor names before after
  pub told : AreTold before names contents

-- the first ones of these names were asked for, in order, and the read of the last one of those failed
pub record IsOneUnread (names : List Text) (before after : FilesSeen) (line : List ℕ) : Type 0 where
  pub earlier : List Text
  pub name : Text
  pub beginning : IsBeginning (earlier ++ name ∷ []) names
  pub asked : AsksFor (earlier ++ name ∷ []) before after
  pub failed : Rose before.faults after.faults
  pub named : line ≡ file_line name

-- ---- the files of names of which a fact holds

-- they were read, in order, and of what they hold a fact holds
pub record OfRead (AreNames : List Text → Type 0) (before after : FilesSeen) (P : List (List ℕ) → Type 0) : Type 0 where
  pub names : List Text
  pub are_names : AreNames names
  pub contents : List (List ℕ)
  pub read : AreRead names before after contents
  pub fact : P contents

-- one of them can't be read
pub record IsUnreadOf (AreNames : List Text → Type 0) (before after : FilesSeen) (line : List ℕ) : Type 0 where
  pub names : List Text
  pub are_names : AreNames names
  pub unread : IsOneUnread names before after line

-- the first ones of them were asked for, if any
pub record AsksForSome (AreNames : List Text → Type 0) (before after : FilesSeen) : Type 0 where
  pub names : List Text
  pub are_names : AreNames names
  pub asked : AsksBeginning names before after

abbrev pub AsksIfAny : (List Text → Type 0) → FilesSeen → FilesSeen → Type 0
AsksIfAny AreNames before after = AsksNothing before after ⊎ AsksForSome AreNames before after

-- ---- the files of a command

-- these are the first ones of the names that a command reads after its own file
pub record AreNext (s : Sentence) (files : FilesSeen) (names : List Text) : Type 0 where
  pub bytes : List ℕ
  pub told : IsTold (files.held (file_of s)) bytes
  pub further : List Text
  pub are_further : AreFurther s bytes further
  pub beginning : IsBeginning names further

-- the command's file was asked for, and then the first ones of the others
pub record AsksInOrder (s : Sentence) (before after : FilesSeen) : Type 0 where
  pub more : List Text
  pub next : (more ≡ []) ⊎ AreNext s before more
  pub asked : AsksFor (file_of s ∷ more) before after

abbrev pub AsksAtMostInOrder : Sentence → FilesSeen → FilesSeen → Type 0
AsksAtMostInOrder s before after = AsksNothing before after ⊎ AsksInOrder s before after

-- the files of a command were asked for in order, so many as were; `load` asks for none
abbrev pub AsksOf : Request → FilesSeen → FilesSeen → Type 0
AsksOf (OnFiles s) before after = AsksInOrder s before after
AsksOf (Load stations text) before after = AsksNothing before after

abbrev pub AsksAtMostOf : Request → FilesSeen → FilesSeen → Type 0
AsksAtMostOf request before after = AsksNothing before after ⊎ AsksOf request before after

-- nothing was asked for, or what the words ask for
abbrev pub AsksForFiles : List Text → FilesSeen → FilesSeen → Type 0
AsksForFiles words before after = AsksNothing before after ⊎ OfRequest words (λ request. AsksOf request before after)

-- all files of the command were read, in order
pub record HasRead (s : Sentence) (before after : FilesSeen) (inputs : Inputs) : Type 0 where
  pub names : List Text
  pub are_further : AreFurther s inputs.text names
  pub read : AreRead (file_of s ∷ names) before after (inputs.text ∷ inputs.more)

-- the last of some names
abbrev pub last_of : Text → List Text → Text
last_of name [] = name
last_of name (next ∷ more) = last_of next more

-- one of the command's files could not be read: it was asked for last, the count of faults rose, and the line names it
pub record IsUnread (s : Sentence) (before after : FilesSeen) (line : List ℕ) : Type 0 where
  pub in_order : AsksInOrder s before after
  pub failed : Rose before.faults after.faults
  pub named : line ≡ file_line (last_of (file_of s) in_order.more)
