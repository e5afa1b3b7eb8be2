-- Files that are read one after another.
use Rattle.std.proofs.Common.{◌≡◌, ℕ, suc, ◌+◌, ◌<◌, Bool, List, [], ◌∷◌, ◌++◌, take, drop, length, get_or, Option, Some, None, refl, ap, sym, ◌∙◌, subst, inl, inr, append-nil, append_assoc, arith}
use Rattle.std.proofs.Math.Seq.{take-suc}
use Rattle.std.proofs.lemmas.List.{take-append-drop}
use Rattle.std.specs.Prelude.{option_map}
use Rattle.std.specs.List.{AllZip}
use Rattle.cs_base.specs.Outside.{FilesSeen, IsTold, Rose}
use Rattle.topology_file.specs.declared.topology.Topology.{Topology}
use Rattle.topology_file.specs.Reading.{IsTopologyText}
use Rattle.device_set.specs.Images.{image_names}
use Rattle.cosim_cmd.specs.declared.refusal.Fault.{Fault}
use Rattle.cosim_cmd.specs.declared.refusal.Fault.TheVariants as fault
use Rattle.cosim_cmd.specs.declared.refusal.OutputBad.{OutputBad}
use Rattle.cosim_cmd.specs.declared.refusal.OutputBad.TheVariants as bad
use Rattle.cosim_cmd.specs.Lines.{file_line}
use Rattle.cosim_cmd.specs.Refusals.{IsFault, unread_of, too_long_of}
use Rattle.cosim_cmd.specs.declared.words.Sentence.{Sentence as Read}
use Rattle.cosim_cmd.specs.Said.{said}
use Rattle.cosim_cmd.specs.Check.{IsChecked}
use Rattle.cosim_cmd.specs.Asm.{IsAssembled}
use Rattle.cosim_cmd.specs.Sentence.{Text, Sentence, Check, Model, Serial, Replay, Asm, file_of}
use Rattle.cosim_cmd.specs.Inputs.{Inputs, AreFurther, AreImages, AsksNothing, AsksFor, AsksAtMost, AsksBeginning, AsksIfAny, IsReadAs, IsUnreadAs, AreTold, AreRead, OfRead, IsOneUnread, AsksAtMostInOrder, last_of}
use Rattle.cosim_cmd.specs.Model.{IsModelled, IsLogged, IsTooLong, IsModelBad}
use Rattle.cosim_cmd.specs.Replay.{IsReplayBad}
use Rattle.cosim_cmd.specs.Outputs.{IsOutput, LacksTopology, LacksHostRoom, LacksStep, LacksProgram}
use Rattle.cosim_cmd.specs.Local.{OfRest, OfPrograms, OfInputs, OfFile, OfSystem, Lacks, AsksFurther, IsOutputBad}

-- names asked for, and then others
asked_on : (names more : List Text) (a b c : Option (List Text)) → b ≡ option_map (λ earlier. earlier ++ names) a → c ≡ option_map (λ earlier. earlier ++ more) b → c ≡ option_map (λ earlier. earlier ++ (names ++ more)) a
asked_on names more None b c first then = then ∙ ap (option_map (λ earlier. earlier ++ more)) first
asked_on names more (Some earlier) b c first then = then ∙ ap (option_map (λ earlier. earlier ++ more)) first ∙ ap Some (append_assoc earlier names more)

asked_none : (a b : Option (List Text)) → b ≡ a → b ≡ option_map (λ earlier. earlier ++ []) a
asked_none None b same = same
asked_none (Some earlier) b same = same ∙ ap Some (sym (append-nil earlier))

pub AsksFor-none : (before after : FilesSeen) → AsksNothing before after → AsksFor [] before after
AsksFor-none before after same = asked_none before.asked after.asked same

pub AsksFor-more : (names more : List Text) (before mid after : FilesSeen) → AsksFor names before mid → AsksFor more mid after → AsksFor (names ++ more) before after
AsksFor-more names more before mid after first then = asked_on names more before.asked mid.asked after.asked first then

-- nothing more asked for
pub AsksFor-still : (names : List Text) (before mid after : FilesSeen) → AsksFor names before mid → AsksNothing mid after → AsksFor names before after
AsksFor-still names before mid after first same = same ∙ first

pub IsTold-along : (before mid : FilesSeen) → mid.held ≡ before.held → (name : Text) (bytes : List ℕ) → IsTold (mid.held name) bytes → IsTold (before.held name) bytes
IsTold-along before mid same name bytes told = subst (λ held. IsTold (held name) bytes) same told

pub AreTold-along : (before mid : FilesSeen) → mid.held ≡ before.held → (names : List Text) (contents : List (List ℕ)) → AreTold mid names contents → AreTold before names contents
AreTold-along before mid same names contents told = subst (λ held. AllZip (λ name bytes. IsTold (held name) bytes) names contents) same told

-- one file more was read
pub AreTold-push : (files : FilesSeen) (names : List Text) (contents : List (List ℕ)) (name : Text) (bytes : List ℕ) → AreTold files names contents → IsTold (files.held name) bytes → AreTold files (names ++ name ∷ []) (contents ++ bytes ∷ [])
AreTold-push files [] [] name bytes told one = (one, tt)
AreTold-push files [] (c ∷ contents) name bytes told one = absurd told
AreTold-push files (n ∷ names) [] name bytes told one = absurd told
AreTold-push files (n ∷ names) (c ∷ contents) name bytes told one = (told.0, AreTold-push files names contents name bytes told.1 one)

-- one place further in a list
pub next_taken : (names : List Text) (n : ℕ) (item : Text) → n < length names → item ≡ get_or names n item → take (n + 1) names ≡ take n names ++ item ∷ []
next_taken names n item within is =
    let one : n + 1 ≡ suc n = omega arith in
    ap (λ k. take k names) one ∙ take-suc names n item within ∙ ap (λ name. take n names ++ name ∷ []) (sym is)

pub whole_at : (names : List Text) (n : ℕ) (item : Text) → take (n + 1) names ≡ take n names ++ item ∷ [] → names ≡ (take n names ++ item ∷ []) ++ drop (n + 1) names
whole_at names n item next = sym (take-append-drop (n + 1) names) ∙ ap (λ begun. begun ++ drop (n + 1) names) next

last_of-push : (first : Text) (earlier : List Text) (name : Text) → last_of first (earlier ++ name ∷ []) ≡ name
last_of-push first [] name = refl
last_of-push first (next ∷ earlier) name = last_of-push next earlier name

-- one file more, which was read, was not read, or was asked for at most
module _ (before mid after : FilesSeen) (done all : List Text) (item : Text) (later : List Text) (whole : all ≡ (done ++ item ∷ []) ++ later) (asked : AsksFor done before mid) where
  pub unread_next : mid.faults ≡ before.faults → (fault : Fault) → IsFault (IsUnreadAs item mid after) fault → IsFault (IsOneUnread all before after) fault
  unread_next no_fault (fault.Line line) is = record {
    earlier = done;
    name = item;
    beginning = record { later = later; whole = whole };
    asked = AsksFor-more done (item ∷ []) before mid after asked is.asked;
    failed = subst (λ n. Rose n after.faults) no_fault is.failed;
    named = is.named;
  }
  unread_next no_fault fault.NoMemory is = tt

  pub asks_one_more : AsksAtMost item mid after → AsksBeginning all before after
  asks_one_more (inl none) = record {
    some = done;
    beginning = record { later = item ∷ later; whole = whole ∙ append_assoc done (item ∷ []) later };
    asked = AsksFor-still done before mid after asked none;
  }
  asks_one_more (inr one) = record {
    some = done ++ item ∷ [];
    beginning = record { later = later; whole = whole };
    asked = AsksFor-more done (item ∷ []) before mid after asked one;
  }

-- ---- the command's own file, and then the others

module _ (s : Sentence) (before mid after : FilesSeen) (bytes : List ℕ) (kept : mid.held ≡ before.held) (no_fault : mid.faults ≡ before.faults) (read : IsReadAs (file_of s) before mid bytes) where
  read_alone : AsksNothing mid after → IsReadAs (file_of s) before after bytes
  read_alone same = record { asked = AsksFor-still (file_of s ∷ []) before mid after read.asked same; told = read.told }

  pub of_file : (P : List ℕ → Type 0) → P bytes → AsksNothing mid after → OfFile s before after P
  of_file P fact same = record { bytes = bytes; read = read_alone same; fact = fact }

  pub of_system : (P : List ℕ → List (List ℕ) → Type 0) → OfPrograms (record { sentence = s; bytes = bytes }) mid after (P bytes) → OfSystem s before after P
  of_system P of = record {
    bytes = bytes;
    names = of.names;
    are_images = of.are_names;
    images = of.contents;
    read = record {
      asked = AsksFor-more (file_of s ∷ []) of.names before mid after read.asked of.read.asked;
      told = (read.told, AreTold-along before mid kept of.names of.contents of.read.told);
    };
    fact = of.fact;
  }

  pub of_inputs : (P : Inputs → Type 0) → OfRest (record { sentence = s; bytes = bytes }) mid after P → OfInputs s before after P
  of_inputs P rest = record {
    inputs = record { text = bytes; more = rest.contents };
    read = record {
      names = rest.names;
      are_further = rest.are_names;
      read = record {
        asked = AsksFor-more (file_of s ∷ []) rest.names before mid after read.asked rest.read.asked;
        told = (read.told, AreTold-along before mid kept rest.names rest.contents rest.read.told);
      };
    };
    fact = rest.fact;
  }

  pub lacks : (bad : OutputBad) → Lacks (record { sentence = s; bytes = bytes }) mid after bad → IsOutputBad s before after bad
  lacks bad.NoMemory lacking = tt
  lacks (bad.File line) lacking =
      let one = lacking.unread in
      record {
        in_order = record {
          more = one.earlier ++ one.name ∷ [];
          next = inr (record { bytes = bytes; told = read.told; further = lacking.names; are_further = lacking.are_names; beginning = one.beginning });
          asked = AsksFor-more (file_of s ∷ []) (one.earlier ++ one.name ∷ []) before mid after read.asked one.asked;
        };
        failed = subst (λ n. Rose n after.faults) no_fault one.failed;
        named = one.named ∙ ap file_line (sym (last_of-push (file_of s) one.earlier one.name));
      }
  lacks (bad.Topology line) lacking = of_file (λ bytes. LacksTopology s bytes line) lacking.0 lacking.1
  lacks (bad.Broken cause line) lacking = absurd lacking
  lacks (bad.Image line) lacking = of_system (λ bytes images. LacksHostRoom s bytes images line) lacking
  lacks (bad.Schedule line) lacking = of_inputs (λ inputs. LacksStep s inputs line) lacking
  lacks (bad.Asm line) lacking = of_file (λ bytes. LacksProgram s bytes line) lacking.0 lacking.1

  pub asks : AsksFurther (record { sentence = s; bytes = bytes }) mid after → AsksAtMostInOrder s before after
  asks (inl none) = inr (record { more = []; next = inl refl; asked = AsksFor-still (file_of s ∷ []) before mid after read.asked none })
  asks (inr some) = inr (record {
    more = some.asked.some;
    next = inr (record { bytes = bytes; told = read.told; further = some.names; are_further = some.are_names; beginning = some.asked.beginning });
    asked = AsksFor-more (file_of s ∷ []) some.asked.some before mid after read.asked some.asked.asked;
  })

-- the command's own file alone
module _ (s : Sentence) (before after : FilesSeen) where
  pub unread_file : (fault : Fault) → IsFault (IsUnreadAs (file_of s) before after) fault → IsOutputBad s before after (unread_of fault)
  unread_file (fault.Line line) is = record { in_order = record { more = []; next = inl refl; asked = is.asked }; failed = is.failed; named = is.named }
  unread_file fault.NoMemory is = tt

  pub asks_file : AsksAtMost (file_of s) before after → AsksAtMostInOrder s before after
  asks_file (inl none) = inl none
  asks_file (inr one) = inr (record { more = []; next = inl refl; asked = one })

-- ---- the arms of the commands

pub alone : (s : Sentence) (bytes : List ℕ) (seen : FilesSeen) (P : Inputs → Type 0) → AreFurther s bytes [] → P (record { text = bytes; more = [] }) → OfRest (record { sentence = s; bytes = bytes }) seen seen P
alone s bytes seen P none fact = record { names = []; are_names = none; contents = []; read = record { asked = AsksFor-none seen seen refl; told = tt }; fact = fact }

pub check_made : (r : Read) (bytes : List ℕ) (seen : FilesSeen) (text : List ℕ) (file : Text) → said r ≡ Check file → IsChecked bytes text → OfRest (record { sentence = said r; bytes = bytes }) seen seen (λ inputs. IsOutput (said r) inputs text)
check_made r bytes seen text file is fact =
    subst (λ s. OfRest (record { sentence = s; bytes = bytes }) seen seen (λ inputs. IsOutput s inputs text)) (sym is) (alone (Check file) bytes seen (λ inputs. IsOutput (Check file) inputs text) refl fact)

pub asm_made : (r : Read) (bytes : List ℕ) (seen : FilesSeen) (text : List ℕ) (file : Text) → said r ≡ Asm file → IsAssembled bytes text → OfRest (record { sentence = said r; bytes = bytes }) seen seen (λ inputs. IsOutput (said r) inputs text)
asm_made r bytes seen text file is fact =
    subst (λ s. OfRest (record { sentence = s; bytes = bytes }) seen seen (λ inputs. IsOutput s inputs text)) (sym is) (alone (Asm file) bytes seen (λ inputs. IsOutput (Asm file) inputs text) refl fact)

-- `model`, and `serial` too
module _ (file : Text) (stats : Bool) (bytes : List ℕ) (before after : FilesSeen) where
  pub model_lacks : (bad : OutputBad) → IsModelBad bytes before after bad → Lacks (record { sentence = Model file stats; bytes = bytes }) before after bad
  model_lacks bad.NoMemory why = tt
  model_lacks (bad.File line) why = why
  model_lacks (bad.Topology line) why = why
  model_lacks (bad.Broken cause line) why = absurd why
  model_lacks (bad.Image line) why = why
  model_lacks (bad.Schedule line) why = absurd why
  model_lacks (bad.Asm line) why = absurd why

  pub serial_lacks : (bad : OutputBad) → IsModelBad bytes before after bad → Lacks (record { sentence = Serial file stats; bytes = bytes }) before after bad
  serial_lacks bad.NoMemory why = tt
  serial_lacks (bad.File line) why = why
  serial_lacks (bad.Topology line) why = why
  serial_lacks (bad.Broken cause line) why = absurd why
  serial_lacks (bad.Image line) why = why
  serial_lacks (bad.Schedule line) why = absurd why
  serial_lacks (bad.Asm line) why = absurd why

module _ (file schedule : Text) (bytes : List ℕ) (before after : FilesSeen) where
  pub replay_lacks : (bad : OutputBad) → IsReplayBad bytes schedule before after bad → Lacks (record { sentence = Replay file schedule; bytes = bytes }) before after bad
  replay_lacks bad.NoMemory why = tt
  replay_lacks (bad.File line) why = why
  replay_lacks (bad.Topology line) why = why
  replay_lacks (bad.Broken cause line) why = absurd why
  replay_lacks (bad.Image line) why = why
  replay_lacks (bad.Schedule line) why = why
  replay_lacks (bad.Asm line) why = absurd why

-- ---- the programs of hosts

module _ (bytes : List ℕ) (t : Topology) (spelled : IsTopologyText bytes t) (names : List Text) (are : names ≡ image_names t.components) (before after : FilesSeen) where
  images_named : AreImages bytes names
  images_named = record { topology = t; spelled = spelled; are_images = are }

  pub images_modelled : (stats : Bool) (images : List (List ℕ)) → AreRead names before after images → (text : List ℕ) → IsLogged stats t images text → OfRead (AreImages bytes) before after (λ images. IsModelled stats bytes images text)
  images_modelled stats images read text logged = record {
    names = names;
    are_names = images_named;
    contents = images;
    read = read;
    fact = record { topology = t; spelled = spelled; fact = logged };
  }

  pub images_long : (images : List (List ℕ)) → AreRead names before after images → (fault : Fault) → IsFault (IsTooLong t images) fault → IsModelBad bytes before after (too_long_of fault)
  images_long images read (fault.Line line) is = record {
    names = names;
    are_names = images_named;
    contents = images;
    read = read;
    fact = record { topology = t; spelled = spelled; fact = is };
  }
  images_long images read fault.NoMemory is = tt

  pub images_unread : (fault : Fault) → IsFault (IsOneUnread names before after) fault → IsModelBad bytes before after (unread_of fault)
  images_unread (fault.Line line) is = record { names = names; are_names = images_named; unread = is }
  images_unread fault.NoMemory is = tt

  pub images_asked : AsksBeginning names before after → AsksIfAny (AreImages bytes) before after
  images_asked asked = inr (record { names = names; are_names = images_named; asked = asked })
