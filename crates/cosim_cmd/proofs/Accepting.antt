-- What a command can take isn't refused.
use Rattle.std.proofs.Common.{ℕ, ◌≡◌, List, Option, Some, None, Ok, Err, [], ◌∷◌, ◌++◌, refl, sym, ap, ap₂, ◌∙◌, subst, inl, inr, arith}
use Rattle.std.specs.List.{AllZip}
use Rattle.cs_base.specs.Outside.{FilesSeen, IsTold}
use Rattle.toml.specs.Data.{Members, table}
use Rattle.topology_file.specs.declared.topology.Topology.{Topology}
use Rattle.topology_file.specs.Reading.{IsTopologyText}
use Rattle.topology_file.specs.Refusals.{refusal}
use Rattle.topology_file.proofs.OneTopology.{one_topology}
use Rattle.device_set.specs.Images.{image_names}
use Rattle.device_set.specs.Starts.{too_long}
use Rattle.cosim_cmd.specs.declared.breaks.Break.TheVariants as broken
use Rattle.cosim_cmd.specs.declared.refusal.OutputBad.{OutputBad}
use Rattle.cosim_cmd.specs.declared.refusal.OutputBad.TheVariants as bad
use Rattle.cosim_cmd.specs.declared.refusal.Refusal.{Refusal}
use Rattle.cosim_cmd.specs.declared.refusal.Refusal.TheVariants as refused
use Rattle.cosim_cmd.specs.NoTopology.{IsNoTopology}
use Rattle.cosim_cmd.specs.Sentence.{Text, Sentence, Check, Model, Serial, Replay, Asm, file_of}
use Rattle.cosim_cmd.specs.Inputs.{Inputs, AreImages, AreFurther, HasRead}
use Rattle.cosim_cmd.specs.Outputs.{LacksTopology, LacksHostRoom, LacksStep, LacksProgram, Accepts}
use Rattle.cosim_cmd.specs.Refusals.{status_of, output_status}
use Rattle.cosim_cmd.specs.Request.{Request, OnFiles, Load}
use Rattle.cosim_cmd.specs.Local.{OfFile, IsOutputBad, IsAnswerBad, IsRefusal, CanAnswer, IsAccepted, Stays}
use Rattle.cosim_cmd.specs.Replay.{CanStep, IsFaulty}
use Rattle.replay_run.proofs.Determined.{one_outcome}
use Rattle.device_set.specs.AnyKind.{any_device}
use Rattle.device_set.specs.Starts.{starts_of}
use Rattle.replay_run.specs.Replayed.{start_of}

no_topology : (bytes line : List ℕ) (t : Topology) → IsTopologyText bytes t → IsNoTopology bytes line → ⊥
no_topology bytes line t text (inl refused) =
    let members : Some text.members ≡ Some refused.refused.members = sym text.document.parsed ∙ refused.refused.document.parsed in
    let same : text.members ≡ refused.refused.members = cc in
    let clash : None ≡ Some (refused.reason, refused.entry) = sym text.accepted ∙ ap (λ (m : Members). refusal (table m)) same ∙ refused.refused.refused in cc
no_topology bytes line t text (inr none) =
    let clash : Some text.members ≡ None = sym text.document.parsed ∙ none.no_document text.document.utf8 in cc

has_topology : (s : Sentence) (inputs : Inputs) (line : List ℕ) → Accepts s inputs → LacksTopology s inputs.text line → ⊥
has_topology (Check file) inputs line accepted lacks = no_topology inputs.text line accepted.0 accepted.1 lacks
has_topology (Model file stats) inputs line accepted lacks = no_topology inputs.text line accepted.topology accepted.spelled lacks
has_topology (Serial file stats) inputs line accepted lacks = no_topology inputs.text line accepted.topology accepted.spelled lacks
has_topology (Replay file schedule) inputs line accepted lacks = no_topology inputs.text line accepted.fact.topology accepted.fact.spelled lacks
has_topology (Asm file) inputs line accepted lacks = lacks

-- two texts of one last element
last_apart : (xs ys : List (List ℕ)) (x y : List ℕ) → xs ++ x ∷ [] ≡ ys ++ y ∷ [] → (xs ≡ ys) × (x ≡ y)
last_apart [] [] x y same = (refl, let is : x ≡ y = cc in is)
last_apart [] (b ∷ []) x y same = cc
last_apart [] (b ∷ (c ∷ ys)) x y same = cc
last_apart (a ∷ []) [] x y same = cc
last_apart (a ∷ (c ∷ xs)) [] x y same = cc
last_apart (a ∷ xs) (b ∷ ys) x y same =
    let head : a ≡ b = cc in
    let rest : xs ++ x ∷ [] ≡ ys ++ y ∷ [] = cc in
    let both = last_apart xs ys x y rest in
    (ap₂ (λ (h : List ℕ) (t : List (List ℕ)). h ∷ t) head both.0, both.1)

-- each line of the schedule is a step in its turn
can_step : (t : Topology) (images : List (List ℕ)) (schedule line : List ℕ) → CanStep t images schedule → IsFaulty t images schedule line → ⊥
can_step t images schedule line can faulty =
    (one_outcome any_device schedule (start_of any_device (starts_of t.components images) t.wiring)).not_both can.1 faulty.1.number can.2 faulty.1.first

has_step : (s : Sentence) (inputs : Inputs) (line : List ℕ) → Accepts s inputs → LacksStep s inputs line → ⊥
has_step (Check file) inputs line accepted lacks = lacks
has_step (Model file stats) inputs line accepted lacks = lacks
has_step (Serial file stats) inputs line accepted lacks = lacks
has_step (Replay file schedule) inputs line accepted lacks =
    let same : accepted.fact.topology ≡ lacks.fact.topology = one_topology inputs.text accepted.fact.topology lacks.fact.topology accepted.fact.spelled lacks.fact.spelled in
    let parts = last_apart lacks.images accepted.images lacks.schedule accepted.schedule (sym lacks.behind ∙ accepted.behind) in
    let of_topology : IsFaulty accepted.fact.topology lacks.images lacks.schedule line = subst (λ (t : Topology). IsFaulty t lacks.images lacks.schedule line) (sym same) lacks.fact.fact in
    let of_images : IsFaulty accepted.fact.topology accepted.images lacks.schedule line = subst (λ (images : List (List ℕ)). IsFaulty accepted.fact.topology images lacks.schedule line) parts.0 of_topology in
    can_step accepted.fact.topology accepted.images accepted.schedule line accepted.fact.fact (subst (λ (schedule : List ℕ). IsFaulty accepted.fact.topology accepted.images schedule line) parts.1 of_images)
has_step (Asm file) inputs line accepted lacks = lacks

has_program : (s : Sentence) (inputs : Inputs) (line : List ℕ) → Accepts s inputs → LacksProgram s inputs.text line → ⊥
has_program (Check file) inputs line accepted lacks = lacks
has_program (Model file stats) inputs line accepted lacks = lacks
has_program (Serial file stats) inputs line accepted lacks = lacks
has_program (Replay file schedule) inputs line accepted lacks = lacks
has_program (Asm file) inputs line accepted lacks = let clash : Ok accepted.0 ≡ Err (lacks.number, lacks.reason) = sym accepted.1 ∙ lacks.refused in cc

-- the bytes that were read are those that are told
told_alone : (told : Option (List ℕ)) (bytes text : List ℕ) → IsTold told bytes → told ≡ Some text → bytes ≡ text
told_alone None bytes text is told = cc
told_alone (Some content) bytes text is told = let same : Some content ≡ Some text = told in let content_is : content ≡ text = cc in is ∙ content_is

same_contents : (held : Text → Option (List ℕ)) (names : List Text) (xs ys : List (List ℕ)) → AllZip (λ name bytes. IsTold (held name) bytes) names xs → AllZip (λ name bytes. held name ≡ Some bytes) names ys → xs ≡ ys
same_contents held [] [] [] is told = refl
same_contents held [] [] (y ∷ ys) is told = absurd told
same_contents held [] (x ∷ xs) ys is told = absurd is
same_contents held (name ∷ names) [] ys is told = absurd is
same_contents held (name ∷ names) (x ∷ xs) [] is told = absurd told
same_contents held (name ∷ names) (x ∷ xs) (y ∷ ys) is told =
    ap₂ (λ (x : List ℕ) (xs : List (List ℕ)). x ∷ xs) (told_alone (held name) x y is.0 told.0) (same_contents held names xs ys is.1 told.1)

-- what holds of two lists place by place holds of all but their last elements
all_but_last : (P : Text → List ℕ → Type 0) (names : List Text) (name : Text) (xs : List (List ℕ)) (x : List ℕ) → AllZip P (names ++ name ∷ []) (xs ++ x ∷ []) → AllZip P names xs
all_but_last P [] name [] x all = tt
all_but_last P [] name (y ∷ []) x all = absurd all.1
all_but_last P [] name (y ∷ (z ∷ ys)) x all = absurd all.1
all_but_last P (n ∷ []) name [] x all = absurd all.1
all_but_last P (n ∷ (m ∷ names)) name [] x all = absurd all.1
all_but_last P (n ∷ names) name (y ∷ ys) x all = (all.0, all_but_last P names name ys x all.1)

-- the programs of a text's hosts are one list
same_images : (bytes : List ℕ) (names others : List Text) → AreImages bytes names → AreImages bytes others → names ≡ others
same_images bytes names others is also =
    is.are_images ∙ ap (λ (t : Topology). image_names t.components) (one_topology bytes is.topology also.topology is.spelled also.spelled) ∙ sym also.are_images

-- the names of a text's other files are one list
same_names : (s : Sentence) (bytes : List ℕ) (names others : List Text) → AreFurther s bytes names → AreFurther s bytes others → names ≡ others
same_names (Check file) bytes names others is also = is ∙ sym also
same_names (Model file stats) bytes names others is also = same_images bytes names others is also
same_names (Serial file stats) bytes names others is also = same_images bytes names others is also
same_names (Replay file schedule) bytes names others is also =
    is.behind ∙ ap (λ (images : List Text). images ++ schedule ∷ []) (same_images bytes is.images also.images is.are_images also.are_images) ∙ sym also.behind
same_names (Asm file) bytes names others is also = is ∙ sym also

-- what was read is what is told
same_inputs : (s : Sentence) (before after : FilesSeen) (read inputs : Inputs) → HasRead s before after read → before.held (file_of s) ≡ Some inputs.text → (names : List Text) → AreFurther s inputs.text names → AllZip (λ name bytes. before.held name ≡ Some bytes) names inputs.more → read ≡ inputs
same_inputs s before after read inputs has told names further more_told =
    let text : read.text ≡ inputs.text = told_alone (before.held (file_of s)) read.text inputs.text has.read.told.0 told in
    let further_of : AreFurther s inputs.text has.names = subst (λ bytes. AreFurther s bytes has.names) text has.are_further in
    let named : names ≡ has.names = same_names s inputs.text names has.names further further_of in
    let more_told_of : AllZip (λ name bytes. before.held name ≡ Some bytes) has.names inputs.more = subst (λ names. AllZip (λ name bytes. before.held name ≡ Some bytes) names inputs.more) named more_told in
    let more : read.more ≡ inputs.more = same_contents before.held has.names read.more inputs.more has.read.told.1 more_told_of in
    λ i. record { text = text i; more = more i }

-- the programs fit
module _ (held : Text → Option (List ℕ)) (inputs : Inputs) (names : List Text) (told : AllZip (λ name bytes. held name ≡ Some bytes) names inputs.more) (line : List ℕ) (of_hosts : List Text) (are : AreImages inputs.text of_hosts) (images : List (List ℕ)) (read : AllZip (λ name bytes. IsTold (held name) bytes) of_hosts images) where
  are_told : (others : List Text) (contents : List (List ℕ)) → AreImages inputs.text others → AllZip (λ name bytes. held name ≡ Some bytes) others contents → images ≡ contents
  are_told others contents are_also told_also =
      let read_also : AllZip (λ name bytes. IsTold (held name) bytes) others images = subst (λ names. AllZip (λ name bytes. IsTold (held name) bytes) names images) (same_images inputs.text of_hosts others are are_also) read in
      same_contents held others images contents read_also told_also

  has_room : (s : Sentence) → Accepts s inputs → AreFurther s inputs.text names → LacksHostRoom s inputs.text images line → ⊥
  has_room (Check file) accepted further lacks = lacks
  has_room (Model file stats) accepted further lacks =
      let same : accepted.topology ≡ lacks.topology = one_topology inputs.text accepted.topology lacks.topology accepted.spelled lacks.spelled in
      let programs : inputs.more ≡ images = sym (are_told names inputs.more further told) in
      let clash : None ≡ Some lacks.fact.number = sym accepted.fact ∙ ap₂ too_long same programs ∙ lacks.fact.too_long_is in cc
  has_room (Serial file stats) accepted further lacks =
      let same : accepted.topology ≡ lacks.topology = one_topology inputs.text accepted.topology lacks.topology accepted.spelled lacks.spelled in
      let programs : inputs.more ≡ images = sym (are_told names inputs.more further told) in
      let clash : None ≡ Some lacks.fact.number = sym accepted.fact ∙ ap₂ too_long same programs ∙ lacks.fact.too_long_is in cc
  has_room (Replay file schedule) accepted further lacks =
      let same : accepted.fact.topology ≡ lacks.topology = one_topology inputs.text accepted.fact.topology lacks.topology accepted.fact.spelled lacks.spelled in
      let told_all : AllZip (λ name bytes. held name ≡ Some bytes) (further.images ++ schedule ∷ []) (accepted.images ++ accepted.schedule ∷ []) = subst (λ contents. AllZip (λ name bytes. held name ≡ Some bytes) (further.images ++ schedule ∷ []) contents) accepted.behind (subst (λ names. AllZip (λ name bytes. held name ≡ Some bytes) names inputs.more) further.behind told) in
      let told_images : AllZip (λ name bytes. held name ≡ Some bytes) further.images accepted.images = all_but_last (λ name bytes. held name ≡ Some bytes) further.images schedule accepted.images accepted.schedule told_all in
      let programs : accepted.images ≡ images = sym (are_told further.images accepted.images further.are_images told_images) in
      let clash : None ≡ Some lacks.fact.number = sym accepted.fact.fact.0 ∙ ap₂ too_long same programs ∙ lacks.fact.too_long_is in cc
  has_room (Asm file) accepted further lacks = lacks

module _ (before after : FilesSeen) (s : Sentence) (inputs : Inputs) (names : List Text) (further : AreFurther s inputs.text names) (more_told : AllZip (λ name bytes. before.held name ≡ Some bytes) names inputs.more) (told : before.held (file_of s) ≡ Some inputs.text) (accepted : Accepts s inputs) where
  pub of_text : (Lacks : List ℕ → Type 0) → OfFile s before after Lacks → Lacks inputs.text
  of_text Lacks of = subst Lacks (told_alone (before.held (file_of s)) of.bytes inputs.text of.read.told told) of.fact

  pub made : (bad : OutputBad) → IsOutputBad s before after bad → Stays before.faults after.faults → output_status bad ≡ 1
  made bad.NoMemory why stays = refl
  made (bad.File line) why stays = absurd (stays why.failed)
  made (bad.Topology line) why stays = absurd (has_topology s inputs line accepted (of_text (λ bytes. LacksTopology s bytes line) why))
  made (bad.Broken cause line) why stays = absurd why
  made (bad.Image line) why stays =
      let text : why.bytes ≡ inputs.text = told_alone (before.held (file_of s)) why.bytes inputs.text why.read.told.0 told in
      let are : AreImages inputs.text why.names = subst (λ (bytes : List ℕ). AreImages bytes why.names) text why.are_images in
      absurd (has_room before.held inputs names more_told line why.names are why.images why.read.told.1 s accepted further (subst (λ (bytes : List ℕ). LacksHostRoom s bytes why.images line) text why.fact))
  made (bad.Schedule line) why stays =
      let same : why.inputs ≡ inputs = same_inputs s before after why.inputs inputs why.read told names further more_told in
      absurd (has_step s inputs line accepted (subst (λ (i : Inputs). LacksStep s i line) same why.fact))
  made (bad.Asm line) why stays = absurd (has_program s inputs line accepted (of_text (λ bytes. LacksProgram s bytes line) why))

-- what can be answered is refused for want of memory alone
answer_made : (before after : FilesSeen) (request : Request) → CanAnswer request before.held → (bad : OutputBad) → IsAnswerBad request before after bad → Stays before.faults after.faults → output_status bad ≡ 1
answer_made before after (OnFiles s) can bad why stays = made before after s can.inputs can.names can.are_further can.more_told can.told can.accepted bad why stays
answer_made before after (Load stations as_text) can bad why stays = ap output_status why

-- a command that can take its files is refused for want of memory alone, where no read and no write fails
pub answered : (words : List Text) (before after : FilesSeen) (refusal : Refusal) → IsRefusal words before after refusal → (refusal ≡ refused.Out → ⊥) → IsAccepted words before.held → Stays before.faults after.faults → status_of refusal ≡ 1
answered words before after refused.NoMemory why written accepted stays = refl
answered words before after refused.Usage why written accepted stays = let clash : None ≡ Some accepted.request = sym why ∙ accepted.asked in cc
answered words before after refused.Out why written accepted stays = absurd (written refl)
answered words before after (refused.NoOutput bad) why written accepted stays =
    let same_asked : Some why.request ≡ Some accepted.request = sym why.asked ∙ accepted.asked in
    let same : why.request ≡ accepted.request = cc in
    answer_made before after accepted.request accepted.fact bad (subst (λ request. IsAnswerBad request before after bad) same why.fact) stays

-- the status of what is refused for its output alone
pub is_out : (refusal : Refusal) → status_of refusal ≡ 9 → refusal ≡ refused.Out
is_out refused.NoMemory status = absurd (omega (arith, status))
is_out refused.Usage status = absurd (omega (arith, status))
is_out refused.Out status = refl
is_out (refused.NoOutput bad.NoMemory) status = absurd (omega (arith, status))
is_out (refused.NoOutput (bad.File line)) status = absurd (omega (arith, status))
is_out (refused.NoOutput (bad.Topology line)) status = absurd (omega (arith, status))
is_out (refused.NoOutput (bad.Broken (broken.Lost channel) line)) status = absurd (omega (arith, status))
is_out (refused.NoOutput (bad.Broken (broken.Peer channel offset reason) line)) status = absurd (omega (arith, status))
is_out (refused.NoOutput (bad.Broken (broken.Differs channel offset) line)) status = absurd (omega (arith, status))
is_out (refused.NoOutput (bad.Image line)) status = absurd (omega (arith, status))
is_out (refused.NoOutput (bad.Schedule line)) status = absurd (omega (arith, status))
is_out (refused.NoOutput (bad.Asm line)) status = absurd (omega (arith, status))
