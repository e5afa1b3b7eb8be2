-- The instructions of a source's lines stand in its bytes.
use Rattle.std.proofs.Common.{◌≡◌, ℕ, ◌+◌, ◌-◌, ◌%◌, ◌<◌, ◌^◌, Bool, true, false, ◌||◌, List, [], ◌∷◌, ◌++◌, All, length, take, drop, Option, Some, None, is_none, Result, Ok, Err, refl, sym, ap, ◌∙◌, subst, arith, append_assoc, length-append}
use Rattle.std.proofs.Math.Seq.{drop-append_seam}
use Rattle.std.proofs.lemmas.List.{length-replicate}
use Rattle.std.proofs.lemmas.List.Elements.{All-nil, All-cons}
use Rattle.std.proofs.lemmas.List.Sums.{sum_by_push}
use Rattle.std.proofs.lemmas.Nat.{from_le_bytes-to_le_bytes_4}
use Rattle.std.specs.Int.{to_le_bytes, from_le_bytes, w32}
use Rattle.std.specs.List.{flat_map, list_any}
use Rattle.std.specs.Option.{option_map_or}
use Rattle.asm_syntax.specs.declared.line.Line.{Line}
use Rattle.asm_syntax.specs.declared.line.LineBad.{LineBad}
use Rattle.asm_syntax.specs.declared.statement.Statement.{Statement}
use Rattle.asm_syntax.specs.declared.statement.Statement.TheVariants.{Instruction, Branch, Jump, LoadImmediate, LoadAddress, Word, WordOf, Byte, Space}
use Rattle.rv32_isa.specs.Table.{encoded, decoded}
use Rattle.rv32_isa.specs.Bits.{word_of}
use Rattle.rv32_isa.specs.declared.instr.Instr.{Instr}
use Rattle.rv32_isa.specs.declared.instr.Instr.TheVariants.{Auipc, Addi, Jal}
use Rattle.rv32_isa.proofs.TableLaws.{decoded_back}
use Rattle.rv32_asm.specs.Assembled.{with_line, outcome, outcome_of_lines, line_bytes, content_bytes}
use Rattle.rv32_asm.specs.Decoding.{word_at, DecodeFrom, line_instructions, StandsIn, LinesStandIn}
use Rattle.rv32_asm.specs.Faults.{fault, first_of, when, is_past_reach, is_misplaced, misses_label}
use Rattle.rv32_asm.specs.Layout.{start, size_of, size_of_statement, place_of, placed_after}
use Rattle.rv32_asm.specs.Meaning.{instructions, instruction_bytes, bytes_of, branch, offset, upper, lower, load_address}
use Rattle.rv32_asm.specs.declared.reason.AsmReason.{AsmReason}
use Rattle.rv32_asm.specs.declared.reason.AsmReason.TheVariants.{Range, LabelTwice, LabelMissing, TooLong}
use Rattle.rv32_asm.proofs.Placing.{sizes, placed_line}
use Rattle.rv32_asm.proofs.WordBounds.{encoded_fits}

-- ---- a line without a fault

record IsSound (place : List ℕ → Option ℕ) (at : ℕ) (statement : Statement) : Type 0 where
  reaches : is_past_reach place at statement ≡ false
  finds : misses_label place statement ≡ false

no_fault : (misplaced past twice missing long : Bool)
    → first_of (None ∷ when misplaced Range ∷ when past Range ∷ when twice LabelTwice ∷ when missing LabelMissing ∷ when long TooLong ∷ []) ≡ None
    → (past ≡ false) × (missing ≡ false)
no_fault true past twice missing long e = cc
no_fault false true twice missing long e = cc
no_fault false false true missing long e = cc
no_fault false false false true long e = cc
no_fault false false false false long e = (refl, refl)

sound_statement : (place : List ℕ → Option ℕ) (at : ℕ) (twice : Bool) (statement : Statement)
    → fault place (record { content = Ok (Some statement); address = at; twice = twice }) ≡ None → IsSound place at statement
sound_statement place at twice statement e =
    let facts = no_fault (is_misplaced at statement) (is_past_reach place at statement) twice (misses_label place statement) _ e in
    record { reaches = facts.0; finds = facts.1 }

-- ---- the instructions of a statement

record IsWord (instr : Instr) : Type 0 where
  word : ℕ
  is : encoded instr ≡ Some word

has_word : (instr : Instr) (o : Option ℕ) → encoded instr ≡ o → is_none o ≡ false → IsWord instr
has_word instr None e some = cc
has_word instr (Some word) e some = record { word = word; is = e }

neither : (a b : Bool) → (a || b) ≡ false → (a ≡ false) × (b ≡ false)
neither true b e = cc
neither false b e = (refl, e)

-- all of them have words
abbrev NoneFails : List Instr → Type 0
NoneFails instrs = list_any (λ instr. is_none (encoded instr)) instrs ≡ false

record Splits (instr : Instr) (more : List Instr) : Type 0 where
  first : IsWord instr
  others : NoneFails more

splits : (instr : Instr) (more : List Instr) → NoneFails (instr ∷ more) → Splits instr more
splits instr more sound =
    let parts = neither (is_none (encoded instr)) _ sound in record { first = has_word instr (encoded instr) refl parts.0; others = parts.1 }

four : (instr : Instr) (sound : IsWord instr) → length (instruction_bytes instr) ≡ 4
four instr sound = ap (λ o. length (option_map_or (to_le_bytes w32) o [])) sound.is

-- n words have 4 n bytes
one_word : (instr : Instr) → NoneFails (instr ∷ []) → length (flat_map instruction_bytes (instr ∷ [])) ≡ 4
one_word instr sound =
    let s = splits instr [] sound in let e = four instr s.first in omega (arith, length-append (instruction_bytes instr) [], e)

two_words : (first second : Instr) → NoneFails (first ∷ second ∷ []) → length (flat_map instruction_bytes (first ∷ second ∷ [])) ≡ 8
two_words first second sound =
    let s = splits first (second ∷ []) sound in
    let e = four first s.first in
    let more = one_word second s.others in
    omega (arith, length-append (instruction_bytes first) (flat_map instruction_bytes (second ∷ [])), e, more)

-- instructions that go by a label which a line has
by_label : (f : ℕ → List Instr) (n : ℕ) (place : Option ℕ) → is_none place ≡ false
    → ((target : ℕ) → NoneFails (f target) → length (flat_map instruction_bytes (f target)) ≡ n)
    → NoneFails (option_map_or f place []) → length (flat_map instruction_bytes (option_map_or f place [])) ≡ n
by_label f n None has all sound = cc
by_label f n (Some target) has all sound = all target sound

word_of_label : (place : Option ℕ) → is_none place ≡ false → length (option_map_or (λ target. to_le_bytes w32 (target % 2 ^ 32)) place []) ≡ 4
word_of_label None has = cc
word_of_label (Some target) has = refl

sized_statement : (place : List ℕ → Option ℕ) (at : ℕ) (statement : Statement) → IsSound place at statement
    → length (bytes_of place at statement) ≡ size_of_statement statement
sized_statement place at (Instruction instr) sound = one_word instr sound.reaches
sized_statement place at (Branch condition rs1 rs2 to) sound =
    by_label (λ target. branch condition rs1 rs2 (offset at target) ∷ []) 4 (place to) sound.finds (λ target. one_word (branch condition rs1 rs2 (offset at target))) sound.reaches
sized_statement place at (Jump rd to) sound =
    by_label (λ target. Jal rd (offset at target) ∷ []) 4 (place to) sound.finds (λ target. one_word (Jal rd (offset at target))) sound.reaches
sized_statement place at (LoadImmediate rd value) sound = two_words _ _ sound.reaches
sized_statement place at (LoadAddress rd to) sound =
    by_label (λ target. load_address rd (word_of (offset at target))) 8 (place to) sound.finds
    (λ target. two_words (Auipc rd (upper (word_of (offset at target)))) (Addi rd rd (lower (word_of (offset at target))))) sound.reaches
sized_statement place at (Word value) sound = refl
sized_statement place at (WordOf to) sound = word_of_label (place to) sound.finds
sized_statement place at (Byte value) sound = refl
sized_statement place at (Space count) sound = length-replicate count 0

-- a line without a fault has as many bytes as it takes
sized : (place : List ℕ → Option ℕ) (at : ℕ) (twice : Bool) (content : Result (Option Statement) LineBad)
    → fault place (record { content = content; address = at; twice = twice }) ≡ None → length (content_bytes place at content) ≡ size_of content
sized place at twice (Ok None) sound = refl
sized place at twice (Ok (Some statement)) sound = sized_statement place at statement (sound_statement place at twice statement sound)
sized place at twice (Err bad) sound = cc

-- ---- the instructions in the bytes

word_in : (front rest : List ℕ) (word : ℕ) → word < 2 ^ 32 → word_at (front ++ (to_le_bytes w32 word ++ rest)) (start + length front) ≡ word
word_in front rest word fits =
    let same : start + length front - start ≡ length front = omega arith in
    ap (λ n. from_le_bytes w32 (take 4 (drop n (front ++ (to_le_bytes w32 word ++ rest))))) same
    ∙ ap (λ bytes. from_le_bytes w32 (take 4 bytes)) (drop-append_seam front (to_le_bytes w32 word ++ rest))
    ∙ from_le_bytes-to_le_bytes_4 word fits

stands : (instr : Instr) (front rest : List ℕ) → IsWord instr → decoded (word_at (front ++ (instruction_bytes instr ++ rest)) (start + length front)) ≡ instr
stands instr front rest is =
    ap (λ o. decoded (word_at (front ++ (option_map_or (to_le_bytes w32) o [] ++ rest)) (start + length front))) is.is
    ∙ ap decoded (word_in front rest is.word (encoded_fits instr is.word is.is))
    ∙ decoded_back instr is.word is.is

stand : (instrs : List Instr) (front rest : List ℕ) → NoneFails instrs → DecodeFrom (front ++ (flat_map instruction_bytes instrs ++ rest)) (start + length front) instrs
unfolding DecodeFrom
stand [] front rest sound = tt
stand (instr ∷ more) front rest sound =
    let parts = splits instr more sound in
    let bytes = instruction_bytes instr in
    let others = flat_map instruction_bytes more in
    let joined : front ++ (bytes ++ (others ++ rest)) ≡ front ++ ((bytes ++ others) ++ rest) = ap (λ b. front ++ b) (sym (append_assoc bytes others rest)) in
    let moved : (front ++ bytes) ++ (others ++ rest) ≡ front ++ ((bytes ++ others) ++ rest) = append_assoc front bytes (others ++ rest) ∙ joined in
    let behind_it : start + length (front ++ bytes) ≡ start + length front + 4 = let e = four instr parts.first in omega (arith, length-append front bytes, e) in (
      subst (λ b. decoded (word_at b (start + length front)) ≡ instr) joined (stands instr front (others ++ rest) parts.first),
      subst (λ b. DecodeFrom b (start + length front + 4) more) moved (subst (λ a. DecodeFrom ((front ++ bytes) ++ (others ++ rest)) a more) behind_it (stand more (front ++ bytes) rest parts.others)),
    )

nothing_stands : (bytes : List ℕ) (at : ℕ) → DecodeFrom bytes at []
unfolding DecodeFrom
nothing_stands bytes at = tt

statement_stands : (place : List ℕ → Option ℕ) (front rest : List ℕ) (statement : Statement) → is_past_reach place (start + length front) statement ≡ false
    → DecodeFrom (front ++ (bytes_of place (start + length front) statement ++ rest)) (start + length front) (instructions place (start + length front) statement)
statement_stands place front rest (Instruction instr) sound = stand (instr ∷ []) front rest sound
statement_stands place front rest (Branch condition rs1 rs2 to) sound = stand (instructions place (start + length front) (Branch condition rs1 rs2 to)) front rest sound
statement_stands place front rest (Jump rd to) sound = stand (instructions place (start + length front) (Jump rd to)) front rest sound
statement_stands place front rest (LoadImmediate rd value) sound = stand (instructions place (start + length front) (LoadImmediate rd value)) front rest sound
statement_stands place front rest (LoadAddress rd to) sound = stand (instructions place (start + length front) (LoadAddress rd to)) front rest sound
statement_stands place front rest (Word value) sound = nothing_stands _ _
statement_stands place front rest (WordOf to) sound = nothing_stands _ _
statement_stands place front rest (Byte value) sound = nothing_stands _ _
statement_stands place front rest (Space count) sound = nothing_stands _ _

line_stands : (place : List ℕ → Option ℕ) (front rest : List ℕ) (twice : Bool) (content : Result (Option Statement) LineBad)
    → fault place (record { content = content; address = start + length front; twice = twice }) ≡ None
    → DecodeFrom (front ++ (content_bytes place (start + length front) content ++ rest)) (start + length front) (line_instructions place (start + length front) content)
line_stands place front rest twice (Ok None) sound = nothing_stands _ _
line_stands place front rest twice (Ok (Some statement)) sound =
    statement_stands place front rest statement (sound_statement place (start + length front) twice statement sound).reaches
line_stands place front rest twice (Err bad) sound = nothing_stands _ _

-- ---- the lines one behind another

record IsBegun (line_fault : Option AsmReason) (bytes : List ℕ) (rest : Result (List ℕ) (ℕ × AsmReason)) (all : List ℕ) : Type 0 where
  sound : line_fault ≡ None
  more : List ℕ
  rest_is : rest ≡ Ok more
  all_are : bytes ++ more ≡ all

begun : (number : ℕ) (line_fault : Option AsmReason) (bytes : List ℕ) (rest : Result (List ℕ) (ℕ × AsmReason)) (all : List ℕ)
    → with_line number line_fault bytes rest ≡ Ok all → IsBegun line_fault bytes rest all
begun number (Some reason) bytes rest all e = cc
begun number None bytes (Ok more) all e = record { sound = refl; more = more; rest_is = refl; all_are = cc }
begun number None bytes (Err refusal) all e = cc

lines_stand : (place : List ℕ → Option ℕ) (number : ℕ) (before lines : List Line) (front bytes : List ℕ) → length front ≡ sizes before
    → outcome place number (placed_after before lines) ≡ Ok bytes → All (StandsIn (front ++ bytes) place) (placed_after before lines)
unfolding outcome placed_after
lines_stand place number before [] front bytes here e = All-nil (StandsIn (front ++ bytes) place)
lines_stand place number before (line ∷ more) front bytes here e =
    let placed = placed_line before line in
    let parts = begun number (fault place placed) (line_bytes place placed) (outcome place (number + 1) (placed_after (before ++ line ∷ []) more)) bytes e in
    let address : start + sizes before ≡ start + length front = ap (λ n. start + n) (sym here) in
    let sound : fault place (record { content = line.content; address = start + length front; twice = placed.twice }) ≡ None =
    ap (λ a. fault place (record { content = line.content; address = a; twice = placed.twice })) (sym address) ∙ parts.sound in
    let own = line_bytes place placed in
    let same : front ++ (own ++ parts.more) ≡ front ++ bytes = ap (λ b. front ++ b) parts.all_are in
    let moved : (front ++ own) ++ parts.more ≡ front ++ bytes = append_assoc front own parts.more ∙ same in
    let size = sized place placed.address placed.twice line.content parts.sound in
    let total = sum_by_push (λ (l : Line). size_of l.content) before line in
    let after : length (front ++ own) ≡ sizes (before ++ line ∷ []) = omega (arith, length-append front own, size, total, here) in
    All-cons (StandsIn (front ++ bytes) place) placed (placed_after (before ++ line ∷ []) more)
    (subst (λ b. DecodeFrom b placed.address (line_instructions place placed.address line.content)) same
    (subst (λ a. DecodeFrom (front ++ (content_bytes place a line.content ++ parts.more)) a (line_instructions place a line.content)) (sym address)
    (line_stands place front parts.more placed.twice line.content sound)))
    (subst (λ b. All (StandsIn b place) (placed_after (before ++ line ∷ []) more)) moved
    (lines_stand place (number + 1) (before ++ line ∷ []) more (front ++ own) parts.more after parts.rest_is))

pub assembled_stand : (lines : List Line) (bytes : List ℕ) → outcome_of_lines lines ≡ Ok bytes → LinesStandIn bytes lines
assembled_stand lines bytes e = lines_stand (place_of lines) 1 [] lines [] bytes refl e
