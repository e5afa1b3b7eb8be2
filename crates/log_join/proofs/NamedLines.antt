-- The lines of all components with their names: one component more, the lines of one moment, and all lines.
use Rattle.std.proofs.Common.{◌≡◌, ℕ, ◌+◌, ◌<◌, ◌≤◌, eqb, inl, inr, List, [], ◌∷◌, ◌++◌, length, get_or, take, refl, ap, sym, ◌∙◌, arith}
use Rattle.std.specs.List.{All, filter, flat_map, zip}
use Rattle.std.proofs.lemmas.Bool.{cases_Bool}
use Rattle.std.proofs.lemmas.List.{take_more, take_all, flat_map_more}
use Rattle.std.proofs.lemmas.List.Concat.{flat_map-append}
use Rattle.std.proofs.lemmas.List.Elements.{filter-append, All-nil, All-head, All-tail, All-map, All-append}
use Rattle.std.proofs.lemmas.Slice.Zip.{length-zip, get_or-zip}
use Rattle.device_api.specs.declared.logs.Line.{Line}
use Rattle.device_api.specs.Joined.{text_of, texts_of, lines_at, joined_at}
use Rattle.log_join.specs.Before.{IsBefore, AreBefore}
use Rattle.log_join.specs.Entries.{named_lines, all_named_lines}

abbrev pub time_of : List ℕ × Line → ℕ
time_of line = line.1.at

abbrev pub text : List ℕ × Line → List ℕ
text line = text_of line.0 line.1

pub named_lines_more : (names : List (List ℕ)) (logs : List (List Line)) (n : ℕ) (name : List ℕ) (log : List Line) → n < length names → n < length logs → name ≡ get_or names n name → log ≡ get_or logs n log → flat_map named_lines (take n (zip names logs)) ++ named_lines (name, log) ≡ flat_map named_lines (take (n + 1) (zip names logs))
named_lines_more names logs n name log named logged name_is log_is =
    let short : n < length (zip names logs) = rw length-zip (omega arith) in
    let this : get_or (zip names logs) n (name, log) ≡ (name, log) = get_or-zip names logs n (name, log) named logged ∙ (cc) in
    flat_map_more named_lines [] (take n (zip names logs)) (name, log)
    ∙ ap (flat_map named_lines) (sym (take_more (zip names logs) n (name, log) short ∙ ap (λ x. take n (zip names logs) ++ x ∷ []) this))

pub named_lines_whole : (names : List (List ℕ)) (logs : List (List Line)) (n : ℕ) → length names ≡ length logs → length names ≤ n → flat_map named_lines (take n (zip names logs)) ≡ all_named_lines names logs
named_lines_whole names logs n same all = ap (flat_map named_lines) (take_all n (zip names logs) (rw length-zip (omega arith)))

-- the lines of one component at t, as text
texts_at : (t : ℕ) (name : List ℕ) (log : List Line) → flat_map text (filter (λ x. eqb (time_of x) t) (named_lines (name, log))) ≡ texts_of name (lines_at t log)
texts_at t name [] = refl
texts_at t name (line ∷ log) =
    elim (cases_Bool (eqb line.at t)) [
      | inl here ↦ rw here (ap (λ more. text_of name line ++ more) (texts_at t name log))
      | inr not_here ↦ rw not_here (texts_at t name log)
    ]

pub joined_at_is : (t : ℕ) (names : List (List ℕ)) (logs : List (List Line)) → flat_map text (filter (λ x. eqb (time_of x) t) (all_named_lines names logs)) ≡ joined_at t names logs
joined_at_is t [] logs = refl
joined_at_is t (name ∷ names) [] = refl
joined_at_is t (name ∷ names) (log ∷ logs) =
    let p = λ (x : List ℕ × Line). eqb (time_of x) t in
    ap (flat_map text) (filter-append p (named_lines (name, log)) (all_named_lines names logs))
    ∙ flat_map-append text (filter p (named_lines (name, log))) (filter p (all_named_lines names logs))
    ∙ ap (λ first. first ++ flat_map text (filter p (all_named_lines names logs))) (texts_at t name log)
    ∙ ap (λ rest. texts_of name (lines_at t log) ++ rest) (joined_at_is t names logs)

pub all_before : (end : ℕ) (names : List (List ℕ)) (logs : List (List Line)) → AreBefore end logs → All (λ x. time_of x < end) (all_named_lines names logs)
all_before end [] logs before = All-nil (λ x. time_of x < end)
all_before end (name ∷ names) [] before = All-nil (λ x. time_of x < end)
all_before end (name ∷ names) (log ∷ logs) before =
    All-append (λ x. time_of x < end) (named_lines (name, log)) (all_named_lines names logs)
    (All-map (λ x. time_of x < end) (λ line. (name, line)) log (All-head (IsBefore end) log logs before))
    (all_before end names logs (All-tail (IsBefore end) log logs before))
