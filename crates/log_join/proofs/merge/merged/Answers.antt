use Rattle.std.proofs.Common.{◌≡◌, ◌<◌, ◌^◌, ◌∷◌, ℕ, length, map, refl, ap, sym, subst, ◌∙◌, arith, List, Option, Some, None}
use Rattle.std.specs.Prelude.{slice_get, slice_set, IfSome, [], decimal}
use Rattle.std.specs.List.{All}
use Rattle.std.proofs.lemmas.List.{length-map, map-set}
use Rattle.std.proofs.lemmas.Option.{slice_get_read}
use Rattle.device_api.specs.declared.logs.Line.{Line}
use Rattle.moment_tree.specs.Dues.{IsFirst}
use Rattle.log_join.specs.Entries.{spaced}
use Rattle.log_join.specs.Heads.{head_time, second_time}
use Rattle.log_join.proofs.Merging.{IsMerged, lines_left, all_written, some_line, rest_early, left_less, heads_set, second_is, seconds_set, rest_at, place_there, pieces_written}
use Rattle.log_join.proofs.merge.merged.Goals as goal

pub returns : goal.returns
returns c = all_written c.moments.invariant.1 (subst (All (λ (due : Option ℕ). due ≡ None)) c.moments.invariant.0 c.in_default.ensures.none)

pub returns-in_default-split_first : goal.returns-in_default-split_first
returns-in_default-split_first c =
    let place = c.in-Some.moment.component in
    let items = c.moments.rests.items in
    let lt = place_there (λ rest. rest.now) items c.moments.agenda place (Some c.in-Some.moment.at) c.moments.invariant.0 c.in-Some.ensures.there in
    let at = rest_at (λ rest. rest.now) items place c.index.result.now lt c.index.ensures in
    let some = some_line c.moments.invariant.1 place c.in-Some.moment.at (ap (λ xs. slice_get xs place) (sym c.moments.invariant.0) ∙ c.in-Some.ensures.there) c.index.result.now.now at in
    absurd (no_head c.index.result.now.now c.in-Some.moment.at some c.in_default-split_first.ensures.cases)
  where
    no_head : (log : List Line) (t : ℕ) → head_time log ≡ Some t → length log ≡ 0 → ⊥
    no_head [] t is none = absurd cc
    no_head (line ∷ more) t is none = absurd (omega arith)

pub index-requires-in-Some : goal.index-requires-in-Some
index-requires-in-Some c =
    let lt = place_there (λ rest. rest.now) c.moments.rests.items c.moments.agenda c.in-Some.moment.component (Some c.in-Some.moment.at) c.moments.invariant.0 c.in-Some.ensures.there in
    let same = c.moments.invariant.1.same in
    let long = length-map c.moments.rests.items (λ rest. rest.now) in
    let all = length-map c.args.names.now spaced in
    let pieces = ap length c.in_ok-spaced.ensures in
    omega (arith, lt, same, long, all, pieces)

pub index-requires-in-Some-2 : goal.index-requires-in-Some-2
index-requires-in-Some-2 c =
    let lt = place_there (λ rest. rest.now) c.moments.rests.items c.moments.agenda c.in-Some.moment.component (Some c.in-Some.moment.at) c.moments.invariant.0 c.in-Some.ensures.there in
    let each = ap length c.moments.invariant.3 in
    let heads = length-map (map (λ rest. rest.now) c.moments.rests.items) second_time in
    let long = length-map c.moments.rests.items (λ rest. rest.now) in
    omega (arith, lt, each, heads, long)

pub index_mut-requires : goal.index_mut-requires
index_mut-requires c =
    let lt = place_there (λ rest. rest.now) c.moments.rests.items c.moments.agenda c.in-Some.moment.component (Some c.in-Some.moment.at) c.moments.invariant.0 c.in-Some.ensures.there in
    let each = ap length c.moments.invariant.3 in
    let heads = length-map (map (λ rest. rest.now) c.moments.rests.items) second_time in
    let long = length-map c.moments.rests.items (λ rest. rest.now) in
    omega (arith, lt, each, heads, long, c.moments.seconds.ok)

pub index_mut-requires-in-Some : goal.index_mut-requires-in-Some
index_mut-requires-in-Some c =
    let lt : c.in-Some.moment.component < length c.moments.rests.items = place_there (λ rest. rest.now) c.moments.rests.items c.moments.agenda c.in-Some.moment.component (Some c.in-Some.moment.at) c.moments.invariant.0 c.in-Some.ensures.there in
    omega (arith, lt, c.moments.rests.ok)

pub set-requires : goal.set-requires
set-requires c =
    let place = c.in-Some.moment.component in
    let items = c.moments.rests.items in
    let lt = place_there (λ rest. rest.now) items c.moments.agenda place (Some c.in-Some.moment.at) c.moments.invariant.0 c.in-Some.ensures.there in
    let at = rest_at (λ rest. rest.now) items place c.index.result.now lt c.index.ensures in
    let split = c.in-Some-split_first.ensures.cases in
    let here = at ∙ ap Some split.0 in
    let line = c.in-Some-split_first.line.now in
    let more = c.in-Some-split_first.rest.now in
    let seconds = c.moments.seconds.items in
    let each = ap length c.moments.invariant.3 in
    let heads = length-map (map (λ rest. rest.now) items) second_time in
    let long = length-map items (λ rest. rest.now) in
    let below : place < length seconds = omega (arith, lt, each, heads, long) in
    let ready = slice_get_read seconds (length seconds) place c.index-in-Some-2.result.now refl below c.index-in-Some-2.ensures in
    let due = second_is (map (λ rest. rest.now) items) seconds place line more c.index-in-Some-2.result.now c.moments.invariant.3 here ready in
    subst (λ due. IfSome due (λ at. at < 2 ^ 57)) (sym due) (rest_early c.moments.invariant.1 place line more here)

pub moments-smaller : goal.moments-smaller
moments-smaller c =
    let place = c.in-Some.moment.component in
    let items = c.moments.rests.items in
    let lt = place_there (λ rest. rest.now) items c.moments.agenda place (Some c.in-Some.moment.at) c.moments.invariant.0 c.in-Some.ensures.there in
    let at = rest_at (λ rest. rest.now) items place c.index.result.now lt c.index.ensures in
    let split = c.in-Some-split_first.ensures.cases in
    subst (λ xs. lines_left xs < lines_left (map (λ rest. rest.now) items)) (sym (map-set (λ rest. rest.now) items place c.in-Some-split_first.rest)) (left_less place c.in-Some-split_first.line.now c.in-Some-split_first.rest.now (map (λ rest. rest.now) items) (at ∙ ap Some split.0))

pub moments-preserved : goal.moments-preserved
moments-preserved c =
    let place = c.in-Some.moment.component in
    let items = c.moments.rests.items in
    let lt = place_there (λ rest. rest.now) items c.moments.agenda place (Some c.in-Some.moment.at) c.moments.invariant.0 c.in-Some.ensures.there in
    let at = rest_at (λ rest. rest.now) items place c.index.result.now lt c.index.ensures in
    let split = c.in-Some-split_first.ensures.cases in
    let line = c.in-Some-split_first.line.now in
    let more = c.in-Some-split_first.rest.now in
    let here = at ∙ ap Some split.0 in
    let set = sym (map-set (λ rest. rest.now) items place c.in-Some-split_first.rest) in
    let pieces = c.in_ok-spaced.spaced.items in
    let same = c.moments.invariant.1.same in
    let long = length-map items (λ rest. rest.now) in
    let all = length-map c.args.names.now spaced in
    let each = ap length c.in_ok-spaced.ensures in
    let below : place < length pieces = omega (arith, lt, same, long, all, each) in
    let piece = c.as_slice-in-Some.result.now in
    let read = slice_get_read pieces (length pieces) place c.index-in-Some.result.now refl below c.index-in-Some.ensures in
    let ready : slice_get (map spaced c.args.names.now) place ≡ Some piece = ap (λ xs. slice_get xs place) (sym c.in_ok-spaced.ensures) ∙ read ∙ ap Some (sym c.as_slice-in-Some.ensures) in
    let digits = c.as_slice.result.now in
    let stamped : digits ≡ decimal line.at = c.as_slice.ensures ∙ c.in_ok-stamp.ensures ∙ ap decimal c.picoseconds-at.ensures in
    let time = some_line c.moments.invariant.1 place c.in-Some.moment.at (ap (λ xs. slice_get xs place) (sym c.moments.invariant.0) ∙ c.in-Some.ensures.there) (line ∷ more) here in
    let time_is : line.at ≡ c.in-Some.moment.at = cc in
    let first = subst (λ t. IsFirst t place (map head_time (map (λ rest. rest.now) items))) (sym time_is) (subst (λ xs. IsFirst c.in-Some.moment.at place xs) c.moments.invariant.0 c.in-Some.ensures.first) in
    let seconds = c.moments.seconds.items in
    let due = c.index-in-Some-2.result.now in
    let times = ap length c.moments.invariant.3 in
    let heads = length-map (map (λ rest. rest.now) items) second_time in
    let within : place < length seconds = omega (arith, lt, times, heads, long) in
    let next = slice_get_read seconds (length seconds) place due refl within c.index-in-Some-2.ensures in
    let due_is = second_is (map (λ rest. rest.now) items) seconds place line more due c.moments.invariant.3 here next in
    let seconds' = slice_set seconds place c.second_time.result in
    subst (λ m. (c.set.new.self ≡ map head_time m) × IsMerged c.args.names.now c.args.logs.now m c.write_pieces.new.text × (c.stamp.new.digits ≡ decimal c.picoseconds-at.result) × (seconds' ≡ map second_time m)) set (
      heads_set (map (λ rest. rest.now) items) place more c.moments.agenda c.set.new.self c.moments.invariant.0 (c.set.ensures ∙ ap (slice_set c.moments.agenda place) due_is),
      pieces_written c.moments.invariant.1 place piece digits line more c.write_pieces.new.text ready stamped here first c.in_ok-write_pieces.ensures,
      c.in_ok-stamp.ensures,
      seconds_set (map (λ rest. rest.now) items) place more seconds seconds' c.moments.invariant.3 (ap (slice_set seconds place) c.second_time.ensures),
    )
