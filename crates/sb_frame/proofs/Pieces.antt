-- Frames within longer bytes.
use Rattle.std.specs.Prelude.{Bool, Option, Some, None, ◌⊎◌, true, false, min}
use Rattle.std.specs.List.{slice_range}
use Rattle.std.specs.Int.{w64, from_le_bytes}
use Rattle.std.proofs.Common.{inl, inr, ◌≡◌, ℕ, ◌+◌, ◌-◌, ◌<◌, ◌≤◌, List, [], ◌∷◌, ◌++◌, length, take, drop, ap, sym, refl, subst, arith, length-append, length-drop, append_assoc, ◌∙◌}
use Rattle.std.proofs.Math.Seq.{take-add}
use Rattle.std.proofs.lemmas.List.{take-append-le, take-append-drop, length-take-le, length-take, take_at, drop-drop, drop-take}
use Rattle.field_layout.specs.Layout.{number_in}
use mathlib.Core.Logic.{dite}
use native.Mathlib.Decide.{dec_le}
use Rattle.sb_message.specs.declared.message.Msg.{Msg}
use Rattle.sb_frame.specs.declared.frame_bad.FrameBad.{FrameBad}
use Rattle.sb_frame.specs.declared.frame_bad.FrameBad.TheVariants as bad
use Rattle.sb_frame.specs.Frames.{stated, is_length, IsOpen, IsShort, IsWhole, IsWrongLength}
use Rattle.sb_frame.specs.Starts.{HasFrame, HasWrongLength, TopsUp}
use Rattle.sb_frame.specs.Faults.{IsBadMessage, IsRefused}
use Rattle.sb_frame.specs.Faults.IsRefused.{no_length, no_frame}
use Rattle.sb_frame.specs.Deframing.{Place, Deframing, Reached, Accepts, StopsAt, StopsIn, FinishesIn}
use Rattle.sb_frame.proofs.Steps.{reach_more, IsReading}

-- the first four bytes state the length, whatever follows
pub stated_front : (a b : List ℕ) → 4 ≤ length a → stated (a ++ b) ≡ stated a
unfolding number_in
stated_front a b four = ap (from_le_bytes w64) (take-append-le 4 a b four)

-- what begins longer bytes states the same
pub stated_take : (n : ℕ) (bytes : List ℕ) → 4 ≤ n → n ≤ length bytes → stated (take n bytes) ≡ stated bytes
stated_take n bytes four fits =
    let long : length (take n bytes) ≡ n = length-take-le n bytes fits in
    sym (stated_front (take n bytes) (drop n bytes) (omega arith)) ∙ ap stated (take-append-drop n bytes)

-- a frame within the bytes, by itself
pub whole_front : (bytes : List ℕ) (size : ℕ) → HasFrame bytes size → IsWhole (take (4 + size) bytes)
whole_front bytes size has =
    let same : stated (take (4 + size) bytes) ≡ size = stated_take (4 + size) bytes (omega arith) has.fits ∙ has.size_is in
    record {
      in_range = ap is_length same ∙ has.in_range;
      measured = length-take-le (4 + size) bytes has.fits ∙ ap (λ n. 4 + n) (sym same);
    }

pub wrong_front : (bytes : List ℕ) → HasWrongLength bytes → IsWrongLength (take 4 bytes)
wrong_front bytes has = record {
  four = length-take-le 4 bytes has.fits;
  out_of_range = ap is_length (stated_take 4 bytes (omega arith) has.fits) ∙ has.out_of_range;
}

-- the message of a frame within the bytes
pub body_of : (bytes : List ℕ) (at size : ℕ) → slice_range bytes (at + 4) (at + 4 + size) ≡ drop 4 (take (4 + size) (drop at bytes))
body_of bytes at size =
    let count : at + 4 + size - (at + 4) ≡ size = omega arith in
    ap (λ n. take n (drop (at + 4) bytes)) count ∙ sym (drop-take 4 size (drop at bytes) ∙ ap (take size) (drop-drop 4 at bytes))

pub read_more : (old new : Place) (given : List Msg) (before bytes : List ℕ) (at size : ℕ) → HasFrame (drop at bytes) size → Accepts old (slice_range bytes (at + 4) (at + 4 + size)) new → Reached old given (before ++ take at bytes) → Reached new given (before ++ take (at + (4 + size)) bytes)
read_more old new given before bytes at size has accepts reached =
    let frame = take (4 + size) (drop at bytes) in
    let a = subst (λ body. Accepts old body new) (body_of bytes at size) accepts in
    subst (Reached new given) (append_assoc before (take at bytes) frame ∙ ap (λ l. before ++ l) (sym (take-add at (4 + size) bytes)))
    (reach_more old new given (before ++ take at bytes) frame (whole_front (drop at bytes) size has) a reached)

pub stop_wrong : (place : Place) (given : List Msg) (before bytes : List ℕ) (at : ℕ) → HasWrongLength (drop at bytes) → Reached place given (before ++ take at bytes) → StopsIn place given before bytes (bad.Length place.offset)
stop_wrong place given before bytes at has reached = record {
  read = at;
  reached = reached;
  stops = record {
    begun = take 4 (drop at bytes);
    more = drop 4 (drop at bytes);
    parts = sym (take-append-drop 4 (drop at bytes));
    refused = no_length (wrong_front (drop at bytes) has);
  };
}

pub stop_bad : (place new : Place) (given : List Msg) (before bytes : List ℕ) (at size : ℕ) (b : FrameBad) → HasFrame (drop at bytes) size → new ≡ place → IsBadMessage place.kind place.last place.offset (slice_range bytes (at + 4) (at + 4 + size)) b → Reached place given (before ++ take at bytes) → StopsIn new given before bytes b
stop_bad place new given before bytes at size b has same is_bad reached = subst (λ p. StopsIn p given before bytes b) (sym same) (record {
  read = at;
  reached = reached;
  stops = record {
    begun = take (4 + size) (drop at bytes);
    more = drop (4 + size) (drop at bytes);
    parts = sym (take-append-drop (4 + size) (drop at bytes));
    refused = no_frame b (whole_front (drop at bytes) size has) (subst (λ body. IsBadMessage place.kind place.last place.offset body b) (body_of bytes at size) is_bad);
  };
})

decide : (old piece mid new : List ℕ) (header body : ℕ) → IsShort mid → length mid ≡ length old + header → length new ≡ length mid + body → header < length piece → header ≡ min (4 - length old) (length piece) → body ≡ min (4 + stated mid - length mid) (length piece - header) → stated new ≡ stated mid → ((header + body ≡ length piece) × IsOpen new) ⊎ (IsWrongLength new ⊎ IsWhole new)
decide old piece mid new header body s long longest less header_is body_is same =
    let short : length mid < 4 + stated mid = s.short in
    dite (dec_le (4 + stated mid) (length new))
    (λ full. inr (inr (record { in_range = ap is_length same ∙ s.in_range; measured = omega arith })))
    (λ more. inl (omega arith, inr (record { in_range = ap is_length same ∙ s.in_range; short = omega arith })))

-- the bytes that decide a frame which is begun were moved to it
pub topped : (old piece mid new : List ℕ) (header body size : ℕ) → header ≡ min (4 - length old) (length piece) → mid ≡ old ++ take header piece → IsOpen mid → header < length piece → size ≡ stated mid → body ≡ min (4 + size - length mid) (length piece - header) → new ≡ mid ++ slice_range piece header (header + body) → TopsUp old piece new (header + body)
topped old piece mid new header body size header_is mid_is opened less size_is body_is new_is =
    let fits : header ≤ length piece = omega arith in
    let front : length (take header piece) ≡ header = length-take-le header piece fits in
    let long : length mid ≡ length old + header = ap length mid_is ∙ length-append old (take header piece) ∙ ap (λ n. length old + n) front in
    let count : header + body - header ≡ body = omega arith in
    let part : slice_range piece header (header + body) ≡ take body (drop header piece) = ap (λ n. take n (drop header piece)) count in
    let whole : new ≡ mid ++ take body (drop header piece) = new_is ∙ ap (λ l. mid ++ l) part in
    let room : body ≤ length (drop header piece) = omega (arith, length-drop header piece) in
    let longest : length new ≡ length mid + body = ap length whole ∙ length-append mid (take body (drop header piece)) ∙ ap (λ n. length mid + n) (length-take-le body (drop header piece) room) in
    let all : new ≡ old ++ take (header + body) piece = whole ∙ ap (λ l. l ++ take body (drop header piece)) mid_is ∙ append_assoc old (take header piece) (take body (drop header piece)) ∙ ap (λ l. old ++ l) (sym (take-add header body piece)) in
    let same : 4 ≤ length mid → stated new ≡ stated mid = λ four. ap stated whole ∙ stated_front mid (take body (drop header piece)) four in
    record {
      fits = omega arith;
      added = all;
      decided = elim opened [
        | inl short ↦ absurd (omega arith)
        | inr s ↦ decide old piece mid new header body s long longest less header_is (body_is ∙ ap (λ n. min (4 + n - length mid) (length piece - header)) size_is) (same (omega arith))
      ];
    }

-- one more whole frame was read
pub reading_more : (first now new : Place) (bytes : List ℕ) (at size : ℕ) → IsReading first now bytes at → HasFrame (drop at bytes) size → Accepts now (slice_range bytes (at + 4) (at + 4 + size)) new → IsReading first new bytes (at + (4 + size))
reading_more first now new bytes at size reading has a =
    let frame = take (4 + size) (drop at bytes) in
    let long : length frame ≡ 4 + size = length-take-le (4 + size) (drop at bytes) has.fits in
    let body : length (slice_range bytes (at + 4) (at + 4 + size)) ≡ size = ap length (body_of bytes at size) ∙ length-drop 4 frame ∙ ap (λ n. n - 4) long ∙ (omega arith) in
    let offset : new.offset ≡ now.offset + (4 + size) = ap (λ (p : Place). p.offset) a.place ∙ ap (λ n. now.offset + (4 + n)) body in
    let counted : now.offset ≡ first.offset + at = reading.counted in
    let held : length (take (length first.waiting) now.waiting) ≡ length first.waiting = ap length reading.keeps in
    let fits : 4 + size ≤ length (drop at bytes) = has.fits in
    let within : at ≤ length bytes = reading.within in
    record {
      within = omega (arith, length-drop at bytes);
      kind = ap (λ (p : Place). p.kind) a.place ∙ reading.kind;
      counted = omega arith;
      keeps = ap (λ (p : Place). take (length first.waiting) p.waiting) a.place ∙ take-append-le (length first.waiting) now.waiting (a.message ∷ []) (omega (arith, length-take (length first.waiting) now.waiting)) ∙ reading.keeps;
      reached = λ given before r. read_more now new given before bytes at size has a (reading.reached given before r);
    }

-- the bytes that were moved, and the rest of the piece
in_two : (old piece new : List ℕ) (n : ℕ) → new ≡ old ++ take n piece → old ++ piece ≡ new ++ drop n piece
in_two old piece new n added =
    ap (λ l. old ++ l) (sym (take-append-drop n piece)) ∙ sym (append_assoc old (take n piece) (drop n piece)) ∙ ap (λ l. l ++ drop n piece) (sym added)

not_both : {b : Bool} → b ≡ true → b ≡ false → ⊥
not_both t f = cc

open_not_wrong : (bytes : List ℕ) → IsOpen bytes → HasWrongLength bytes → ⊥
open_not_wrong bytes opened wrong = elim opened [
  | inl short ↦ (let four : 4 ≤ length bytes = wrong.fits in absurd (omega arith))
  | inr s ↦ not_both s.in_range wrong.out_of_range
]

open_not_whole : (bytes : List ℕ) (size : ℕ) → IsOpen bytes → HasFrame bytes size → ⊥
open_not_whole bytes size opened has = elim opened [
  | inl short ↦ (let fits : 4 + size ≤ length bytes = has.fits in absurd (omega arith))
  | inr s ↦ (let fits : 4 + size ≤ length bytes = has.fits in let same : stated bytes ≡ size = has.size_is in let less : length bytes < 4 + stated bytes = s.short in absurd (omega arith))
]

topped_wrong : (old piece new : List ℕ) (n : ℕ) → TopsUp old piece new n → HasWrongLength new → IsWrongLength new
topped_wrong old piece new n tops has = elim tops.decided [
  | inl opened ↦ absurd (open_not_wrong new opened.1 has)
  | inr decided ↦ elim decided [
    | inl wrong ↦ wrong
    | inr whole ↦ absurd (not_both whole.in_range has.out_of_range)
  ]
]

topped_whole : (old piece new : List ℕ) (n size : ℕ) → TopsUp old piece new n → HasFrame new size → IsWhole new
topped_whole old piece new n size tops has = elim tops.decided [
  | inl opened ↦ absurd (open_not_whole new size opened.1 has)
  | inr decided ↦ elim decided [
    | inl wrong ↦ absurd (not_both (ap is_length has.size_is ∙ has.in_range) wrong.out_of_range)
    | inr whole ↦ whole
  ]
]

pub tops_wrong : (place : Place) (old piece new : List ℕ) (n : ℕ) → TopsUp old piece new n → HasWrongLength new → StopsAt place (old ++ piece) (bad.Length place.offset)
tops_wrong place old piece new n tops has = record {
  begun = new;
  more = drop n piece;
  parts = in_two old piece new n tops.added;
  refused = no_length (topped_wrong old piece new n tops has);
}

pub tops_bad : (place : Place) (old piece new : List ℕ) (n size : ℕ) (b : FrameBad) → TopsUp old piece new n → HasFrame new size → IsBadMessage place.kind place.last place.offset (drop 4 new) b → StopsAt place (old ++ piece) b
tops_bad place old piece new n size b tops has is_bad = record {
  begun = new;
  more = drop n piece;
  parts = in_two old piece new n tops.added;
  refused = no_frame b (topped_whole old piece new n size tops has) is_bad;
}

pub tops_whole : (old new : Deframing) (piece begun : List ℕ) (n size : ℕ) → TopsUp old.begun piece begun n → HasFrame begun size → Accepts old.place (drop 4 begun) new.place → FinishesIn old piece new n
tops_whole old new piece begun n size tops has a =
    let w = old.place.waiting in
    let fits : n ≤ length piece = tops.fits in
    let moved : length (take n piece) ≡ n = length-take-le n piece fits in
    let long : length begun ≡ length old.begun + n = ap length tops.added ∙ length-append old.begun (take n piece) ∙ ap (λ k. length old.begun + k) moved in
    let room : 4 + size ≤ length begun = has.fits in
    let body : length (drop 4 begun) ≡ length begun - 4 = length-drop 4 begun in
    let offset : new.place.offset ≡ old.place.offset + (4 + length (drop 4 begun)) = ap (λ (p : Place). p.offset) a.place in
    record {
      fits = fits;
      kind = ap (λ (p : Place). p.kind) a.place;
      keeps = ap (λ (p : Place). take (length w) p.waiting) a.place ∙ take_at w (a.message ∷ []) (length w) refl;
      counted = omega arith;
      reached = λ given before r. subst (λ l. Reached new.place given (before ++ l)) tops.added (reach_more old.place new.place given before begun (topped_whole old.begun piece begun n size tops has) a r);
    }
