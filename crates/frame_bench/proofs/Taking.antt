-- Messages are taken out of a deframer, one after another.
use Rattle.std.specs.Prelude.{is_some, IfSome, MatchOption}
use Rattle.std.proofs.Common.{ℕ, ◌≡◌, true, false, List, [], ◌∷◌, ◌++◌, Option, Some, None, subst, sym}
use Rattle.sb_message.specs.declared.message.Msg.{Msg}
use Rattle.sb_frame.specs.Deframing.{Deframing, Stands, NextIs}

abbrev pub StandOn : Deframing → Deframing → Type 0
StandOn first now = (stream : List ℕ) (given : List Msg) → Stands first stream given → (after : List Msg) × Stands now stream after

pub one_more : (r : Option Msg) (first old new : Deframing) → StandOn first old → ((stream : List ℕ) (given : List Msg) → Stands old stream given → IfSome r (λ m. Stands new stream (given ++ m ∷ []))) → is_some r ≡ true → StandOn first new
one_more None first old new on taken is = λ stream given s. cc
one_more (Some m) first old new on taken is = λ stream given s.
    let so_far : (after : List Msg) × Stands old stream after = on stream given s in
    (so_far.0 ++ m ∷ [], taken stream so_far.0 so_far.1)

pub no_more : (r : Option Msg) (first old new : Deframing) → StandOn first old → MatchOption r ((old.place.waiting ≡ []) × (new ≡ old)) (λ m. NextIs old m new) → is_some r ≡ false → StandOn first new
no_more None first old new on told is = subst (StandOn first) (sym told.1) on
no_more (Some m) first old new on told is = λ stream given s. cc
