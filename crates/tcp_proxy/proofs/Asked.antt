-- What a call to a wire did, put together, and a turn of a receiving end.
use Rattle.std.specs.Prelude.{◌⊎◌, ◌≢◌, ◌-◌, ◌||◌, Bool, true, false, IsTrue, Option, Some, None, option_map, IfSome, IfOk, OnErr, Result, Ok, Err, MatchResult, is_some, ◌↔◌, ◌^◌}
use Rattle.std.specs.Option.{option_to_list}
use Rattle.std.proofs.Common.{inl, inr, ◌≡◌, ℕ, ◌+◌, ◌<◌, ◌≤◌, List, [], ◌∷◌, ◌++◌, length, take, drop, ap, sym, refl, subst, arith, append_assoc, length-append, length-take, length-drop, ◌∙◌}
use Rattle.std.proofs.Math.Seq.{take-add}
use Rattle.std.proofs.lemmas.List.{append-nil}
use Rattle.cs_base.specs.declared.port_kind.PortKind.{PortKind}
use Rattle.cs_base.specs.declared.no_memory.Failed.{Failed}
use Rattle.cs_base.specs.declared.wires.Got.{Got}
use Rattle.cs_base.specs.declared.wires.Got.TheVariants as got
use Rattle.cs_base.specs.Outside.{Rose}
use Rattle.cs_base.specs.Wires.{InSeen, GaveSome, given_after}
use Rattle.sb_message.specs.declared.message.Msg.{Msg}
use Rattle.sb_frame.specs.declared.frame_bad.FrameBad.{FrameBad}
use Rattle.sb_frame.specs.Frames.{AreFrames}
use Rattle.sb_frame.specs.Faults.{FirstFault}
use Rattle.sb_frame.specs.Deframing.{Deframing, MayFeed, Stands}
use Rattle.sb_frame.proofs.Feeding.{is_first_fault}
use Rattle.port_queue.specs.Runs.{Ran}
use Rattle.tcp_proxy.specs.declared.hop.Hop.{Hop}
use Rattle.tcp_proxy.specs.declared.hop.Hop.TheVariants.{Moved, Idle}
use Rattle.tcp_proxy.specs.declared.hop.ProxyBad.{ProxyBad}
use Rattle.tcp_proxy.specs.declared.hop.ProxyBad.TheVariants as bad
use Rattle.tcp_proxy.specs.Turns.{Answers, CanNotWait, Never}
use Rattle.tcp_proxy.specs.Receiving.{Incoming, Carries, Meets, IsFitIn, ArePushedFrom, IsPushedOut, Gives, Deframes, FeedCause, Receives, AskCause, Asked, InCause, TurnedIn, IsToldIn}
use Rattle.tcp_proxy.specs.Receiving.InCause.{it_moved, it_idles, it_failed, it_ended, it_is_bad, it_lacks}

-- ---- asking

told_nil : (told : Option (List ℕ)) → told ≡ option_map (λ bytes. bytes ++ []) told
told_nil None = refl
told_nil (Some bytes) = ap Some (sym (append-nil bytes))

not_ended : (b : Bool) → b ≡ false → IsTrue b → ⊥
not_ended b e t = cc

-- nothing came, and nothing was asked
pub unasked : {I : Type 0} (seen : I → InSeen) (wire : I) (kept kept' : List ℕ) (frames : Deframing) (r : Result Hop ProxyBad) → kept' ≡ kept → AskCause seen wire wire frames [] r → Asked seen wire kept frames wire kept' frames r
unasked seen wire kept kept' frames r same cause = record {
  piece = [];
  longer = same ∙ sym (append-nil kept);
  given = told_nil (seen wire).given;
  at_end = λ ended. refl;
  kind = refl;
  stands = λ ne given s. subst (λ l. Stands frames l given) (sym same) s;
  lacking = λ e. refl;
  cause = cause;
}

-- the wire was asked and gave nothing
pub came_none : {I : Type 0} (seen : I → InSeen) (old new : I) (kept kept' : List ℕ) (frames : Deframing) (r : Result Hop ProxyBad) → (seen old).ended ≡ false → kept' ≡ kept → (seen new).given ≡ (seen old).given → AskCause seen old new frames [] r → Asked seen old kept frames new kept' frames r
came_none seen old new kept kept' frames r runs same given cause = record {
  piece = [];
  longer = same ∙ sym (append-nil kept);
  given = given ∙ told_nil (seen old).given;
  at_end = λ ended. absurd (not_ended (seen old).ended runs ended);
  kind = refl;
  stands = λ ne given s. subst (λ l. Stands frames l given) (sym same) s;
  lacking = λ e. refl;
  cause = cause;
}

told_id : (told : Option (List ℕ)) → option_map (λ bytes. bytes) told ≡ told
told_id None = refl
told_id (Some bytes) = refl

-- why a fed piece makes a turn answer so
feed_cause : {I : Type 0} (seen : I → InSeen) (old new : I) (frames : Deframing) (piece : List ℕ) (r : Result Hop ProxyBad) → 0 < length piece → FeedCause frames r → AskCause seen old new frames piece r
feed_cause seen old new frames piece (Ok Moved) some cause = some
feed_cause seen old new frames piece (Ok Idle) some cause = elim cause [ ]
feed_cause seen old new frames piece (Err bad.Lost) some cause = elim cause [ ]
feed_cause seen old new frames piece (Err (bad.Frame b)) some cause = cause
feed_cause seen old new frames piece (Err bad.NoMemory) some cause = tt

-- the wire was asked and gave some bytes
pub came_some : {I : Type 0} (seen : I → InSeen) (old new : I) (kept kept' piece : List ℕ) (frames frames' : Deframing) (r : Result Hop ProxyBad) → (seen old).ended ≡ false → kept' ≡ kept ++ piece → (seen new).given ≡ option_map (λ bytes. bytes ++ piece) (seen old).given → 0 < length piece → Deframes frames piece frames' r → Asked seen old kept frames new kept' frames' r
came_some seen old new kept kept' piece frames frames' r runs longer given some d = record {
  piece = piece;
  longer = longer;
  given = given;
  at_end = λ ended. absurd (not_ended (seen old).ended runs ended);
  kind = d.kind;
  stands = λ ne given s. subst (λ l. Stands frames' l given) (sym longer) (d.stands ne kept given s);
  lacking = d.lacking;
  cause = feed_cause seen old new frames' piece r some d.cause;
}

-- the bytes kept, with those that came behind them
pub kept_more : (room mid room' : List ℕ) (used count : ℕ) → take used mid ≡ take used room → take used room' ≡ take used mid → take (used + count) room' ≡ take used room ++ take count (drop used room')
kept_more room mid room' used count first second = take-add used count room' ∙ ap (λ l. l ++ take count (drop used room')) (second ∙ first)

-- the wire gave so many bytes behind those that were used, and the deframer was fed them
pub took : {I : Type 0} (seen : I → InSeen) (old new : I) (r : Result Got Failed) (room mid room' slice : List ℕ) (used count : ℕ) (frames frames' : Deframing) (answer : Result Hop ProxyBad) → (seen old).ended ≡ false → r ≡ Ok (got.Took count) → take used mid ≡ take used room → Receives seen old mid used new room' r → slice ≡ room' → Deframes frames (take (used + count - used) (drop used slice)) frames' answer → Asked seen old (take used room) frames new (take (used + count) room') frames' answer
took seen old new r room mid room' slice used count frames frames' answer runs is first got_it same d =
    let piece : List ℕ = take count (drop used room') in
    let some : GaveSome (got.Took count) (length room' - used) = subst (λ (x : Result Got Failed). IfOk x (λ got. GaveSome got (length room' - used))) is got_it.some in
    let least : 1 ≤ count = some.0 in
    let most : count ≤ length room' - used = some.1 in
    let given : (seen new).given ≡ option_map (λ bytes. bytes ++ piece) (seen old).given = subst (λ (x : Result Got Failed). (seen new).given ≡ option_map (given_after x (drop used room')) (seen old).given) is got_it.given in
    let n : used + count - used ≡ count = omega arith in
    let fed : take (used + count - used) (drop used slice) ≡ take count (drop used room') = ap (λ k. take k (drop used slice)) n ∙ ap (λ l. take count (drop used l)) same in
    came_some seen old new (take used room) (take (used + count) room') (take count (drop used room')) frames frames' answer runs (kept_more room mid room' used count first got_it.keeps) given (omega (arith, length-take count (drop used room'), length-drop used room')) (subst (λ l. Deframes frames l frames' answer) fed d)

-- ---- a turn

module _ {I T : Type 0} (seen : I → InSeen) (kind : T → PortKind) (stands : T → List Msg → Type 0) (pushes : T → Msg → T → Type 0) (refuses : T → T → Type 0) where
  stays_true : (a b : Bool) → IsTrue a → (a || b) ≡ false → ⊥
  stays_true true b t e = cc
  stays_true false b t e = cc

  stays_fault : (a : Bool) (o : Option FrameBad) (b : FrameBad) → o ≡ Some b → (a || is_some o) ≡ false → ⊥
  stays_fault true o b is e = cc
  stays_fault false None b is e = cc
  stays_fault false (Some x) b is e = cc

  -- why a turn answers so
  cause_of : (old new : Incoming I) (far far' : T) (n : ℕ) (piece : List ℕ) (stays : Bool) (asked : Result Hop ProxyBad) (x : (b : FrameBad) → new.frames.fault ≡ Some b → FirstFault new.frames.place.kind new.kept b) → stays ≡ ((seen new.wire).ended || is_some new.frames.fault) → (n ≡ 0 → IsPushedOut old.frames old.held ⊎ refuses far far') → AskCause seen old.wire new.wire new.frames piece asked → CanNotWait n stays asked → InCause seen refuses old new far far' n piece asked
  cause_of old new far far' n piece stays (Ok Moved) x is none cause can = it_moved (omega arith)
  cause_of old new far far' n piece stays (Ok Idle) x is none cause can = it_idles can cause.0 cause.1 cause.2 (none can)
  cause_of old new far far' n piece stays (Err bad.Lost) x is none cause can = elim cause [
    | inl rose ↦ it_failed rose
    | inr ended ↦ elim can [
      | inl zero ↦ it_ended zero ended
      | inr not ↦ absurd (stays_true (seen new.wire).ended (is_some new.frames.fault) ended (sym is ∙ not))
    ]
  ]
  cause_of old new far far' n piece stays (Err (bad.Frame b)) x is none cause can = elim can [
    | inl zero ↦ it_is_bad b zero (x b cause)
    | inr not ↦ absurd (stays_fault (seen new.wire).ended new.frames.fault b cause (sym is ∙ not))
  ]
  cause_of old new far far' n piece stays (Err bad.NoMemory) x is none cause can = it_lacks

  moved_not : {r : Result Hop ProxyBad} → r ≡ Ok Moved → r ≡ Err bad.NoMemory → ⊥
  moved_not e f = cc

  answer_cause : (old new : Incoming I) (far far' : T) (n : ℕ) (piece : List ℕ) (stays : Bool) (asked r : Result Hop ProxyBad) (x : asked ≢ Err bad.NoMemory → (b : FrameBad) → new.frames.fault ≡ Some b → FirstFault new.frames.place.kind new.kept b) → stays ≡ ((seen new.wire).ended || is_some new.frames.fault) → (n ≡ 0 → IsPushedOut old.frames old.held ⊎ refuses far far') → AskCause seen old.wire new.wire new.frames piece asked → Answers n asked stays r → InCause seen refuses old new far far' n piece r
  answer_cause old new far far' n piece stays asked r x is none cause answers = elim answers [
    | inl moved ↦ (let some : 0 < n = moved.1 in subst (InCause seen refuses old new far far' n piece) (sym moved.0) (it_moved (omega arith)))
    | inr same ↦ subst (InCause seen refuses old new far far' n piece) (sym same.0) (by_kind asked x cause same.1)
  ]
    where
      by_kind : (asked : Result Hop ProxyBad) → (asked ≢ Err bad.NoMemory → (b : FrameBad) → new.frames.fault ≡ Some b → FirstFault new.frames.place.kind new.kept b) → AskCause seen old.wire new.wire new.frames piece asked → CanNotWait n stays asked → InCause seen refuses old new far far' n piece asked
      by_kind (Ok hop) x cause can = cause_of old new far far' n piece stays (Ok hop) (x (λ e. cc)) is none cause can
      by_kind (Err bad.Lost) x cause can = cause_of old new far far' n piece stays (Err bad.Lost) (x (λ e. cc)) is none cause can
      by_kind (Err (bad.Frame b)) x cause can = cause_of old new far far' n piece stays (Err (bad.Frame b)) (x (λ e. cc)) is none cause can
      by_kind (Err bad.NoMemory) x cause can = it_lacks

  not_lacking : (n : ℕ) (stays : Bool) (asked r : Result Hop ProxyBad) → Answers n asked stays r → r ≢ Err bad.NoMemory → asked ≢ Err bad.NoMemory
  not_lacking n stays asked r answers ne = elim answers [
    | inl moved ↦ moved.2
    | inr same ↦ (λ e. ne (same.0 ∙ e))
  ]

  -- what was pushed is the beginning of the messages kept, whatever came behind them
  pushed_from : (frames : Deframing) (held : Option Msg) (stream piece kept : List ℕ) (pushed : List Msg) → kept ≡ stream ++ piece → Carries frames held stream pushed → ArePushedFrom frames.place.kind kept pushed
  pushed_from frames held stream piece kept pushed longer s = record {
    more = option_to_list held ++ frames.place.waiting;
    front = s.before;
    rest = s.rest ++ piece;
    parts = longer ∙ ap (λ l. l ++ piece) s.parts ∙ append_assoc s.before s.rest piece;
    frames = subst (λ l. AreFrames frames.place.kind l s.before) (append_assoc pushed (option_to_list held) frames.place.waiting) s.reached.frames;
  }

  pub turned : (old mid new : Incoming I) (far far' : T) (n : ℕ) (asked r : Result Hop ProxyBad) (stays : Bool) → IsFitIn kind stands old.frames old.held old.kept far → Gives kind stands pushes refuses old.frames old.held far mid.frames mid.held far' n → Asked seen old.wire old.kept mid.frames new.wire new.kept new.frames asked → new.held ≡ mid.held → stays ≡ ((seen new.wire).ended || is_some new.frames.fault) → Answers n asked stays r → TurnedIn seen kind stands pushes refuses old new far far' r
  turned old mid new far far' n asked r stays fit gives ask held is answers =
      let after = gives.on old.kept fit.pushed fit.meets in
      let meets_new : asked ≢ Err bad.NoMemory → (pushed : List Msg) → Meets kind stands mid.frames mid.held old.kept far' pushed → Meets kind stands new.frames new.held new.kept far' pushed = λ ne pushed meets. record {
        carries = subst (λ (o : Option Msg). Stands new.frames new.kept (pushed ++ option_to_list o)) (sym held) (ask.stands ne (pushed ++ option_to_list mid.held) meets.carries);
        port = meets.port;
        same_kind = meets.same_kind ∙ sym ask.kind;
      } in
      record {
        messages = gives.messages;
        piece = ask.piece;
        last = gives.last;
        pushed = gives.pushed;
        refused = gives.refused;
        kept = ask.longer;
        given = ask.given;
        at_end = ask.at_end;
        on = λ ne pushed meets. meets_new (not_lacking n stays asked r answers ne) (pushed ++ gives.messages) (gives.on old.kept pushed meets);
        from_kept = λ pushed meets.
            let k = gives.on old.kept pushed meets in
            (subst (λ p. ArePushedFrom p new.kept (pushed ++ gives.messages)) gives.same_kind (pushed_from mid.frames mid.held old.kept ask.piece new.kept (pushed ++ gives.messages) ask.longer k.carries), k.port);
        cause = subst (λ m. InCause seen refuses old new far far' m ask.piece r) gives.count
            (answer_cause old new far far' n ask.piece stays asked r
            (λ ne b is_bad. let k = meets_new ne (fit.pushed ++ gives.messages) after in is_first_fault new.frames new.kept ((fit.pushed ++ gives.messages) ++ option_to_list new.held) b is_bad k.carries)
            is gives.none ask.cause answers);
      }

told_given : (o o' : Option (List ℕ)) (kept piece kept' : List ℕ) → o' ≡ option_map (λ bytes. bytes ++ piece) o → kept' ≡ kept ++ piece → IfSome o (λ bytes. bytes ≡ kept) → IfSome o' (λ bytes. bytes ≡ kept')
told_given None o' kept piece kept' is longer told = subst (λ x. IfSome x (λ bytes. bytes ≡ kept')) (sym is) tt
told_given (Some b) o' kept piece kept' is longer told = subst (λ x. IfSome x (λ bytes. bytes ≡ kept')) (sym is) (ap (λ l. l ++ piece) told ∙ sym longer)

pub told_on : {I T : Type 0} (seen : I → InSeen) (kind : T → PortKind) (stands : T → List Msg → Type 0) (pushes : T → Msg → T → Type 0) (refuses : T → T → Type 0) (old new : Incoming I) (far far' : T) (r : Result Hop ProxyBad) → TurnedIn seen kind stands pushes refuses old new far far' r → IsToldIn seen old → IsToldIn seen new
told_on seen kind stands pushes refuses old new far far' r t told = told_given (seen old.wire).given (seen new.wire).given old.kept t.piece new.kept t.given t.kept told
