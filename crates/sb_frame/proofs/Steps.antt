-- What reading a frame does to the place of a stream.
use Rattle.std.specs.Prelude.{Option, Some, None}
use Rattle.std.proofs.Common.{◌≡◌, ℕ, ◌+◌, ◌<◌, ◌≤◌, List, [], ◌∷◌, ◌++◌, length, take, drop, ap, sym, refl, subst, arith, length-append, length-drop, append_assoc, ◌∙◌}
use Rattle.cs_base.specs.declared.port_kind.PortKind.{PortKind}
use Rattle.std.specs.Prelude.{◌≢◌}
use Rattle.std.proofs.lemmas.List.{take_all, append-nil}
use Rattle.sb_message.specs.declared.message.Msg.{Msg}
use Rattle.sb_message.specs.declared.msg_bad.MsgBad.{MsgBad}
use Rattle.sb_message.specs.declared.msg_bad.MsgBad.TheVariants as msg_bad
use Rattle.sb_message.specs.Spelling.{refusal, fault_of}
use Rattle.sb_frame.specs.declared.frame_bad.FrameBad.{FrameBad}
use Rattle.sb_frame.specs.declared.frame_bad.FrameBad.TheVariants as bad
use Rattle.sb_frame.specs.Faults.IsBadMessage.{no_message}
use Rattle.sb_frame.specs.Frames.{stated, AreFrames, IsFrame, IsWhole}
use Rattle.sb_frame.specs.Frames.AreFrames.{and_one}
use Rattle.sb_frame.specs.Faults.{KeepsRule, IsBadMessage, frame_refusal}
use Rattle.sb_frame.specs.Deframing.{Place, Reached, Accepts}
use Rattle.sb_frame.proofs.Rule.{rule_more}

longer : (before frame : List ℕ) (offset : ℕ) → IsWhole frame → length before ≡ offset → length (before ++ frame) ≡ offset + (4 + length (drop 4 frame))
longer before frame offset whole counted =
    let m : length frame ≡ 4 + stated frame = whole.measured in
    omega (arith, length-append before frame, length-drop 4 frame)

-- an accepted frame leads on
pub reach_more : (old new : Place) (given : List Msg) (before frame : List ℕ) → IsWhole frame → Accepts old (drop 4 frame) new → Reached old given before → Reached new given (before ++ frame)
reach_more old new given before frame whole a r =
    let m = a.message in
    let joined : (given ++ old.waiting) ++ m ∷ [] ≡ given ++ (old.waiting ++ m ∷ []) = append_assoc given old.waiting (m ∷ []) in
    subst (λ p. Reached p given (before ++ frame)) (sym a.place) (record {
      frames = subst (λ l. AreFrames old.kind l (before ++ frame)) joined (and_one (given ++ old.waiting) before m frame r.frames (record { whole = whole; spelled = a.spelled }));
      rule = subst (λ l. KeepsRule old.kind l (Some m.at)) joined (rule_more old.kind (given ++ old.waiting) old.last old.offset m r.rule a.in_order a.spelled.receivable);
      counted = longer before frame old.offset whole r.counted;
    })

-- the refusal of a message, as one of its frame
pub refused_message : (kind : PortKind) (last : Option ℕ) (start : ℕ) (body : List ℕ) (why : MsgBad) (b : FrameBad) → b ≡ frame_refusal start why → fault_of why ≡ refusal kind body → b ≢ bad.NoMemory → IsBadMessage kind last start body b
refused_message kind last start body msg_bad.NoMemory b e f none = absurd (none e)
refused_message kind last start body msg_bad.Short b e f none = subst (IsBadMessage kind last start body) (sym e) (no_message msg_bad.Short (sym f))
refused_message kind last start body msg_bad.OwnerClear b e f none = subst (IsBadMessage kind last start body) (sym e) (no_message msg_bad.OwnerClear (sym f))
refused_message kind last start body msg_bad.TypeNotOfKind b e f none = subst (IsBadMessage kind last start body) (sym e) (no_message msg_bad.TypeNotOfKind (sym f))
refused_message kind last start body msg_bad.ReservedNotZero b e f none = subst (IsBadMessage kind last start body) (sym e) (no_message msg_bad.ReservedNotZero (sym f))
refused_message kind last start body (msg_bad.Upper why) b e f none = subst (IsBadMessage kind last start body) (sym e) (no_message (msg_bad.Upper why) (sym f))

-- whole frames were read up to a place in some bytes
pub record IsReading (first now : Place) (bytes : List ℕ) (at : ℕ) : Type 0 where
  pub within : at ≤ length bytes
  pub kind : now.kind ≡ first.kind
  pub counted : now.offset ≡ first.offset + at
  pub keeps : take (length first.waiting) now.waiting ≡ first.waiting
  pub reached : (given : List Msg) (before : List ℕ) → Reached first given before → Reached now given (before ++ take at bytes)

pub reading_first : (place : Place) (bytes : List ℕ) → IsReading place place bytes 0
reading_first place bytes = record {
  within = omega arith;
  kind = refl;
  counted = omega arith;
  keeps = take_all (length place.waiting) place.waiting (omega arith);
  reached = λ given before r. subst (Reached place given) (sym (append-nil before)) r;
}
