-- Bytes that are the beginning of a stream's frames have no first fault, and the messages that are pushed out of them are the stream's.
use Rattle.std.specs.Prelude.{◌⊎◌}
use Rattle.std.proofs.Common.{◌≡◌, ℕ, List, [], ◌∷◌, ◌++◌, length, Option, Some, None, true, inl, inr, refl, sym, ap, subst, append_assoc, append-nil, ◌∙◌, ◌<◌, arith}
use mathlib.Core.List.{IsPrefix}
use Rattle.cs_base.specs.declared.port_kind.PortKind.{PortKind}
use Rattle.sb_frame.specs.declared.frame_bad.FrameBad.{FrameBad}
use Rattle.sb_frame.specs.Deframing.{Stands}
use Rattle.sb_frame.specs.Faults.{FirstFault, KeepsRule}
use Rattle.sb_frame.specs.Frames.{AreFrames}
use Rattle.sb_frame.proofs.Firsts.{each_mid, stream_allows, none_met}
use Rattle.sb_frame.proofs.Rule.{rule_more}
use Rattle.sb_message.specs.declared.message.Msg.{Msg}
use Rattle.sb_message.specs.Receivable.{receivable}
use Rattle.sb_message.specs.Stream.{IsStream}

-- a fault of the beginning is one of the whole
fault_on : (kind : PortKind) (got more : List ℕ) (b : FrameBad) → FirstFault kind got b → FirstFault kind (got ++ more) b
fault_on kind got more b f = record {
  messages = f.messages;
  last = f.last;
  before = f.before;
  begun = f.begun;
  more = f.more ++ more;
  parts = ap (λ l. l ++ more) f.parts ∙ append_assoc f.before (f.begun ++ f.more) more ∙ ap (λ l. f.before ++ l) (append_assoc f.begun f.more more);
  frames = f.frames;
  rule = f.rule;
  refused = f.refused;
}

-- a stream keeps the rule of streams
record Keeps (kind : PortKind) (messages : List Msg) : Type 0 where
  last : Option ℕ
  rule : KeepsRule kind messages last

keeps_on : (kind : PortKind) (before after : List Msg) (last : Option ℕ) → KeepsRule kind before last → IsStream kind (before ++ after) → Keeps kind (before ++ after)
keeps_on kind before [] last rule stream = record { last = last; rule = subst (λ l. KeepsRule kind l last) (sym (append-nil before)) rule }
keeps_on kind before (m ∷ after) last rule stream =
    let allowed = stream_allows kind before last 0 m after rule stream in
    let fits : receivable kind m.body ≡ true = each_mid (λ (n : Msg). receivable kind n.body ≡ true) before m after stream.receivable in
    let next = rule_more kind before last 0 m rule allowed fits in
    let joined : (before ++ m ∷ []) ++ after ≡ before ++ m ∷ after = append_assoc before (m ∷ []) after in
    subst (Keeps kind) joined (keeps_on kind (before ++ m ∷ []) after (Some m.at) next (subst (IsStream kind) (sym joined) stream))

keeps : (kind : PortKind) (messages : List Msg) → (messages ≡ []) ⊎ IsStream kind messages → Keeps kind messages
keeps kind messages (inl none) = record { last = None; rule = none }
keeps kind messages (inr stream) = keeps_on kind [] messages None refl stream

-- the frames of a stream have no fault
stands_for : (kind : PortKind) (messages : List Msg) (bytes : List ℕ) (k : Keeps kind messages) → AreFrames kind messages bytes
    → Stands (record { place = record { kind = kind; last = k.last; offset = length bytes; waiting = [] }; begun = []; fault = None }) bytes messages
stands_for kind messages bytes k frames = record {
  before = bytes;
  rest = [];
  parts = sym (append-nil bytes);
  reached = record {
    frames = subst (λ l. AreFrames kind l bytes) (sym (append-nil messages)) frames;
    rule = subst (λ l. KeepsRule kind l k.last) (sym (append-nil messages)) k.rule;
    counted = refl;
  };
  behind = (refl, inl (let few : 0 < 4 = omega arith in few));
}

pub no_fault_in_prefix : (kind : PortKind) (messages : List Msg) (sent got : List ℕ) (b : FrameBad) → AreFrames kind messages sent → (messages ≡ []) ⊎ IsStream kind messages → IsPrefix got sent → FirstFault kind got b → ⊥
no_fault_in_prefix kind messages sent got b frames stream begins fault =
    let k : Keeps kind messages = keeps kind messages stream in
    none_met _ sent messages b (stands_for kind messages sent k frames) refl (subst (λ l. FirstFault kind l b) begins.1 (fault_on kind got begins.0 b fault))
