-- The bytes of messages that may be sent have no fault.
use Rattle.std.specs.Prelude.{true, ◌≢◌, Option, Some, None}
use Rattle.std.proofs.Common.{inl, inr, ◌≡◌, ℕ, ◌+◌, ◌≤◌, List, [], ◌∷◌, ◌++◌, length, ap, sym, refl, subst, arith, append_assoc, length-append, ◌∙◌}
use Rattle.std.proofs.lemmas.List.{append-nil}
use Rattle.cs_base.specs.declared.port_kind.PortKind.{PortKind}
use Rattle.sb_message.specs.declared.message.Msg.{Msg}
use Rattle.sb_message.specs.Stream.{IsStream}
use Rattle.sb_message.specs.Receivable.{receivable}
use Rattle.sb_frame.specs.declared.frame_bad.FrameBad.{FrameBad}
use Rattle.sb_frame.specs.declared.frame_bad.FrameBad.TheVariants as bad
use Rattle.sb_frame.specs.Frames.{AreFrames}
use Rattle.sb_frame.specs.Deframing.{Deframing, Stands}
use Rattle.sb_frame.specs.Faults.{KeepsRule, IsRefused, FirstFault}
use Rattle.sb_frame.specs.Faults.IsRefused.{no_length, no_frame}
use Rattle.sb_frame.proofs.Rule.{rule_more}
use Rattle.sb_frame.proofs.Firsts.{stream_allows, never_on, each_mid}
use Rattle.sb_frame.proofs.Parsing.{leads, compared, whole_long}
use Rattle.port_queue.specs.Plain.{IsSent}
use Rattle.framed_channel.specs.Standing.{MayRead}

-- the stream rule of these, for some last timestamp
record KeepsSome (kind : PortKind) (messages : List Msg) : Type 0 where
  last : Option ℕ
  keeps : KeepsRule kind messages last

rule_on : (kind : PortKind) (xs ys : List Msg) (last : Option ℕ) → KeepsRule kind xs last → IsStream kind (xs ++ ys) → KeepsSome kind (xs ++ ys)
rule_on kind xs [] last keeps s = record { last = last; keeps = subst (λ l. KeepsRule kind l last) (sym (append-nil xs)) keeps }
rule_on kind xs (m ∷ ys) last keeps s =
    let fits : receivable kind m.body ≡ true = each_mid (λ (x : Msg). receivable kind x.body ≡ true) xs m ys s.receivable in
    let longer : KeepsRule kind (xs ++ m ∷ []) (Some m.at) = rule_more kind xs last 0 m keeps (stream_allows kind xs last 0 m ys keeps s) fits in
    let joined : (xs ++ m ∷ []) ++ ys ≡ xs ++ m ∷ ys = append_assoc xs (m ∷ []) ys in
    subst (KeepsSome kind) joined (rule_on kind (xs ++ m ∷ []) ys (Some m.at) longer (subst (IsStream kind) (sym joined) s))

rule_of : (kind : PortKind) (xs : List Msg) → IsSent kind xs → KeepsSome kind xs
rule_of kind xs (inl none) = record { last = None; keeps = none }
rule_of kind xs (inr stream) = rule_on kind [] xs None refl stream

some_refused : (kind : PortKind) (last : Option ℕ) (start : ℕ) (begun more : List ℕ) (b : FrameBad) → IsRefused kind last start begun b → begun ++ more ≡ [] → ⊥
some_refused kind last start begun more b (no_length wrong) e =
    let four : length begun ≡ 4 = wrong.four in
    let none : length begun + length more ≡ 0 = sym (length-append begun more) ∙ ap length e in
    absurd (omega arith)
some_refused kind last start begun more b (no_frame c whole is_bad) e =
    let long : 4 ≤ length begun = whole_long begun whole in
    let none : length begun + length more ≡ 0 = sym (length-append begun more) ∙ ap length e in
    absurd (omega arith)

-- what is at the front of the frames of messages that may be sent has no first fault
pub no_first_fault : (kind : PortKind) (messages : List Msg) (bytes rest : List ℕ) (b : FrameBad) → IsSent kind messages → AreFrames kind messages (bytes ++ rest) → FirstFault kind bytes b → ⊥
no_first_fault kind messages bytes rest b sent frames x =
    let rule : KeepsSome kind messages = rule_of kind messages sent in
    let more = x.more ++ rest in
    let e : x.before ++ (x.begun ++ more) ≡ (bytes ++ rest) ++ [] =
    ap (λ l. x.before ++ l) (sym (append_assoc x.begun x.more rest)) ∙ sym (append_assoc x.before (x.begun ++ x.more) rest) ∙ ap (λ l. l ++ rest) (sym x.parts) ∙ sym (append-nil (bytes ++ rest)) in
    elim (compared kind x.messages messages x.before (bytes ++ rest) (x.begun ++ more) [] (leads kind x.messages x.before x.frames) (leads kind messages (bytes ++ rest) frames) e) [
      | inl same ↦ some_refused kind x.last (length x.before) x.begun more b x.refused same.behind
      | inr on ↦ elim on [
        | inl right ↦ never_on kind x.messages messages x.last rule.last (length x.before) x.begun more b x.rule rule.keeps x.refused right
        | inr left ↦ (let long : 4 ≤ length left.frame = whole_long left.frame left.is_frame.whole in let none : 0 ≡ length left.frame + length left.rest = ap length left.bytes ∙ length-append left.frame left.rest in absurd (omega arith))
      ]
    ]

only_memory : (b : FrameBad) → (b ≢ bad.NoMemory → ⊥) → b ≡ bad.NoMemory
only_memory (bad.Length at) never = absurd (never (λ e. cc))
only_memory (bad.Message at why) never = absurd (never (λ e. cc))
only_memory (bad.Falls at) never = absurd (never (λ e. cc))
only_memory (bad.Order at) never = absurd (never (λ e. cc))
only_memory bad.NoMemory never = refl

-- so a deframer that may read them only fails for want of memory
pub lacks_memory : (old new : Deframing) (piece : List ℕ) (b : FrameBad) → MayRead old piece → ((stream : List ℕ) (given : List Msg) → Stands old stream given → b ≢ bad.NoMemory → FirstFault new.place.kind (stream ++ piece) b) → new.place.kind ≡ old.place.kind → b ≡ bad.NoMemory
lacks_memory old new piece b may first kind = only_memory b (λ other.
    no_first_fault old.place.kind may.messages (may.stream ++ piece) may.rest b may.sent may.framed
    (subst (λ k. FirstFault k (may.stream ++ piece) b) kind (first may.stream may.given may.stands other)))
