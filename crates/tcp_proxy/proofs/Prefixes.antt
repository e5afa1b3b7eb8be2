-- What was pushed at one end is the beginning of what was popped at the other, where the bytes are.
use Rattle.std.specs.Prelude.{◌⊎◌, Option, Some, None}
use Rattle.std.proofs.Common.{inl, inr, ◌≡◌, ℕ, ◌+◌, ◌≤◌, List, [], ◌∷◌, ◌++◌, length, ap, sym, refl, arith, append_assoc, length-append, ◌∙◌}
use Rattle.std.proofs.lemmas.List.{append-nil}
use mathlib.Core.List.{IsPrefix}
use Rattle.cs_base.specs.declared.port_kind.PortKind.{PortKind}
use Rattle.sb_message.specs.declared.message.Msg.{Msg}
use Rattle.sb_frame.specs.Frames.{AreFrames}
use Rattle.sb_frame.proofs.Parsing.{leads, compared, whole_long}
use Rattle.tcp_proxy.specs.Receiving.{ArePushedFrom}

pub pushed_was_popped : (kind : PortKind) (sent got : List ℕ) (popped pushed : List Msg) → AreFrames kind popped sent → ArePushedFrom kind got pushed → IsPrefix got sent → IsPrefix pushed popped
pushed_was_popped kind sent got popped pushed frames from prefix =
    let tail = prefix.0 in
    let e : from.front ++ (from.rest ++ tail) ≡ sent ++ [] = sym (append_assoc from.front from.rest tail) ∙ ap (λ l. l ++ tail) (sym from.parts) ∙ prefix.1 ∙ sym (append-nil sent) in
    elim (compared kind (pushed ++ from.more) popped from.front sent (from.rest ++ tail) [] (leads kind (pushed ++ from.more) from.front from.frames) (leads kind popped sent frames) e) [
      | inl same ↦ (from.more, same.messages)
      | inr on ↦ elim on [
        | inl right ↦ (from.more ++ right.message ∷ right.more, sym (right.parts ∙ append_assoc pushed from.more (right.message ∷ right.more)))
        | inr left ↦ (let long : 4 ≤ length left.frame = whole_long left.frame left.is_frame.whole in let lengths : 0 ≡ length left.frame + length left.rest = ap length left.bytes ∙ length-append left.frame left.rest in absurd (omega arith))
      ]
    ]
