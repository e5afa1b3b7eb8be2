-- A channel over a byte stream on which nothing was sent yet is told whole.
use Rattle.std.specs.Prelude.{Option, Some, None}
use Rattle.std.proofs.Common.{inl, ◌≡◌, ℕ, ◌+◌, List, [], ◌∷◌, ◌++◌, length, ap, sym, refl, arith, length-append, ◌∙◌}
use Rattle.cs_base.specs.declared.port_kind.PortKind.{PortKind}
use Rattle.sb_message.specs.declared.message.Msg.{Msg}
use Rattle.sb_frame.specs.Frames.AreFrames.{none_yet}
use Rattle.sb_frame.specs.Faults.{KeepsRule}
use Rattle.sb_frame.specs.Deframing.{Stands}
use Rattle.sb_frame.proofs.Feeding.{IsOpenAt, opens_at}
use Rattle.sb_frame.proofs.Parsing.{leads}
use Rattle.framed_channel.specs.Channel.{Framed, IsUnused}
use Rattle.framed_channel.proofs.FrameLists.{none_in}
use Rattle.mesh_channel.specs.Carrier.{empty, unused_channel}

no_elements : {A : Type 0} (l : List A) → length l ≡ 0 → l ≡ []
no_elements [] none = refl
no_elements (x ∷ l) none = absurd (omega arith)

none_last : (kind : PortKind) (messages : List Msg) (last : Option ℕ) → messages ≡ [] → KeepsRule kind messages last → last ≡ None
none_last kind messages None none keeps = refl
none_last kind messages (Some at) none ends =
    let long : length (ends.earlier ++ ends.last ∷ []) ≡ length ends.earlier + 1 = length-append ends.earlier (ends.last ∷ []) in
    let short : length (ends.earlier ++ ends.last ∷ []) ≡ 0 = ap length (sym ends.parts ∙ none) in
    absurd (omega arith)

alike : (kind : PortKind) (slots : ℕ) (c : Framed) → c.near ≡ empty kind slots → c.pipe ≡ [] → c.frames.place.kind ≡ kind → c.frames.place.last ≡ None → c.frames.place.offset ≡ 0 → c.frames.place.waiting ≡ []
    → c.frames.begun ≡ [] → c.frames.fault ≡ None → c.moved ≡ 0 → c.far ≡ empty kind slots → c ≡ unused_channel kind slots
alike kind slots c near pipe of last offset waiting begun fault moved far = λ i. record {
  near = near i;
  pipe = pipe i;
  frames = record {
    place = record { kind = of i; last = last i; offset = offset i; waiting = waiting i };
    begun = begun i;
    fault = fault i;
  };
  moved = moved i;
  far = far i;
}

pub is_unused : (kind : PortKind) (slots : ℕ) (c : Framed) → IsUnused kind slots c → c ≡ unused_channel kind slots
is_unused kind slots c u =
    let o : IsOpenAt c.frames [] [] = opens_at c.frames [] [] u.no_fault u.unread in
    let both : length o.before + length c.frames.begun ≡ 0 = sym (length-append o.before c.frames.begun) ∙ ap length (sym o.parts) in
    let before : o.before ≡ [] = no_elements o.before (omega arith) in
    let begun : c.frames.begun ≡ [] = no_elements c.frames.begun (omega arith) in
    let waiting : c.frames.place.waiting ≡ [] = none_in c.frames.place.kind c.frames.place.waiting o.before before (leads c.frames.place.kind c.frames.place.waiting o.before o.reached.frames) in
    alike kind slots c u.near u.pipe u.read_kind (none_last c.frames.place.kind c.frames.place.waiting c.frames.place.last waiting o.reached.rule) (sym o.reached.counted ∙ ap length before) waiting begun u.no_fault u.moved u.far

pub unread : (kind : PortKind) → Stands (record { place = record { kind = kind; last = None; offset = 0; waiting = [] }; begun = []; fault = None }) [] []
unread kind = record {
  before = [];
  rest = [];
  parts = refl;
  reached = record { frames = none_yet; rule = refl; counted = refl };
  behind = (refl, inl (omega arith));
}
