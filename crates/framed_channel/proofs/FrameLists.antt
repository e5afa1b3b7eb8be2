-- Lists of frames behind one another.
use Rattle.std.proofs.Common.{◌≡◌, ℕ, ◌+◌, ◌≤◌, List, [], ◌∷◌, ◌++◌, length, ap, sym, refl, subst, arith, append_assoc, length-append, ◌∙◌}
use Rattle.std.proofs.lemmas.List.{append-nil}
use Rattle.cs_base.specs.declared.port_kind.PortKind.{PortKind}
use Rattle.sb_message.specs.declared.message.Msg.{Msg}
use Rattle.sb_frame.specs.Frames.{AreFrames, IsFrame}
use Rattle.sb_frame.specs.Frames.AreFrames.{none_yet, and_one}
use Rattle.sb_frame.proofs.Parsing.{Leads, leads, AreOne, one_whole, one_of_two, whole_long}

-- some messages go on with others, whose frames are these bytes
pub record GoOnWith (kind : PortKind) (messages longer : List Msg) (behind : List ℕ) : Type 0 where
  pub more : List Msg
  pub parts : longer ≡ messages ++ more
  pub frames : Leads kind more behind

no_bytes : (kind : PortKind) (m : Msg) (frame rest r : List ℕ) → IsFrame kind m frame → (frame ++ rest) ++ r ≡ [] → ⊥
no_bytes kind m frame rest r is e =
    let long : 4 ≤ length frame = whole_long frame is.whole in
    let none : length ((frame ++ rest) ++ r) ≡ 0 = ap length e in
    let one : length ((frame ++ rest) ++ r) ≡ length (frame ++ rest) + length r = length-append (frame ++ rest) r in
    let two : length (frame ++ rest) ≡ length frame + length rest = length-append frame rest in
    absurd (omega arith)

-- where frames stand at the front of the bytes of others, the others go on
pub go_on : (kind : PortKind) (xs zs : List Msg) (a r bytes : List ℕ) → Leads kind xs a → Leads kind zs bytes → bytes ≡ a ++ r → GoOnWith kind xs zs r
go_on kind [] zs a r bytes la lz e = record { more = zs; parts = refl; frames = subst (Leads kind zs) (e ∙ ap (λ l. l ++ r) la) lz }
go_on kind (m ∷ xs) [] a r bytes la lz e = absurd (no_bytes kind m la.0 la.1 r la.3 (sym (ap (λ l. l ++ r) la.2) ∙ sym e ∙ lz))
go_on kind (m ∷ xs) (n ∷ zs) a r bytes la lz e =
    let joined : la.0 ++ (la.1 ++ r) ≡ lz.0 ++ lz.1 = sym (append_assoc la.0 la.1 r) ∙ ap (λ l. l ++ r) (sym la.2) ∙ sym e ∙ lz.2 in
    let one : AreOne la.0 lz.0 (la.1 ++ r) lz.1 = one_whole la.0 lz.0 (la.1 ++ r) lz.1 la.3.whole lz.3.whole joined in
    let first : m ≡ n = one_of_two kind m n la.0 lz.0 la.3 lz.3 one.frame in
    let on : GoOnWith kind xs zs r = go_on kind xs zs la.1 r lz.1 la.4 lz.4 (sym one.rest) in
    record {
      more = on.more;
      parts = ap (λ x. x ∷ zs) (sym first) ∙ ap (λ l. m ∷ l) on.parts;
      frames = on.frames;
    }

-- frames, and others behind them
pub and_more : (kind : PortKind) (xs ys : List Msg) (a r : List ℕ) → AreFrames kind xs a → Leads kind ys r → AreFrames kind (xs ++ ys) (a ++ r)
and_more kind xs [] a r frames none = subst (AreFrames kind (xs ++ [])) (ap (λ l. a ++ l) (sym none)) (subst (λ l. AreFrames kind l (a ++ [])) (sym (append-nil xs)) (subst (AreFrames kind xs) (sym (append-nil a)) frames))
and_more kind xs (m ∷ ys) a r frames more =
    let one : AreFrames kind (xs ++ m ∷ []) (a ++ more.0) = and_one xs a m more.0 frames more.3 in
    let all : AreFrames kind ((xs ++ m ∷ []) ++ ys) ((a ++ more.0) ++ more.1) = and_more kind (xs ++ m ∷ []) ys (a ++ more.0) more.1 one more.4 in
    let bytes : (a ++ more.0) ++ more.1 ≡ a ++ r = append_assoc a more.0 more.1 ∙ ap (λ l. a ++ l) (sym more.2) in
    subst (λ l. AreFrames kind l (a ++ r)) (append_assoc xs (m ∷ []) ys) (subst (AreFrames kind ((xs ++ m ∷ []) ++ ys)) bytes all)

pub frames_of : (kind : PortKind) (ys : List Msg) (r : List ℕ) → Leads kind ys r → AreFrames kind ys r
frames_of kind ys r more = and_more kind [] ys [] r none_yet more

-- no bytes are the frames of no messages
pub none_in : (kind : PortKind) (ys : List Msg) (r : List ℕ) → r ≡ [] → Leads kind ys r → ys ≡ []
none_in kind [] r none more = refl
none_in kind (m ∷ ys) r none more = absurd (no_bytes kind m more.0 more.1 [] more.3 (append-nil (more.0 ++ more.1) ∙ sym more.2 ∙ none))

-- the same bytes are the frames of one list of messages
pub one_list : (kind : PortKind) (xs ys : List Msg) (bytes : List ℕ) → AreFrames kind xs bytes → AreFrames kind ys bytes → ys ≡ xs
one_list kind xs ys bytes fx fy =
    let on : GoOnWith kind xs ys [] = go_on kind xs ys bytes [] bytes (leads kind xs bytes fx) (leads kind ys bytes fy) (sym (append-nil bytes)) in
    on.parts ∙ ap (λ l. xs ++ l) (none_in kind on.more [] refl on.frames) ∙ append-nil xs
