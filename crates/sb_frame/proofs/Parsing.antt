-- Frames are read off the front of bytes in one way alone.
use Rattle.std.specs.Prelude.{Bool, true, false, ◌⊎◌, Option, Some, None}
use Rattle.std.proofs.Common.{inl, inr, ◌≡◌, ℕ, ◌+◌, ◌≤◌, ◌<◌, List, [], ◌∷◌, ◌++◌, length, take, drop, ap, sym, refl, subst, arith, append_assoc, length-append, ◌∙◌}
use Rattle.std.proofs.lemmas.List.{take_at, drop_at, append-nil}
use Rattle.cs_base.specs.declared.port_kind.PortKind.{PortKind}
use Rattle.sb_message.specs.declared.message.Msg.{Msg}
use Rattle.sb_message.specs.Spelling.{Spells}
use Rattle.sb_message.proofs.Spellings.{one_message}
use Rattle.sb_frame.specs.Frames.{stated, is_length, AreFrames, IsFrame, IsWhole}
use Rattle.sb_frame.specs.Frames.AreFrames.{none_yet, and_one}
use Rattle.sb_frame.proofs.Pieces.{stated_front}

-- the frames of these messages, from the front on
abbrev pub Leads : PortKind → List Msg → List ℕ → Type 0
Leads kind [] bytes = bytes ≡ []
Leads kind (m ∷ messages) bytes = (frame : List ℕ) × (rest : List ℕ) × (bytes ≡ frame ++ rest) × IsFrame kind m frame × Leads kind messages rest

leads_more : (kind : PortKind) (messages : List Msg) (bytes : List ℕ) (m : Msg) (frame : List ℕ) → Leads kind messages bytes → IsFrame kind m frame → Leads kind (messages ++ m ∷ []) (bytes ++ frame)
leads_more kind [] bytes m frame none is = (frame, [], ap (λ l. l ++ frame) none ∙ sym (append-nil frame), is, refl)
leads_more kind (x ∷ messages) bytes m frame leads is =
    (leads.0, leads.1 ++ frame, ap (λ l. l ++ frame) leads.2 ∙ append_assoc leads.0 leads.1 frame, leads.3, leads_more kind messages leads.1 m frame leads.4 is)

pub leads : (kind : PortKind) (messages : List Msg) (bytes : List ℕ) → AreFrames kind messages bytes → Leads kind messages bytes
leads kind messages bytes none_yet = refl
leads kind messages bytes (and_one before front m frame frames is) = leads_more kind before front m frame (leads kind before front frames) is

-- four bytes and more that state a length, at the front of the same bytes, state the same
pub same_stated : (a b x y : List ℕ) → 4 ≤ length a → 4 ≤ length b → a ++ x ≡ b ++ y → stated a ≡ stated b
same_stated a b x y four also e = sym (stated_front a x four) ∙ ap stated e ∙ stated_front b y also

pub whole_long : (frame : List ℕ) → IsWhole frame → 4 ≤ length frame
whole_long frame whole = let m : length frame ≡ 4 + stated frame = whole.measured in omega arith

-- two whole frames at the front of the same bytes are one
pub record AreOne (a b x y : List ℕ) : Type 0 where
  pub frame : a ≡ b
  pub rest : x ≡ y

pub one_whole : (a b x y : List ℕ) → IsWhole a → IsWhole b → a ++ x ≡ b ++ y → AreOne a b x y
one_whole a b x y wa wb e =
    let states : stated a ≡ stated b = same_stated a b x y (whole_long a wa) (whole_long b wb) e in
    let la : length a ≡ 4 + stated a = wa.measured in
    let lb : length b ≡ 4 + stated b = wb.measured in
    let long : length a ≡ length b = omega arith in
    record {
      frame = sym (take_at a x (length b) long) ∙ ap (take (length b)) e ∙ take_at b y (length b) refl;
      rest = sym (drop_at a x (length b) long) ∙ ap (drop (length b)) e ∙ drop_at b y (length b) refl;
    }

pub one_of_two : (kind : PortKind) (m n : Msg) (a b : List ℕ) → IsFrame kind m a → IsFrame kind n b → a ≡ b → m ≡ n
one_of_two kind m n a b fa fb e =
    let there : Spells kind m (drop 4 b) = subst (λ l. Spells kind m (drop 4 l)) e fa.spelled in
    one_message m n (drop 4 b) there.spelled fb.spelled.spelled

-- a list of messages goes on where another one ends, with a frame that what is behind the other begins with
pub record GoesOn (kind : PortKind) (messages : List Msg) (behind : List ℕ) (longer : List Msg) : Type 0 where
  pub message : Msg
  pub more : List Msg
  pub frame : List ℕ
  pub rest : List ℕ
  pub parts : longer ≡ messages ++ message ∷ more
  pub bytes : behind ≡ frame ++ rest
  pub is_frame : IsFrame kind message frame

pub record AreSame (xs ys : List Msg) (a b r s : List ℕ) : Type 0 where
  pub messages : xs ≡ ys
  pub front : a ≡ b
  pub behind : r ≡ s

ahead : (kind : PortKind) (m n : Msg) (xs ys : List Msg) (r : List ℕ) → m ≡ n → GoesOn kind xs r ys → GoesOn kind (m ∷ xs) r (n ∷ ys)
ahead kind m n xs ys r e on = record {
  message = on.message;
  more = on.more;
  frame = on.frame;
  rest = on.rest;
  parts = ap (λ x. x ∷ ys) (sym e) ∙ ap (λ l. m ∷ l) on.parts;
  bytes = on.bytes;
  is_frame = on.is_frame;
}

first_on : (kind : PortKind) (m : Msg) (ys : List Msg) (a b r s : List ℕ) → a ≡ [] → Leads kind (m ∷ ys) b → a ++ r ≡ b ++ s → GoesOn kind [] r (m ∷ ys)
first_on kind m ys a b r s none leads e = record {
  message = m;
  more = ys;
  frame = leads.0;
  rest = leads.1 ++ s;
  parts = refl;
  bytes = ap (λ l. l ++ r) (sym none) ∙ e ∙ ap (λ l. l ++ s) leads.2 ∙ append_assoc leads.0 leads.1 s;
  is_frame = leads.3;
}

-- two lists of frames at the front of the same bytes: they are the same, or one goes on where the other ends
pub compared : (kind : PortKind) (xs ys : List Msg) (a b r s : List ℕ) → Leads kind xs a → Leads kind ys b → a ++ r ≡ b ++ s → AreSame xs ys a b r s ⊎ (GoesOn kind xs r ys ⊎ GoesOn kind ys s xs)
compared kind [] [] a b r s la lb e = inl (record { messages = refl; front = la ∙ sym lb; behind = ap (λ l. l ++ r) (sym la) ∙ e ∙ ap (λ l. l ++ s) lb })
compared kind [] (n ∷ ys) a b r s la lb e = inr (inl (first_on kind n ys a b r s la lb e))
compared kind (m ∷ xs) [] a b r s la lb e = inr (inr (first_on kind m xs b a s r lb la (sym e)))
compared kind (m ∷ xs) (n ∷ ys) a b r s la lb e =
    let joined : la.0 ++ (la.1 ++ r) ≡ lb.0 ++ (lb.1 ++ s) = sym (append_assoc la.0 la.1 r) ∙ ap (λ l. l ++ r) (sym la.2) ∙ e ∙ ap (λ l. l ++ s) lb.2 ∙ append_assoc lb.0 lb.1 s in
    let one : AreOne la.0 lb.0 (la.1 ++ r) (lb.1 ++ s) = one_whole la.0 lb.0 (la.1 ++ r) (lb.1 ++ s) la.3.whole lb.3.whole joined in
    let first : m ≡ n = one_of_two kind m n la.0 lb.0 la.3 lb.3 one.frame in
    elim (compared kind xs ys la.1 lb.1 r s la.4 lb.4 one.rest) [
      | inl same ↦ inl (record {
        messages = ap (λ x. x ∷ xs) first ∙ ap (λ l. n ∷ l) same.messages;
        front = la.2 ∙ ap (λ l. l ++ la.1) one.frame ∙ ap (λ l. lb.0 ++ l) same.front ∙ sym lb.2;
        behind = same.behind;
      })
      | inr on ↦ elim on [
        | inl right ↦ inr (inl (ahead kind m n xs ys r first right))
        | inr left ↦ inr (inr (ahead kind n m ys xs s (sym first) left))
      ]
    ]
