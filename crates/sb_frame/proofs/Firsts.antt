-- A stream has no two first faults, and none where a deframer has met none.
use Rattle.std.specs.Prelude.{Bool, true, false, nat_lt, ◌⊎◌, Option, Some, None, if◌then◌else◌}
use Rattle.std.proofs.Common.{inl, inr, ◌≡◌, ℕ, ◌+◌, ◌≤◌, ◌<◌, List, [], ◌∷◌, ◌++◌, map, length, take, drop, get_or, ap, sym, refl, subst, arith, append_assoc, length-append, ◌∙◌}
use Rattle.std.proofs.lemmas.Bool.Decides.{nat_tests}
use Rattle.std.proofs.lemmas.List.{take_at, drop_at, append-nil, map-append, get_or_at, get_or-append-add}
use Rattle.std.specs.List.{AllByRecursion}
use Rattle.std.specs.List.Sorted.{IsNonDecreasing}
use Rattle.cs_base.specs.declared.port_kind.PortKind.{PortKind}
use Rattle.sb_message.specs.declared.message.Msg.{Msg}
use Rattle.sb_message.specs.declared.msg_bad.MsgBad.{MsgBad}
use Rattle.sb_message.specs.Spelling.{Spells, refusal}
use Rattle.sb_message.specs.Stream.{IsStream, is_intro}
use Rattle.sb_message.proofs.Spellings.{one_message, no_fault}
use Rattle.sb_frame.specs.declared.frame_bad.FrameBad.{FrameBad}
use Rattle.sb_frame.specs.declared.frame_bad.FrameBad.TheVariants as bad
use Rattle.sb_frame.specs.Frames.{stated, is_length, AreFrames, IsFrame, IsWhole, IsOpen, IsWrongLength}
use Rattle.sb_frame.specs.Faults.{EndsAt, KeepsRule, rule_fault, IsBadMessage, IsRefused, FirstFault}
use Rattle.sb_frame.specs.Faults.IsBadMessage.{no_message, against_rule}
use Rattle.sb_frame.specs.Faults.IsRefused.{no_length, no_frame}
use Rattle.sb_frame.specs.Deframing.{Deframing, Stands}
use Rattle.sb_frame.proofs.Pieces.{stated_front}
use Rattle.sb_frame.proofs.Feeding.{opens_at}
use Rattle.sb_frame.proofs.Parsing.{Leads, leads, compared, AreSame, GoesOn, AreOne, one_whole, same_stated, whole_long}

not_both : {b : Bool} → b ≡ true → b ≡ false → ⊥
not_both t f = cc

-- ---- what is refused is no frame

two_none : {A : Type 0} (x : Option A) (a : A) → x ≡ None → x ≡ Some a → ⊥
two_none x a none some = cc

one_some : {A : Type 0} (x : Option A) (a b : A) → x ≡ Some a → x ≡ Some b → a ≡ b
one_some x a b one two = cc

bad_not_framed : (kind : PortKind) (last : Option ℕ) (start : ℕ) (body : List ℕ) (m : Msg) (b : FrameBad) → IsBadMessage kind last start body b → Spells kind m body → rule_fault last start m ≡ None → ⊥
bad_not_framed kind last start body m b (no_message why is) spells allowed = two_none (refusal kind body) why (no_fault kind m body spells) is
bad_not_framed kind last start body m b (against_rule other c also is) spells allowed =
    let same : other ≡ m = one_message other m body also.spelled spells.spelled in
    two_none (rule_fault last start m) c allowed (subst (λ x. rule_fault last start x ≡ Some c) same is)

wrong_not_whole : (a b x y : List ℕ) → IsWrongLength a → IsWhole b → a ++ x ≡ b ++ y → ⊥
wrong_not_whole a b x y wrong whole e =
    let four : length a ≡ 4 = wrong.four in
    let same : stated a ≡ stated b = same_stated a b x y (omega arith) (whole_long b whole) e in
    not_both (ap is_length same ∙ whole.in_range) wrong.out_of_range

refused_not_framed : (kind : PortKind) (last : Option ℕ) (start : ℕ) (begun more frame rest : List ℕ) (m : Msg) (b : FrameBad) → IsRefused kind last start begun b → IsFrame kind m frame → begun ++ more ≡ frame ++ rest → rule_fault last start m ≡ None → ⊥
refused_not_framed kind last start begun more frame rest m b (no_length wrong) is e allowed = wrong_not_whole begun frame more rest wrong is.whole e
refused_not_framed kind last start begun more frame rest m b (no_frame c whole is_bad) is e allowed =
    let one : AreOne begun frame more rest = one_whole begun frame more rest whole is.whole e in
    bad_not_framed kind last start (drop 4 frame) m c (subst (λ l. IsBadMessage kind last start (drop 4 l) c) one.frame is_bad) is.spelled allowed

-- ---- what is refused is refused for one reason

one_bad : (kind : PortKind) (last : Option ℕ) (start : ℕ) (body : List ℕ) (a b : FrameBad) → IsBadMessage kind last start body a → IsBadMessage kind last start body b → a ≡ b
one_bad kind last start body a b (no_message why is) (no_message other also) = ap (λ w. bad.Message start w) (one_some (refusal kind body) why other is also)
one_bad kind last start body a b (no_message why is) (against_rule m c spells against) = absurd (two_none (refusal kind body) why (no_fault kind m body spells) is)
one_bad kind last start body a b (against_rule m c spells against) (no_message why is) = absurd (two_none (refusal kind body) why (no_fault kind m body spells) is)
one_bad kind last start body a b (against_rule m c spells against) (against_rule n d also too) =
    let same : m ≡ n = one_message m n body spells.spelled also.spelled in
    one_some (rule_fault last start n) c d (subst (λ x. rule_fault last start x ≡ Some c) same against) too

one_refusal : (kind : PortKind) (last : Option ℕ) (start : ℕ) (x y p q : List ℕ) (a b : FrameBad) → IsRefused kind last start x a → IsRefused kind last start y b → x ++ p ≡ y ++ q → a ≡ b
one_refusal kind last start x y p q a b (no_length wrong) (no_length also) e = refl
one_refusal kind last start x y p q a b (no_length wrong) (no_frame d whole is_bad) e = absurd (wrong_not_whole x y p q wrong whole e)
one_refusal kind last start x y p q a b (no_frame c whole is_bad) (no_length wrong) e = absurd (wrong_not_whole y x q p wrong whole (sym e))
one_refusal kind last start x y p q a b (no_frame c whole is_bad) (no_frame d also too) e =
    let one : AreOne x y p q = one_whole x y p q whole also e in
    one_bad kind last start (drop 4 y) c d (subst (λ l. IsBadMessage kind last start (drop 4 l) c) one.frame is_bad) too

-- ---- the stream rule

not_none : (xs : List Msg) (x : Msg) (more : List Msg) → xs ++ x ∷ more ≡ [] → ⊥
not_none xs x more e = let lengths : length (xs ++ x ∷ more) ≡ 0 = ap length e in absurd (omega (arith, length-append xs (x ∷ more)))

one_head : (x y : Msg) → x ∷ [] ≡ y ∷ [] → x ≡ y
one_head x y e = cc

-- the last timestamp is that of the messages
one_last : (kind : PortKind) (messages : List Msg) (a b : Option ℕ) → KeepsRule kind messages a → KeepsRule kind messages b → a ≡ b
one_last kind messages None None x y = refl
one_last kind messages None (Some b) x y = absurd (not_none y.earlier y.last [] (sym y.parts ∙ x))
one_last kind messages (Some a) None x y = absurd (not_none x.earlier x.last [] (sym x.parts ∙ y))
one_last kind messages (Some a) (Some b) x y =
    let both : x.earlier ++ x.last ∷ [] ≡ y.earlier ++ y.last ∷ [] = sym x.parts ∙ y.parts in
    let longer : length (x.earlier ++ x.last ∷ []) ≡ length x.earlier + 1 = length-append x.earlier (x.last ∷ []) in
    let also : length (y.earlier ++ y.last ∷ []) ≡ length y.earlier + 1 = length-append y.earlier (y.last ∷ []) in
    let lengths : length (x.earlier ++ x.last ∷ []) ≡ length (y.earlier ++ y.last ∷ []) = ap length both in
    let long : length x.earlier ≡ length y.earlier = omega arith in
    let lasts : x.last ∷ [] ≡ y.last ∷ [] = sym (drop_at x.earlier (x.last ∷ []) (length y.earlier) long) ∙ ap (drop (length y.earlier)) both ∙ drop_at y.earlier (y.last ∷ []) (length y.earlier) refl in
    ap Some (sym x.last_at ∙ ap (λ (m : Msg). m.at) (one_head x.last y.last lasts) ∙ y.last_at)

pub each_mid : {A : Type 0} (P : A → Type 0) (xs : List A) (x : A) (more : List A) → AllByRecursion P (xs ++ x ∷ more) → P x
each_mid P [] x more all = all.0
each_mid P (y ∷ xs) x more all = each_mid P xs x more all.1

rising_pair : (xs : List ℕ) (x y : ℕ) (more : List ℕ) → IsNonDecreasing (xs ++ x ∷ y ∷ more) → x ≤ y
rising_pair xs x y more rises =
    let first : get_or (xs ++ x ∷ y ∷ more) (length xs) 0 ≡ x = get_or_at xs x (y ∷ more) 0 (length xs) refl in
    let second : get_or (xs ++ x ∷ y ∷ more) (length xs + 1) 0 ≡ y = get_or-append-add xs (x ∷ y ∷ more) 1 0 in
    let long : length (xs ++ x ∷ y ∷ more) ≡ length xs + length (x ∷ y ∷ more) = length-append xs (x ∷ y ∷ more) in
    let both : get_or (xs ++ x ∷ y ∷ more) (length xs) 0 ≤ get_or (xs ++ x ∷ y ∷ more) (length xs + 1) 0 = rises (length xs) (length xs + 1) 0 (omega arith) (omega arith) in
    omega arith

heads : (x y : Msg) (xs ys : List Msg) → x ∷ xs ≡ y ∷ ys → (x ≡ y) × (xs ≡ ys)
heads x y xs ys e = (cc, cc)

-- a message behind the first one is no introduction
no_later_intro : (kind : PortKind) (xs : List Msg) (x m : Msg) (more : List Msg) → IsStream kind ((xs ++ x ∷ []) ++ m ∷ more) → is_intro m.body ≡ false
no_later_intro kind [] x m more s =
    let e = heads x s.first (m ∷ more) s.later s.parts in
    each_mid (λ (n : Msg). is_intro n.body ≡ false) [] m more (subst (AllByRecursion (λ (n : Msg). is_intro n.body ≡ false)) (sym e.1) s.once)
no_later_intro kind (y ∷ xs) x m more s =
    let e = heads y s.first ((xs ++ x ∷ []) ++ m ∷ more) s.later s.parts in
    each_mid (λ (n : Msg). is_intro n.body ≡ false) (xs ++ x ∷ []) m more (subst (AllByRecursion (λ (n : Msg). is_intro n.body ≡ false)) (sym e.1) s.once)

not_before : (kind : PortKind) (xs : List Msg) (x m : Msg) (more : List Msg) → IsStream kind ((xs ++ x ∷ []) ++ m ∷ more) → x.at ≤ m.at
not_before kind xs x m more s =
    let at : List Msg → List ℕ = map (λ (n : Msg). n.at) in
    let joined : (xs ++ x ∷ []) ++ m ∷ more ≡ xs ++ x ∷ m ∷ more = append_assoc xs (x ∷ []) (m ∷ more) in
    let whole : map (λ (n : Msg). n.at) ((xs ++ x ∷ []) ++ m ∷ more) ≡ map (λ (n : Msg). n.at) xs ++ x.at ∷ m.at ∷ map (λ (n : Msg). n.at) more = ap (map (λ (n : Msg). n.at)) joined ∙ map-append (λ (n : Msg). n.at) xs (x ∷ m ∷ more) in
    rising_pair (map (λ (n : Msg). n.at) xs) x.at m.at (map (λ (n : Msg). n.at) more) (subst IsNonDecreasing whole s.in_order)

not_less : (a b : ℕ) → a ≤ b → nat_lt b a ≡ false
not_less a b le = grind (arith, nat_tests)

allowed_later : (last start : ℕ) (m : Msg) → last ≤ m.at → is_intro m.body ≡ false → rule_fault (Some last) start m ≡ None
allowed_later last start m le later = rw (not_less last m.at le, later) refl

allowed_first : (start : ℕ) (m : Msg) → is_intro m.body ≡ true → rule_fault None start m ≡ None
allowed_first start m first = rw first refl

-- against a message that goes on a stream the rule says nothing
pub stream_allows : (kind : PortKind) (messages : List Msg) (last : Option ℕ) (start : ℕ) (m : Msg) (more : List Msg) → KeepsRule kind messages last → IsStream kind (messages ++ m ∷ more) → rule_fault last start m ≡ None
stream_allows kind messages None start m more none stream =
    let s : IsStream kind (m ∷ more) = subst (λ l. IsStream kind (l ++ m ∷ more)) none stream in
    let e = heads m s.first more s.later s.parts in
    allowed_first start m (subst (λ (n : Msg). is_intro n.body ≡ true) (sym e.0) s.introduced)
stream_allows kind messages (Some last) start m more ends stream =
    let s : IsStream kind ((ends.earlier ++ ends.last ∷ []) ++ m ∷ more) = subst (λ l. IsStream kind (l ++ m ∷ more)) ends.parts stream in
    let le : ends.last.at ≤ m.at = not_before kind ends.earlier ends.last m more s in
    allowed_later last start m (subst (λ n. n ≤ m.at) ends.last_at le) (no_later_intro kind ends.earlier ends.last m more s)

pub rule_allows : (kind : PortKind) (messages : List Msg) (last after : Option ℕ) (start : ℕ) (m : Msg) (more : List Msg) → KeepsRule kind messages last → KeepsRule kind (messages ++ m ∷ more) after → rule_fault last start m ≡ None
rule_allows kind messages last None start m more keeps none = absurd (not_none messages m more none)
rule_allows kind messages last (Some after) start m more keeps also = stream_allows kind messages last start m more keeps also.stream

-- ---- a stream's first fault

-- what is refused behind some messages, and messages that go on there
pub never_on : (kind : PortKind) (messages longer : List Msg) (last after : Option ℕ) (start : ℕ) (begun more : List ℕ) (b : FrameBad) → KeepsRule kind messages last → KeepsRule kind longer after → IsRefused kind last start begun b → GoesOn kind messages (begun ++ more) longer → ⊥
never_on kind messages longer last after start begun more b keeps also refused on =
    let allowed = rule_allows kind messages last after start on.message on.more keeps (subst (λ l. KeepsRule kind l after) on.parts also) in
    refused_not_framed kind last start begun more on.frame on.rest on.message b refused on.is_frame on.bytes allowed

pub one_first : (kind : PortKind) (bytes : List ℕ) (a b : FrameBad) → FirstFault kind bytes a → FirstFault kind bytes b → a ≡ b
one_first kind bytes a b x y =
    let e : x.before ++ (x.begun ++ x.more) ≡ y.before ++ (y.begun ++ y.more) = sym x.parts ∙ y.parts in
    elim (compared kind x.messages y.messages x.before y.before (x.begun ++ x.more) (y.begun ++ y.more) (leads kind x.messages x.before x.frames) (leads kind y.messages y.before y.frames) e) [
      | inl same ↦
          let last : x.last ≡ y.last = one_last kind y.messages x.last y.last (subst (λ l. KeepsRule kind l x.last) same.messages x.rule) y.rule in
          let moved : IsRefused kind y.last (length y.before) x.begun a = subst (λ l. IsRefused kind y.last l x.begun a) (ap length same.front) (subst (λ l. IsRefused kind l (length x.before) x.begun a) last x.refused) in
          one_refusal kind y.last (length y.before) x.begun y.begun x.more y.more a b moved y.refused same.behind
      | inr on ↦ elim on [
        | inl right ↦ absurd (never_on kind x.messages y.messages x.last y.last (length x.before) x.begun x.more a x.rule y.rule x.refused right)
        | inr left ↦ absurd (never_on kind y.messages x.messages y.last x.last (length y.before) y.begun y.more b y.rule x.rule y.refused left)
      ]
    ]

pub open_not_frame : (bytes frame rest : List ℕ) → IsOpen bytes → bytes ≡ frame ++ rest → IsWhole frame → ⊥
open_not_frame bytes frame rest opened parts whole =
    let m : length frame ≡ 4 + stated frame = whole.measured in
    let long : length bytes ≡ length frame + length rest = ap length parts ∙ length-append frame rest in
    let same : stated bytes ≡ stated frame = ap stated parts ∙ stated_front frame rest (whole_long frame whole) in
    elim opened [
      | inl short ↦ absurd (omega arith)
      | inr s ↦ (let less : length bytes < 4 + stated bytes = s.short in absurd (omega arith))
    ]

open_not_wrong : (bytes four rest : List ℕ) → IsOpen bytes → bytes ≡ four ++ rest → IsWrongLength four → ⊥
open_not_wrong bytes four rest opened parts wrong =
    let m : length four ≡ 4 = wrong.four in
    let long : length bytes ≡ length four + length rest = ap length parts ∙ length-append four rest in
    let same : stated bytes ≡ stated four = ap stated parts ∙ stated_front four rest (omega arith) in
    elim opened [
      | inl short ↦ absurd (omega arith)
      | inr s ↦ not_both s.in_range (ap is_length same ∙ wrong.out_of_range)
    ]

open_not_refused : (kind : PortKind) (last : Option ℕ) (start : ℕ) (bytes begun more : List ℕ) (b : FrameBad) → IsOpen bytes → bytes ≡ begun ++ more → IsRefused kind last start begun b → ⊥
open_not_refused kind last start bytes begun more b opened parts (no_length wrong) = open_not_wrong bytes begun more opened parts wrong
open_not_refused kind last start bytes begun more b opened parts (no_frame c whole is_bad) = open_not_frame bytes begun more opened parts whole

-- a deframer that has met no fault stands for a stream that has none
pub none_met : (d : Deframing) (stream : List ℕ) (given : List Msg) (b : FrameBad) → Stands d stream given → d.fault ≡ None → FirstFault d.place.kind stream b → ⊥
none_met d stream given b stands none x =
    let kind = d.place.kind in
    let o = opens_at d stream given none stands in
    let messages = given ++ d.place.waiting in
    let e : o.before ++ d.begun ≡ x.before ++ (x.begun ++ x.more) = sym o.parts ∙ x.parts in
    elim (compared kind messages x.messages o.before x.before d.begun (x.begun ++ x.more) (leads kind messages o.before o.reached.frames) (leads kind x.messages x.before x.frames) e) [
      | inl same ↦ open_not_refused kind x.last (length x.before) d.begun x.begun x.more b o.opened same.behind x.refused
      | inr on ↦ elim on [
        | inl right ↦ open_not_frame d.begun right.frame right.rest o.opened right.bytes right.is_frame.whole
        | inr left ↦ never_on kind x.messages messages x.last d.place.last (length x.before) x.begun x.more b x.rule o.reached.rule x.refused left
      ]
    ]
