-- Each step of a carrier leads to one carrier.
use Rattle.std.specs.Prelude.{Option, Some, None}
use Rattle.std.proofs.Common.{◌≡◌, ℕ, ◌+◌, ◌-◌, ◌≤◌, List, [], ◌∷◌, ◌++◌, length, take, drop, ap, ap₂, sym, refl, subst, arith, append_assoc, length-drop, take-append-drop, ◌∙◌}
use Rattle.std.proofs.lemmas.List.{append_cancel_left, append_cancel_right}
use Rattle.std.specs.Int.{bytes_low_first}
use Rattle.cs_base.specs.declared.port_kind.PortKind.{PortKind}
use Rattle.sb_message.specs.declared.message.Msg.{Msg}
use Rattle.sb_message.proofs.Spellings.{one_spelling}
use Rattle.sb_frame.specs.Frames.{IsOpen}
use Rattle.sb_frame.specs.Faults.{KeepsRule}
use Rattle.sb_frame.specs.Framing.{AppendsFrame}
use Rattle.sb_frame.specs.Deframing.{Deframing, Stands}
use Rattle.sb_frame.proofs.Feeding.{IsOpenAt, opens_at}
use Rattle.sb_frame.proofs.Firsts.{open_not_frame}
use Rattle.sb_frame.proofs.Parsing.{Leads, leads, AreOne, one_whole, one_of_two, whole_long}
use Rattle.port_queue.specs.Plain.{Plain}
use Rattle.framed_channel.specs.Channel as channel
use Rattle.framed_channel.specs.Steps as steps
use Rattle.framed_channel.specs.Standing.{CarriesFor}
use Rattle.mesh_channel.specs.declared.carrier.Carrier.{Carrier}
use Rattle.mesh_channel.specs.declared.carrier.Carrier.TheVariants.{Direct, Framed}
use Rattle.mesh_channel.specs.Carrier.{Pushes, Pops, Takes, Moves, Puts}
use Rattle.mesh_channel.specs.Standing.{IsCarrying}
use Rattle.mesh_channel.specs.Laws.{IsOnePop, LeadOnce}

first_of : {A : Type 0} (x y : A) (xs ys : List A) → x ∷ xs ≡ y ∷ ys → x ≡ y
first_of x y xs ys same = grind arith

rest_of : {A : Type 0} (x y : A) (xs ys : List A) → x ∷ xs ≡ y ∷ ys → xs ≡ ys
rest_of x y xs ys same = grind arith

-- ---- a take

-- two frames of one message are one
one_frame : (m : Msg) (old new new' : List ℕ) (f : AppendsFrame m old new) (g : AppendsFrame m old new') → f.frame ≡ g.frame
one_frame m old new new' f g =
    let body : drop 4 f.frame ≡ drop 4 g.frame = one_spelling m (drop 4 f.frame) (drop 4 g.frame) f.spelled g.spelled in
    let long : 4 ≤ length f.frame = whole_long f.frame f.whole in
    let long' : 4 ≤ length g.frame = whole_long g.frame g.whole in
    let behind : length (drop 4 f.frame) ≡ length f.frame - 4 = length-drop 4 f.frame in
    let behind' : length (drop 4 g.frame) ≡ length g.frame - 4 = length-drop 4 g.frame in
    let same : length f.frame - 4 ≡ length g.frame - 4 = sym behind ∙ ap length body ∙ behind' in
    let head : take 4 f.frame ≡ take 4 g.frame = f.header ∙ ap (bytes_low_first 0 4) same ∙ sym g.header in
    sym (take-append-drop 4 f.frame) ∙ ap₂ ◌++◌ head body ∙ take-append-drop 4 g.frame

same_queue : (q r : Plain) → q.kind ≡ r.kind → q.slots ≡ r.slots → q.held ≡ r.held → q ≡ r
same_queue q r kind slots held = λ i. record { kind = kind i; slots = slots i; held = held i }

one_taken : (a b c : channel.Framed) (t : steps.Takes a b) (u : steps.Takes a c) → t.message ≡ u.message
one_taken a b c t u = first_of t.message u.message b.near.held c.near.held (ap (λ (q : Plain). q.held) (sym t.popped ∙ u.popped))

one_pipe : (m n : Msg) (old new new' : List ℕ) → m ≡ n → AppendsFrame m old new → AppendsFrame n old new' → new ≡ new'
one_pipe m n old new new' same f g =
    let f' : AppendsFrame n old new = subst (λ x. AppendsFrame x old new) same f in
    f'.appended ∙ ap (λ l. old ++ l) (one_frame n old new new' f' g) ∙ sym g.appended

pub one_take : (a b c : channel.Framed) → steps.Takes a b → steps.Takes a c → b ≡ c
one_take a b c t u =
    let e = sym t.popped ∙ u.popped in
    let near : b.near ≡ c.near = same_queue b.near c.near (ap (λ (q : Plain). q.kind) e) (ap (λ (q : Plain). q.slots) e) (rest_of t.message u.message b.near.held c.near.held (ap (λ (q : Plain). q.held) e)) in
    let pipe : b.pipe ≡ c.pipe = one_pipe t.message u.message a.pipe b.pipe c.pipe (one_taken a b c t u) t.framed u.framed in
    t.is ∙ ap₂ (λ near pipe. record a { near = near; pipe = pipe }) near pipe ∙ sym u.is

-- ---- a move

-- what is read of the same bytes, of which what is left over is open, is one list
record AreBoth (xs ys : List Msg) (r s : List ℕ) : Type 0 where
  messages : xs ≡ ys
  rest : r ≡ s

both : (kind : PortKind) (xs ys : List Msg) (a b r s : List ℕ) → Leads kind xs a → Leads kind ys b → IsOpen r → IsOpen s → a ++ r ≡ b ++ s → AreBoth xs ys r s
both kind [] [] a b r s la lb ro so e = record { messages = refl; rest = ap (λ l. l ++ r) (sym la) ∙ e ∙ ap (λ l. l ++ s) lb }
both kind [] (n ∷ ys) a b r s la lb ro so e = absurd (open_not_frame r lb.0 (lb.1 ++ s) ro (ap (λ l. l ++ r) (sym la) ∙ e ∙ ap (λ l. l ++ s) lb.2 ∙ append_assoc lb.0 lb.1 s) lb.3.whole)
both kind (m ∷ xs) [] a b r s la lb ro so e = absurd (open_not_frame s la.0 (la.1 ++ r) so (ap (λ l. l ++ s) (sym lb) ∙ sym e ∙ ap (λ l. l ++ r) la.2 ∙ append_assoc la.0 la.1 r) la.3.whole)
both kind (m ∷ xs) (n ∷ ys) a b r s la lb ro so e =
    let joined : la.0 ++ (la.1 ++ r) ≡ lb.0 ++ (lb.1 ++ s) = sym (append_assoc la.0 la.1 r) ∙ ap (λ l. l ++ r) (sym la.2) ∙ e ∙ ap (λ l. l ++ s) lb.2 ∙ append_assoc lb.0 lb.1 s in
    let one : AreOne la.0 lb.0 (la.1 ++ r) (lb.1 ++ s) = one_whole la.0 lb.0 (la.1 ++ r) (lb.1 ++ s) la.3.whole lb.3.whole joined in
    let first : m ≡ n = one_of_two kind m n la.0 lb.0 la.3 lb.3 one.frame in
    let more : AreBoth xs ys r s = both kind xs ys la.1 lb.1 r s la.4 lb.4 ro so one.rest in
    record { messages = ap₂ ◌∷◌ first more.messages; rest = more.rest }

-- a stream ends at one timestamp
abbrev last_after : Option ℕ → List Msg → Option ℕ
last_after last [] = last
last_after last (m ∷ more) = last_after (Some m.at) more

after_push : (last : Option ℕ) (messages : List Msg) (m : Msg) → last_after last (messages ++ m ∷ []) ≡ Some m.at
after_push last [] m = refl
after_push last (x ∷ messages) m = after_push (Some x.at) messages m

last_is : (kind : PortKind) (messages : List Msg) (last : Option ℕ) → KeepsRule kind messages last → last_after None messages ≡ last
last_is kind messages None none = ap (last_after None) none
last_is kind messages (Some at) ends = ap (last_after None) ends.parts ∙ after_push None ends.earlier ends.last ∙ ap Some ends.last_at

same_deframing : (d e : Deframing) → d.place.kind ≡ e.place.kind → d.place.last ≡ e.place.last → d.place.offset ≡ e.place.offset → d.place.waiting ≡ e.place.waiting → d.begun ≡ e.begun → d.fault ≡ e.fault → d ≡ e
same_deframing d e kind last offset waiting begun fault = λ i. record {
  place = record { kind = kind i; last = last i; offset = offset i; waiting = waiting i };
  begun = begun i;
  fault = fault i;
}

-- a deframer without a fault is told by its stream and what it has given
one_deframing : (d e : Deframing) (stream : List ℕ) (given : List Msg) → d.place.kind ≡ e.place.kind → d.fault ≡ None → e.fault ≡ None → Stands d stream given → Stands e stream given → d ≡ e
one_deframing d e stream given kind no_fault no_fault' s t =
    let o : IsOpenAt d stream given = opens_at d stream given no_fault s in
    let p : IsOpenAt e stream given = opens_at e stream given no_fault' t in
    let read = subst (λ k. Leads k (given ++ d.place.waiting) o.before) kind (leads d.place.kind (given ++ d.place.waiting) o.before o.reached.frames) in
    let read' = leads e.place.kind (given ++ e.place.waiting) p.before p.reached.frames in
    let one : AreBoth (given ++ d.place.waiting) (given ++ e.place.waiting) d.begun e.begun = both e.place.kind (given ++ d.place.waiting) (given ++ e.place.waiting) o.before p.before d.begun e.begun read read' o.opened p.opened (sym o.parts ∙ p.parts) in
    let waiting : d.place.waiting ≡ e.place.waiting = append_cancel_left given d.place.waiting e.place.waiting one.messages in
    let before : o.before ≡ p.before = append_cancel_right o.before p.before e.begun (ap (λ l. o.before ++ l) (sym one.rest) ∙ sym o.parts ∙ p.parts) in
    let last : d.place.last ≡ e.place.last = sym (last_is d.place.kind (given ++ d.place.waiting) d.place.last o.reached.rule) ∙ ap (last_after None) one.messages ∙ last_is e.place.kind (given ++ e.place.waiting) e.place.last p.reached.rule in
    same_deframing d e kind last (sym o.reached.counted ∙ ap length before ∙ p.reached.counted) waiting one.rest (no_fault ∙ sym no_fault')

pub one_move : (a b c : channel.Framed) (n : ℕ) (sent received : List Msg) → CarriesFor a sent received → steps.Moves n a b → steps.Moves n a c → b ≡ c
one_move a b c n sent received x m k =
    let frames : b.frames ≡ c.frames = one_deframing b.frames c.frames (x.stream ++ take n a.pipe) x.put (m.reads.kind ∙ sym k.reads.kind) m.reads.no_fault k.reads.no_fault (m.reads.stands x.stream x.put x.read) (k.reads.stands x.stream x.put x.read) in
    m.is ∙ ap (λ frames. record a { pipe = drop n a.pipe; frames = frames; moved = a.moved + n }) frames ∙ sym k.is

-- ---- a put

pub one_put : (a b c : channel.Framed) → steps.Puts a b → steps.Puts a c → b ≡ c
one_put a b c p q =
    let e = sym p.next ∙ q.next in
    let waiting = ap (λ (d : Deframing). d.place.waiting) e in
    let first : p.message ≡ q.message = first_of p.message q.message b.frames.place.waiting c.frames.place.waiting waiting in
    let frames : b.frames ≡ c.frames = same_deframing b.frames c.frames (ap (λ (d : Deframing). d.place.kind) e) (ap (λ (d : Deframing). d.place.last) e) (ap (λ (d : Deframing). d.place.offset) e) (rest_of p.message q.message b.frames.place.waiting c.frames.place.waiting waiting) (ap (λ (d : Deframing). d.begun) e) (ap (λ (d : Deframing). d.fault) e) in
    let far : b.far ≡ c.far = p.pushed.is ∙ ap (λ (m : Msg). record a.far { held = a.far.held ++ m ∷ [] }) first ∙ sym q.pushed.is in
    p.is ∙ ap₂ (λ frames far. record a { frames = frames; far = far }) frames far ∙ sym q.is

-- ---- of either carrier

push_once : (a b c : Carrier) (m : Msg) → Pushes a m b → Pushes a m c → b ≡ c
push_once (Direct a) (Direct b) (Direct c) m p q = ap Direct (p.is ∙ sym q.is)
push_once (Direct a) (Direct b) (Framed c) m p q = absurd q
push_once (Direct a) (Framed b) c m p q = absurd p
push_once (Framed a) (Direct b) c m p q = absurd p
push_once (Framed a) (Framed b) (Direct c) m p q = absurd q
push_once (Framed a) (Framed b) (Framed c) m p q = ap Framed (p.is ∙ ap (λ near. record a { near = near }) (p.pushed.is ∙ sym q.pushed.is) ∙ sym q.is)

pop_queue : (a b c : Plain) (m n : Msg) → a ≡ record b { held = m ∷ b.held } → a ≡ record c { held = n ∷ c.held } → b ≡ c
pop_queue a b c m n p q =
    let e = sym p ∙ q in
    same_queue b c (ap (λ (x : Plain). x.kind) e) (ap (λ (x : Plain). x.slots) e) (rest_of m n b.held c.held (ap (λ (x : Plain). x.held) e))

pop_first : (a b c : Plain) (m n : Msg) → a ≡ record b { held = m ∷ b.held } → a ≡ record c { held = n ∷ c.held } → m ≡ n
pop_first a b c m n p q = first_of m n b.held c.held (ap (λ (x : Plain). x.held) (sym p ∙ q))

one_popped : (a b c : Carrier) (m n : Msg) → Pops a m b → Pops a n c → IsOnePop m n b c
one_popped (Direct a) (Direct b) (Direct c) m n p q = record { message = pop_first a b c m n p q; after = ap Direct (pop_queue a b c m n p q) }
one_popped (Direct a) (Direct b) (Framed c) m n p q = absurd q
one_popped (Direct a) (Framed b) c m n p q = absurd p
one_popped (Framed a) (Direct b) c m n p q = absurd p
one_popped (Framed a) (Framed b) (Direct c) m n p q = absurd q
one_popped (Framed a) (Framed b) (Framed c) m n p q = record { message = pop_first a.far b.far c.far m n p.popped q.popped; after = ap Framed (p.is ∙ ap (λ far. record a { far = far }) (pop_queue a.far b.far c.far m n p.popped q.popped) ∙ sym q.is) }

take_once : (a b c : Carrier) → Takes a b → Takes a c → b ≡ c
take_once (Direct a) b c p q = absurd p
take_once (Framed a) (Direct b) c p q = absurd p
take_once (Framed a) (Framed b) (Direct c) p q = absurd q
take_once (Framed a) (Framed b) (Framed c) p q = ap Framed (one_take a b c p q)

move_once : (a b c : Carrier) (n : ℕ) → IsCarrying a → Moves n a b → Moves n a c → b ≡ c
move_once (Direct a) b c n x p q = absurd p
move_once (Framed a) (Direct b) c n x p q = absurd p
move_once (Framed a) (Framed b) (Direct c) n x p q = absurd q
move_once (Framed a) (Framed b) (Framed c) n x p q = ap Framed (one_move a b c n x.sent x.received x.both.carries p q)

put_once : (a b c : Carrier) → Puts a b → Puts a c → b ≡ c
put_once (Direct a) b c p q = absurd p
put_once (Framed a) (Direct b) c p q = absurd p
put_once (Framed a) (Framed b) (Direct c) p q = absurd q
put_once (Framed a) (Framed b) (Framed c) p q = ap Framed (one_put a b c p q)

pub leads_once : LeadOnce
leads_once a = record {
  push = λ b c m p q. push_once a b c m p q;
  pop = λ b c m n p q. one_popped a b c m n p q;
  take = λ b c p q. take_once a b c p q;
  move = λ b c n x p q. move_once a b c n x p q;
  put = λ b c p q. put_once a b c p q;
}
