-- The steps of a channel over a byte stream keep it carrying the same lists.
use Rattle.std.specs.Prelude.{true, Option, Some, None}
use Rattle.std.proofs.Common.{inl, inr, ◌≡◌, ℕ, ◌+◌, ◌<◌, ◌≤◌, ◌^◌, List, [], ◌∷◌, ◌++◌, length, take, drop, ap, sym, refl, subst, arith, append_assoc, length-append, ◌∙◌}
use Rattle.std.proofs.lemmas.List.{take-append-drop, length-take-le}
use Rattle.cs_base.specs.declared.port_kind.PortKind.{PortKind}
use Rattle.sb_message.specs.declared.message.Msg.{Msg}
use Rattle.sb_message.specs.Stream.{IsStream}
use Rattle.sb_message.specs.Receivable.{receivable}
use Rattle.sb_frame.specs.Frames.{AreFrames}
use Rattle.sb_frame.specs.Frames.AreFrames.{none_yet, and_one}
use Rattle.sb_frame.specs.Faults.{KeepsRule}
use Rattle.sb_frame.specs.Framing.{AppendsFrame}
use Rattle.sb_frame.specs.Deframing.{Deframing, Stands, NextIs}
use Rattle.sb_frame.proofs.Feeding.{hands_out}
use Rattle.sb_frame.proofs.Firsts.{each_mid}
use Rattle.port_queue.specs.Port.{IsNextSent}
use Rattle.port_queue.specs.Plain.{Plain, IsSent, StandsForSent, StandsForReceived, Pushes, Pops}
use Rattle.port_queue.specs.PlainLaws as plain
use Rattle.port_queue.specs.Streams.{stream_so_far, front-from}
use Rattle.framed_channel.specs.Channel.{Framed, IsUnused}
use Rattle.framed_channel.specs.Steps.{Takes, Reads, Moves, Puts, Ran}
use Rattle.framed_channel.specs.Steps.Ran.{none_yet as ran_none, and_takes, and_moves, and_puts, and_sends, and_gives}
use Rattle.framed_channel.specs.Standing.{CarriesFor, IsCarrying, MayRead}
use Rattle.framed_channel.specs.EndLaws.{push_stands, pop_stands, a_send_carries, a_receipt_carries}

pub begins : (kind : PortKind) (slots : ℕ) (c : Framed) → 1 ≤ slots → IsUnused kind slots c → CarriesFor c [] []
begins kind slots c place u =
    let near_kind : c.near.kind ≡ kind = ap (λ (q : Plain). q.kind) u.near in
    let far_kind : c.far.kind ≡ kind = ap (λ (q : Plain). q.kind) u.far in
    record {
      sound = record {
        no_fault = u.no_fault;
        read_kind = u.read_kind ∙ sym near_kind;
        far_kind = far_kind ∙ sym near_kind;
        place = subst (λ (q : Plain). 1 ≤ q.slots) (sym u.far) place;
      };
      taken = [];
      near = record { held_between = ap (λ (q : Plain). q.held) u.near; is_sent = inl refl };
      stream = [];
      frames = subst (AreFrames c.near.kind []) (sym u.pipe) none_yet;
      counted = sym u.moved;
      put = [];
      read = u.unread;
      far = record { held_between = ap (λ (q : Plain). q.held) u.far; is_sent = inl refl };
    }

-- ---- a take

taken_on : (a : Framed) (near : Plain) (pipe : List ℕ) (m : Msg) (sent received : List Msg) → Pops a.near m near → AppendsFrame m a.pipe pipe → CarriesFor a sent received → CarriesFor (record a { near = near; pipe = pipe }) sent received
taken_on a near pipe m sent received pops framed c =
    let kind : near.kind ≡ a.near.kind = plain.pop_kind a.near near m pops in
    let before : StandsForReceived a.near c.taken = record { sent = sent; both = c.near } in
    let stream : IsStream a.near.kind (c.taken ++ m ∷ []) = plain.pop_streams a.near near m c.taken pops before in
    let fits : receivable a.near.kind m.body ≡ true = each_mid (λ (x : Msg). receivable a.near.kind x.body ≡ true) c.taken m [] stream.receivable in
    let longer : AreFrames a.near.kind (c.taken ++ m ∷ []) ((c.stream ++ a.pipe) ++ framed.frame) = and_one c.taken (c.stream ++ a.pipe) m framed.frame c.frames (record { whole = framed.whole; spelled = record { receivable = fits; spelled = framed.spelled } }) in
    let bytes : (c.stream ++ a.pipe) ++ framed.frame ≡ c.stream ++ pipe = append_assoc c.stream a.pipe framed.frame ∙ ap (λ l. c.stream ++ l) (sym framed.appended) in
    record {
      sound = record { no_fault = c.sound.no_fault; read_kind = c.sound.read_kind ∙ sym kind; far_kind = c.sound.far_kind ∙ sym kind; place = c.sound.place };
      taken = c.taken ++ m ∷ [];
      near = pop_stands a.near near m sent c.taken pops c.near;
      stream = c.stream;
      frames = subst (λ k. AreFrames k (c.taken ++ m ∷ []) (c.stream ++ pipe)) (sym kind) (subst (AreFrames a.near.kind (c.taken ++ m ∷ [])) bytes longer);
      counted = c.counted;
      put = c.put;
      read = c.read;
      far = c.far;
    }

pub a_take_carries : (a b : Framed) (sent received : List Msg) → Takes a b → CarriesFor a sent received → CarriesFor b sent received
a_take_carries a b sent received takes c = subst (λ d. CarriesFor d sent received) (sym takes.is) (taken_on a b.near b.pipe takes.message sent received takes.popped takes.framed c)

-- ---- a move

in_two : (stream pipe : List ℕ) (n : ℕ) → (stream ++ take n pipe) ++ drop n pipe ≡ stream ++ pipe
in_two stream pipe n = append_assoc stream (take n pipe) (drop n pipe) ∙ ap (λ l. stream ++ l) (take-append-drop n pipe)

moved_on : (a : Framed) (frames : Deframing) (n : ℕ) (sent received : List Msg) → n ≤ length a.pipe → Reads a.frames (take n a.pipe) frames → CarriesFor a sent received → CarriesFor (record a { pipe = drop n a.pipe; frames = frames; moved = a.moved + n }) sent received
moved_on a frames n sent received fits reads c =
    let counted : length c.stream ≡ a.moved = c.counted in
    record {
      sound = record { no_fault = reads.no_fault; read_kind = reads.kind ∙ c.sound.read_kind; far_kind = c.sound.far_kind; place = c.sound.place };
      taken = c.taken;
      near = c.near;
      stream = c.stream ++ take n a.pipe;
      frames = subst (AreFrames a.near.kind c.taken) (sym (in_two c.stream a.pipe n)) c.frames;
      counted = length-append c.stream (take n a.pipe) ∙ ap (λ k. length c.stream + k) (length-take-le n a.pipe fits) ∙ ap (λ k. k + n) counted;
      put = c.put;
      read = reads.stands c.stream c.put c.read;
      far = c.far;
    }

pub a_move_carries : (a b : Framed) (n : ℕ) (sent received : List Msg) → Moves n a b → CarriesFor a sent received → CarriesFor b sent received
a_move_carries a b n sent received moves c = subst (λ d. CarriesFor d sent received) (sym moves.is) (moved_on a b.frames n sent received moves.fits moves.reads c)

-- the first of what was sent is empty or a stream, too
first_sent : (kind : PortKind) (xs ys sent : List Msg) → xs ++ ys ≡ sent → IsSent kind sent → IsSent kind xs
first_sent kind [] ys sent parts is = inl refl
first_sent kind (x ∷ xs) ys sent parts (inl none) = absurd (let e : length (x ∷ (xs ++ ys)) ≡ 0 = ap length (parts ∙ none) in omega arith)
first_sent kind (x ∷ xs) ys sent parts (inr stream) = inr (front-from kind x xs ys (subst (IsStream kind) (sym parts) stream))

-- a part of the pipe may be read
pub may_read : (a : Framed) (n : ℕ) (piece : List ℕ) → n ≤ length a.pipe → piece ≡ take n a.pipe → a.moved + n < 2 ^ 64 → IsCarrying a → MayRead a.frames piece
may_read a n piece fits is short carrying =
    let c = carrying.both in
    let counted : length c.stream ≡ a.moved = c.counted in
    let long : length piece ≡ n = ap length is ∙ length-take-le n a.pipe fits in
    let bytes : (c.stream ++ piece) ++ drop n a.pipe ≡ c.stream ++ a.pipe = ap (λ l. (c.stream ++ l) ++ drop n a.pipe) is ∙ in_two c.stream a.pipe n in
    record {
      no_fault = c.sound.no_fault;
      stream = c.stream;
      given = c.put;
      stands = c.read;
      short = omega arith;
      messages = c.taken;
      rest = drop n a.pipe;
      sent = subst (λ k. IsSent k c.taken) (sym c.sound.read_kind) (first_sent a.near.kind c.taken a.near.held carrying.sent c.near.held_between c.near.is_sent);
      framed = subst (λ k. AreFrames k c.taken ((c.stream ++ piece) ++ drop n a.pipe)) (sym c.sound.read_kind) (subst (AreFrames a.near.kind c.taken) (sym bytes) c.frames);
    }

-- ---- a put

no_end : (xs : List Msg) (m : Msg) (more : List Msg) → (xs ++ m ∷ []) ++ more ≡ [] → ⊥
no_end xs m more e =
    let none : length ((xs ++ m ∷ []) ++ more) ≡ 0 = ap length e in
    let long : length ((xs ++ m ∷ []) ++ more) ≡ length (xs ++ m ∷ []) + length more = length-append (xs ++ m ∷ []) more in
    let one : length (xs ++ m ∷ []) ≡ length xs + 1 = length-append xs (m ∷ []) in
    absurd (omega arith)

ruled : (kind : PortKind) (put : List Msg) (m : Msg) (more : List Msg) (last : Option ℕ) → KeepsRule kind ((put ++ m ∷ []) ++ more) last → IsStream kind (put ++ m ∷ [])
ruled kind put m more None none = absurd (no_end put m more none)
ruled kind put m more (Some at) ends = stream_so_far kind put m more ends.stream

-- what was put, and then the message that was read first, is a stream
put_streams : (frames : Deframing) (stream : List ℕ) (put : List Msg) (m : Msg) → Stands frames stream (put ++ m ∷ []) → IsStream frames.place.kind (put ++ m ∷ [])
put_streams frames stream put m s = ruled frames.place.kind put m frames.place.waiting frames.place.last s.reached.rule

next_kind : (a b : Deframing) (m : Msg) → NextIs a m b → b.place.kind ≡ a.place.kind
next_kind a b m next = sym (ap (λ (d : Deframing). d.place.kind) next)

far_streams : (a : Framed) (frames : Deframing) (m : Msg) (sent received : List Msg) → NextIs a.frames m frames → (c : CarriesFor a sent received) → IsStream a.far.kind (c.put ++ m ∷ [])
far_streams a frames m sent received next c =
    subst (λ k. IsStream k (c.put ++ m ∷ [])) (next_kind a.frames frames m next ∙ c.sound.read_kind ∙ sym c.sound.far_kind)
    (put_streams frames c.stream c.put m (hands_out a.frames frames m c.stream c.put next c.read))

-- the message may go into the far queue
pub next_put : (a : Framed) (frames : Deframing) (m : Msg) → NextIs a.frames m frames → IsCarrying a → IsNextSent a.far.kind (StandsForSent a.far) m
next_put a frames m next carrying = record {
  sent = carrying.both.put;
  is_sent = record { received = carrying.received; both = carrying.both.far };
  streams = far_streams a frames m carrying.sent carrying.received next carrying.both;
}

put_on : (a : Framed) (frames : Deframing) (far : Plain) (m : Msg) (sent received : List Msg) → NextIs a.frames m frames → Pushes a.far m far → CarriesFor a sent received → CarriesFor (record a { frames = frames; far = far }) sent received
put_on a frames far m sent received next pushes c =
    let kind : far.kind ≡ a.far.kind = plain.push_kind a.far far m pushes in
    let slots : far.slots ≡ a.far.slots = ap (λ (q : Plain). q.slots) pushes.is in
    record {
      sound = record {
        no_fault = sym (ap (λ (d : Deframing). d.fault) next) ∙ c.sound.no_fault;
        read_kind = next_kind a.frames frames m next ∙ c.sound.read_kind;
        far_kind = kind ∙ c.sound.far_kind;
        place = subst (λ n. 1 ≤ n) (sym slots) c.sound.place;
      };
      taken = c.taken;
      near = c.near;
      stream = c.stream;
      frames = c.frames;
      counted = c.counted;
      put = c.put ++ m ∷ [];
      read = hands_out a.frames frames m c.stream c.put next c.read;
      far = push_stands a.far far m c.put received pushes (far_streams a frames m sent received next c) c.far;
    }

pub a_put_carries : (a b : Framed) (sent received : List Msg) → Puts a b → CarriesFor a sent received → CarriesFor b sent received
a_put_carries a b sent received puts c = subst (λ d. CarriesFor d sent received) (sym puts.is) (put_on a b.frames b.far puts.message sent received puts.next puts.pushed c)

-- ---- whatever steps

pub a_run_carries : (a b : Framed) (sent received : List Msg) → CarriesFor a [] [] → Ran a sent received b → CarriesFor b sent received
a_run_carries a b sent received first ran_none = first
a_run_carries a b sent received first (and_takes s r c d ran takes) = a_take_carries c d s r takes (a_run_carries a c s r first ran)
a_run_carries a b sent received first (and_moves s r c d n ran moves) = a_move_carries c d n s r moves (a_run_carries a c s r first ran)
a_run_carries a b sent received first (and_puts s r c d ran puts) = a_put_carries c d s r puts (a_run_carries a c s r first ran)
a_run_carries a b sent received first (and_sends s r c d m ran stream sends) = a_send_carries c d m s r sends stream (a_run_carries a c s r first ran)
a_run_carries a b sent received first (and_gives s r c d m ran gives) = a_receipt_carries c d m s r gives (a_run_carries a c s r first ran)
