-- What is left of a channel over a byte stream falls with each step.
use Rattle.std.proofs.Common.{◌≡◌, ℕ, ◌+◌, ◌-◌, ◌*◌, ◌≤◌, List, [], ◌∷◌, ◌++◌, length, take, drop, ap, refl, arith, length-append, length-drop, ◌∙◌}
use Rattle.sb_message.specs.declared.message.Body.{Body}
use Rattle.sb_message.specs.declared.message.Body.TheVariants as body
use Rattle.sb_message.specs.declared.message.Msg.{Msg}
use Rattle.sb_message.specs.Stream.{IsStream}
use Rattle.sb_message.specs.Spelling.{SpellsBody}
use Rattle.sb_frame.specs.Frames.{stated}
use Rattle.sb_frame.specs.Framing.{AppendsFrame}
use Rattle.sb_frame.proofs.Lengths.{spelled_length}
use Rattle.port_queue.specs.Plain.{Plain}
use Rattle.framed_channel.specs.Channel.{Framed}
use Rattle.framed_channel.specs.Steps.{Takes, Moves, Puts, Sends, Gives}
use Rattle.framed_channel.specs.Standing.{CarriesFor}
use Rattle.framed_channel.specs.EndLaws.{a_send_carries, a_receipt_carries}
use Rattle.framed_channel.specs.UnderWay.{IsUnderWay, NothingIsLost}
use Rattle.framed_channel.specs.Left.{payload_size, frame_size, left_near, IsLeft, FallsBy, IsCounted}
use Rattle.framed_channel.proofs.Kept.{a_take_carries, a_move_carries, a_put_carries}
use Rattle.framed_channel.proofs.Way.{nothing_lost, one_way, all_received}

payload_long : (b : Body) (ty : ℕ) (fields payload : List ℕ) → SpellsBody b ty fields payload → length payload ≡ payload_size b
payload_long body.Sync ty fields payload s = ap length s.no_payload
payload_long (body.Intro i) ty fields payload s = ap length s.no_payload
payload_long (body.Dev m) ty fields payload s = ap length s.whole
payload_long (body.Host m) ty fields payload s = ap length s.whole
payload_long (body.Mem m) ty fields payload s = ap length s.access.whole
payload_long (body.Eth frame) ty fields payload s = ap length s.whole

-- how much longer a frame makes the pipe
pub frame_long : (m : Msg) (old new : List ℕ) → AppendsFrame m old new → length new ≡ length old + frame_size m
frame_long m old new a =
    let bytes = drop 4 a.frame in
    let measured : length a.frame ≡ 4 + stated a.frame = a.whole.measured in
    let least : 64 ≤ length bytes = (spelled_length m bytes a.spelled).0 in
    let payload : length (drop 64 bytes) ≡ payload_size m.body = payload_long m.body a.spelled.ty (take 48 bytes) (drop 64 bytes) a.spelled.row in
    let behind : length (drop 64 bytes) ≡ length bytes - 64 = length-drop 64 bytes in
    let long : length bytes ≡ length a.frame - 4 = length-drop 4 a.frame in
    let whole : length new ≡ length old + length a.frame = ap length a.appended ∙ length-append old a.frame in
    omega arith

-- what is left, by the lengths of the lists alone
left_of : (c : Framed) (sent received : List Msg) (n : ℕ) → CarriesFor c sent received → IsLeft c n → n + (2 * length received + (2 * length c.near.held + length c.far.held)) ≡ left_near c.near.held + (length c.pipe + 2 * length sent)
left_of c sent received n x l =
    let near = c.near.held in
    let far = c.far.held in
    let waiting = c.frames.place.waiting in
    let lost : NothingIsLost c sent received = nothing_lost c sent received x in
    let held = far ++ (waiting ++ (l.inside ++ near)) in
    let way : IsUnderWay c held = record { inside = l.inside; in_bytes = l.in_bytes; is = refl } in
    let same : lost.held ≡ held = one_way c lost.held held lost.under_way way in
    let all : length sent ≡ length received + length lost.held = ap length lost.sent_is ∙ length-append received lost.held in
    let some : length lost.held ≡ length held = ap length same in
    let first : length held ≡ length far + length (waiting ++ (l.inside ++ near)) = length-append far (waiting ++ (l.inside ++ near)) in
    let second : length (waiting ++ (l.inside ++ near)) ≡ length waiting + length (l.inside ++ near) = length-append waiting (l.inside ++ near) in
    let third : length (l.inside ++ near) ≡ length l.inside + length near = length-append l.inside near in
    let is : n ≡ left_near near + (length c.pipe + (2 * (length waiting + length l.inside) + length far)) = l.is in
    omega arith

take_falls : (a b : Framed) (sent received : List Msg) → CarriesFor a sent received → Takes a b → FallsBy 1 a b
take_falls a b sent received x takes n rest la lb =
    let before = left_of a sent received n x la in
    let after = left_of b sent received rest (a_take_carries a b sent received takes x) lb in
    let near : left_near a.near.held ≡ 3 + frame_size takes.message + left_near b.near.held = ap (λ (q : Plain). left_near q.held) takes.popped in
    let fewer : length a.near.held ≡ length (takes.message ∷ b.near.held) = ap (λ (q : Plain). length q.held) takes.popped in
    let pipe : length b.pipe ≡ length a.pipe + frame_size takes.message = frame_long takes.message a.pipe b.pipe takes.framed in
    let far : length b.far.held ≡ length a.far.held = ap (λ (c : Framed). length c.far.held) takes.is in
    omega arith

move_falls : (a b : Framed) (k : ℕ) (sent received : List Msg) → CarriesFor a sent received → Moves k a b → FallsBy k a b
move_falls a b k sent received x moves n rest la lb =
    let before = left_of a sent received n x la in
    let after = left_of b sent received rest (a_move_carries a b k sent received moves x) lb in
    let near : left_near b.near.held ≡ left_near a.near.held = ap (λ (c : Framed). left_near c.near.held) moves.is in
    let as_many : length b.near.held ≡ length a.near.held = ap (λ (c : Framed). length c.near.held) moves.is in
    let fits : k ≤ length a.pipe = moves.fits in
    let pipe : length b.pipe ≡ length a.pipe - k = ap (λ (c : Framed). length c.pipe) moves.is ∙ length-drop k a.pipe in
    let far : length b.far.held ≡ length a.far.held = ap (λ (c : Framed). length c.far.held) moves.is in
    omega arith

put_falls : (a b : Framed) (sent received : List Msg) → CarriesFor a sent received → Puts a b → FallsBy 1 a b
put_falls a b sent received x puts n rest la lb =
    let before = left_of a sent received n x la in
    let after = left_of b sent received rest (a_put_carries a b sent received puts x) lb in
    let near : left_near b.near.held ≡ left_near a.near.held = ap (λ (c : Framed). left_near c.near.held) puts.is in
    let as_many : length b.near.held ≡ length a.near.held = ap (λ (c : Framed). length c.near.held) puts.is in
    let pipe : length b.pipe ≡ length a.pipe = ap (λ (c : Framed). length c.pipe) puts.is in
    let far : length b.far.held ≡ length a.far.held + 1 = ap (λ (q : Plain). length q.held) puts.pushed.is ∙ length-append a.far.held (puts.message ∷ []) in
    omega arith

receipt_falls : (a b : Framed) (m : Msg) (sent received : List Msg) → CarriesFor a sent received → Gives a m b → FallsBy 1 a b
receipt_falls a b m sent received x gives n rest la lb =
    let before = left_of a sent received n x la in
    let after = left_of b sent (received ++ m ∷ []) rest (a_receipt_carries a b m sent received gives x) lb in
    let longer : length (received ++ m ∷ []) ≡ length received + 1 = length-append received (m ∷ []) in
    let near : left_near b.near.held ≡ left_near a.near.held = ap (λ (c : Framed). left_near c.near.held) gives.is in
    let as_many : length b.near.held ≡ length a.near.held = ap (λ (c : Framed). length c.near.held) gives.is in
    let pipe : length b.pipe ≡ length a.pipe = ap (λ (c : Framed). length c.pipe) gives.is in
    let far : length a.far.held ≡ length (m ∷ b.far.held) = ap (λ (q : Plain). length q.held) gives.popped in
    omega arith

near_more : (held : List Msg) (m : Msg) → left_near (held ++ m ∷ []) ≡ left_near held + (3 + frame_size m)
near_more [] m = omega arith
near_more (x ∷ held) m = let more : left_near (held ++ m ∷ []) ≡ left_near held + (3 + frame_size m) = near_more held m in omega arith

send_falls : (a b : Framed) (m : Msg) (sent received : List Msg) → CarriesFor a sent received → IsStream a.near.kind (sent ++ m ∷ []) → Sends a m b → FallsBy (3 + frame_size m) b a
send_falls a b m sent received x stream sends n rest lb la =
    let before = left_of a sent received rest x la in
    let after = left_of b (sent ++ m ∷ []) received n (a_send_carries a b m sent received sends stream x) lb in
    let longer : length (sent ++ m ∷ []) ≡ length sent + 1 = length-append sent (m ∷ []) in
    let near : left_near b.near.held ≡ left_near a.near.held + (3 + frame_size m) = ap (λ (q : Plain). left_near q.held) sends.pushed.is ∙ near_more a.near.held m in
    let one_more : length b.near.held ≡ length a.near.held + 1 = ap (λ (q : Plain). length q.held) sends.pushed.is ∙ length-append a.near.held (m ∷ []) in
    let pipe : length b.pipe ≡ length a.pipe = ap (λ (c : Framed). length c.pipe) sends.is in
    let far : length b.far.held ≡ length a.far.held = ap (λ (c : Framed). length c.far.held) sends.is in
    omega arith

empty : {A : Type 0} (l : List A) → length l ≡ 0 → l ≡ []
empty [] none = refl
empty (x ∷ l) none = absurd (omega arith)

near_empty : (held : List Msg) → left_near held ≡ 0 → held ≡ []
near_empty [] none = refl
near_empty (m ∷ held) none = absurd (omega arith)

none_left : (c : Framed) (sent received : List Msg) (n : ℕ) → CarriesFor c sent received → IsLeft c n → n ≡ 0 → sent ≡ received
none_left c sent received n x l zero =
    let is : n ≡ left_near c.near.held + (length c.pipe + (2 * (length c.frames.place.waiting + length l.inside) + length c.far.held)) = l.is in
    all_received c sent received x (near_empty c.near.held (omega arith)) (empty c.pipe (omega arith)) (empty c.far.held (omega arith)) (empty c.frames.place.waiting (omega arith))

pub counted : (c : Framed) (sent received : List Msg) → CarriesFor c sent received → IsCounted c sent received
counted c sent received x =
    let lost : NothingIsLost c sent received = nothing_lost c sent received x in
    let inside = lost.under_way.inside in
    let number = left_near c.near.held + (length c.pipe + (2 * (length c.frames.place.waiting + length inside) + length c.far.held)) in
    let left : IsLeft c number = record { inside = inside; in_bytes = lost.under_way.in_bytes; is = refl } in
    record {
      number = number;
      is_left = left;
      counts = record {
        take = λ b takes. take_falls c b sent received x takes;
        move = λ b n moves. move_falls c b n sent received x moves;
        put = λ b puts. put_falls c b sent received x puts;
        receipt = λ b m gives. receipt_falls c b m sent received x gives;
        send = λ b m list stream carries sends. send_falls c b m list carries.received carries.both stream sends;
      };
      none = λ zero. none_left c sent received number x left zero;
    }
