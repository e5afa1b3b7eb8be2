-- What is left between the ends of a carrier falls with each step there.
use Rattle.std.proofs.Common.{◌≡◌, ℕ, ◌+◌, ◌-◌, ◌<◌, ◌≤◌, List, [], ◌∷◌, ◌++◌, length, ap, sym, refl, arith, append-nil, length-append, length-drop, ◌∙◌}
use Rattle.std.proofs.lemmas.List.{append_cancel_left}
use Rattle.cs_base.specs.declared.port_kind.PortKind.{PortKind}
use Rattle.sb_message.specs.declared.message.Msg.{Msg}
use Rattle.sb_frame.proofs.Parsing.{Leads, leads}
use Rattle.port_queue.specs.Plain.{Plain}
use Rattle.framed_channel.specs.Channel as channel
use Rattle.framed_channel.specs.Steps as steps
use Rattle.framed_channel.specs.Left.{frame_size}
use Rattle.framed_channel.specs.Standing.{CarriesFor}
use Rattle.framed_channel.specs.UnderWay.{NothingIsLost}
use Rattle.framed_channel.proofs.Counting.{frame_long}
use Rattle.framed_channel.proofs.Kept.{a_put_carries}
use Rattle.framed_channel.proofs.Way.{nothing_lost, one_way, all_received}
use Rattle.mesh_channel.specs.declared.carrier.Carrier.{Carrier}
use Rattle.mesh_channel.specs.declared.carrier.Carrier.TheVariants.{Direct, Framed}
use Rattle.mesh_channel.specs.Carrier.{Pushes, Pops, Takes, Moves, Puts}
use Rattle.mesh_channel.specs.Standing.{Carries, IsIdleChannel}
use Rattle.mesh_channel.specs.Laws.{HaveOneUnderWay, AreIdle}
use Rattle.mesh_channel.specs.Left.{frames_size, work_of, left_between, CountDown, AreBusy}

-- how many messages under way stand where
record AreApart (c : channel.Framed) (held : List Msg) : Type 0 where
  inside : List Msg
  frames : Leads c.near.kind inside (c.frames.begun ++ c.pipe)
  many : length held ≡ length c.far.held + (length c.frames.place.waiting + (length inside + length c.near.held))

apart : (c : channel.Framed) (sent received held : List Msg) → CarriesFor c sent received → sent ≡ received ++ held → AreApart c held
apart c sent received held x e =
    let far = c.far.held in
    let waiting = c.frames.place.waiting in
    let near = c.near.held in
    let lost : NothingIsLost c sent received = nothing_lost c sent received x in
    let inside = lost.under_way.inside in
    let same : held ≡ lost.held = append_cancel_left received held lost.held (sym e ∙ lost.sent_is) in
    let all : length held ≡ length (far ++ (waiting ++ (inside ++ near))) = ap length (same ∙ lost.under_way.is) in
    let first : length (far ++ (waiting ++ (inside ++ near))) ≡ length far + length (waiting ++ (inside ++ near)) = length-append far (waiting ++ (inside ++ near)) in
    let second : length (waiting ++ (inside ++ near)) ≡ length waiting + length (inside ++ near) = length-append waiting (inside ++ near) in
    let third : length (inside ++ near) ≡ length inside + length near = length-append inside near in
    record { inside = inside; frames = leads c.near.kind inside (c.frames.begun ++ c.pipe) lost.under_way.in_bytes.frames; many = omega arith }

size_more : (messages : List Msg) (m : Msg) → frames_size (messages ++ m ∷ []) ≡ frames_size messages + frame_size m
size_more [] m = omega arith
size_more (x ∷ messages) m = (let more : frames_size (messages ++ m ∷ []) ≡ frames_size messages + frame_size m = size_more messages m in omega arith)

no_elements : {A : Type 0} (l : List A) → length l ≡ 0 → l ≡ []
no_elements [] none = refl
no_elements (x ∷ l) none = absurd (omega arith)

no_frames : (kind : PortKind) (messages : List Msg) (bytes : List ℕ) → length messages ≡ 0 → Leads kind messages bytes → bytes ≡ []
no_frames kind [] bytes none frames = frames
no_frames kind (m ∷ messages) bytes none frames = absurd (omega arith)

module _ (a : channel.Framed) (sent received held : List Msg) (x : CarriesFor a sent received) (e : sent ≡ received ++ held) where
  take_falls : (b : channel.Framed) → steps.Takes a b → left_between (Framed a) held ≡ left_between (Framed b) held + 1
  take_falls b takes =
      let near : length a.near.held ≡ length (takes.message ∷ b.near.held) = ap (λ (q : Plain). length q.held) takes.popped in
      let size : frames_size a.near.held ≡ frame_size takes.message + frames_size b.near.held = ap (λ (q : Plain). frames_size q.held) takes.popped in
      let pipe : length b.pipe ≡ length a.pipe + frame_size takes.message = frame_long takes.message a.pipe b.pipe takes.framed in
      let far : length b.far.held ≡ length a.far.held = ap (λ (c : channel.Framed). length c.far.held) takes.is in
      omega arith

  move_falls : (b : channel.Framed) (n : ℕ) → steps.Moves n a b → left_between (Framed a) held ≡ left_between (Framed b) held + n
  move_falls b n moves =
      let near : length b.near.held ≡ length a.near.held = ap (λ (c : channel.Framed). length c.near.held) moves.is in
      let size : frames_size b.near.held ≡ frames_size a.near.held = ap (λ (c : channel.Framed). frames_size c.near.held) moves.is in
      let fits : n ≤ length a.pipe = moves.fits in
      let pipe : length b.pipe ≡ length a.pipe - n = ap (λ (c : channel.Framed). length c.pipe) moves.is ∙ length-drop n a.pipe in
      let far : length b.far.held ≡ length a.far.held = ap (λ (c : channel.Framed). length c.far.held) moves.is in
      omega arith

  put_falls : (b : channel.Framed) → steps.Puts a b → left_between (Framed a) held ≡ left_between (Framed b) held + 1
  put_falls b puts =
      let near : length b.near.held ≡ length a.near.held = ap (λ (c : channel.Framed). length c.near.held) puts.is in
      let size : frames_size b.near.held ≡ frames_size a.near.held = ap (λ (c : channel.Framed). frames_size c.near.held) puts.is in
      let pipe : length b.pipe ≡ length a.pipe = ap (λ (c : channel.Framed). length c.pipe) puts.is in
      let far : length b.far.held ≡ length a.far.held + 1 = ap (λ (q : Plain). length q.held) puts.pushed.is ∙ length-append a.far.held (puts.message ∷ []) in
      let then : AreApart b held = apart b sent received held (a_put_carries a b sent received puts x) e in
      let many : length held ≡ length b.far.held + (length b.frames.place.waiting + (length then.inside + length b.near.held)) = then.many in
      omega arith

  send_rises : (b : channel.Framed) (m : Msg) → steps.Sends a m b → left_between (Framed b) (held ++ m ∷ []) ≡ left_between (Framed a) held + work_of (Framed a) m
  send_rises b m sends =
      let near : length b.near.held ≡ length a.near.held + 1 = ap (λ (q : Plain). length q.held) sends.pushed.is ∙ length-append a.near.held (m ∷ []) in
      let size : frames_size b.near.held ≡ frames_size a.near.held + frame_size m = ap (λ (q : Plain). frames_size q.held) sends.pushed.is ∙ size_more a.near.held m in
      let pipe : length b.pipe ≡ length a.pipe = ap (λ (c : channel.Framed). length c.pipe) sends.is in
      let far : length b.far.held ≡ length a.far.held = ap (λ (c : channel.Framed). length c.far.held) sends.is in
      let longer : length (held ++ m ∷ []) ≡ length held + 1 = length-append held (m ∷ []) in
      let now : AreApart a held = apart a sent received held x e in
      let many : length held ≡ length a.far.held + (length a.frames.place.waiting + (length now.inside + length a.near.held)) = now.many in
      omega arith

  receipt_stays : (b : channel.Framed) (m : Msg) (rest : List Msg) → steps.Gives a m b → held ≡ m ∷ rest → left_between (Framed b) rest ≡ left_between (Framed a) held
  receipt_stays b m rest gives first =
      let near : length b.near.held ≡ length a.near.held = ap (λ (c : channel.Framed). length c.near.held) gives.is in
      let size : frames_size b.near.held ≡ frames_size a.near.held = ap (λ (c : channel.Framed). frames_size c.near.held) gives.is in
      let pipe : length b.pipe ≡ length a.pipe = ap (λ (c : channel.Framed). length c.pipe) gives.is in
      let far : length a.far.held ≡ length (m ∷ b.far.held) = ap (λ (q : Plain). length q.held) gives.popped in
      let longer : length held ≡ length (m ∷ rest) = ap length first in
      omega arith

  idle : held ≡ [] → IsIdleChannel a
  idle none =
      let now : AreApart a held = apart a sent received held x e in
      let many : length held ≡ length a.far.held + (length a.frames.place.waiting + (length now.inside + length a.near.held)) = now.many in
      let short : length held ≡ 0 = ap length none in
      let bytes : length (a.frames.begun ++ a.pipe) ≡ 0 = ap length (no_frames a.near.kind now.inside (a.frames.begun ++ a.pipe) (omega arith) now.frames) in
      let both : length (a.frames.begun ++ a.pipe) ≡ length a.frames.begun + length a.pipe = length-append a.frames.begun a.pipe in
      record {
        near = no_elements a.near.held (omega arith);
        pipe = no_elements a.pipe (omega arith);
        read = no_elements a.frames.place.waiting (omega arith);
        far = no_elements a.far.held (omega arith);
      }

  none_left : held ≡ [] → left_between (Framed a) held ≡ 0
  none_left none =
      let still : IsIdleChannel a = idle none in
      let short : length held ≡ 0 = ap length none in
      let near : length a.near.held ≡ 0 = ap length still.near in
      let size : frames_size a.near.held ≡ 0 = ap frames_size still.near in
      let pipe : length a.pipe ≡ 0 = ap length still.pipe in
      omega arith

  waits : steps.MayPut a → 0 < left_between (Framed a) held
  waits may =
      let some : 0 < length a.frames.place.waiting = may.0 in
      let now : AreApart a held = apart a sent received held x e in
      let many : length held ≡ length a.far.held + (length a.frames.place.waiting + (length now.inside + length a.near.held)) = now.many in
      omega arith

-- ---- what is under way

same_held : (received held other : List Msg) → received ++ held ≡ received ++ other → held ≡ other
same_held received held other e = append_cancel_left received held other e

pub one_under_way : HaveOneUnderWay
one_under_way (Direct q) sent received held sent' received' held' x e y f =
    sym (same_held received q.held held (x.stands.held_between ∙ e)) ∙ same_held received' q.held held' (y.stands.held_between ∙ f)
one_under_way (Framed c) sent received held sent' received' held' x e y f =
    let lost : NothingIsLost c sent received = nothing_lost c sent received x.carries in
    let other : NothingIsLost c sent' received' = nothing_lost c sent' received' y.carries in
    same_held received held lost.held (sym e ∙ lost.sent_is) ∙ one_way c lost.held other.held lost.under_way other.under_way ∙ same_held received' other.held held' (sym other.sent_is ∙ f)

none_held : (received held : List Msg) → received ++ held ≡ received → held ≡ []
none_held received held e = append_cancel_left received held [] (e ∙ sym (append-nil received))

pub are_idle : AreIdle
are_idle (Direct q) sent received x = (
  λ none. sym x.stands.held_between ∙ ap (λ l. received ++ l) none ∙ append-nil received,
  λ same. none_held received q.held (x.stands.held_between ∙ same),
)
are_idle (Framed c) sent received x = (
  λ still. all_received c sent received x.carries still.near still.pipe still.far still.read,
  λ same. idle c sent received [] x.carries (same ∙ sym (append-nil received)) refl,
)

-- ---- of either carrier

take_counts : (a b : Carrier) (sent received held : List Msg) → Carries a sent received → sent ≡ received ++ held → Takes a b → left_between a held ≡ left_between b held + 1
take_counts (Direct a) b sent received held x e takes = absurd takes
take_counts (Framed a) (Direct b) sent received held x e takes = absurd takes
take_counts (Framed a) (Framed b) sent received held x e takes = take_falls a sent received held x.carries e b takes

move_counts : (a b : Carrier) (n : ℕ) (sent received held : List Msg) → Carries a sent received → sent ≡ received ++ held → Moves n a b → left_between a held ≡ left_between b held + n
move_counts (Direct a) b n sent received held x e moves = absurd moves
move_counts (Framed a) (Direct b) n sent received held x e moves = absurd moves
move_counts (Framed a) (Framed b) n sent received held x e moves = move_falls a sent received held x.carries e b n moves

put_counts : (a b : Carrier) (sent received held : List Msg) → Carries a sent received → sent ≡ received ++ held → Puts a b → left_between a held ≡ left_between b held + 1
put_counts (Direct a) b sent received held x e puts = absurd puts
put_counts (Framed a) (Direct b) sent received held x e puts = absurd puts
put_counts (Framed a) (Framed b) sent received held x e puts = put_falls a sent received held x.carries e b puts

send_counts : (a b : Carrier) (m : Msg) (sent received held : List Msg) → Carries a sent received → sent ≡ received ++ held → Pushes a m b → left_between b (held ++ m ∷ []) ≡ left_between a held + work_of a m
send_counts (Direct a) (Direct b) m sent received held x e pushes = refl
send_counts (Direct a) (Framed b) m sent received held x e pushes = absurd pushes
send_counts (Framed a) (Direct b) m sent received held x e pushes = absurd pushes
send_counts (Framed a) (Framed b) m sent received held x e pushes = send_rises a sent received held x.carries e b m pushes

receipt_counts : (a b : Carrier) (m : Msg) (sent received held rest : List Msg) → Carries a sent received → sent ≡ received ++ held → Pops a m b → held ≡ m ∷ rest → left_between b rest ≡ left_between a held
receipt_counts (Direct a) (Direct b) m sent received held rest x e pops first = refl
receipt_counts (Direct a) (Framed b) m sent received held rest x e pops first = absurd pops
receipt_counts (Framed a) (Direct b) m sent received held rest x e pops first = absurd pops
receipt_counts (Framed a) (Framed b) m sent received held rest x e pops first = receipt_stays a sent received held x.carries e b m rest pops first

none_counts : (a : Carrier) (sent received held : List Msg) → Carries a sent received → sent ≡ received ++ held → held ≡ [] → left_between a held ≡ 0
none_counts (Direct a) sent received held x e none = refl
none_counts (Framed a) sent received held x e none = none_left a sent received held x.carries e none

pub counts : CountDown
counts a sent received held x e = record {
  take = λ b takes. take_counts a b sent received held x e takes;
  move = λ b n moves. move_counts a b n sent received held x e moves;
  put = λ b puts. put_counts a b sent received held x e puts;
  send = λ b m pushes. send_counts a b m sent received held x e pushes;
  receipt = λ b m rest pops first. receipt_counts a b m sent received held rest x e pops first;
  none = λ none. none_counts a sent received held x e none;
}

pub busy : AreBusy
busy (Direct a) sent received held x e = record { take = λ may. absurd may; move = λ n may. absurd may; put = λ may. absurd may }
busy (Framed a) sent received held x e = record {
  take = λ may. (let some : 0 < length a.near.held = may in omega arith);
  move = λ n may. (let some : 1 ≤ n = may.0 in let fits : n ≤ length a.pipe = may.1 in omega arith);
  put = λ may. waits a sent received held x.carries e may;
}
