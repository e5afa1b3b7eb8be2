-- What is under way on a channel, and that it can go on.
use Rattle.std.specs.Prelude.{◌≢◌}
use Rattle.std.proofs.Common.{◌≡◌, ℕ, ◌<◌, ◌≤◌, List, [], ◌∷◌, ◌++◌, length, ap, sym, refl, subst, arith, append_assoc, ◌∙◌}
use Rattle.std.proofs.lemmas.List.{append-nil}
use Rattle.cs_base.specs.declared.port_kind.PortKind.{PortKind}
use Rattle.sb_message.specs.declared.message.Msg.{Msg}
use Rattle.sb_frame.specs.Frames.{AreFrames, IsOpen}
use Rattle.sb_frame.proofs.Feeding.{IsOpenAt, opens_at}
use Rattle.sb_frame.proofs.Firsts.{open_not_frame}
use Rattle.sb_frame.proofs.Parsing.{Leads, leads}
use Rattle.framed_channel.specs.Channel.{Framed, IsUnused}
use Rattle.framed_channel.specs.Steps.{MayPut, Ran}
use Rattle.framed_channel.specs.Standing.{CarriesFor}
use Rattle.framed_channel.specs.UnderWay.{IsUnderWay, NothingIsLost, CanGoOn}
use Rattle.framed_channel.specs.UnderWay.CanGoOn.{by_take, by_move, by_put, by_receipt}
use Rattle.framed_channel.specs.Laws.{RanWell, KeepsCarrying}
use Rattle.framed_channel.proofs.FrameLists.{GoOnWith, go_on, frames_of, one_list}
use Rattle.framed_channel.proofs.Kept.{begins, a_take_carries, a_move_carries, a_put_carries, a_run_carries}
use Rattle.framed_channel.specs.EndLaws.{a_send_carries, a_receipt_carries}

-- the bytes that left the pipe and aren't read as whole frames, and then those in it, are frames of what was taken last
record IsOnTheWay (c : Framed) (taken put : List Msg) : Type 0 where
  opened : IsOpen c.frames.begun
  on : GoOnWith c.near.kind (put ++ c.frames.place.waiting) taken (c.frames.begun ++ c.pipe)

on_the_way : (c : Framed) (sent received : List Msg) → (x : CarriesFor c sent received) → IsOnTheWay c x.taken x.put
on_the_way c sent received x =
    let kind = c.near.kind in
    let o : IsOpenAt c.frames x.stream x.put = opens_at c.frames x.stream x.put x.sound.no_fault x.read in
    let read : AreFrames kind (x.put ++ c.frames.place.waiting) o.before = subst (λ k. AreFrames k (x.put ++ c.frames.place.waiting) o.before) x.sound.read_kind o.reached.frames in
    let bytes : x.stream ++ c.pipe ≡ o.before ++ (c.frames.begun ++ c.pipe) = ap (λ l. l ++ c.pipe) o.parts ∙ append_assoc o.before c.frames.begun c.pipe in
    record {
      opened = o.opened;
      on = go_on kind (x.put ++ c.frames.place.waiting) x.taken o.before (c.frames.begun ++ c.pipe) (x.stream ++ c.pipe)
          (leads kind (x.put ++ c.frames.place.waiting) o.before read) (leads kind x.taken (x.stream ++ c.pipe) x.frames) bytes;
    }

in_a_row : (r f w m n : List Msg) → (((r ++ f) ++ w) ++ m) ++ n ≡ r ++ (f ++ (w ++ (m ++ n)))
in_a_row r f w m n = append_assoc ((r ++ f) ++ w) m n ∙ append_assoc (r ++ f) w (m ++ n) ∙ append_assoc r f (w ++ (m ++ n))

pub nothing_lost : (c : Framed) (sent received : List Msg) → CarriesFor c sent received → NothingIsLost c sent received
nothing_lost c sent received x =
    let way : IsOnTheWay c x.taken x.put = on_the_way c sent received x in
    let inside = way.on.more in
    let waiting = c.frames.place.waiting in
    let put : x.put ≡ received ++ c.far.held = sym x.far.held_between in
    let taken : x.taken ≡ ((received ++ c.far.held) ++ waiting) ++ inside = way.on.parts ∙ ap (λ l. (l ++ waiting) ++ inside) put in
    record {
      held = c.far.held ++ (waiting ++ (inside ++ c.near.held));
      under_way = record {
        inside = inside;
        in_bytes = record { frames = frames_of c.near.kind inside (c.frames.begun ++ c.pipe) way.on.frames };
        is = refl;
      };
      sent_is = sym x.near.held_between ∙ ap (λ l. l ++ c.near.held) taken ∙ in_a_row received c.far.held waiting inside c.near.held;
    }

pub one_way : (c : Framed) (one other : List Msg) → IsUnderWay c one → IsUnderWay c other → one ≡ other
one_way c one other x y =
    let same : y.inside ≡ x.inside = one_list c.near.kind x.inside y.inside (c.frames.begun ++ c.pipe) x.in_bytes.frames y.in_bytes.frames in
    x.is ∙ ap (λ l. c.far.held ++ (c.frames.place.waiting ++ (l ++ c.near.held))) (sym same) ∙ sym y.is

pub ran_well : (kind : PortKind) (slots : ℕ) (a b : Framed) (sent received : List Msg) → 1 ≤ slots → IsUnused kind slots a → Ran a sent received b → RanWell sent received b
ran_well kind slots a b sent received place unused ran =
    let carries : CarriesFor b sent received = a_run_carries a b sent received (begins kind slots a place unused) ran in
    record { carries = carries; whole = nothing_lost b sent received carries }

pub keeps_carrying : (c : Framed) (sent received : List Msg) → CarriesFor c sent received → KeepsCarrying c sent received
keeps_carrying c sent received x = record {
  take = λ b takes. a_take_carries c b sent received takes x;
  move = λ b n moves. a_move_carries c b n sent received moves x;
  put = λ b puts. a_put_carries c b sent received puts x;
  send = λ b m stream sends. a_send_carries c b m sent received sends stream x;
  receipt = λ b m gives. a_receipt_carries c b m sent received gives x;
}

-- ---- it can go on

-- an open frame holds no whole one
none_inside : (kind : PortKind) (inside : List Msg) (begun bytes : List ℕ) → IsOpen begun → bytes ≡ begun → Leads kind inside bytes → inside ≡ []
none_inside kind [] begun bytes opened is leads = refl
none_inside kind (m ∷ inside) begun bytes opened is leads = absurd (open_not_frame begun leads.0 leads.1 opened (sym is ∙ leads.2) leads.3.whole)

pub all_received : (c : Framed) (sent received : List Msg) → CarriesFor c sent received → c.near.held ≡ [] → c.pipe ≡ [] → c.far.held ≡ [] → c.frames.place.waiting ≡ [] → sent ≡ received
all_received c sent received x near pipe far waiting =
    let way : IsOnTheWay c x.taken x.put = on_the_way c sent received x in
    let bytes : c.frames.begun ++ c.pipe ≡ c.frames.begun = ap (λ l. c.frames.begun ++ l) pipe ∙ append-nil c.frames.begun in
    let inside : way.on.more ≡ [] = none_inside c.near.kind way.on.more c.frames.begun (c.frames.begun ++ c.pipe) way.opened bytes way.on.frames in
    let taken : x.taken ≡ x.put = way.on.parts ∙ ap (λ l. (x.put ++ l) ++ way.on.more) waiting ∙ ap (λ l. (x.put ++ []) ++ l) inside ∙ append-nil (x.put ++ []) ∙ append-nil x.put in
    let put : x.put ≡ received = sym x.far.held_between ∙ ap (λ l. received ++ l) far ∙ append-nil received in
    sym x.near.held_between ∙ ap (λ l. x.taken ++ l) near ∙ append-nil x.taken ∙ taken ∙ put

some_there : {A : Type 0} (l : List A) (x : A) (more : List A) → l ≡ x ∷ more → 0 < length l
some_there l x more e = let long : length l ≡ length (x ∷ more) = ap length e in omega arith

may_put : (c : Framed) (m : Msg) (more : List Msg) → 1 ≤ c.far.slots → c.far.held ≡ [] → c.frames.place.waiting ≡ m ∷ more → MayPut c
may_put c m more place far waits = (some_there c.frames.place.waiting m more waits, (let none : length c.far.held ≡ 0 = ap length far in omega arith))

by_waiting : (c : Framed) (sent received waiting : List Msg) → CarriesFor c sent received → sent ≢ received → c.near.held ≡ [] → c.pipe ≡ [] → c.far.held ≡ [] → c.frames.place.waiting ≡ waiting → CanGoOn c
by_waiting c sent received [] x differs near pipe far waits = absurd (differs (all_received c sent received x near pipe far waits))
by_waiting c sent received (m ∷ more) x differs near pipe far waits = by_put (may_put c m more x.sound.place far waits)

by_far : (c : Framed) (sent received held : List Msg) → CarriesFor c sent received → sent ≢ received → c.near.held ≡ [] → c.pipe ≡ [] → c.far.held ≡ held → CanGoOn c
by_far c sent received [] x differs near pipe far = by_waiting c sent received c.frames.place.waiting x differs near pipe far refl
by_far c sent received (m ∷ more) x differs near pipe far = by_receipt (some_there c.far.held m more far)

by_pipe : (c : Framed) (sent received : List Msg) (pipe : List ℕ) → CarriesFor c sent received → sent ≢ received → c.near.held ≡ [] → c.pipe ≡ pipe → CanGoOn c
by_pipe c sent received [] x differs near pipe = by_far c sent received c.far.held x differs near pipe refl
by_pipe c sent received (b ∷ more) x differs near pipe = by_move (omega arith, some_there c.pipe b more pipe)

by_near : (c : Framed) (sent received held : List Msg) → CarriesFor c sent received → sent ≢ received → c.near.held ≡ held → CanGoOn c
by_near c sent received [] x differs near = by_pipe c sent received c.pipe x differs near refl
by_near c sent received (m ∷ more) x differs near = by_take (some_there c.near.held m more near)

pub can_go_on : (c : Framed) (sent received : List Msg) → CarriesFor c sent received → sent ≢ received → CanGoOn c
can_go_on c sent received x differs = by_near c sent received c.near.held x differs refl
