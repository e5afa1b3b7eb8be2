-- A carrier is never stuck, and what it refuses leads nowhere.
use Rattle.std.specs.Prelude.{◌≢◌}
use Rattle.std.proofs.Common.{◌≡◌, ℕ, ◌+◌, ◌<◌, ◌≤◌, List, [], ◌∷◌, ◌++◌, length, ap, sym, refl, arith, append-nil, length-append, ◌∙◌}
use Rattle.std.proofs.lemmas.List.{append_cancel_left}
use Rattle.sb_message.specs.declared.message.Msg.{Msg}
use Rattle.sb_frame.specs.Deframing.{Deframing}
use Rattle.port_queue.specs.Plain.{Plain, StandsFor}
use Rattle.framed_channel.specs.Channel as channel
use Rattle.framed_channel.specs.UnderWay as way
use Rattle.framed_channel.specs.UnderWay.{NothingIsLost}
use Rattle.framed_channel.specs.UnderWay.CanGoOn.{by_take as may_take, by_move as may_move, by_put as may_put, by_receipt as may_receive}
use Rattle.framed_channel.proofs.Way.{nothing_lost, can_go_on}
use Rattle.mesh_channel.specs.declared.carrier.Carrier.{Carrier}
use Rattle.mesh_channel.specs.declared.carrier.Carrier.TheVariants.{Direct, Framed}
use Rattle.mesh_channel.specs.Carrier.{Pushes, Refuses, Pops, Empties, MayTake, MayPut, Takes, Puts}
use Rattle.mesh_channel.specs.Laws.{CanGoOn, NeverStuck, HaveRoom, RefuseRightly}
use Rattle.mesh_channel.specs.Laws.CanGoOn.{by_take, by_move, by_put, by_receipt}

-- ---- some step is enabled

queue_goes : (q : Plain) (sent received held : List Msg) → StandsFor q sent received → sent ≢ received → q.held ≡ held → CanGoOn (Direct q)
queue_goes q sent received [] stands differs e = absurd (differs (sym stands.held_between ∙ ap (λ l. received ++ l) e ∙ append-nil received))
queue_goes q sent received (m ∷ more) stands differs e = by_receipt m (Direct (record q { held = more })) (ap (λ l. record q { held = l }) e)

received_next : (c : channel.Framed) (held : List Msg) → c.far.held ≡ held → 0 < length c.far.held → CanGoOn (Framed c)
received_next c [] e some = absurd (let none : length c.far.held ≡ 0 = ap length e in omega arith)
received_next c (m ∷ more) e some = by_receipt m (Framed (record c { far = record c.far { held = more } })) (record { popped = ap (λ l. record c.far { held = l }) e; is = refl })

channel_goes : (c : channel.Framed) → way.CanGoOn c → CanGoOn (Framed c)
channel_goes c (may_take some) = by_take some
channel_goes c (may_move some) = by_move some
channel_goes c (may_put some) = by_put some
channel_goes c (may_receive some) = received_next c c.far.held refl some

pub goes_on : NeverStuck
goes_on (Direct q) sent received x differs = queue_goes q sent received q.held x.stands differs refl
goes_on (Framed c) sent received x differs = channel_goes c (can_go_on c sent received x.carries differs)

-- ---- there is room where nothing is under way

none_more : (sent held : List Msg) → sent ++ held ≡ sent → held ≡ []
none_more sent held e = append_cancel_left sent held [] (e ∙ sym (append-nil sent))

none_near : (c : channel.Framed) (sent : List Msg) → NothingIsLost c sent sent → length c.near.held ≡ 0
none_near c sent lost =
    let far = c.far.held in
    let waiting = c.frames.place.waiting in
    let inside = lost.under_way.inside in
    let near = c.near.held in
    let none : length (far ++ (waiting ++ (inside ++ near))) ≡ 0 = ap length (sym lost.under_way.is ∙ none_more sent lost.held (sym lost.sent_is)) in
    let first : length (far ++ (waiting ++ (inside ++ near))) ≡ length far + length (waiting ++ (inside ++ near)) = length-append far (waiting ++ (inside ++ near)) in
    let second : length (waiting ++ (inside ++ near)) ≡ length waiting + length (inside ++ near) = length-append waiting (inside ++ near) in
    let third : length (inside ++ near) ≡ length inside + length near = length-append inside near in
    omega arith

pub has_room : HaveRoom
has_room (Direct q) sent m x =
    let none : length q.held ≡ 0 = ap length (none_more sent q.held x.stands.held_between) in
    let place : 1 ≤ q.slots = x.place in
    record { after = Direct (record q { held = q.held ++ m ∷ [] }); pushed = record { room = omega arith; is = refl } }
has_room (Framed c) sent m x =
    let none : length c.near.held ≡ 0 = none_near c sent (nothing_lost c sent sent x.carries) in
    let place : 1 ≤ c.near.slots = x.place in
    record { after = Framed (record c { near = record c.near { held = c.near.held ++ m ∷ [] } }); pushed = record { pushed = record { room = omega arith; is = refl }; is = refl } }

-- ---- what is refused leads nowhere

no_room : (held slots : ℕ) → held ≡ slots → held < slots → ⊥
no_room held slots full room = omega arith

none_first : (held : List Msg) (m : Msg) (more : List Msg) → held ≡ [] → held ≡ m ∷ more → ⊥
none_first held m more none some = (let long : length held ≡ length (m ∷ more) = ap length some in let short : length held ≡ 0 = ap length none in omega arith)

full : (a b c : Carrier) (m : Msg) → Refuses a b → Pushes a m c → ⊥
full (Direct a) (Direct b) (Direct c) m refuses pushes = no_room (length a.held) a.slots refuses.full pushes.room
full (Direct a) (Direct b) (Framed c) m refuses pushes = pushes
full (Direct a) (Framed b) c m refuses pushes = refuses
full (Framed a) (Direct b) c m refuses pushes = refuses
full (Framed a) (Framed b) (Direct c) m refuses pushes = pushes
full (Framed a) (Framed b) (Framed c) m refuses pushes = no_room (length a.near.held) a.near.slots refuses.full pushes.pushed.room

none : (a b c : Carrier) (m : Msg) → Empties a b → Pops a m c → ⊥
none (Direct a) (Direct b) (Direct c) m empties pops = none_first a.held m c.held empties.none (ap (λ (q : Plain). q.held) pops)
none (Direct a) (Direct b) (Framed c) m empties pops = pops
none (Direct a) (Framed b) c m empties pops = empties
none (Framed a) (Direct b) c m empties pops = empties
none (Framed a) (Framed b) (Direct c) m empties pops = pops
none (Framed a) (Framed b) (Framed c) m empties pops = none_first a.far.held m c.far.held empties.none (ap (λ (q : Plain). q.held) pops.popped)

full_keeps : (a b : Carrier) → Refuses a b → b ≡ a
full_keeps (Direct a) (Direct b) refuses = ap Direct refuses.unchanged
full_keeps (Direct a) (Framed b) refuses = absurd refuses
full_keeps (Framed a) (Direct b) refuses = absurd refuses
full_keeps (Framed a) (Framed b) refuses = ap Framed refuses.unchanged

none_keeps : (a b : Carrier) → Empties a b → b ≡ a
none_keeps (Direct a) (Direct b) empties = ap Direct empties.unchanged
none_keeps (Direct a) (Framed b) empties = absurd empties
none_keeps (Framed a) (Direct b) empties = absurd empties
none_keeps (Framed a) (Framed b) empties = ap Framed empties.unchanged

was_taken : (a b : Carrier) → Takes a b → MayTake a
was_taken (Direct a) b takes = takes
was_taken (Framed a) (Direct b) takes = absurd takes
was_taken (Framed a) (Framed b) takes = (let long : length a.near.held ≡ length (takes.message ∷ b.near.held) = ap (λ (q : Plain). length q.held) takes.popped in omega arith)

was_put : (a b : Carrier) → Puts a b → MayPut a
was_put (Direct a) b puts = puts
was_put (Framed a) (Direct b) puts = absurd puts
was_put (Framed a) (Framed b) puts = ((let long : length a.frames.place.waiting ≡ length (puts.message ∷ b.frames.place.waiting) = ap (λ (d : Deframing). length d.place.waiting) puts.next in omega arith), puts.pushed.room)

pub refuses_rightly : RefuseRightly
refuses_rightly a = record {
  full = full a;
  none = none a;
  full_keeps = full_keeps a;
  none_keeps = none_keeps a;
  take = was_taken a;
  put = was_put a;
}
