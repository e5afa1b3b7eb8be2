-- Each step of a carrier keeps what it carries.
use Rattle.std.proofs.Common.{inl, ◌≡◌, ℕ, ◌≤◌, List, [], ◌∷◌, ◌++◌, ap, sym, refl, subst, ◌∙◌}
use Rattle.sb_message.specs.declared.message.Msg.{Msg}
use Rattle.sb_message.specs.Stream.{IsStream}
use Rattle.cs_base.specs.declared.port_kind.Via.TheVariants.{Queue, Proxy}
use Rattle.port_queue.specs.Plain.{Plain}
use Rattle.framed_channel.specs.Channel as channel
use Rattle.framed_channel.specs.EndLaws.{push_stands, pop_stands, a_send_carries, a_receipt_carries}
use Rattle.framed_channel.specs.UnderWay.{NothingIsLost}
use Rattle.framed_channel.proofs.Kept.{begins, a_take_carries, a_move_carries, a_put_carries}
use Rattle.framed_channel.proofs.Way.{nothing_lost}
use Rattle.mesh_channel.specs.declared.carrier.Carrier.{Carrier}
use Rattle.mesh_channel.specs.declared.carrier.Carrier.TheVariants.{Direct, Framed}
use Rattle.mesh_channel.specs.Carrier.{kind_sent, unused_channel, Pushes, Pops, Takes, Moves, Puts}
use Rattle.mesh_channel.specs.EndLaws.{push_kind}
use Rattle.mesh_channel.specs.Standing.{Carries}
use Rattle.mesh_channel.specs.Laws.{BeginCarrying, GoOnCarrying, KeepKind, HaveEnds, ReceiveInOrder}
use Rattle.mesh_channel.proofs.Unused.{unread}

pub begin : BeginCarrying
begin Queue kind slots place = record { place = place; stands = record { held_between = refl; is_sent = inl refl } }
begin Proxy kind slots place = record {
  place = place;
  carries = begins kind slots (unused_channel kind slots) place (record { near = refl; pipe = refl; read_kind = refl; no_fault = refl; unread = unread kind; moved = refl; far = refl });
}

-- as many places
places : (n m : ℕ) → m ≡ n → 1 ≤ n → 1 ≤ m
places n m same place = subst (λ k. 1 ≤ k) (sym same) place

push_on : (a b : Carrier) (m : Msg) (sent received : List Msg) → Carries a sent received → IsStream (kind_sent a) (sent ++ m ∷ []) → Pushes a m b → Carries b (sent ++ m ∷ []) received
push_on (Direct a) (Direct b) m sent received x stream pushes = record { place = places a.slots b.slots (ap (λ (q : Plain). q.slots) pushes.is) x.place; stands = push_stands a b m sent received pushes stream x.stands }
push_on (Direct a) (Framed b) m sent received x stream pushes = absurd pushes
push_on (Framed a) (Direct b) m sent received x stream pushes = absurd pushes
push_on (Framed a) (Framed b) m sent received x stream pushes = record { place = places a.near.slots b.near.slots (ap (λ (q : Plain). q.slots) pushes.pushed.is) x.place; carries = a_send_carries a b m sent received pushes stream x.carries }

pop_on : (a b : Carrier) (m : Msg) (sent received : List Msg) → Carries a sent received → Pops a m b → Carries b sent (received ++ m ∷ [])
pop_on (Direct a) (Direct b) m sent received x pops = record { place = places a.slots b.slots (sym (ap (λ (q : Plain). q.slots) pops)) x.place; stands = pop_stands a b m sent received pops x.stands }
pop_on (Direct a) (Framed b) m sent received x pops = absurd pops
pop_on (Framed a) (Direct b) m sent received x pops = absurd pops
pop_on (Framed a) (Framed b) m sent received x pops = record { place = places a.near.slots b.near.slots (ap (λ (c : channel.Framed). c.near.slots) pops.is) x.place; carries = a_receipt_carries a b m sent received pops x.carries }

take_on : (a b : Carrier) (sent received : List Msg) → Carries a sent received → Takes a b → Carries b sent received
take_on (Direct a) b sent received x takes = absurd takes
take_on (Framed a) (Direct b) sent received x takes = absurd takes
take_on (Framed a) (Framed b) sent received x takes = record { place = places a.near.slots b.near.slots (sym (ap (λ (q : Plain). q.slots) takes.popped)) x.place; carries = a_take_carries a b sent received takes x.carries }

move_on : (a b : Carrier) (n : ℕ) (sent received : List Msg) → Carries a sent received → Moves n a b → Carries b sent received
move_on (Direct a) b n sent received x moves = absurd moves
move_on (Framed a) (Direct b) n sent received x moves = absurd moves
move_on (Framed a) (Framed b) n sent received x moves = record { place = places a.near.slots b.near.slots (ap (λ (c : channel.Framed). c.near.slots) moves.is) x.place; carries = a_move_carries a b n sent received moves x.carries }

put_on : (a b : Carrier) (sent received : List Msg) → Carries a sent received → Puts a b → Carries b sent received
put_on (Direct a) b sent received x puts = absurd puts
put_on (Framed a) (Direct b) sent received x puts = absurd puts
put_on (Framed a) (Framed b) sent received x puts = record { place = places a.near.slots b.near.slots (ap (λ (c : channel.Framed). c.near.slots) puts.is) x.place; carries = a_put_carries a b sent received puts x.carries }

pub go_on : GoOnCarrying
go_on a sent received x = record {
  push = λ b m stream pushes. push_on a b m sent received x stream pushes;
  pop = λ b m pops. pop_on a b m sent received x pops;
  take = λ b takes. take_on a b sent received x takes;
  move = λ b n moves. move_on a b n sent received x moves;
  put = λ b puts. put_on a b sent received x puts;
}

pop_same : (a b : Carrier) (m : Msg) → Pops a m b → kind_sent b ≡ kind_sent a
pop_same (Direct a) (Direct b) m pops = sym (ap (λ (q : Plain). q.kind) pops)
pop_same (Direct a) (Framed b) m pops = absurd pops
pop_same (Framed a) (Direct b) m pops = absurd pops
pop_same (Framed a) (Framed b) m pops = ap (λ (c : channel.Framed). c.near.kind) pops.is

take_same : (a b : Carrier) → Takes a b → kind_sent b ≡ kind_sent a
take_same (Direct a) b takes = absurd takes
take_same (Framed a) (Direct b) takes = absurd takes
take_same (Framed a) (Framed b) takes = sym (ap (λ (q : Plain). q.kind) takes.popped)

move_same : (a b : Carrier) (n : ℕ) → Moves n a b → kind_sent b ≡ kind_sent a
move_same (Direct a) b n moves = absurd moves
move_same (Framed a) (Direct b) n moves = absurd moves
move_same (Framed a) (Framed b) n moves = ap (λ (c : channel.Framed). c.near.kind) moves.is

put_same : (a b : Carrier) → Puts a b → kind_sent b ≡ kind_sent a
put_same (Direct a) b puts = absurd puts
put_same (Framed a) (Direct b) puts = absurd puts
put_same (Framed a) (Framed b) puts = ap (λ (c : channel.Framed). c.near.kind) puts.is

pub keep_kind : KeepKind
keep_kind a = record {
  push = λ b m pushes. push_kind a b m pushes;
  pop = λ b m pops. pop_same a b m pops;
  take = λ b takes. take_same a b takes;
  move = λ b n moves. move_same a b n moves;
  put = λ b puts. put_same a b puts;
}

pub ends : HaveEnds
ends (Direct q) sent received x = record { one_kind = refl; sends = record { received = received; both = x.stands }; receives = record { sent = sent; both = x.stands } }
ends (Framed c) sent received x = record { one_kind = x.carries.sound.far_kind; sends = record { received = received; both = x.carries }; receives = record { sent = sent; both = x.carries } }

pub in_order : ReceiveInOrder
in_order (Direct a) (Direct b) m sent received x pops = record { rest = b.held; parts = sym x.stands.held_between ∙ ap (λ (q : Plain). received ++ q.held) pops }
in_order (Direct a) (Framed b) m sent received x pops = absurd pops
in_order (Framed a) (Direct b) m sent received x pops = absurd pops
in_order (Framed a) (Framed b) m sent received x pops =
    let lost : NothingIsLost a sent received = nothing_lost a sent received x.carries in
    let behind : List Msg = a.frames.place.waiting ++ (lost.under_way.inside ++ a.near.held) in
    record { rest = b.far.held ++ behind; parts = lost.sent_is ∙ ap (λ l. received ++ l) (lost.under_way.is ∙ ap (λ (q : Plain). q.held ++ behind) pops.popped) }
