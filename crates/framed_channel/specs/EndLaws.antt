-- A channel over a byte stream keeps the laws of both ends.
use Rattle.std.specs.Prelude.{◌≡◌, ◌≤◌, List, [], ◌∷◌, ◌++◌}
use Rattle.std.proofs.Common.{inr, ap, sym, subst, append_assoc, ◌∙◌}
use Rattle.sb_message.specs.declared.message.Msg.{Msg}
use Rattle.sb_message.specs.Stream.{IsStream}
use Rattle.port_queue.specs.Plain.{Plain, IsSent, StandsFor, Pushes, Pops}
use Rattle.sb_frame.specs.Frames.{AreFrames}
use Rattle.port_queue.specs.PlainLaws as plain
use Rattle.framed_channel.specs.Channel.{Framed}
use Rattle.framed_channel.specs.Steps.{Sends, Refuses, Gives, Empties}
use Rattle.framed_channel.specs.Standing.{CarriesFor, CarriesSent, CarriesReceived}

-- a plain queue stands for one message more that was sent, and for one more that was received
pub push_stands : (a b : Plain) (m : Msg) (sent received : List Msg) → Pushes a m b → IsStream a.kind (sent ++ m ∷ []) → StandsFor a sent received → StandsFor b (sent ++ m ∷ []) received
push_stands a b m sent received pushes stream s = record {
  held_between = ap (λ (q : Plain). received ++ q.held) pushes.is ∙ sym (append_assoc received a.held (m ∷ [])) ∙ ap (λ l. l ++ m ∷ []) s.held_between;
  is_sent = inr (subst (λ kind. IsStream kind (sent ++ m ∷ [])) (sym (plain.push_kind a b m pushes)) stream);
}

pub pop_stands : (a b : Plain) (m : Msg) (sent received : List Msg) → Pops a m b → StandsFor a sent received → StandsFor b sent (received ++ m ∷ [])
pop_stands a b m sent received pops s = record {
  held_between = append_assoc received (m ∷ []) b.held ∙ sym (ap (λ (q : Plain). received ++ q.held) pops) ∙ s.held_between;
  is_sent = subst (λ kind. IsSent kind sent) (sym (plain.pop_kind a b m pops)) s.is_sent;
}

sent_on : (a : Framed) (near : Plain) (m : Msg) (sent received : List Msg) → Pushes a.near m near → IsStream a.near.kind (sent ++ m ∷ []) → CarriesFor a sent received → CarriesFor (record a { near = near }) (sent ++ m ∷ []) received
sent_on a near m sent received pushes stream c =
    let kind = plain.push_kind a.near near m pushes in
    record {
      sound = record { no_fault = c.sound.no_fault; read_kind = c.sound.read_kind ∙ sym kind; far_kind = c.sound.far_kind ∙ sym kind; place = c.sound.place };
      taken = c.taken;
      near = push_stands a.near near m sent c.taken pushes stream c.near;
      stream = c.stream;
      frames = subst (λ k. AreFrames k c.taken (c.stream ++ a.pipe)) (sym kind) c.frames;
      counted = c.counted;
      put = c.put;
      read = c.read;
      far = c.far;
    }

pub a_send_carries : (a b : Framed) (m : Msg) (sent received : List Msg) → Sends a m b → IsStream a.near.kind (sent ++ m ∷ []) → CarriesFor a sent received → CarriesFor b (sent ++ m ∷ []) received
a_send_carries a b m sent received sends stream c = subst (λ d. CarriesFor d (sent ++ m ∷ []) received) (sym sends.is) (sent_on a b.near m sent received sends.pushed stream c)

given_on : (a : Framed) (far : Plain) (m : Msg) (sent received : List Msg) → Pops a.far m far → CarriesFor a sent received → CarriesFor (record a { far = far }) sent (received ++ m ∷ [])
given_on a far m sent received pops c =
    let kind = plain.pop_kind a.far far m pops in
    let slots = sym (ap (λ (q : Plain). q.slots) pops) in
    record {
      sound = record { no_fault = c.sound.no_fault; read_kind = c.sound.read_kind; far_kind = kind ∙ c.sound.far_kind; place = subst (λ n. 1 ≤ n) (sym slots) c.sound.place };
      taken = c.taken;
      near = c.near;
      stream = c.stream;
      frames = c.frames;
      counted = c.counted;
      put = c.put;
      read = c.read;
      far = pop_stands a.far far m c.put received pops c.far;
    }

pub a_receipt_carries : (a b : Framed) (m : Msg) (sent received : List Msg) → Gives a m b → CarriesFor a sent received → CarriesFor b sent (received ++ m ∷ [])
a_receipt_carries a b m sent received gives c = subst (λ d. CarriesFor d sent (received ++ m ∷ [])) (sym gives.is) (given_on a b.far m sent received gives.popped c)

-- ---- the sending end

pub push_adds : (a b : Framed) (m : Msg) (sent : List Msg) → Sends a m b → CarriesSent a sent → IsStream a.near.kind (sent ++ m ∷ []) → CarriesSent b (sent ++ m ∷ [])
push_adds a b m sent sends c stream = record { received = c.received; both = a_send_carries a b m sent c.received sends stream c.both }

pub push_kind : (a b : Framed) (m : Msg) → Sends a m b → b.near.kind ≡ a.near.kind
push_kind a b m sends = plain.push_kind a.near b.near m sends.pushed

pub refusal_keeps : (a b : Framed) (sent : List Msg) → Refuses a b → CarriesSent a sent → CarriesSent b sent
refusal_keeps a b sent refuses c = subst (λ d. CarriesSent d sent) (sym refuses.unchanged) c

pub refusal_kind : (a b : Framed) → Refuses a b → b.near.kind ≡ a.near.kind
refusal_kind a b refuses = ap (λ (d : Framed). d.near.kind) refuses.unchanged

-- ---- the receiving end

pub pop_adds : (a b : Framed) (m : Msg) (received : List Msg) → Gives a m b → CarriesReceived a received → CarriesReceived b (received ++ m ∷ [])
pop_adds a b m received gives c = record { sent = c.sent; both = a_receipt_carries a b m c.sent received gives c.both }

pub pop_streams : (a b : Framed) (m : Msg) (received : List Msg) → Gives a m b → CarriesReceived a received → IsStream a.far.kind (received ++ m ∷ [])
pop_streams a b m received gives c = plain.pop_streams a.far b.far m received gives.popped (record { sent = c.both.put; both = c.both.far })

pub pop_kind : (a b : Framed) (m : Msg) → Gives a m b → b.far.kind ≡ a.far.kind
pop_kind a b m gives = plain.pop_kind a.far b.far m gives.popped

pub empty_keeps : (a b : Framed) (received : List Msg) → Empties a b → CarriesReceived a received → CarriesReceived b received
empty_keeps a b received empties c = subst (λ d. CarriesReceived d received) (sym empties.unchanged) c

pub empty_kind : (a b : Framed) → Empties a b → b.far.kind ≡ a.far.kind
empty_kind a b empties = ap (λ (d : Framed). d.far.kind) empties.unchanged
