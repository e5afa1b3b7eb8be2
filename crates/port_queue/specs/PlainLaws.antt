-- The plain queue keeps the laws of both ends.
use Rattle.std.specs.Prelude.{◌≡◌, List, [], ◌∷◌, ◌++◌, length}
use Rattle.std.proofs.Common.{arith, inl, inr, ap, sym, ◌∙◌, subst, append_assoc}
use Rattle.sb_message.specs.declared.message.Msg.{Msg}
use Rattle.sb_message.specs.Stream.{IsStream}
use Rattle.port_queue.specs.Plain.{Plain, IsSent, StandsForSent, StandsForReceived, Pushes, Refuses, Pops, Empties}
use Rattle.port_queue.specs.Streams.{stream_so_far}

pub push_kind : (a b : Plain) (m : Msg) → Pushes a m b → b.kind ≡ a.kind
push_kind a b m pushes = ap (λ (q : Plain). q.kind) pushes.is

pub push_adds : (a b : Plain) (m : Msg) (sent : List Msg) → Pushes a m b → StandsForSent a sent → IsStream a.kind (sent ++ m ∷ []) → StandsForSent b (sent ++ m ∷ [])
push_adds a b m sent pushes stands stream = record {
  received = stands.received;
  both = record {
    held_between = ap (λ (q : Plain). stands.received ++ q.held) pushes.is ∙ sym (append_assoc stands.received a.held (m ∷ [])) ∙ ap (λ l. l ++ m ∷ []) stands.both.held_between;
    is_sent = inr (subst (λ kind. IsStream kind (sent ++ m ∷ [])) (sym (push_kind a b m pushes)) stream);
  };
}

pub refusal_keeps : (a b : Plain) (sent : List Msg) → Refuses a b → StandsForSent a sent → StandsForSent b sent
refusal_keeps a b sent refuses stands = subst (λ q. StandsForSent q sent) (sym refuses.unchanged) stands

pub refusal_kind : (a b : Plain) → Refuses a b → b.kind ≡ a.kind
refusal_kind a b refuses = ap (λ (q : Plain). q.kind) refuses.unchanged

pub pop_kind : (a b : Plain) (m : Msg) → Pops a m b → b.kind ≡ a.kind
pop_kind a b m pops = sym (ap (λ (q : Plain). q.kind) pops)

-- what was received, with the message and what is still held after it, is what was sent
after_pop : (a b : Plain) (m : Msg) (received sent : List Msg) → Pops a m b → received ++ a.held ≡ sent → (received ++ m ∷ []) ++ b.held ≡ sent
after_pop a b m received sent pops held = append_assoc received (m ∷ []) b.held ∙ sym (ap (λ (q : Plain). received ++ q.held) pops) ∙ held

pub pop_adds : (a b : Plain) (m : Msg) (received : List Msg) → Pops a m b → StandsForReceived a received → StandsForReceived b (received ++ m ∷ [])
pop_adds a b m received pops stands = record {
  sent = stands.sent;
  both = record {
    held_between = after_pop a b m received stands.sent pops stands.both.held_between;
    is_sent = subst (λ kind. IsSent kind stands.sent) (sym (pop_kind a b m pops)) stands.both.is_sent;
  };
}

-- a list with a message in it isn't empty
not_empty : (received : List Msg) (m : Msg) (more : List Msg) → (received ++ m ∷ []) ++ more ≡ [] → ⊥
not_empty [] m more e = absurd (let lengths : length (m ∷ more) ≡ 0 = ap length e in omega arith)
not_empty (x ∷ received) m more e = absurd (let lengths : length (x ∷ ((received ++ m ∷ []) ++ more)) ≡ 0 = ap length e in omega arith)

pub pop_streams : (a b : Plain) (m : Msg) (received : List Msg) → Pops a m b → StandsForReceived a received → IsStream a.kind (received ++ m ∷ [])
pop_streams a b m received pops stands = from stands.both.is_sent
  where
    whole : (received ++ m ∷ []) ++ b.held ≡ stands.sent
    whole = after_pop a b m received stands.sent pops stands.both.held_between

    from : IsSent a.kind stands.sent → IsStream a.kind (received ++ m ∷ [])
    from (inl none) = absurd (not_empty received m b.held (whole ∙ none))
    from (inr stream) = stream_so_far a.kind received m b.held (subst (IsStream a.kind) (sym whole) stream)

pub empty_keeps : (a b : Plain) (received : List Msg) → Empties a b → StandsForReceived a received → StandsForReceived b received
empty_keeps a b received empties stands = subst (λ q. StandsForReceived q received) (sym empties.unchanged) stands

pub empty_kind : (a b : Plain) → Empties a b → b.kind ≡ a.kind
empty_kind a b empties = ap (λ (q : Plain). q.kind) empties.unchanged
