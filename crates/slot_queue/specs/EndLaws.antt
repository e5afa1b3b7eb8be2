-- The two ends of a queue keep the laws of ports.
use Rattle.std.specs.Prelude.{◌≡◌, List, [], ◌∷◌, ◌++◌}
use Rattle.std.proofs.Common.{ap, ◌∙◌, subst}
use Rattle.sb_message.specs.declared.message.Msg.{Msg}
use Rattle.sb_message.specs.Stream.{IsStream}
use Rattle.slot_queue.specs.Ends.{Sender, Receiver, Pushed, Refused, Popped, Emptied}

pub push_adds : (a b : Sender) (m : Msg) (sent : List Msg) → Pushed a m b → a.sent ≡ sent → b.sent ≡ sent ++ m ∷ []
push_adds a b m sent pushed is = ap (λ (s : Sender). s.sent) pushed ∙ ap (λ l. l ++ m ∷ []) is

pub push_kind : (a b : Sender) (m : Msg) → Pushed a m b → b.kind ≡ a.kind
push_kind a b m pushed = ap (λ (s : Sender). s.kind) pushed

pub refusal_keeps : (a b : Sender) (sent : List Msg) → Refused a b → a.sent ≡ sent → b.sent ≡ sent
refusal_keeps a b sent refused is = ap (λ (s : Sender). s.sent) refused.after ∙ is

pub refusal_kind : (a b : Sender) → Refused a b → b.kind ≡ a.kind
refusal_kind a b refused = ap (λ (s : Sender). s.kind) refused.after

pub pop_adds : (a b : Receiver) (m : Msg) (received : List Msg) → Popped a m b → a.received ≡ received → b.received ≡ received ++ m ∷ []
pop_adds a b m received popped is = ap (λ (r : Receiver). r.received) popped.after ∙ ap (λ l. l ++ m ∷ []) is

pub pop_streams : (a b : Receiver) (m : Msg) (received : List Msg) → Popped a m b → a.received ≡ received → IsStream a.kind (received ++ m ∷ [])
pop_streams a b m received popped is = subst (λ l. IsStream a.kind (l ++ m ∷ [])) is popped.stream

pub pop_kind : (a b : Receiver) (m : Msg) → Popped a m b → b.kind ≡ a.kind
pop_kind a b m popped = ap (λ (r : Receiver). r.kind) popped.after

pub empty_keeps : (a b : Receiver) (received : List Msg) → Emptied a b → a.received ≡ received → b.received ≡ received
empty_keeps a b received emptied is = ap (λ (r : Receiver). r.received) emptied ∙ is

pub empty_kind : (a b : Receiver) → Emptied a b → b.kind ≡ a.kind
empty_kind a b emptied = ap (λ (r : Receiver). r.kind) emptied
