-- The steps of a turn, for a seat that is known up to an equation.
use Rattle.std.proofs.Common.{◌≡◌, ℕ, ◌+◌, ◌%◌, ◌<◌, List, [], ◌∷◌, ◌++◌, length, ap, sym, ◌∙◌, subst, arith, length-append}
use Rattle.std.proofs.Math.Nat.{mod-add-mod}
use Rattle.std.specs.Prelude.{true, false, Some, None, option_to_list}
use mathlib.Core.Option.{none}
use Rattle.atomic_table.specs.Table.{step, Allows, rest}
use Rattle.cs_base.specs.declared.port_kind.PortKind.{PortKind}
use Rattle.sb_message.specs.declared.message.Msg.{Msg}
use Rattle.sb_message.specs.Spelling.{word_of}
use Rattle.sb_message.specs.Stream.{IsStream}
use Rattle.slot_queue.specs.declared.view.Plan.{Plan}
use Rattle.slot_queue.specs.Words.{line_of, place_of, word_for, IsProducers}
use Rattle.slot_queue.specs.Rule.{Stands}
use Rattle.slot_queue.specs.Views.{producing, consuming}
use Rattle.slot_queue.specs.Plays.{Seated, LooksForRoom, Sends, LooksForMessage, Finds, Receives, held}
use Rattle.slot_queue.proofs.Steps.{taken_at, looks_for_room, sends_message, looks_for_message, receives_message}

-- what a step of the seat `me` owes
abbrev pub Owes : Plan → ℕ → ℕ → Seated → ℕ → (ℕ → ℕ) → (ℕ → Seated → Type 0) → Type 0
Owes plan slots id me i f then = Allows (Stands plan) slots id me i f then

pub room_as : (plan : Plan) (slots id : ℕ) (kind : PortKind) (sent : List Msg) (misses i : ℕ) (me : Seated) → me ≡ (producing kind sent false misses, []) → i ≡ length sent % slots
    → Owes plan slots id me (line_of i) (λ n. n) (LooksForRoom (step slots (line_of i) 0 0 none) me)
room_as plan slots id kind sent misses i me is place = subst (λ m. Owes plan slots id m (line_of i) (λ n. n) (LooksForRoom (step slots (line_of i) 0 0 none) m)) (sym is) (looks_for_room plan slots id kind sent misses i place)

pub sends_as : (plan : Plan) (slots id : ℕ) (kind : PortKind) (sent : List Msg) (misses i : ℕ) (m : Msg) (me : Seated) (word : ℕ) → me ≡ (producing kind sent true misses, (i, Some m) ∷ []) → word ≡ word_for m → i ≡ length sent % slots
    → IsStream kind (sent ++ m ∷ []) → Owes plan slots id me (line_of i) (λ _. word) (λ _. Sends (step slots (line_of i) word 0 none) me word)
sends_as plan slots id kind sent misses i m me word is word_is place stream =
    subst (λ x. Owes plan slots id x (line_of i) (λ _. word) (λ _. Sends (step slots (line_of i) word 0 none) x word)) (sym is)
    (subst (λ w. Owes plan slots id (producing kind sent true misses, (i, Some m) ∷ []) (line_of i) (λ _. w) (λ _. Sends (step slots (line_of i) w 0 none) (producing kind sent true misses, (i, Some m) ∷ []) w)) (sym word_is)
    (sends_message plan slots id kind sent misses i m place stream))

pub message_as : (plan : Plan) (slots id : ℕ) (kind : PortKind) (received : List Msg) (misses i : ℕ) (me : Seated) → me ≡ (consuming kind received None misses, []) → i ≡ length received % slots
    → Owes plan slots id me (line_of i) (λ n. n) (LooksForMessage (step slots (line_of i) 0 0 none) me)
message_as plan slots id kind received misses i me is place = subst (λ m. Owes plan slots id m (line_of i) (λ n. n) (LooksForMessage (step slots (line_of i) 0 0 none) m)) (sym is) (looks_for_message plan slots id kind received misses i place)

pub receives_as : (plan : Plan) (slots id : ℕ) (kind : PortKind) (received : List Msg) (misses i : ℕ) (m : Msg) (me : Seated) (word : ℕ) → me ≡ (consuming kind received (Some m) misses, (i, None) ∷ []) → i ≡ length received % slots
    → IsProducers word → Owes plan slots id me (line_of i) (λ _. word) (λ _. Receives (step slots (line_of i) word 0 none) me word)
receives_as plan slots id kind received misses i m me word is place producers =
    subst (λ x. Owes plan slots id x (line_of i) (λ _. word) (λ _. Receives (step slots (line_of i) word 0 none) x word)) (sym is)
    (receives_message plan slots id kind received misses i m word place producers)

-- the producer's word of any message
pub producers_word : (type word : ℕ) → type < 128 → word ≡ word_of type false → IsProducers word
producers_word type word small is = omega arith

-- the place of the message after one more
pub next_place : (list : List Msg) (m : Msg) (place next slots count : ℕ) → place ≡ length list % slots → slots ≡ count → next ≡ (place + 1) % count → next ≡ length (list ++ m ∷ []) % slots
next_place list m place next slots count is same after = after ∙ ap (λ k. (place + 1) % k) (sym same) ∙ ap (λ k. (k + 1) % slots) is ∙ mod-add-mod (length list) slots 1 ∙ ap (λ k. k % slots) (sym (length-append list (m ∷ [])))

-- the producer's seat from step to step
pub push_opened : (me new : Seated) (kind : PortKind) (sent : List Msg) (misses slots i found : ℕ) → me ≡ (producing kind sent false misses, []) → LooksForRoom (step slots (line_of i) 0 0 none) me found new → IsProducers found
    → new ≡ (producing kind sent true misses, (i, None) ∷ [])
push_opened me new kind sent misses slots i found is looks free = looks.free free ∙ ap (λ (x : Seated). (record x.0 { filling = true }, (place_of (line_of i), None) ∷ x.1)) is ∙ sym (taken_at (producing kind sent true misses) i None)

pub push_filled : (me new : Seated) (kind : PortKind) (sent : List Msg) (misses i : ℕ) (m : Msg) → me ≡ (producing kind sent true misses, (i, None) ∷ []) → new ≡ (me.0, (i, Some m) ∷ rest me.1)
    → new ≡ (producing kind sent true misses, (i, Some m) ∷ [])
push_filled me new kind sent misses i m is exchanged = exchanged ∙ ap (λ (x : Seated). (x.0, (i, Some m) ∷ rest x.1)) is

pub push_closed : (me new : Seated) (kind : PortKind) (sent : List Msg) (misses slots i word : ℕ) (m : Msg) → me ≡ (producing kind sent true misses, (i, Some m) ∷ []) → Sends (step slots (line_of i) word 0 none) me word new
    → new ≡ (producing kind (sent ++ m ∷ []) false misses, [])
push_closed me new kind sent misses slots i word m is sent_it = sent_it ∙ ap (λ (x : Seated). (record x.0 { sent = x.0.sent ++ held x.1; filling = false }, rest x.1)) is

pub producer_rests : (me : Seated) (kind : PortKind) (sent : List Msg) (misses : ℕ) → me ≡ (producing kind sent false misses, []) → me ≡ (producing me.0.kind me.0.sent false me.0.misses, [])
producer_rests me kind sent misses is = is ∙ ap (λ (x : Seated). (producing x.0.kind x.0.sent false x.0.misses, [])) (sym is)

-- the consumer's
pub pop_opened : (me new : Seated) (kind : PortKind) (received : List Msg) (misses slots i : ℕ) → me ≡ (consuming kind received None misses, []) → (finds : Finds (step slots (line_of i) 0 0 none) me new)
    → new ≡ (consuming kind received (Some finds.message) misses, (i, Some finds.message) ∷ [])
pop_opened me new kind received misses slots i is finds = finds.seat ∙ ap (λ (x : Seated). (record x.0 { noted = Some finds.message }, (place_of (line_of i), Some finds.message) ∷ x.1)) is ∙ sym (taken_at (consuming kind received (Some finds.message) misses) i (Some finds.message))

pub pop_holds : (me : Seated) (kind : PortKind) (received : List Msg) (misses i : ℕ) (m : Msg) → me ≡ (consuming kind received (Some m) misses, (i, Some m) ∷ []) → me.1 ≡ (i, Some m) ∷ rest me.1
pop_holds me kind received misses i m is = ap (λ (x : Seated). x.1) is ∙ ap (λ (x : Seated). (i, Some m) ∷ rest x.1) (sym is)

pub pop_emptied : (me new : Seated) (kind : PortKind) (received : List Msg) (misses i : ℕ) (m : Msg) → me ≡ (consuming kind received (Some m) misses, (i, Some m) ∷ []) → new ≡ (me.0, (i, None) ∷ rest me.1)
    → new ≡ (consuming kind received (Some m) misses, (i, None) ∷ [])
pop_emptied me new kind received misses i m is exchanged = exchanged ∙ ap (λ (x : Seated). (x.0, (i, None) ∷ rest x.1)) is

pub pop_closed : (me new : Seated) (kind : PortKind) (received : List Msg) (misses slots i word : ℕ) (m : Msg) → me ≡ (consuming kind received (Some m) misses, (i, None) ∷ []) → Receives (step slots (line_of i) word 0 none) me word new
    → new ≡ (consuming kind (received ++ m ∷ []) None misses, [])
pop_closed me new kind received misses slots i word m is received_it = received_it ∙ ap (λ (x : Seated). (record x.0 { received = x.0.received ++ option_to_list x.0.noted; noted = None }, rest x.1)) is

pub consumer_rests : (me : Seated) (kind : PortKind) (received : List Msg) (misses : ℕ) → me ≡ (consuming kind received None misses, []) → me ≡ (consuming me.0.kind me.0.received None me.0.misses, [])
consumer_rests me kind received misses is = is ∙ ap (λ (x : Seated). (consuming x.0.kind x.0.received None x.0.misses, [])) (sym is)
