-- What each step on a word does to the view of the seat that makes it.
use Rattle.std.specs.Prelude.{ℕ, ◌≡◌, true, false, List, [], ◌∷◌, ◌++◌, Option, Some, None, option_to_list}
use Rattle.atomic_table.specs.Table.{Me, Step, rest}
use Rattle.sb_message.specs.declared.message.Msg.{Msg}
use Rattle.sb_message.specs.Stream.{IsStream}
use Rattle.slot_queue.specs.declared.view.View.{View}
use Rattle.slot_queue.specs.Words.{place_of, IsConsumers, IsProducers}
use Rattle.slot_queue.specs.Ends.{IsFull}
use Rattle.slot_queue.specs.Views.{missed}

-- a seat with its view and the slots that it holds
abbrev pub Seated : Type 0
Seated = Me (Option Msg) View

-- the message in the slot that was taken last
abbrev pub held : List (ℕ × Option Msg) → List Msg
held [] = []
held (slot ∷ slots) = option_to_list slot.1

-- the producer loads the word of its next slot: it is the consumer's, and the producer has missed, or it is the producer's, and the producer's turn is open and it holds the slot
pub record LooksForRoom (step : Step (Option Msg)) (before : Seated) (found : ℕ) (after : Seated) : Type 0 where
  pub taken : IsConsumers found → (after ≡ (missed before.0, before.1)) × IsFull step.slots before.0.sent
  pub free : IsProducers found → after ≡ (record before.0 { filling = true }, (place_of step.word, None) ∷ before.1)

-- the producer stores the word: the message in the slot that it held is sent
abbrev pub Sends : Step (Option Msg) → Seated → ℕ → Seated → Type 0
Sends step before stored after = after ≡ (record before.0 { sent = before.0.sent ++ held before.1; filling = false }, rest before.1)

-- the consumer has found the message, holds its slot, and its turn is open
pub record Finds (step : Step (Option Msg)) (before : Seated) (after : Seated) : Type 0 where
  pub message : Msg
  pub seat : after ≡ (record before.0 { noted = Some message }, (place_of step.word, Some message) ∷ before.1)
  pub stream : IsStream before.0.kind (before.0.received ++ message ∷ [])

-- the consumer loads the word of its next slot: it is the producer's, and the consumer has missed, or it is the consumer's, and a message is found
pub record LooksForMessage (step : Step (Option Msg)) (before : Seated) (found : ℕ) (after : Seated) : Type 0 where
  pub none : IsProducers found → after ≡ (missed before.0, before.1)
  pub some : IsConsumers found → Finds step before after

-- the consumer stores the word: the message that it found is received
abbrev pub Receives : Step (Option Msg) → Seated → ℕ → Seated → Type 0
Receives step before stored after = after ≡ (record before.0 { received = before.0.received ++ option_to_list before.0.noted; noted = None }, rest before.1)
