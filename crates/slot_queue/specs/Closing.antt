-- What is left of a queue when it is closed.
use Rattle.std.specs.Prelude.{ℕ, ◌≡◌, ◌+◌, ◌%◌, ◌<◌, ◌≤◌, List, [], ◌∷◌, length, Option, Some, None}
use mathlib.Core.Option.{some}
use lib.ListN.{get_elem?}
use Rattle.sb_message.specs.declared.message.Msg.{Msg}
use Rattle.slot_queue.specs.declared.view.View.{View}

-- the messages that were sent and not received, for how many more there is room, and all that was sent and received
pub record Remains : Type 0 where
  pub messages : List Msg
  pub spare : ℕ
  pub sent : List Msg
  pub received : List Msg

-- the lists that a view keeps, or none where there is no view
abbrev pub sent_by : List View → List Msg
sent_by [] = []
sent_by (view ∷ views) = view.sent

abbrev pub received_by : List View → List Msg
received_by [] = []
received_by (view ∷ views) = view.received

-- from the place `first` on, round the end, the slots hold these messages, one each, and the others are empty
pub record Holds (first slots : ℕ) (items : List (Option Msg)) (waiting : List Msg) : Type 0 where
  pub slot_each : length items ≡ slots
  pub within : length waiting ≤ slots
  pub full : (k : ℕ) (m : Msg) → get_elem? waiting k ≡ some m → get_elem? items ((first + k) % slots) ≡ some (Some m)
  pub empty : (k : ℕ) → length waiting ≤ k → k < slots → get_elem? items ((first + k) % slots) ≡ some None

-- the messages are those that the slots hold, in order
abbrev pub AreHeld : ℕ → ℕ → List (Option Msg) → List Msg → Type 0
AreHeld first slots items messages = (waiting : List Msg) → Holds first slots items waiting → messages ≡ waiting
