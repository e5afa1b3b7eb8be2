-- What holds of a queue between any two steps of its two sides.
use Rattle.std.specs.Prelude.{ℕ, ◌≡◌, ◌≢◌, ◌+◌, ◌*◌, ◌%◌, ◌<◌, ◌≤◌, ◌⊎◌, Bool, true, false, List, [], length, Option, Some, None}
use mathlib.Core.Option as maybe
use mathlib.Core.Option.{some}
use mathlib.Core.List.{IsPrefix}
use lib.ListN.{get_elem?}
use Rattle.atomic_table.specs.Table.{State}
use Rattle.cs_base.specs.declared.port_kind.PortKind.{PortKind}
use Rattle.sb_message.specs.declared.message.Msg.{Msg}
use Rattle.sb_message.specs.Stream.{IsStream}
use Rattle.slot_queue.specs.declared.view.View.{View}
use Rattle.slot_queue.specs.declared.view.Plan.{Plan}
use Rattle.slot_queue.specs.Words.{words_a_line, word_at, word_for, IsProducers}

-- what the two sides have done: message n of `sent` goes through place n modulo the number of slots
pub record Lists : Type 0 where
  pub sent : List Msg
  pub received : List Msg
  -- the producer's turn is open
  pub filling : Bool
  -- the message that the consumer has found, while its turn is open
  pub noted : Option Msg

-- no message that was sent and not received is at this place
abbrev pub IsVacant : ℕ → Lists → ℕ → Type 0
IsVacant slots lists place = (n : ℕ) → length lists.received ≤ n → n < length lists.sent → place ≢ n % slots

-- the message was sent as number n, and wasn't received yet
abbrev pub IsUnderWay : Lists → ℕ → Msg → Type 0
IsUnderWay lists n m = (length lists.received ≤ n) × (get_elem? lists.sent n ≡ some m)

-- the words, the slots that are at home, and the two lists
pub record OwnerWords (kind : PortKind) (slots : ℕ) (words : List ℕ) (homes : List (maybe.Option (Option Msg))) (lists : Lists) : Type 0 where
  pub some_place : 0 < slots
  pub line_each : length words ≡ slots * words_a_line
  pub slot_each : length homes ≡ slots
  -- what was received is the first part of what was sent, and at most as much as there are slots is under way
  pub in_order : IsPrefix lists.received lists.sent
  pub within : length lists.sent ≤ length lists.received + slots
  -- the word of each message under way has its type and is the consumer's; every other word is the producer's
  pub words_between : (n : ℕ) (m : Msg) → IsUnderWay lists n m → word_at words (n % slots) ≡ word_for m
  pub words_other : (place : ℕ) → place < slots → IsVacant slots lists place → IsProducers (word_at words place)
  -- the slot of each message under way holds it, but that of the message in the consumer's hands
  pub slots_between : (n : ℕ) (m : Msg) → IsUnderWay lists n m → (n ≡ length lists.received → lists.noted ≡ None) → get_elem? homes (n % slots) ≡ some (some (Some m))
  -- every other slot is empty, but that in the producer's hands
  pub slots_other : (place : ℕ) → place < slots → IsVacant slots lists place → (place ≡ length lists.sent % slots → lists.filling ≡ false) → get_elem? homes place ≡ some (some None)
  -- an open turn of the producer means that there is room
  pub push_turn : lists.filling ≡ true → length lists.sent < length lists.received + slots
  -- an open turn of the consumer means that the message found is the next one
  pub pop_turn : (m : Msg) → lists.noted ≡ Some m → get_elem? lists.sent (length lists.received) ≡ some m
  pub stream : (lists.sent ≡ []) ⊎ IsStream kind lists.sent

-- what a seat's view says is so: that of the producer's seat about the list sent, that of the consumer's about the list received
pub record Fits (kind : PortKind) (producer consumer : ℕ) (lists : Lists) (seat : ℕ) (view : View) : Type 0 where
  pub sender : view.sends ≡ true → (seat ≡ producer) × (view.sent ≡ lists.sent) × (view.filling ≡ lists.filling) × (view.kind ≡ kind)
  pub receiver : view.takes ≡ true → (seat ≡ consumer) × (view.received ≡ lists.received) × (view.noted ≡ lists.noted) × (view.kind ≡ kind)

-- one seat has each of the two roles, and the same one may have both
pub record Stands (plan : Plan) (state : State (Option Msg) View) : Type 0 where
  pub lists : Lists
  pub producer : ℕ
  pub consumer : ℕ
  pub queue : OwnerWords plan.kind plan.slots state.words state.homes lists
  pub seats : (seat : ℕ) (view : View) → get_elem? state.views seat ≡ some view → Fits plan.kind producer consumer lists seat view
