-- Where the word of a slot is, and what it says.
use Rattle.std.specs.Prelude.{ℕ, ◌*◌, ◌/◌, ◌^◌, ◌<◌, ◌≤◌, true, List, slice_index}
use Rattle.sb_message.specs.Spelling.{word_of}
use Rattle.sb_message.specs.Types.{body_type}
use Rattle.sb_message.specs.declared.message.Msg.{Msg}

-- the words of a cache line
abbrev pub words_a_line : ℕ
words_a_line = 8

-- each place has a line of words: the first is its slot's, and no one uses the others
abbrev pub line_of : ℕ → ℕ
line_of place = place * words_a_line

abbrev pub place_of : ℕ → ℕ
place_of word = word / words_a_line

-- the word of the slot at this place
abbrev pub word_at : List ℕ → ℕ → ℕ
word_at words place = slice_index words (line_of place)

-- the word of a slot that holds this message for the consumer
abbrev pub word_for : Msg → ℕ
word_for message = word_of (body_type message.body) true

-- the owner's bit, the highest of the word, is set where the slot is the consumer's
abbrev pub IsConsumers : ℕ → Type 0
IsConsumers word = 2 ^ 63 ≤ word

abbrev pub IsProducers : ℕ → Type 0
IsProducers word = word < 2 ^ 63
