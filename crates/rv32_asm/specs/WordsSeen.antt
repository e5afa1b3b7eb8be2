-- The words of a statement as a list.
use Rattle.std.specs.Prelude.{ℕ, List, [], ◌∷◌, Option}
use Rattle.std.specs.Int.{to_le_bytes, w32}
use Rattle.std.specs.List.{flat_map}
use Rattle.std.specs.Option.{option_map_or}
use Rattle.rv32_asm.specs.declared.words.Words.{Words}
use Rattle.rv32_asm.specs.declared.words.Words.TheVariants.{Zero, One, Two}

abbrev pub seen : Words → List (Option ℕ)
seen Zero = []
seen (One word) = word ∷ []
seen (Two first second) = first ∷ second ∷ []

-- a word that may be there, its low byte first
abbrev pub word_bytes : Option ℕ → List ℕ
word_bytes word = option_map_or (to_le_bytes w32) word []

abbrev pub bytes_of_words : List (Option ℕ) → List ℕ
bytes_of_words words = flat_map word_bytes words
