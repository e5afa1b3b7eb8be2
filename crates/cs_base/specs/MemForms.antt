-- Files and sinks in memory, as contracts see them, and what a call on them does.
use Rattle.std.specs.Prelude.{ℕ, ◌==◌, Bool, List, [], ◌∷◌, ◌++◌, take, length, min, Option, Some, None, find, option_map, if◌then◌else◌}
use Rattle.std.specs.List.{list_any}
use Rattle.std.specs.Str.{bytes_eq}
use Rattle.cs_base.specs.declared.mem_files.MemFile.{MemFile}
use Rattle.cs_base.specs.Outside.{FilesSeen, SinkSeen, one_more}

-- a number is among others
abbrev pub is_among : List ℕ → ℕ → Bool
is_among numbers number = list_any (λ other. other == number) numbers

-- the first file of a name
abbrev pub file_of : List MemFile → List ℕ → Option MemFile
file_of files name = find (λ file. bytes_eq file.name name) files

-- what the first file of a name holds
abbrev pub content_of : List MemFile → List ℕ → Option (List ℕ)
content_of files name = option_map (λ file. file.content) (file_of files name)

-- files in memory: what they hold, which reads fail (by their numbers, from 0), how many reads there were,
-- the names asked for, and the count of faults
pub record FilesInMemory : Type 0 where
  pub files : List MemFile
  pub failing : List ℕ
  pub reads : ℕ
  pub asked : List (List ℕ)
  pub faults : ℕ

abbrev pub files_seen : FilesInMemory → FilesSeen
files_seen f = record { held = content_of f.files; asked = Some f.asked; faults = f.faults }

-- what the next read of a name gives: None where its number is to fail, or there is no such file
abbrev pub read_gives : FilesInMemory → List ℕ → Option (List ℕ)
read_gives f name = if is_among f.failing f.reads then None else content_of f.files name

-- the files before any read
abbrev pub unread : List MemFile → List ℕ → FilesInMemory
unread files failing = record { files = files; failing = failing; reads = 0; asked = []; faults = 0 }

-- the files after a read of that name, and after one that failed
abbrev pub after_read : FilesInMemory → List ℕ → FilesInMemory
after_read f name = record f { reads = one_more f.reads; asked = f.asked ++ name ∷ [] }

abbrev pub after_failed_read : FilesInMemory → List ℕ → FilesInMemory
after_failed_read f name = record (after_read f name) { faults = one_more f.faults }

-- a sink in memory: what was written, how many bytes a write takes at most, which writes fail (by their
-- numbers, from 0), how many writes there were, and the count of faults
pub record SinkInMemory : Type 0 where
  pub written : List ℕ
  pub most : ℕ
  pub failing : List ℕ
  pub writes : ℕ
  pub faults : ℕ

abbrev pub sink_seen : SinkInMemory → SinkSeen
sink_seen s = record { written = Some s.written; faults = s.faults }

-- the sink before any write
abbrev pub unwritten : (most : ℕ) → (failing : List ℕ) → SinkInMemory
unwritten most failing = record { written = []; most = most; failing = failing; writes = 0; faults = 0 }

-- how many of the bytes a write takes
abbrev pub count_taken : SinkInMemory → List ℕ → ℕ
count_taken s bytes = min (length bytes) s.most

-- the sink after a write that took what it can, and after one that failed
abbrev pub after_write : SinkInMemory → List ℕ → SinkInMemory
after_write s bytes = record s { written = s.written ++ take (count_taken s bytes) bytes; writes = one_more s.writes }

abbrev pub after_failed_write : SinkInMemory → SinkInMemory
after_failed_write s = record s { writes = one_more s.writes; faults = one_more s.faults }
