-- Runs of pushes or of pops, one after another.
use Rattle.std.specs.Prelude.{List, [], ◌∷◌, ◌++◌}
use Rattle.sb_message.specs.declared.message.Msg.{Msg}

-- from a port a to a port: some calls did, each with a message of the list, in order, and the others failed
pub data Ran {P : Type 0} (does : P → Msg → P → Type 0) (fails : P → P → Type 0) (a : P) : List Msg → P → Type 0 where
  none_yet : Ran does fails a [] a
  and_does : (messages : List Msg) (b c : P) (m : Msg) → Ran does fails a messages b → does b m c → Ran does fails a (messages ++ m ∷ []) c
  and_fails : (messages : List Msg) (b c : P) → Ran does fails a messages b → fails b c → Ran does fails a messages c
