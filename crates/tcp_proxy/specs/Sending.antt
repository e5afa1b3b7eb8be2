-- The sending end of a channel over a byte stream.
use Rattle.std.specs.Prelude.{ℕ, ◌≡◌, ◌≢◌, ◌<◌, ◌+◌, ◌⊎◌, List, [], ◌++◌, length, take, drop, Option, option_map, IfSome, Result, Ok, Err, IfOk}
use Rattle.cs_base.specs.declared.port_kind.PortKind.{PortKind}
use Rattle.cs_base.specs.declared.no_memory.NoMemory.{NoMemory}
use Rattle.cs_base.specs.declared.no_memory.Failed.{Failed}
use Rattle.cs_base.specs.Outside.{Rose}
use Rattle.cs_base.specs.Wires.{OutSeen}
use Rattle.sb_message.specs.declared.message.Msg.{Msg}
use Rattle.sb_frame.specs.Frames.{AreFrames}
use Rattle.port_queue.specs.Runs.{Ran}
use Rattle.tcp_proxy.specs.declared.hop.Hop.{Hop}
use Rattle.tcp_proxy.specs.declared.hop.Hop.TheVariants.{Moved, Idle}
use Rattle.tcp_proxy.specs.declared.hop.ProxyBad.{ProxyBad}
use Rattle.tcp_proxy.specs.declared.hop.ProxyBad.TheVariants as bad
use Rattle.tcp_proxy.specs.Turns.{Never}

-- a sending end: its wire, the bytes that it keeps, how many of them the wire took, how many turns it has made, and how
-- many of the latest in a row moved nothing
pub record Outgoing (O : Type 0) : Type 0 where
  pub wire : O
  pub kept : List ℕ
  pub gone : ℕ
  pub turns : ℕ
  pub still : ℕ

-- the kept bytes are the frames of what was popped, and the queue stands for the same list
pub record Keeps {R : Type 0} (kind : R → PortKind) (stands : R → List Msg → Type 0) (kept : List ℕ) (near : R) (popped : List Msg) : Type 0 where
  pub frames : AreFrames (kind near) popped kept
  pub port : stands near popped

-- they do so for some list
pub record IsFitOut {R : Type 0} (kind : R → PortKind) (stands : R → List Msg → Type 0) (kept : List ℕ) (near : R) : Type 0 where
  pub popped : List Msg
  pub keeps : Keeps kind stands kept near popped

-- messages were popped one after another, and each was kept as a frame before the next; then a pop may have found none
pub record Takes {R : Type 0} (kind : R → PortKind) (stands : R → List Msg → Type 0) (pops : R → Msg → R → Type 0) (empties : R → R → Type 0) (kept : List ℕ) (near : R) (kept' : List ℕ) (near' : R) : Type 0 where
  pub messages : List Msg
  pub frames : List ℕ
  pub last : R
  pub popped : Ran pops Never near messages last
  pub emptied : (near' ≡ last) ⊎ empties last near'
  pub longer : kept' ≡ kept ++ frames
  pub on : (popped : List Msg) → Keeps kind stands kept near popped → Keeps kind stands kept' near' (popped ++ messages)

-- what that many messages say: where there is none, a pop found none
pub record TakesSo {R : Type 0} (kind : R → PortKind) (stands : R → List Msg → Type 0) (pops : R → Msg → R → Type 0) (empties : R → R → Type 0) (kept : List ℕ) (near : R) (kept' : List ℕ) (near' : R) (r : Result ℕ NoMemory) : Type 0 where
  pub takes : Takes kind stands pops empties kept near kept' near'
  pub count : IfOk r (λ n. n ≡ length takes.messages)
  pub none : IfOk r (λ n. n ≡ 0 → empties near near')

-- bytes of what is kept went to the wire, from the first that it had not taken
pub record Sends {O : Type 0} (seen : O → OutSeen) (old new : Outgoing O) (n : ℕ) : Type 0 where
  pub kept : new.kept ≡ old.kept
  pub gone : new.gone ≡ old.gone + n
  pub taken : (seen new.wire).taken ≡ option_map (λ bytes. bytes ++ take n (drop old.gone old.kept)) (seen old.wire).taken

-- why a send took so much, or failed
abbrev pub SendCause : {O : Type 0} → (O → OutSeen) → Outgoing O → Outgoing O → Result ℕ Failed → Type 0
SendCause seen old new (Ok n) = n ≡ 0 → (old.gone ≡ length old.kept) ⊎ Rose (seen old.wire).idles (seen new.wire).idles
SendCause seen old new (Err failed) = Rose (seen old.wire).faults (seen new.wire).faults

-- the cause of each answer of a turn that popped so many messages and of whose bytes the wire took so many
pub data OutCause {O R : Type 0} (seen : O → OutSeen) (empties : R → R → Type 0) (old new : Outgoing O) (near near' : R) (messages took : ℕ) : Result Hop ProxyBad → Type 0 where
  it_moved : 0 < messages + took → OutCause seen empties old new near near' messages took (Ok Moved)
  -- no message was there, and the wire could take nothing yet, or nothing waits for it
  it_idles : messages ≡ 0 → took ≡ 0 → empties near near' → (new.gone ≡ length new.kept) ⊎ Rose (seen old.wire).idles (seen new.wire).idles → OutCause seen empties old new near near' messages took (Ok Idle)
  it_failed : Rose (seen old.wire).faults (seen new.wire).faults → OutCause seen empties old new near near' messages took (Err bad.Lost)
  it_lacks : OutCause seen empties old new near near' messages took (Err bad.NoMemory)

-- what a turn did: messages were popped and kept, and then the wire was handed what it had not taken, once
pub record TurnedOut {O R : Type 0} (seen : O → OutSeen) (kind : R → PortKind) (stands : R → List Msg → Type 0) (pops : R → Msg → R → Type 0) (empties : R → R → Type 0) (old new : Outgoing O) (near near' : R) (r : Result Hop ProxyBad) : Type 0 where
  pub took : ℕ
  pub takes : Takes kind stands pops empties old.kept near new.kept near'
  pub gone : new.gone ≡ old.gone + took
  pub taken : (seen new.wire).taken ≡ option_map (λ bytes. bytes ++ take took (drop old.gone new.kept)) (seen old.wire).taken
  pub cause : OutCause seen empties old new near near' (length takes.messages) took r

-- what the wire tells that it took is the front of what is kept
abbrev pub IsToldOut : {O : Type 0} → (O → OutSeen) → Outgoing O → Type 0
IsToldOut seen p = IfSome (seen p.wire).taken (λ bytes. bytes ≡ take p.gone p.kept)
