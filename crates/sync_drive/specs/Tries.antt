-- The tries of a turn: at each port what waits first is sent, and then at each port a message is
-- received.
use Rattle.std.specs.Prelude.{ℕ, ◌≡◌, ◌+◌, ◌<◌, List, length, slice_get, slice_set, Some}
use Rattle.std.specs.declared.result.Result.TheVariants.{Err}
use Rattle.sb_message.specs.declared.message.Msg.{Msg}
use Rattle.sync_rule.specs.declared.run_bad.RunBad.{RunBad}
use Rattle.sync_rule.specs.declared.runner.Runner.{Runner}
use Rattle.sync_rule.specs.Steps.{Passes, Keeps, Receives, PollsBy}

-- the ports below k were each tried once, in order, and n messages were sent
pub data SendsRan {V T : Type 0} (pushes : T → Msg → T → Type 0) (refuses : T → T → Type 0)
    (old : Runner V) (txs : List T) : ℕ → ℕ → Runner V → List T → Type 0 where
  no_sends : SendsRan pushes refuses old txs 0 0 old txs
  -- what waited first was pushed
  one_sent : (k n : ℕ) (mid new : Runner V) (ts : List T) (before after : T)
      → SendsRan pushes refuses old txs k n mid ts → slice_get ts k ≡ Some before
      → Passes (λ m. pushes before m after) mid new k
      → SendsRan pushes refuses old txs (k + 1) (n + 1) new (slice_set ts k after)
  -- nothing waited and there was no push, or the push met a full channel
  one_kept : (k n : ℕ) (mid new : Runner V) (ts : List T) (before after : T)
      → SendsRan pushes refuses old txs k n mid ts → slice_get ts k ≡ Some before
      → Keeps (refuses before after) (after ≡ before) mid new k
      → SendsRan pushes refuses old txs (k + 1) n new (slice_set ts k after)

-- the ports below k were each polled once, in order, and n messages were received
pub data PollsRan {V R : Type 0} (pops : R → Msg → R → Type 0) (empties : R → R → Type 0)
    (old : Runner V) (rxs : List R) : ℕ → ℕ → Runner V → List R → Type 0 where
  no_polls : PollsRan pops empties old rxs 0 0 old rxs
  -- a message was popped
  one_heard : (k n : ℕ) (mid new : Runner V) (xs : List R) (before after : R)
      → PollsRan pops empties old rxs k n mid xs → slice_get xs k ≡ Some before
      → Receives (λ m. pops before m after) mid new k
      → PollsRan pops empties old rxs (k + 1) (n + 1) new (slice_set xs k after)
  -- the pop found none
  one_empty : (k n : ℕ) (mid new : Runner V) (xs : List R) (before after : R)
      → PollsRan pops empties old rxs k n mid xs → slice_get xs k ≡ Some before
      → empties before after → new ≡ mid
      → PollsRan pops empties old rxs (k + 1) n new (slice_set xs k after)

-- the ports below one were each polled once, and the poll of that one failed: its first message is
-- no introduction, or there was no memory and nothing was popped
pub record PollsFailed {V R : Type 0} (pops : R → Msg → R → Type 0) (empties : R → R → Type 0)
    (old : Runner V) (rxs : List R) (new : Runner V) (rxs' : List R) (bad : RunBad) : Type 0 where
  pub port : ℕ
  pub receipts : ℕ
  pub mid : Runner V
  pub ends : List R
  pub so_far : PollsRan pops empties old rxs port receipts mid ends
  pub before : R
  pub after : R
  pub there : slice_get ends port ≡ Some before
  pub failed : PollsBy pops empties before after mid new port (Err bad)
  pub left : rxs' ≡ slice_set ends port after

-- the end of a channel at a port, as it was and as it is, and what became of it
pub record EndAt {E : Type 0} (ends ends' : List E) (port : ℕ)
    (became : E → E → Type 0) : Type 0 where
  pub before : E
  pub after : E
  pub there : slice_get ends port ≡ Some before
  pub left : slice_get ends' port ≡ Some after
  pub is : became before after

-- one try at an end, or none: a message moved, none could move, or the end was left as it was
pub data IsTried {E : Type 0} (moves : E → Msg → E → Type 0) (stays : E → E → Type 0)
    (before after : E) : Type 0 where
  it_went : (m : Msg) → moves before m after → IsTried moves stays before after
  it_stayed : stays before after → IsTried moves stays before after
  untouched : after ≡ before → IsTried moves stays before after

-- at most one try was made at each end
pub record AreTried {E : Type 0} (moves : E → Msg → E → Type 0) (stays : E → E → Type 0)
    (ends ends' : List E) : Type 0 where
  pub as_many : length ends' ≡ length ends
  pub each : (port : ℕ) → port < length ends → EndAt ends ends' port (IsTried moves stays)
