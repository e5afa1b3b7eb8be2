-- What a turn of a driver did, and the cause of its answer.
use Rattle.std.specs.Prelude.{ℕ, ◌≡◌, ◌≤◌, ◌<◌, ◌+◌, ◌⊎◌, min, List, [], length}
use Rattle.std.specs.declared.result.Result.{Result}
use Rattle.std.specs.declared.result.Result.TheVariants.{Ok, Err}
use Rattle.sb_message.specs.declared.message.Msg.{Msg}
use Rattle.device_api.specs.Behaviour.{Behaviour}
use Rattle.sync_rule.specs.declared.next.Next.{Next}
use Rattle.sync_rule.specs.declared.run_bad.RunBad.{RunBad}
use Rattle.sync_rule.specs.declared.run_bad.RunBad.TheVariants.{NoMemory}
use Rattle.sync_rule.specs.declared.runner.Runner.{Runner}
use Rattle.sync_rule.specs.ManyPorts.{IsFirstWaiting, outbox_in}
use Rattle.sync_rule.specs.Next.{IsAllSent, IsEnabled, HasEnded, IsBarred}
use Rattle.sync_rule.specs.Events.{RanUpTo}
use Rattle.sync_drive.specs.declared.turn.Turn.{Turn}
use Rattle.sync_drive.specs.declared.turn.Turn.TheVariants.{Moved, Idle, Ended}
use Rattle.sync_drive.specs.declared.turn.Why.TheVariants.{Full, Bound}
use Rattle.sync_drive.specs.Tries.{SendsRan, PollsRan, PollsFailed, EndAt}

-- the cause of each answer of a turn that moved so many messages and events
pub data Cause {V : Type 0} (b : Behaviour V) (r : Runner V) (moved : ℕ) : Turn → Type 0 where
  it_moved : 0 < moved → Cause b r moved Moved
  -- the port is the least at which a message waits: the push of it met a full channel
  it_is_full : (port : ℕ) → moved ≡ 0 → IsFirstWaiting r.outgoing port
      → Cause b r moved (Idle (Full port))
  -- nothing waits to be sent, the component has not ended, and the port is the least that bars it
  it_is_barred : (port : ℕ) → moved ≡ 0 → IsAllSent r.outgoing → (HasEnded b r → ⊥)
      → IsBarred b r port → Cause b r moved (Idle (Bound port))
  it_ended : moved ≡ 0 → HasEnded b r → Cause b r moved Ended

-- a component of at most 32 ports, by which no event may be processed
pub record HasStopped {V : Type 0} (b : Behaviour V) (r : Runner V) : Type 0 where
  pub few_out : length r.outgoing ≤ 32
  pub few_in : length r.incoming ≤ 32
  pub stopped : (next : Next) → IsEnabled b r next → ⊥

-- what a turn did: at each port one try to send, then one poll of each port, then events, of which
-- the first was tried
pub record Turned {V T R : Type 0} (b : Behaviour V)
    (pushes : T → Msg → T → Type 0) (refuses : T → T → Type 0)
    (pops : R → Msg → R → Type 0) (empties : R → R → Type 0)
    (old : Runner V) (txs : List T) (rxs : List R)
    (new : Runner V) (txs' : List T) (rxs' : List R) (turn : Turn) : Type 0 where
  pub sends : ℕ
  pub receipts : ℕ
  pub events : ℕ
  pub after_sends : Runner V
  pub after_polls : Runner V
  pub sent : SendsRan pushes refuses old txs (length txs) sends after_sends txs'
  pub polled : PollsRan pops empties after_sends rxs (length rxs) receipts after_polls rxs'
  pub ran : RanUpTo b after_polls new 4096 events
  pub cause : Cause b new (sends + receipts + events) turn

-- what a turn did that failed: its sends, and then the polls before the one that failed; or its
-- sends and all its polls, and then there was no memory for an event
pub data Failed {V T R : Type 0} (pushes : T → Msg → T → Type 0) (refuses : T → T → Type 0)
    (pops : R → Msg → R → Type 0) (empties : R → R → Type 0)
    (old : Runner V) (txs : List T) (rxs : List R)
    (new : Runner V) (txs' : List T) (rxs' : List R) : RunBad → Type 0 where
  in_polls : (sends : ℕ) (mid : Runner V) (bad : RunBad)
      → SendsRan pushes refuses old txs (length txs) sends mid txs'
      → PollsFailed pops empties mid rxs new rxs' bad
      → Failed pushes refuses pops empties old txs rxs new txs' rxs' bad
  in_events : (sends receipts : ℕ) (mid late : Runner V)
      → SendsRan pushes refuses old txs (length txs) sends mid txs'
      → PollsRan pops empties mid rxs (length rxs) receipts late rxs'
      → Failed pushes refuses pops empties old txs rxs new txs' rxs' NoMemory

-- nothing moved: no message that waits was let through, none was there to receive, and no event may
-- be processed
pub record NothingMoved {V T R : Type 0} (b : Behaviour V) (refuses : T → T → Type 0)
    (empties : R → R → Type 0) (old : Runner V) (txs : List T) (rxs : List R)
    (new : Runner V) (txs' : List T) (rxs' : List R) : Type 0 where
  pub runner : new ≡ old
  -- the push of what waits at a port met a full channel; where nothing waits there was none
  pub unsent : (port : ℕ) → port < length txs → EndAt txs txs' port
      (λ tx tx'. ((outbox_in old.outgoing port ≡ []) × (tx' ≡ tx)) ⊎ refuses tx tx')
  pub unheard : (port : ℕ) → port < length rxs → EndAt rxs rxs' port empties
  pub stopped : (next : Next) → IsEnabled b new next → ⊥

-- how many of the latest turns in a row moved nothing, 64 at most
abbrev pub still_after : Result Turn RunBad → ℕ → ℕ
still_after (Ok Moved) still = 0
still_after (Ok (Idle why)) still = min (still + 1) 64
still_after (Ok Ended) still = min (still + 1) 64
still_after (Err bad) still = 0
