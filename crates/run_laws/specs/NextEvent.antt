-- The next event of a component that runs by itself: the least of what waits, its due time, and its timers.
use Rattle.std.specs.Prelude.{ℕ, ◌≡◌, ◌≤◌, ◌<◌, ◌++◌, suc, ◌==◌, if◌then◌else◌, true, false, List, [], ◌∷◌, length, Some, ⊤}
use Rattle.cs_base.specs.declared.port_kind.PortKind.{PortKind}
use Rattle.sb_message.specs.declared.message.Msg.{Msg}
use Rattle.device_api.specs.Behaviour.{Behaviour, IsNotPast}
use Rattle.device_api.specs.Channels.{Channel}
use Rattle.device_api.specs.World.{Run, sends_by}
use Rattle.device_api.specs.Transcript.{RisesFrom, Script, bound_of}
use Rattle.device_api.specs.Position.{Key, Position, is_reached, sync_key, message_key, tick_key, script_upto}

-- bodies of a port, of which the first is number i: all were reached, or all are still to come
unfoldable pub AreReached : Position → ℕ → ℕ → List Msg → Type 0
AreReached position port i [] = ⊤
AreReached position port i (m ∷ more) = (is_reached position (message_key m.at port i) ≡ true) × AreReached position port (suc i) more

unfoldable pub AreAhead : Position → ℕ → ℕ → List Msg → Type 0
AreAhead position port i [] = ⊤
AreAhead position port i (m ∷ more) = (is_reached position (message_key m.at port i) ≡ false) × AreAhead position port (suc i) more

-- what each port received, in order: what the position has reached of it, and what it hasn't, which waits in the
-- port's inbox
pub record AreInboxes (position : Position) (ports : ℕ) (inputs handled inbox : ℕ → List Msg) : Type 0 where
  -- their timestamps never fall
  pub rises : (port : ℕ) → port < ports → RisesFrom 0 (inputs port)
  -- what was handled came in before what waits
  pub whole : (port : ℕ) → port < ports → inputs port ≡ handled port ++ inbox port
  -- what was handled is not after the position
  pub reached : (port : ℕ) → port < ports → AreReached position port 0 (handled port)
  -- what waits is after the position
  pub waits : (port : ℕ) → port < ports → AreAhead position port (length (handled port)) (inbox port)

-- an event is before the head of a port's inbox, if there is one
abbrev pub IsBeforeHead : Key → ℕ → List Msg → List Msg → Type 0
IsBeforeHead last port handled inbox = (m : Msg) (more : List Msg) → inbox ≡ m ∷ more → is_reached (Some last) (message_key m.at port (length handled)) ≡ false

-- the key of the head of a port's inbox
abbrev pub head_key : (ℕ → List Msg) → ℕ → Msg → Key
head_key handled port m = message_key m.at port (length (handled port))

-- the next event is the take of the head of a port's inbox
pub record IsNextTake {S : Type 0} (b : Behaviour S) (ports : ℕ) (handled inbox : ℕ → List Msg) (state : S) (port : ℕ) (m : Msg) (more : List Msg) : Type 0 where
  -- the component has the port
  pub at_port : port < ports
  -- m is the head of its inbox
  pub head : inbox port ≡ m ∷ more
  -- the heads of the other inboxes are after it
  pub before_others : (other : ℕ) → other < ports → (other ≡ port → ⊥) → IsBeforeHead (head_key handled port m) other (handled other) (inbox other)
  -- the device is not due before it
  pub before_tick : IsNotPast m.at (b.due state)

-- the next event is the tick at t
pub record IsNextTick {S : Type 0} (b : Behaviour S) (position : Position) (ports : ℕ) (handled inbox : ℕ → List Msg) (state : S) (t : ℕ) : Type 0 where
  -- it is after the position
  pub ahead : is_reached position (tick_key t) ≡ false
  -- the device is due then
  pub due : b.due state ≡ Some t
  -- all that waits is after it
  pub before_messages : (port : ℕ) → port < ports → IsBeforeHead (tick_key t) port (handled port) (inbox port)

-- the next event is the null message at u of a port
pub record IsNextSync {S : Type 0} (b : Behaviour S) (position : Position) (ports : ℕ) (handled inbox : ℕ → List Msg) (state : S) (u port : ℕ) : Type 0 where
  -- it is after the position
  pub ahead : is_reached position (sync_key u port) ≡ false
  -- all that waits is after it
  pub before_messages : (other : ℕ) → other < ports → IsBeforeHead (sync_key u port) other (handled other) (inbox other)
  -- the device is not due before it
  pub before_tick : IsNotPast u (b.due state)

-- lists by port, of which one is another
abbrev pub with_port : ℕ → List Msg → (ℕ → List Msg) → ℕ → List Msg
with_port port messages lists other = if other == port then messages else lists other

-- the script on a channel of the sends of a run up to a position of its sender
abbrev pub local_script : {S : Type 0} → PortKind → Channel → Run S → Position → ℕ → Script
local_script kind ch run position end = script_upto kind ch (sends_by ch.from.port run.sent) position end

-- an event is before the next null message on a channel
abbrev pub IsBeforeTimer : Key → Channel → Script → Type 0
IsBeforeTimer last ch so_far = is_reached (Some last) (sync_key so_far.sync_due ch.from.port) ≡ false

-- a body that comes in on a port next
pub record ComesAfter (position : Position) (inputs : ℕ → List Msg) (port : ℕ) (m : Msg) : Type 0 where
  -- it is not before the bodies that came in earlier
  pub rises : bound_of (inputs port) ≤ m.at
  -- it is after the position
  pub ahead : is_reached position (message_key m.at port (length (inputs port))) ≡ false

-- nothing is left for a component before the end: what waits is not before it, and the device is not due before it
pub record IsNothingLeft {S : Type 0} (b : Behaviour S) (ports : ℕ) (inbox : ℕ → List Msg) (state : S) (end : ℕ) : Type 0 where
  pub messages : (port : ℕ) → port < ports → (m : Msg) (more : List Msg) → inbox port ≡ m ∷ more → end ≤ m.at
  pub tick : IsNotPast end (b.due state)
