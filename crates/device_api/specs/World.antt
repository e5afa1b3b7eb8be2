-- The global run: one simulator that knows one list of all events and walks over every moment.
use Rattle.std.specs.Prelude.{ℕ, ◌==◌, ◌+◌, zero, suc, Bool, false, if◌then◌else◌, List, [], ◌∷◌, ◌++◌, length, map, filter, find, slice_get, slice_set, Option, Some, None}
use Rattle.cs_base.specs.declared.link.Link.{Link}
use Rattle.cs_base.specs.Plan.{End, same_end}
use Rattle.sb_message.specs.declared.message.Body.{Body}
use Rattle.sb_message.specs.declared.message.Msg.{Msg}
use Rattle.device_api.specs.declared.logs.Line.{Line}
use Rattle.device_api.specs.Behaviour.{Reaction, Behaviour}
use Rattle.device_api.specs.Channels.{Channel, channels}

-- ONE MOMENT OF ONE COMPONENT

-- a body that arrives at some moment: on which port, and the how manieth of that port it is
pub record Arrival : Type 0 where
  pub port : ℕ
  pub number : ℕ
  pub body : Body

-- a reaction, and then another from the state that it left
abbrev pub followed_by : {S : Type 0} → Reaction S → (S → Reaction S) → Reaction S
followed_by r next = let more = next r.state in record { state = more.state; sends = r.sends ++ more.sends; lines = r.lines ++ more.lines }

-- no event: nothing is sent or logged
abbrev pub rest : {S : Type 0} → S → Reaction S
rest s = record { state = s; sends = []; lines = [] }

-- a device takes what arrives at t, in order
unfoldable pub take_all : {S : Type 0} → Behaviour S → ℕ → List Arrival → S → Reaction S
take_all b t [] s = rest s
take_all b t (a ∷ more) s = followed_by (b.take s t a.port a.body) (take_all b t more)

-- whether a due time is t
abbrev pub is_at : Option ℕ → ℕ → Bool
is_at None t = false
is_at (Some d) t = d == t

-- a device ticks where it is due at t
abbrev pub tick_if_due : {S : Type 0} → Behaviour S → ℕ → S → Reaction S
tick_if_due b t s = if is_at (b.due s) t then b.tick s t else rest s

-- one moment of a device: it takes what arrives, and then ticks if it is due
abbrev pub react : {S : Type 0} → Behaviour S → ℕ → List Arrival → S → Reaction S
react b t arrivals s = followed_by (take_all b t arrivals s) (tick_if_due b t)

-- THE RUN OF ONE COMPONENT

-- a body that was sent at a time by a port
pub record Sent : Type 0 where
  pub time : ℕ
  pub port : ℕ
  pub body : Body

-- how far a component has come: its device, its log, and all that it has sent
pub record Run (S : Type 0) : Type 0 where
  pub state : S
  pub log : List Line
  pub sent : List Sent

abbrev pub start_run : {S : Type 0} → S → Run S
start_run s = record { state = s; log = []; sent = [] }

-- lines logged at t, and sends made at t
abbrev pub logged_at : ℕ → List (List ℕ) → List Line
logged_at t lines = map (λ text. record { at = t; text = text }) lines

abbrev pub sent_at : ℕ → List (ℕ × Body) → List Sent
sent_at t sends = map (λ (sent : ℕ × Body). record { time = t; port = sent.0; body = sent.1 }) sends

-- a run after one more reaction, at t
abbrev pub after : {S : Type 0} → ℕ → Run S → Reaction S → Run S
after t run r = record { state = r.state; log = run.log ++ logged_at t r.lines; sent = run.sent ++ sent_at t r.sends }

-- WHAT ARRIVES

-- of the timed bodies of port p, of which the first is number i: those that arrive at t
unfoldable pub arrivals_on : ℕ → ℕ → ℕ → List Msg → List Arrival
arrivals_on t p i [] = []
arrivals_on t p i (x ∷ more) = if x.at == t then record { port = p; number = i; body = x.body } ∷ arrivals_on t p (suc i) more else arrivals_on t p (suc i) more

-- what arrives at t on the ports below a number, by port and then in order; `inputs` has the timed bodies of each port
unfoldable pub arrivals : ℕ → (ℕ → List Msg) → ℕ → List Arrival
arrivals t inputs zero = []
arrivals t inputs (suc p) = arrivals t inputs p ++ arrivals_on t p 0 (inputs p)

-- THE WORLD

-- components and links: what the devices do, their start states, and how they are joined
pub record Network (S : Type 0) : Type 0 where
  pub behaviour : Behaviour S
  pub starts : List S
  pub links : List Link

-- an event that was sent: when it arrives, at which port of which component, and what it is
pub record Event : Type 0 where
  pub time : ℕ
  pub to : End
  pub body : Body

-- the run of each component, and one list of all events, in the order of sending
pub record World (S : Type 0) : Type 0 where
  pub runs : List (Run S)
  pub pending : List Event

-- how many ports a component has
abbrev pub ports_in : {S : Type 0} → Behaviour S → Option S → ℕ
ports_in b None = 0
ports_in b (Some s) = length (b.ports s)

abbrev pub port_count : {S : Type 0} → Network S → ℕ → ℕ
port_count net c = ports_in net.behaviour (slice_get net.starts c)

-- what was sent by one port, in order
abbrev pub sends_by : ℕ → List Sent → List Sent
sends_by port sent = filter (λ s. s.port == port) sent

-- when what is sent arrives, after what was sent on the channel before
abbrev pub stamp : Channel → List Sent → Sent → ℕ
stamp ch before s = s.time + ch.latency

-- the channel that leads out of a port
abbrev pub out_of : List Channel → End → Option Channel
out_of chs end = find (λ ch. same_end ch.from end) chs

-- the event that a send makes; none where no channel leads out of its port
abbrev pub event_on : List Sent → Sent → Option Channel → List Event
event_on before s None = []
event_on before s (Some ch) = record { time = stamp ch (sends_by s.port before) s; to = ch.to; body = s.body } ∷ []

-- the events that the sends of component c make, after what it sent before
unfoldable pub events_of : List Channel → ℕ → List Sent → List Sent → List Event
events_of chs c before [] = []
events_of chs c before (s ∷ more) = event_on before s (out_of chs (record { component = c; port = s.port })) ++ events_of chs c (before ++ s ∷ []) more

-- the events to one port, as timed bodies
abbrev pub waiting_at : End → List Event → List Msg
waiting_at end pending = map (λ e. record { at = e.time; body = e.body }) (filter (λ e. same_end e.to end) pending)

-- what arrives at t for component c
abbrev pub arrivals_for : {S : Type 0} → Network S → ℕ → ℕ → World S → List Arrival
arrivals_for net t c w = arrivals t (λ p. waiting_at (record { component = c; port = p }) w.pending) (port_count net c)

-- the world after component c reacted at t: its run has grown, and what it sent is pending
abbrev pub with_reaction : {S : Type 0} → Network S → ℕ → ℕ → World S → Run S → Reaction S → World S
with_reaction net t c w run r = record { runs = slice_set w.runs c (after t run r); pending = w.pending ++ events_of (channels net.links) c run.sent (sent_at t r.sends) }

-- the turn of component c at t, whose run so far is given
abbrev pub turn_of : {S : Type 0} → Network S → ℕ → ℕ → World S → Option (Run S) → World S
turn_of net t c w None = w
turn_of net t c w (Some run) = with_reaction net t c w run (react net.behaviour t (arrivals_for net t c w) run.state)

-- the moment t of the components below a number, one after another
unfoldable pub slot : {S : Type 0} → Network S → ℕ → ℕ → World S → World S
slot net t zero w = w
slot net t (suc c) w = let so_far = slot net t c w in turn_of net t c so_far (slice_get so_far.runs c)

-- the world at the start
abbrev pub start_world : {S : Type 0} → Network S → World S
start_world net = record { runs = map start_run net.starts; pending = [] }

-- the global run of all moments before a time
unfoldable pub global_until : {S : Type 0} → Network S → ℕ → World S
global_until net zero = start_world net
global_until net (suc t) = slot net t (length net.starts) (global_until net t)

-- what was sent on a channel, and what a component logged
abbrev pub sent_in : {S : Type 0} → Option (Run S) → List Sent
sent_in None = []
sent_in (Some run) = run.sent

abbrev pub log_in : {S : Type 0} → Option (Run S) → List Line
log_in None = []
log_in (Some run) = run.log

abbrev pub sends_on : {S : Type 0} → Channel → World S → List Sent
sends_on ch w = sends_by ch.from.port (sent_in (slice_get w.runs ch.from.component))

abbrev pub log_of : {S : Type 0} → ℕ → World S → List Line
log_of c w = log_in (slice_get w.runs c)

-- the logs of all components
abbrev pub logs_of : {S : Type 0} → World S → List (List Line)
logs_of w = map (λ run. run.log) w.runs
