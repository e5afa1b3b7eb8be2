-- The switch keeps what every device keeps.
use Rattle.std.specs.Prelude.{ℕ, ◌≡◌, ◌≤◌, ◌<◌, ◌+◌, zero, suc, Bool, true, false, nat_lt, ◌==◌, List, [], ◌∷◌, length, replicate, slice_index_or, slice_get, Option, Some, None, All, find, ⊤, if◌then◌else◌, refl}
use Rattle.std.specs.List.{position_or_len}
use Rattle.std.proofs.Common.{arith, ap, sym, subst, ◌∙◌, le_refl}
use Rattle.std.proofs.lemmas.Option.{none-some, slice_get_within, get_or_from_slice_get}
use Rattle.std.proofs.lemmas.List.Folds.{find_at}
use Rattle.std.proofs.lemmas.Bool.{and_parts}
use Rattle.std.proofs.lemmas.List.{length-replicate}
use Rattle.std.proofs.lemmas.Bool.Decides.{nat_tests}
use Rattle.std.proofs.lemmas.List.Elements.{All-nil, All-cons, All-append}
use Rattle.cs_base.specs.declared.port_kind.PortKind.{PortKind}
use Rattle.cs_base.specs.declared.port_kind.PortKind.TheVariants.{Eth}
use Rattle.cs_base.specs.Names.{is_individual}
use Rattle.sb_message.specs.declared.message.Body.{Body}
use Rattle.sb_message.specs.declared.message.Body.TheVariants as body
use Rattle.sb_message.specs.Receivable.{MaySend, is_event}
use Rattle.device_api.specs.Behaviour.{IsLawful, IsOrderly, AreEvents}
use Rattle.switch_sim.specs.declared.entry.Entry.{Entry}
use Rattle.switch_sim.specs.declared.relay.Relay.{Relay}
use Rattle.switch_sim.specs.declared.relay.Relay.TheVariants.{Filter, Flood, Forward}
use Rattle.switch_sim.specs.Table.{SwitchState, is_live, is_of, lookup, port_of_live, place_for, may_learn, learn, put_at}
use Rattle.switch_sim.specs.Switch.{destination, source, is_reserved, relay, towards, flood, flood_by, sends_of, switch, switch_take, IsSettledSwitch}
use Rattle.switch_sim.specs.TableLaws.{All-put, length-put, place_within, stands_apart, one_each-put}

-- LEARNING

pub learn_settled : (s : SwitchState) (t : ℕ) (from : List ℕ) (port : ℕ) → IsSettledSwitch s (t + 1) → port < s.ports → IsSettledSwitch (learn s t from port) (t + 1)
learn_settled s t from port settled exists = at (may_learn s t from) refl
  where
    at : (b : Bool) → may_learn s t from ≡ b → IsSettledSwitch (if b then record s { entries = put_at (place_for s t from) (record { mac = from; port = port; seen = t }) s.entries } else s) (t + 1)
    at false is = settled
    at true may =
        let parts : (is_individual from ≡ true) × (nat_lt (place_for s t from) 4096 ≡ true) = and_parts (is_individual from) (nat_lt (place_for s t from) 4096) may in
        let room : place_for s t from < 4096 = grind (arith, nat_tests, parts.1) in
        let e : Entry = record { mac = from; port = port; seen = t } in
        let within : place_for s t from ≤ length s.entries = place_within s t from in
        record {
          seen_before = All-put (λ (e : Entry). e.seen < t + 1) (place_for s t from) e s.entries within (omega arith) settled.seen_before;
          ports_exist = All-put (λ (e : Entry). e.port < s.ports) (place_for s t from) e s.entries within exists settled.ports_exist;
          individual = All-put (λ (e : Entry). is_individual e.mac ≡ true) (place_for s t from) e s.entries within parts.0 settled.individual;
          one_each = one_each-put (place_for s t from) e s.entries within settled.one_each (λ k d lt apart. stands_apart s t from k d settled.one_each lt apart);
          few = length-put (place_for s t from) e s.entries within room settled.few;
          few_ports = settled.few_ports;
        }

-- PORTS AND SENDS

-- each of the ports speaks Ethernet, and there are no others
pub at_port : (n port : ℕ) → port < n → slice_get (replicate n Eth) port ≡ Some Eth
at_port zero port lt = absurd (omega arith)
at_port (suc n) zero lt = refl
at_port (suc n) (suc port) lt = at_port n port (omega arith)

pub below_ports : (n port : ℕ) (kind : PortKind) → slice_get (replicate n Eth) port ≡ Some kind → port < n
below_ports zero port kind is = absurd (none-some kind is)
below_ports (suc n) zero kind is = omega arith
below_ports (suc n) (suc port) kind is = let below : port < n = below_ports n port kind is in omega arith

-- a frame may be sent by each port
pub may_send : (n port : ℕ) (frame : List ℕ) → port < n → MaySend (replicate n Eth) port (body.Eth frame)
may_send n port frame lt = record { kind = Eth; at_port = at_port n port lt; fits = refl; event = refl }

-- what is flooded goes out by ports that exist
pub flood_may : (n port ports : ℕ) (frame : List ℕ) → n ≤ ports → All (λ (sent : ℕ × Body). MaySend (replicate ports Eth) sent.0 sent.1) (flood frame port n)
unfolding flood
flood_may zero port ports frame le = All-nil (λ (sent : ℕ × Body). MaySend (replicate ports Eth) sent.0 sent.1)
flood_may (suc n) port ports frame le = All-append (λ (sent : ℕ × Body). MaySend (replicate ports Eth) sent.0 sent.1) (flood frame port n) (flood_by frame port n) (flood_may n port ports frame (omega arith)) (one (n == port))
  where
    one : (b : Bool) → All (λ (sent : ℕ × Body). MaySend (replicate ports Eth) sent.0 sent.1) (if b then [] else (n, body.Eth frame) ∷ [])
    one true = All-nil (λ (sent : ℕ × Body). MaySend (replicate ports Eth) sent.0 sent.1)
    one false = All-cons (λ (sent : ℕ × Body). MaySend (replicate ports Eth) sent.0 sent.1) (n, body.Eth frame) [] (may_send ports n frame (omega arith)) (All-nil (λ (sent : ℕ × Body). MaySend (replicate ports Eth) sent.0 sent.1))

-- a port to which a frame is forwarded exists
abbrev pub ForwardsBelow : ℕ → Relay → Type 0
ForwardsBelow n Filter = ⊤
ForwardsBelow n Flood = ⊤
ForwardsBelow n (Forward q) = q < n

pub found_port : (xs : List Entry) (p : Entry → Bool) (n : ℕ) (e : Entry) → All (λ (e : Entry). e.port < n) xs → find p xs ≡ Some e → e.port < n
found_port xs p n e exist is =
    let at_place : slice_get xs (position_or_len p xs) ≡ Some e = sym (find_at p xs) ∙ is in
    subst (λ (x : Entry). x.port < n) (get_or_from_slice_get xs (position_or_len p xs) e e at_place) (exist (position_or_len p xs) e (slice_get_within xs (position_or_len p xs) e at_place))

pub towards_below : (s : SwitchState) (t port : ℕ) (to : List ℕ) → All (λ (e : Entry). e.port < s.ports) s.entries → ForwardsBelow s.ports (towards port (lookup s t to))
towards_below s t port to exist = at (find (is_of to) s.entries) refl
  where
    other : (e : Entry) → e.port < s.ports → (b : Bool) → ForwardsBelow s.ports (if b then Filter else Forward e.port)
    other e lt true = tt
    other e lt false = lt

    live : (e : Entry) → e.port < s.ports → (b : Bool) → ForwardsBelow s.ports (towards port (if b then Some e.port else None))
    live e lt true = other e lt (e.port == port)
    live e lt false = tt

    at : (o : Option Entry) → find (is_of to) s.entries ≡ o → ForwardsBelow s.ports (towards port (port_of_live s t o))
    at None is = tt
    at (Some e) is = live e (found_port s.entries (is_of to) s.ports e exist is) (is_live s t e)

pub relay_below : (s : SwitchState) (t port : ℕ) (to : List ℕ) → All (λ (e : Entry). e.port < s.ports) s.entries → ForwardsBelow s.ports (relay s t port to)
relay_below s t port to exist = reserved (is_reserved to)
  where
    individual : (b : Bool) → ForwardsBelow s.ports (if b then towards port (lookup s t to) else Flood)
    individual true = towards_below s t port to exist
    individual false = tt

    reserved : (b : Bool) → ForwardsBelow s.ports (if b then Filter else if is_individual to then towards port (lookup s t to) else Flood)
    reserved true = tt
    reserved false = individual (is_individual to)

pub sends_may : (ports port : ℕ) (frame : List ℕ) (way : Relay) → ForwardsBelow ports way → All (λ (sent : ℕ × Body). MaySend (replicate ports Eth) sent.0 sent.1) (sends_of ports port frame way)
sends_may ports port frame Filter below = All-nil (λ (sent : ℕ × Body). MaySend (replicate ports Eth) sent.0 sent.1)
sends_may ports port frame Flood below = flood_may ports port ports frame (le_refl ports)
sends_may ports port frame (Forward q) below = All-cons (λ (sent : ℕ × Body). MaySend (replicate ports Eth) sent.0 sent.1) (q, body.Eth frame) [] (may_send ports q frame below) (All-nil (λ (sent : ℕ × Body). MaySend (replicate ports Eth) sent.0 sent.1))

-- all that is sent are frames
pub flood_events : (n port : ℕ) (frame : List ℕ) → AreEvents (flood frame port n)
unfolding flood
flood_events zero port frame = All-nil (λ (sent : ℕ × Body). is_event sent.1 ≡ true)
flood_events (suc n) port frame = All-append (λ (sent : ℕ × Body). is_event sent.1 ≡ true) (flood frame port n) (flood_by frame port n) (flood_events n port frame) (one (n == port))
  where
    one : (b : Bool) → AreEvents (if b then [] else (n, body.Eth frame) ∷ [])
    one true = All-nil (λ (sent : ℕ × Body). is_event sent.1 ≡ true)
    one false = All-cons (λ (sent : ℕ × Body). is_event sent.1 ≡ true) (n, body.Eth frame) [] refl (All-nil (λ (sent : ℕ × Body). is_event sent.1 ≡ true))

pub sends_events : (ports port : ℕ) (frame : List ℕ) (way : Relay) → AreEvents (sends_of ports port frame way)
sends_events ports port frame Filter = All-nil (λ (sent : ℕ × Body). is_event sent.1 ≡ true)
sends_events ports port frame Flood = flood_events ports port frame
sends_events ports port frame (Forward q) = All-cons (λ (sent : ℕ × Body). is_event sent.1 ≡ true) (q, body.Eth frame) [] refl (All-nil (λ (sent : ℕ × Body). is_event sent.1 ≡ true))

-- THE LAWS

pub learn_ports : (s : SwitchState) (t : ℕ) (from : List ℕ) (port : ℕ) → (learn s t from port).ports ≡ s.ports
learn_ports s t from port = at (may_learn s t from)
  where
    at : (b : Bool) → (if b then record s { entries = put_at (place_for s t from) (record { mac = from; port = port; seen = t }) s.entries } else s).ports ≡ s.ports
    at true = refl
    at false = refl

pub take_events : (s : SwitchState) (t port : ℕ) (arrived : Body) → AreEvents (switch_take s t port arrived).sends
take_events s t port (body.Eth frame) = sends_events s.ports port frame (relay (learn s t (source frame) port) t port (destination frame))
take_events s t port other = All-nil (λ (sent : ℕ × Body). is_event sent.1 ≡ true)

pub take_orderly : (s : SwitchState) (t port : ℕ) (arrived : Body) → port < s.ports → IsSettledSwitch s (t + 1) → IsOrderly switch IsSettledSwitch s t (switch_take s t port arrived)
take_orderly s t port (body.Eth frame) exists settled =
    let learned : SwitchState = learn s t (source frame) port in
    let after : IsSettledSwitch learned (t + 1) = learn_settled s t (source frame) port settled exists in
    record {
      same_ports = ap (λ (n : ℕ). replicate n Eth) (learn_ports s t (source frame) port);
      settled_after = after;
      sendable = sends_may s.ports port frame (relay learned t port (destination frame)) (subst (λ (n : ℕ). ForwardsBelow n (relay learned t port (destination frame))) (learn_ports s t (source frame) port) (relay_below learned t port (destination frame) after.ports_exist));
    }
take_orderly s t port other exists settled = record { same_ports = refl; settled_after = settled; sendable = All-nil (λ (sent : ℕ × Body). MaySend (replicate s.ports Eth) sent.0 sent.1) }

pub settled_later : (s : SwitchState) (x y : ℕ) → IsSettledSwitch s x → x ≤ y → IsSettledSwitch s y
settled_later s x y settled le = record {
  seen_before = λ k d lt. (let before : (slice_index_or s.entries k d).seen < x = settled.seen_before k d lt in omega arith);
  ports_exist = settled.ports_exist;
  individual = settled.individual;
  one_each = settled.one_each;
  few = settled.few;
  few_ports = settled.few_ports;
}

pub switch_lawful : IsLawful switch IsSettledSwitch
switch_lawful = record {
  at = λ s. record {
    few_ports = λ x settled. rw (length-replicate s.ports Eth) settled.few_ports;
    take_sends_events = take_events s;
    tick_sends_events = λ t. All-nil (λ (sent : ℕ × Body). is_event sent.1 ≡ true);
    settled_later = settled_later s;
    take_orderly = λ t port arrived may due in_run settled. take_orderly s t port arrived (below_ports s.ports port may.kind may.at_port) settled;
    due_after_take = λ t port arrived may due in_run settled. tt;
    tick_orderly = λ t due in_run settled. absurd (none-some t due);
    due_after_tick = λ t due in_run settled. tt;
  };
}
