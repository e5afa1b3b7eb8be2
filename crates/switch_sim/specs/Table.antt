-- The filtering database of a switch (IEEE 802.1D): on which port each station was seen, and when.
use Rattle.std.specs.Prelude.{ℕ, ◌-◌, suc, Bool, false, ◌&&◌, not, nat_lt, ◌==◌, List, [], ◌∷◌, ◌++◌, length, take, drop, find, count_by, bytes_eq, Option, Some, None, if◌then◌else◌}
use Rattle.std.specs.List.{position_or_len}
use Rattle.cs_base.specs.declared.configs.SwitchConfig.{SwitchConfig}
use Rattle.cs_base.specs.Names.{is_individual}
use Rattle.switch_sim.specs.declared.entry.Entry.{Entry}

-- how many ports the switch has, how long an entry lives, and the entries, one for each address
pub record SwitchState : Type 0 where
  pub ports : ℕ
  pub age : ℕ
  pub entries : List Entry

-- a switch at its start
abbrev pub started : SwitchConfig → SwitchState
started config = record { ports = config.ports; age = config.age; entries = [] }

-- an entry is live at t until it has aged out: while less than the age has passed since its station was seen
abbrev pub is_live : SwitchState → ℕ → Entry → Bool
is_live s t e = nat_lt (t - e.seen) s.age

-- whether an entry is that of an address
abbrev pub is_of : List ℕ → Entry → Bool
is_of mac e = bytes_eq mac e.mac

abbrev pub port_of_live : SwitchState → ℕ → Option Entry → Option ℕ
port_of_live s t None = None
port_of_live s t (Some e) = if is_live s t e then Some e.port else None

-- the port at which a station is at t, where there is a live entry
abbrev pub lookup : SwitchState → ℕ → List ℕ → Option ℕ
lookup s t mac = port_of_live s t (find (is_of mac) s.entries)

-- a place for a new address: one more while there are fewer than 4,096, then that of the first dead entry; 4,096,
-- which is none, where all are live
abbrev pub free_place : SwitchState → ℕ → ℕ
free_place s t = if nat_lt (length s.entries) 4096 then length s.entries else position_or_len (λ e. not (is_live s t e)) s.entries

-- the place for an address: the one that it has, else a free one
abbrev pub place_for : SwitchState → ℕ → List ℕ → ℕ
place_for s t mac = let own = position_or_len (is_of mac) s.entries in if nat_lt own (length s.entries) then own else free_place s t

-- whether a source address may be learned: it is individual, and there is a place for it
abbrev pub may_learn : SwitchState → ℕ → List ℕ → Bool
may_learn s t from = is_individual from && nat_lt (place_for s t from) 4096

-- how many entries of other addresses are live at t
abbrev pub others_live : SwitchState → ℕ → List ℕ → ℕ
others_live s t mac = count_by (λ (e : Entry). is_live s t e && not (is_of mac e)) s.entries

-- entries with one of them put at a place, or at the end
abbrev pub put_at : ℕ → Entry → List Entry → List Entry
put_at place e entries = take place entries ++ e ∷ drop (suc place) entries

-- learning: the source of a frame that arrived at t on a port was seen there
abbrev pub learn : SwitchState → ℕ → List ℕ → ℕ → SwitchState
learn s t from port = if may_learn s t from then record s { entries = put_at (place_for s t from) (record { mac = from; port = port; seen = t }) s.entries } else s

-- whether an answer of `lookup` is this port
abbrev pub is_port : ℕ → Option ℕ → Bool
is_port port None = false
is_port port (Some p) = p == port

-- whether learning tells something new: there was no live entry, or one with another port
abbrev pub is_news : SwitchState → ℕ → List ℕ → ℕ → Bool
is_news s t from port = may_learn s t from && not (is_port port (lookup s t from))
