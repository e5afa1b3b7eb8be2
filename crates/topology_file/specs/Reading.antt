-- Which topology a text is, or for what it is refused.
use Rattle.std.specs.Prelude.{ℕ, ◌≡◌, List, Option, Some, None, IsUtf8, Result, Ok, Err}
use Rattle.toml.specs.Data.{Members, table}
use Rattle.toml.specs.Parse.{parse_document}
use Rattle.topology_file.specs.declared.reason.TopoReason.{TopoReason}
use Rattle.topology_file.specs.declared.reason.Entry.{Entry}
use Rattle.topology_file.specs.declared.reason.TopoBad.{TopoBad}
use Rattle.topology_file.specs.declared.reason.TopoBad.TheVariants as bad
use Rattle.topology_file.specs.declared.topology.Topology.{Topology}
use Rattle.topology_file.specs.Refusals.{Refusal, refusal}
use Rattle.topology_file.specs.Spelled.{Spells}

-- what is answered where something is refused or not: the refusal, unless memory was wanting
abbrev pub Refuses : Option Refusal → TopoBad → Type 0
Refuses refused bad.Toml = ⊥
Refuses refused (bad.At reason entry) = refused ≡ Some (reason, entry)
Refuses refused bad.NoMemory = Unit {0}

abbrev pub Gives : {T : Type 0} → Option Refusal → (T → Type 0) → Result T TopoBad → Type 0
Gives refused Is (Ok x) = (refused ≡ None) × Is x
Gives refused Is (Err bad) = Refuses refused bad

-- the bytes are a TOML document of these members
pub record IsDocument (bytes : List ℕ) (members : Members) : Type 0 where
  pub utf8 : IsUtf8 bytes
  pub parsed : parse_document bytes ≡ Some members

-- the bytes are no TOML document
abbrev pub IsNoDocument : List ℕ → Type 0
IsNoDocument bytes = IsUtf8 bytes → parse_document bytes ≡ None

-- the bytes are a document that is refused for this reason at this entry
pub record IsRefused (bytes : List ℕ) (reason : TopoReason) (entry : Entry) : Type 0 where
  pub members : Members
  pub document : IsDocument bytes members
  pub refused : refusal (table members) ≡ Some (reason, entry)

-- the bytes are a document that is refused for nothing, and spell the topology
pub record IsTopologyText (bytes : List ℕ) (t : Topology) : Type 0 where
  pub members : Members
  pub document : IsDocument bytes members
  pub accepted : refusal (table members) ≡ None
  pub spelled : Spells (table members) t

-- what is answered of bytes: their topology or their refusal, unless memory was wanting
abbrev pub Reads : List ℕ → Result Topology TopoBad → Type 0
Reads bytes (Ok t) = IsTopologyText bytes t
Reads bytes (Err bad.Toml) = IsNoDocument bytes
Reads bytes (Err (bad.At reason entry)) = IsRefused bytes reason entry
Reads bytes (Err bad.NoMemory) = Unit {0}
