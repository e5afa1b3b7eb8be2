-- A refusal that is handed on.
use Rattle.std.proofs.Common.{◌≡◌, ℕ, List, Option, Some, None, Result, Ok, Err, refl}
use Rattle.toml.specs.Data.{Members, table}
use Rattle.topology_file.specs.declared.topology.Topology.{Topology}
use Rattle.topology_file.specs.declared.reason.TopoReason.{TopoReason}
use Rattle.topology_file.specs.declared.reason.Entry.{Entry}
use Rattle.topology_file.specs.declared.reason.TopoBad.{TopoBad}
use Rattle.topology_file.specs.declared.reason.TopoBad.TheVariants as bad
use Rattle.topology_file.specs.Refusals.{Refusal, at_entry, refusal}
use Rattle.topology_file.specs.Spelled.{Spells}
use Rattle.topology_file.specs.Reading.{Refuses, Gives, IsDocument, Reads}

-- what refuses a part refuses the whole
pub refuses_all : (part whole : Option Refusal) (bad : TopoBad) → ((refused : Refusal) → part ≡ Some refused → whole ≡ Some refused) → Refuses part bad → Refuses whole bad
refuses_all part whole bad.Toml handed refuses = refuses
refuses_all part whole (bad.At reason entry) handed refuses = handed (reason, entry) refuses
refuses_all part whole bad.NoMemory handed refuses = tt

pub at_entry_none : (entry : Entry) (fault : Option TopoReason) → at_entry entry fault ≡ None → fault ≡ None
at_entry_none entry None none = refl
at_entry_none entry (Some reason) none = cc

-- the members of a document, and what they say
pub reads_document : (bytes : List ℕ) (members : Members) → IsDocument bytes members → (answer : Result Topology TopoBad) → Gives (refusal (table members)) (Spells (table members)) answer → Reads bytes answer
reads_document bytes said document (Ok t) gives = record { members = said; document = document; accepted = gives.0; spelled = gives.1 }
reads_document bytes said document (Err bad.Toml) gives = absurd gives
reads_document bytes said document (Err (bad.At reason entry)) gives = record { members = said; document = document; refused = gives }
reads_document bytes said document (Err bad.NoMemory) gives = tt
