-- The keys of a topology file: what each is called, what its value must be, and what it means where it is absent.
use Rattle.std.specs.Prelude.{ℕ, ◌*◌, ◌^◌, List, [], ◌∷◌, codes}
use Rattle.topology_file.specs.declared.form.Form.{Form}
use Rattle.topology_file.specs.declared.form.Form.TheVariants.{Whole, Fours, Text, FileName, Mac, Individual, Entries, SomeEntries}
use Rattle.topology_file.specs.declared.form.Form.TheVariants as form
use Rattle.topology_file.specs.declared.form.Absent.{Absent}
use Rattle.topology_file.specs.declared.form.Absent.TheVariants.{Fault, Number, Usual}
use Rattle.topology_file.specs.declared.form.Kind.{Kind}
use Rattle.topology_file.specs.declared.form.Kind.TheVariants as kind
use Rattle.topology_file.specs.declared.key.Key.{Key}
use Rattle.topology_file.specs.declared.key.Key.TheVariants as key

pub record Row : Type 0 where
  pub text : List ℕ
  pub form : Form
  pub absent : Absent

abbrev required : List ℕ → Form → Row
required text form = record { text = text; form = form; absent = Fault }

abbrev optional : List ℕ → Form → ℕ → Row
optional text form default = record { text = text; form = form; absent = Number default }

abbrev usual : List ℕ → Form → Row
usual text form = record { text = text; form = form; absent = Usual }

abbrev pub row : Key → Row
-- of the document
row key.Version = optional (codes "version") (Whole 1 1) 1
row key.End = required (codes "end") (Whole 1 (10 ^ 15))
row key.Components = required (codes "component") SomeEntries
row key.Links = usual (codes "link") Entries
-- of each component
row key.Name = required (codes "name") form.Name
row key.Kind = required (codes "kind") form.Kind
-- of a beacon; a missing `to` is the broadcast address
row key.First = optional (codes "first") (Whole 0 (10 ^ 15)) 0
row key.Period = optional (codes "period") (Whole 1 (10 ^ 15)) 1000000
row key.Count = required (codes "count") (Whole 0 (10 ^ 9))
row key.Length = optional (codes "length") (Whole 14 1514) 60
row key.To = usual (codes "to") Mac
row key.From = required (codes "from") Individual
-- of a switch; the usual age is 300 s
row key.Ports = required (codes "ports") (Whole 0 32)
row key.Age = optional (codes "age") (Whole 1 (10 ^ 15)) (3 * 10 ^ 14)
-- of a memory device
row key.Size = required (codes "size") (Whole 1 16777216)
-- of a host
row key.Ram = required (codes "ram") (Fours 65536 16777216)
row key.Cycle = optional (codes "cycle") (Whole 1 (10 ^ 9)) 10000
row key.Pcie = optional (codes "pcie") (Whole 0 32) 0
row key.Mem = optional (codes "mem") (Whole 0 32) 0
row key.Hart = optional (codes "hart") (Whole 0 4294967295) 0
row key.Image = required (codes "image") FileName
-- of a network adapter
row key.Mac = required (codes "mac") Individual
-- of a link; a missing interval is the latency, a missing `via` is by queue
row key.A = required (codes "a") Text
row key.APort = optional (codes "a_port") (Whole 0 31) 0
row key.B = required (codes "b") Text
row key.BPort = optional (codes "b_port") (Whole 0 31) 0
row key.Latency = required (codes "latency") (Whole 1 (10 ^ 12))
row key.Interval = usual (codes "interval") (Whole 1 (10 ^ 12))
row key.Slots = optional (codes "slots") (Whole 1 1024) 64
row key.Via = usual (codes "via") form.Via

-- the keys that an entry may have
abbrev pub top_keys : List Key
top_keys = key.Version ∷ key.End ∷ key.Components ∷ key.Links ∷ []

abbrev pub component_keys : Kind → List Key
component_keys kind.Beacon = key.Name ∷ key.Kind ∷ key.First ∷ key.Period ∷ key.Count ∷ key.Length ∷ key.To ∷ key.From ∷ []
component_keys kind.Switch = key.Name ∷ key.Kind ∷ key.Ports ∷ key.Age ∷ []
component_keys kind.Memory = key.Name ∷ key.Kind ∷ key.Size ∷ []
component_keys kind.Host = key.Name ∷ key.Kind ∷ key.Ram ∷ key.Cycle ∷ key.Pcie ∷ key.Mem ∷ key.Hart ∷ key.Image ∷ []
component_keys kind.Nic = key.Name ∷ key.Kind ∷ key.Mac ∷ []

abbrev pub link_keys : List Key
link_keys = key.A ∷ key.APort ∷ key.B ∷ key.BPort ∷ key.Latency ∷ key.Interval ∷ key.Slots ∷ key.Via ∷ []
