-- The bytes of an introduction, and why bytes are none.
use Rattle.std.specs.Prelude.{ℕ, ◌≡◌, Bool, not, ◌==◌, nat_lt, List, [], ◌∷◌, length, Option}
use Rattle.cs_base.specs.declared.port_kind.PortKind.{PortKind}
use Rattle.cs_base.specs.declared.port_kind.PortKind.TheVariants.{Eth, PcieDev, PcieHost, MemDev, MemHost}
use Rattle.field_layout.specs.Layout.{Field, Entry, field_at, entry, number_in, is_zero_elsewhere, IsLaidOut, first_fault}
use Rattle.sb_intro.specs.declared.intro.Intro.{Intro}
use Rattle.sb_intro.specs.declared.intro_bad.IntroBad.{IntroBad}
use Rattle.sb_intro.specs.declared.intro_bad.IntroBad.TheVariants.{UnknownType, Version, Kind, LengthDiffers, FieldNotZero}

-- the number of a kind
abbrev pub code_of : PortKind → ℕ
code_of Eth = 0
code_of PcieDev = 1
code_of PcieHost = 2
code_of MemDev = 3
code_of MemHost = 4

-- where the numbers of an introduction stand
abbrev pub version_field : Field
version_field = field_at 0 4

abbrev pub kind_field : Field
kind_field = field_at 4 1

abbrev pub table_of : Intro → List Entry
table_of intro = entry 0 4 intro.version ∷ entry 4 1 (code_of intro.kind) ∷ entry 8 8 intro.latency ∷ entry 16 8 intro.interval ∷ entry 24 8 intro.bar_len ∷ []

-- the fields that a table names
abbrev pub named_fields : List Field
named_fields = version_field ∷ kind_field ∷ field_at 8 8 ∷ field_at 16 8 ∷ field_at 24 8 ∷ []

-- a message of this type, with these fields and this payload, is the introduction
pub record IsSpelled (intro : Intro) (ty : ℕ) (fields payload : List ℕ) : Type 0 where
  pub is_type : ty ≡ 1
  pub laid_out : IsLaidOut 48 (table_of intro) fields
  pub no_payload : payload ≡ []

-- the faults in the order of the numbers of the refusals, each behind its test
abbrev pub faults : ℕ → List ℕ → List ℕ → List (Bool × IntroBad)
faults ty fields payload =
    (not (ty == 1), UnknownType)
    ∷ (not (number_in fields version_field == 1), Version)
    ∷ (nat_lt 4 (number_in fields kind_field), Kind)
    ∷ (not (length payload == 0), LengthDiffers)
    ∷ (not (is_zero_elsewhere named_fields fields), FieldNotZero)
    ∷ []

-- the first fault that is there
abbrev pub refusal : ℕ → List ℕ → List ℕ → Option IntroBad
refusal ty fields payload = first_fault (faults ty fields payload)
