-- Bytes that are no topology text, and the line that says why.
use Rattle.std.specs.Prelude.{ℕ, ◌≡◌, ◌⊎◌, List}
use Rattle.topology_file.specs.Reading.{IsNoDocument, IsRefused}
use Rattle.topology_file.specs.declared.reason.TopoReason.{TopoReason}
use Rattle.topology_file.specs.declared.reason.Entry.{Entry}
use Rattle.cosim_cmd.specs.Lines.{topology_line, toml_line}

-- the bytes are a document that is refused, and the line says for what and where
pub record IsRefusedWith (bytes line : List ℕ) : Type 0 where
  pub reason : TopoReason
  pub entry : Entry
  pub refused : IsRefused bytes reason entry
  pub named : line ≡ topology_line reason entry

-- the bytes are no TOML document, and the line says so
pub record IsNoDocumentWith (bytes line : List ℕ) : Type 0 where
  pub no_document : IsNoDocument bytes
  pub named : line ≡ toml_line

abbrev pub IsNoTopology : List ℕ → List ℕ → Type 0
IsNoTopology bytes line = IsRefusedWith bytes line ⊎ IsNoDocumentWith bytes line
