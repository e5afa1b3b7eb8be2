-- A map of labels as a function.
use Rattle.std.specs.Prelude.{ℕ, List, Option, Some, None, if◌then◌else◌}
use Rattle.std.specs.HashMap.{get_by}
use Rattle.std.specs.Option.{option_or}
use Rattle.std.specs.Str.{bytes_eq}
use Rattle.rv32_asm.specs.declared.labels.Labels.{Labels}

-- the address that a map of labels has for a label
abbrev pub place_in : Labels → List ℕ → Option ℕ
place_in labels name = get_by (λ key. bytes_eq name key.items) labels.places

-- the labels with one more, which means its first place
abbrev pub with_place : (place : List ℕ → Option ℕ) → List ℕ → ℕ → List ℕ → Option ℕ
with_place place label address name = option_or (place name) (if bytes_eq name label then Some address else None)
