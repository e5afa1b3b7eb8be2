-- How many steps of a mesh are to come, where no more is known than that it is a mesh of some system.
use Rattle.std.proofs.Common.{◌≡◌, ℕ, List, refl, sym, ◌∙◌}
use Rattle.std.proofs.Math.Logic.{∥∥₁_elim, ∥∥₁_prop}
use mathlib.Core.HLevel.{Σ_prop_path}
use base.Stored.{Coded-set, coded_ℕ}
use Rattle.cs_base.specs.declared.link.Link.{Link}
use Rattle.device_api.specs.Behaviour.{Behaviour, IsLawful}
use Rattle.mesh_core.specs.State.{State}
use Rattle.mesh_core.specs.MeshOf.{IsMesh, IsMeshOf}
use Rattle.mesh_core.specs.ToCome.{steps_to_come}
use Rattle.mesh_core.proofs.Falling.{one_number}

-- a system of which it is a mesh, and of which n steps are to come
record HasToCome {V : Type 0} (b : Behaviour V) (settled : V → ℕ → Type 0) (mesh : State V) (n : ℕ) : Type 0 where
  starts : List V
  links : List Link
  end : ℕ
  of : IsMeshOf b settled starts links end mesh
  is : steps_to_come of ≡ n

module _ {V : Type 0} (b : Behaviour V) (settled : V → ℕ → Type 0) (lawful : IsLawful b settled) (mesh : State V) where
  abbrev Number : Type 0
  Number = (n : ℕ) × ∥ HasToCome b settled mesh n ∥₁

  one_only : (x y : Number) → x ≡ y
  one_only x y = Σ_prop_path (λ n. ∥∥₁_prop) (∥∥₁_elim x.1 (Coded-set coded_ℕ x.0 y.0) (λ h. ∥∥₁_elim y.1 (Coded-set coded_ℕ x.0 y.0) (λ k. sym h.is ∙ one_number b settled lawful mesh h.starts k.starts h.links k.links h.end k.end h.of k.of ∙ k.is)))

  some_number : IsMesh b settled mesh → Number
  some_number is = (steps_to_come is.3, ∣ record { starts = is.0; links = is.1; end = is.2; of = is.3; is = refl } ∣₁)

  pub number_of : ∥ IsMesh b settled mesh ∥₁ → ℕ
  number_of known = (∥∥₁_elim known one_only some_number).0

  pub number_is : (known : ∥ IsMesh b settled mesh ∥₁) (starts : List V) (links : List Link) (end : ℕ) (of : IsMeshOf b settled starts links end mesh) → number_of known ≡ steps_to_come of
  unfolding number_of
  number_is known starts links end of = ∥∥₁_elim number.1 (Coded-set coded_ℕ number.0 (steps_to_come of)) (λ h. sym h.is ∙ one_number b settled lawful mesh h.starts starts h.links links h.end end h.of of)
    where
      number : Number
      number = ∥∥₁_elim known one_only some_number
