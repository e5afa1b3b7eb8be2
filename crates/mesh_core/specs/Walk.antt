-- Steps of a mesh, one after another.
use Rattle.std.specs.Prelude.{ℕ, ◌≡◌, ◌+◌, ◌<◌, Bool, true, false, List}
use Rattle.cs_base.specs.declared.link.Link.{Link}
use Rattle.device_api.specs.Behaviour.{Behaviour}
use Rattle.run_steps.specs.declared.step.Step.{Step}
use Rattle.run_steps.specs.declared.step.Step.TheVariants.{Event, Send, Poll, Take, Move, Put}
use Rattle.mesh_core.specs.declared.serial.Awake.{Awake}
use Rattle.mesh_core.specs.declared.serial.Awake.TheVariants.{Everyone, Those}
use Rattle.mesh_core.specs.State.{State}
use Rattle.mesh_core.specs.Steps.{Leads, Enables, counted}
use Rattle.mesh_core.specs.MeshOf.{IsMeshOf}
use Rattle.mesh_core.specs.ToCome.{steps_to_come, IsOver}

-- everyone has a turn
abbrev pub is_everyone : Awake → Bool
is_everyone Everyone = true
is_everyone (Those bits) = false

-- so many steps were made, each of which was enabled where it was made; a move counts as many as the bytes that move
pub data Walk {V : Type 0} (b : Behaviour V) (old : State V) : ℕ → State V → Type 0 where
  none_made : Walk b old 0 old
  one_more : (n : ℕ) (mid new : State V) (step : Step) → Walk b old n mid → Leads b step mid new → Walk b old (n + counted step) new

-- a mesh of a system of which n steps less are to come
pub record IsLessBy {V : Type 0} (b : Behaviour V) (settled : V → ℕ → Type 0) (starts : List V) (links : List Link) (end : ℕ) (to_come n : ℕ) (mesh : State V) : Type 0 where
  pub of : IsMeshOf b settled starts links end mesh
  pub less : to_come ≡ steps_to_come of + n

-- so many steps lead to such a mesh
abbrev pub WalksLowerIt : {V : Type 0} → Behaviour V → (V → ℕ → Type 0) → Type 0
WalksLowerIt {V} b settled = (starts : List V) (links : List Link) (end : ℕ) (old new : State V) (n : ℕ) → (of : IsMeshOf b settled starts links end old) → Walk b old n new → IsLessBy b settled starts links end (steps_to_come of) n new

-- enabled steps were made until all was processed and received
pub record WentToTheEnd {V : Type 0} (b : Behaviour V) (old new : State V) : Type 0 where
  pub steps : ℕ
  pub walk : Walk b old steps new
  pub over : IsOver b new

-- some steps were made, or none and nothing changed
pub record Went {V : Type 0} (b : Behaviour V) (old new : State V) (moved : Bool) : Type 0 where
  pub steps : ℕ
  pub walk : Walk b old steps new
  pub some : moved ≡ true → 0 < steps
  pub none : moved ≡ false → new ≡ old

abbrev pub IsRefusedIn : {V : Type 0} → Behaviour V → State V → Step → Type 0
IsRefusedIn {V} b mesh step = Enables b step mesh → ⊥

-- the steps between the ends of a channel
abbrev pub IsBetween : ℕ → Step → Type 0
IsBetween k (Event c) = ⊥
IsBetween k (Send j) = ⊥
IsBetween k (Poll j) = ⊥
IsBetween k (Take j) = j ≡ k
IsBetween k (Move j n) = j ≡ k
IsBetween k (Put j) = j ≡ k

-- where nothing moved though everyone was awake, a component's event was not enabled, nor any step on a channel
pub record RunsOn {V : Type 0} (b : Behaviour V) (awake : Awake) (c : ℕ) (old new : State V) (moved : Bool) : Type 0 where
  pub went : Went b old new moved
  pub idle : moved ≡ false → is_everyone awake ≡ true → IsRefusedIn b old (Event c)

-- the bytes of a channel were moved, or none are there
pub record MovesAll {V : Type 0} (b : Behaviour V) (k : ℕ) (old new : State V) (moved : Bool) : Type 0 where
  pub went : Went b old new moved
  pub none : moved ≡ false → (n : ℕ) → IsRefusedIn b old (Move k n)

-- what is between the ends of a channel went on, or none of it may
pub record PassesOn {V : Type 0} (b : Behaviour V) (k : ℕ) (old new : State V) (moved : Bool) : Type 0 where
  pub went : Went b old new moved
  pub idle : moved ≡ false → (step : Step) → IsBetween k step → IsRefusedIn b old step

pub record Carries {V : Type 0} (b : Behaviour V) (awake : Awake) (k : ℕ) (old new : State V) (moved : Bool) : Type 0 where
  pub went : Went b old new moved
  pub no_send : moved ≡ false → is_everyone awake ≡ true → IsRefusedIn b old (Send k)
  pub no_poll : moved ≡ false → is_everyone awake ≡ true → IsRefusedIn b old (Poll k)
  pub no_more : moved ≡ false → is_everyone awake ≡ true → (step : Step) → IsBetween k step → IsRefusedIn b old step

-- the same of all components and channels below a number
pub record RunsEach {V : Type 0} (b : Behaviour V) (awake : Awake) (n : ℕ) (old new : State V) (moved : Bool) : Type 0 where
  pub went : Went b old new moved
  pub idle : moved ≡ false → is_everyone awake ≡ true → (c : ℕ) → c < n → IsRefusedIn b old (Event c)

pub record CarriesEach {V : Type 0} (b : Behaviour V) (awake : Awake) (n : ℕ) (old new : State V) (moved : Bool) : Type 0 where
  pub went : Went b old new moved
  pub no_send : moved ≡ false → is_everyone awake ≡ true → (k : ℕ) → k < n → IsRefusedIn b old (Send k)
  pub no_poll : moved ≡ false → is_everyone awake ≡ true → (k : ℕ) → k < n → IsRefusedIn b old (Poll k)
  pub no_more : moved ≡ false → is_everyone awake ≡ true → (k : ℕ) → k < n → (step : Step) → IsBetween k step → IsRefusedIn b old step

-- a round: where nothing moved though everyone was awake, no step is enabled
pub record Rounds {V : Type 0} (b : Behaviour V) (awake : Awake) (old new : State V) (moved : Bool) : Type 0 where
  pub went : Went b old new moved
  pub at_rest : moved ≡ false → is_everyone awake ≡ true → (step : Step) → IsRefusedIn b old step
