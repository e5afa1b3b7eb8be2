-- Runners that are made one after another.
use Rattle.std.specs.Prelude.{◌≡◌, List, ◌++◌, reverse, ℕ}
use Rattle.cs_base.specs.declared.link.Link.{Link}
use Rattle.device_api.specs.Behaviour.{Behaviour}
use Rattle.sync_rule.specs.declared.runner.Runner.{Runner}
use Rattle.mesh_core.specs.Start.{first_runners}

-- the runners of the first devices are made; those that are left stand in turned order
pub record IsBuilding {V : Type 0} (b : Behaviour V) (links : List Link) (end : ℕ) (all : List V) (runners : List (Runner V)) (left : List V) : Type 0 where
  pub done : List V
  pub whole : done ++ reverse left ≡ all
  pub built : runners ≡ first_runners b links end done
