-- Switches that answer alike, though their tables may differ in entries that are dead and in the order of the others.
use Rattle.std.specs.Prelude.{ℕ, ◌≡◌, ◌≤◌, List}
use Rattle.device_api.specs.Behaviour.{Reaction}
use Rattle.switch_sim.specs.Table.{SwitchState, lookup, others_live}

-- from a time on all stations are looked up alike, and there is alike room for them
pub record IsAlike (at : ℕ) (s other : SwitchState) : Type 0 where
  pub same_ports : s.ports ≡ other.ports
  pub same_age : s.age ≡ other.age
  pub same_lookups : (t : ℕ) (mac : List ℕ) → at ≤ t → lookup s t mac ≡ lookup other t mac
  pub same_room : (t : ℕ) (mac : List ℕ) → at ≤ t → others_live s t mac ≡ others_live other t mac

-- at `t` the same is sent and logged, and the switches are alike from then on
pub record ReactAlike (t : ℕ) (reaction other : Reaction SwitchState) : Type 0 where
  pub same_sends : reaction.sends ≡ other.sends
  pub same_lines : reaction.lines ≡ other.lines
  pub alike_after : IsAlike t reaction.state other.state
