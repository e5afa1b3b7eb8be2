-- What a device's calls leave.
use Rattle.std.specs.Prelude.{◌≡◌, ◌++◌}
use Rattle.device_api.specs.Behaviour.{Reaction, SendsAndLines}

-- the state is that of a reaction, whose sends and lines come after those that stood there before
pub record Gives {S : Type 0} (r : Reaction S) (state : S) (before after : SendsAndLines) : Type 0 where
  pub state_is : state ≡ r.state
  pub sends_are : after.sends ≡ before.sends ++ r.sends
  pub lines_are : after.lines ≡ before.lines ++ r.lines
