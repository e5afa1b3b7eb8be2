-- The numbers of the ports of a component among the ports out of which channels lead, or among
-- those into which they lead:
-- these are the channels' numbers.
use Rattle.std.specs.Prelude.{ℕ, ◌≡◌, ◌<◌, List, length, slice_get, Some}
use Rattle.mesh_core.specs.declared.way.Seat.{Seat}

abbrev pub seat : ℕ → ℕ → Seat
seat component port = record { component = component; port = port }

pub record HasNumber (seats : List Seat) (one : Seat) : Type 0 where
  pub number : ℕ
  pub there : slice_get seats number ≡ Some one

-- each of so many ports of a component has a number
pub record HaveNumbers (seats : List Seat) (component ports : ℕ) : Type 0 where
  pub each : (port : ℕ) → port < ports → HasNumber seats (seat component port)

-- the numbers of so many ports of a component, by port
pub record AreNumbers (seats : List Seat) (component ports : ℕ) (numbers : List ℕ) : Type 0 where
  pub as_many : length numbers ≡ ports
  pub each : (port number : ℕ) → slice_get numbers port ≡ Some number
      → slice_get seats number ≡ Some (seat component port)
