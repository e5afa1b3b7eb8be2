-- A frame arrives: it is dropped, or it waits in the queue.
use Rattle.std.specs.Prelude.{ℕ, not, nat_le, if◌then◌else◌, List, [], ◌∷◌, ◌++◌, length, take, codes}
use Rattle.device_api.specs.Behaviour.{Reaction}
use Rattle.device_api.specs.World.{rest}
use Rattle.nic_regs.specs.Registers.{accepts, raised, rx_on}
use Rattle.nic_8254x.specs.State.{Adapter}

abbrev pub logs : Adapter → List ℕ → Reaction Adapter
logs s line = record { state = s; sends = []; lines = line ∷ [] }

-- the queue has 64 places; where it is full the cause RXO, bit 6, is raised
unfoldable pub arrives : Adapter → List ℕ → Reaction Adapter
arrives s frame =
    if not (rx_on s.regs) then logs s (codes "drop off")
    else if not (accepts s.regs (take 6 frame)) then logs s (codes "drop filter")
    else if nat_le 64 (length s.queue) then logs (record s { regs = raised s.regs 0x40 }) (codes "drop fifo")
    else rest (record s { queue = s.queue ++ frame ∷ [] })
