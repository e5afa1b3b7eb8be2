-- Lists by the numbers of channels, as lists by the ports that send and receive.
use Rattle.std.specs.Prelude.{ℕ, suc, if◌then◌else◌, List, [], ◌∷◌}
use Rattle.cs_base.specs.Plan.{End, same_end}
use Rattle.sb_message.specs.declared.message.Msg.{Msg}
use Rattle.device_api.specs.Channels.{Channel}

-- of lists by channel number, of which the first channel has number k, that of the channel out of a port
unfoldable pub by_sender : List Channel → ℕ → (ℕ → List Msg) → End → List Msg
by_sender [] k lists end = []
by_sender (ch ∷ more) k lists end = if same_end ch.from end then lists k else by_sender more (suc k) lists end

-- and that of the channel into a port
unfoldable pub by_receiver : List Channel → ℕ → (ℕ → List Msg) → End → List Msg
by_receiver [] k lists end = []
by_receiver (ch ∷ more) k lists end = if same_end ch.to end then lists k else by_receiver more (suc k) lists end
