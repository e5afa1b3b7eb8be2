-- A carrier keeps the laws of both ends.
use Rattle.std.specs.Prelude.{◌≡◌, List, [], ◌∷◌, ◌++◌}
use Rattle.sb_message.specs.declared.message.Msg.{Msg}
use Rattle.sb_message.specs.Stream.{IsStream}
use Rattle.port_queue.specs.PlainLaws as queue
use Rattle.framed_channel.specs.EndLaws as channel
use Rattle.mesh_channel.specs.declared.carrier.Carrier.{Carrier}
use Rattle.mesh_channel.specs.declared.carrier.Carrier.TheVariants.{Direct, Framed}
use Rattle.mesh_channel.specs.Carrier.{kind_sent, kind_received, Pushes, Refuses, Pops, Empties}
use Rattle.mesh_channel.specs.Standing.{StandsSent, StandsReceived}

pub push_adds : (a b : Carrier) (m : Msg) (sent : List Msg) → Pushes a m b → StandsSent a sent → IsStream (kind_sent a) (sent ++ m ∷ []) → StandsSent b (sent ++ m ∷ [])
push_adds (Direct a) (Direct b) m sent pushes stands stream = queue.push_adds a b m sent pushes stands stream
push_adds (Direct a) (Framed b) m sent pushes stands stream = absurd pushes
push_adds (Framed a) (Direct b) m sent pushes stands stream = absurd pushes
push_adds (Framed a) (Framed b) m sent pushes stands stream = channel.push_adds a b m sent pushes stands stream

pub push_kind : (a b : Carrier) (m : Msg) → Pushes a m b → kind_sent b ≡ kind_sent a
push_kind (Direct a) (Direct b) m pushes = queue.push_kind a b m pushes
push_kind (Direct a) (Framed b) m pushes = absurd pushes
push_kind (Framed a) (Direct b) m pushes = absurd pushes
push_kind (Framed a) (Framed b) m pushes = channel.push_kind a b m pushes

pub refusal_keeps : (a b : Carrier) (sent : List Msg) → Refuses a b → StandsSent a sent → StandsSent b sent
refusal_keeps (Direct a) (Direct b) sent refuses stands = queue.refusal_keeps a b sent refuses stands
refusal_keeps (Direct a) (Framed b) sent refuses stands = absurd refuses
refusal_keeps (Framed a) (Direct b) sent refuses stands = absurd refuses
refusal_keeps (Framed a) (Framed b) sent refuses stands = channel.refusal_keeps a b sent refuses stands

pub refusal_kind : (a b : Carrier) → Refuses a b → kind_sent b ≡ kind_sent a
refusal_kind (Direct a) (Direct b) refuses = queue.refusal_kind a b refuses
refusal_kind (Direct a) (Framed b) refuses = absurd refuses
refusal_kind (Framed a) (Direct b) refuses = absurd refuses
refusal_kind (Framed a) (Framed b) refuses = channel.refusal_kind a b refuses

pub pop_adds : (a b : Carrier) (m : Msg) (received : List Msg) → Pops a m b → StandsReceived a received → StandsReceived b (received ++ m ∷ [])
pop_adds (Direct a) (Direct b) m received pops stands = queue.pop_adds a b m received pops stands
pop_adds (Direct a) (Framed b) m received pops stands = absurd pops
pop_adds (Framed a) (Direct b) m received pops stands = absurd pops
pop_adds (Framed a) (Framed b) m received pops stands = channel.pop_adds a b m received pops stands

pub pop_streams : (a b : Carrier) (m : Msg) (received : List Msg) → Pops a m b → StandsReceived a received → IsStream (kind_received a) (received ++ m ∷ [])
pop_streams (Direct a) (Direct b) m received pops stands = queue.pop_streams a b m received pops stands
pop_streams (Direct a) (Framed b) m received pops stands = absurd pops
pop_streams (Framed a) (Direct b) m received pops stands = absurd pops
pop_streams (Framed a) (Framed b) m received pops stands = channel.pop_streams a b m received pops stands

pub pop_kind : (a b : Carrier) (m : Msg) → Pops a m b → kind_received b ≡ kind_received a
pop_kind (Direct a) (Direct b) m pops = queue.pop_kind a b m pops
pop_kind (Direct a) (Framed b) m pops = absurd pops
pop_kind (Framed a) (Direct b) m pops = absurd pops
pop_kind (Framed a) (Framed b) m pops = channel.pop_kind a b m pops

pub empty_keeps : (a b : Carrier) (received : List Msg) → Empties a b → StandsReceived a received → StandsReceived b received
empty_keeps (Direct a) (Direct b) received empties stands = queue.empty_keeps a b received empties stands
empty_keeps (Direct a) (Framed b) received empties stands = absurd empties
empty_keeps (Framed a) (Direct b) received empties stands = absurd empties
empty_keeps (Framed a) (Framed b) received empties stands = channel.empty_keeps a b received empties stands

pub empty_kind : (a b : Carrier) → Empties a b → kind_received b ≡ kind_received a
empty_kind (Direct a) (Direct b) empties = queue.empty_kind a b empties
empty_kind (Direct a) (Framed b) empties = absurd empties
empty_kind (Framed a) (Direct b) empties = absurd empties
empty_kind (Framed a) (Framed b) empties = channel.empty_kind a b empties
