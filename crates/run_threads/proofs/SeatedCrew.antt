-- The parts of a crew of a system are seated.
use Rattle.std.proofs.Common.{◌≡◌, ℕ, ◌<◌, List, length, map, Some, refl, sym, ap, ◌∙◌, subst, arith}
use Rattle.std.specs.Prelude.{slice_get}
use Rattle.std.proofs.lemmas.Option.{same_Some, slice_get_within}
use Rattle.atomic_table.specs.Seated.{TableId}
use Rattle.cs_base.specs.declared.link.Link.{Link}
use Rattle.cs_base.specs.Plan.{End}
use Rattle.device_api.specs.Behaviour.{Behaviour}
use Rattle.device_api.specs.Channels.{Channel, channels}
use Rattle.device_api.specs.World.{Network}
use Rattle.global_model.specs.Step.{network}
use Rattle.mesh_core.specs.declared.way.Seat.{Seat}
use Rattle.mesh_core.specs.State.{seat_of}
use Rattle.run_laws.proofs.Channels.{IsOwned, owned, channel_joined}
use Rattle.run_laws.proofs.Lists.{there_below}
use Rattle.sync_laws.proofs.Changed.{mapped_at}
use Rattle.worker_rounds.specs.Rounds.{Work}
use Rattle.run_threads.specs.declared.part.Part.{Part}
use Rattle.run_threads.specs.CrewOf.{part_at, IsPartOf, IsCrewOf}
use Rattle.run_threads.specs.Numbers.{seat, HasNumber}
use Rattle.run_threads.specs.Parting.{txs_of, rxs_of, departures_of, arrivals_of}
use Rattle.run_threads.specs.Seating.{tx_name, rx_name, HasEnd, HasChannel, IsSeated}
use Rattle.run_threads.proofs.Seatings.{within_components}
use Rattle.run_threads.proofs.Wires.{have_froms, have_tos}

pub channel_of : (side : Channel → End) (links : List Link) (c p : ℕ) → HasNumber (map (λ (ch : Channel). seat_of (side ch)) (channels links)) (seat c p) → HasChannel side links c p
channel_of side links c p has =
    let found = mapped_at (λ (ch : Channel). seat_of (side ch)) (channels links) (map (λ (ch : Channel). seat_of (side ch)) (channels links)) has.number (seat c p) refl has.there in
    record { number = has.number; channel = found.0; at_number = found.1; component_is = ap (λ (s : Seat). s.component) found.2; port_is = ap (λ (s : Seat). s.port) found.2 }

module _ {V : Type 0} (b : Behaviour V) (settled : V → ℕ → Type 0) (starts : List V) (links : List Link) (end : ℕ) (near far : List TableId) (workers : List (Work (Part V))) (of : IsCrewOf b settled starts links end near far workers) where
  abbrev net : Network V
  net = network b starts links

  record IsPartHere (c : ℕ) (part : Part V) : Type 0 where
    start : V
    at_start : slice_get starts c ≡ Some start
    is : IsPartOf b settled links end near far c start part

  part_here : (c : ℕ) (part : Part V) → part_at workers c ≡ Some part → IsPartHere c part
  part_here c part there =
      let start = there_below starts c (within_components workers of.some_worker (length starts) of.dealt c part there) in
      let has = of.parts c start.0 start.1 in
      record { start = start.0; at_start = start.1; is = subst (IsPartOf b settled links end near far c start.0) (same_Some has.part part (sym has.there ∙ there)) has.is }

  sends : (k : ℕ) (ch : Channel) → slice_get (channels links) k ≡ Some ch → HasEnd txs_of departures_of tx_name near workers ch.from k
  sends k ch at =
      let own : IsOwned net ch.from = owned net ch.from (channel_joined net of.wired k ch at).at_sender in
      let has = of.parts ch.from.component own.start own.owner in
      let port : ch.from.port < length has.part.driver.txs.items = (let many : length has.part.driver.txs.items ≡ length (b.ports own.start) = has.is.stands.out.as_many in let within : ch.from.port < length (b.ports own.start) = slice_get_within (b.ports own.start) ch.from.port own.kind own.there in omega arith) in
      let one = there_below has.part.driver.txs.items ch.from.port port in
      record { part = has.part; there = has.there; one = one.0; here = one.1; numbered = has.is.departs k ch at refl; named = has.is.sends_on k ch one.0 at refl one.1 }

  receives : (k : ℕ) (ch : Channel) → slice_get (channels links) k ≡ Some ch → HasEnd rxs_of arrivals_of rx_name far workers ch.to k
  receives k ch at =
      let own : IsOwned net ch.to = owned net ch.to (channel_joined net of.wired k ch at).at_receiver in
      let has = of.parts ch.to.component own.start own.owner in
      let port : ch.to.port < length has.part.driver.rxs.items = (let many : length has.part.driver.rxs.items ≡ length (b.ports own.start) = has.is.stands.into.as_many in let within : ch.to.port < length (b.ports own.start) = slice_get_within (b.ports own.start) ch.to.port own.kind own.there in omega arith) in
      let one = there_below has.part.driver.rxs.items ch.to.port port in
      record { part = has.part; there = has.there; one = one.0; here = one.1; numbered = has.is.arrives k ch at refl; named = has.is.receives_on k ch one.0 at refl one.1 }

  from_channel : (c p : ℕ) (part : Part V) → part_at workers c ≡ Some part → p < length (txs_of part) → HasChannel (λ (ch : Channel). ch.from) links c p
  from_channel c p part there below =
      let here = part_here c part there in
      let within : p < length (b.ports here.start) = (let many : length part.driver.txs.items ≡ length (b.ports here.start) = here.is.stands.out.as_many in omega arith) in
      channel_of (λ (ch : Channel). ch.from) links c p ((have_froms b starts links end of.wired c here.start here.at_start).each p within)

  to_channel : (c p : ℕ) (part : Part V) → part_at workers c ≡ Some part → p < length (rxs_of part) → HasChannel (λ (ch : Channel). ch.to) links c p
  to_channel c p part there below =
      let here = part_here c part there in
      let within : p < length (b.ports here.start) = (let many : length part.driver.rxs.items ≡ length (b.ports here.start) = here.is.stands.into.as_many in omega arith) in
      channel_of (λ (ch : Channel). ch.to) links c p ((have_tos b starts links end of.wired c here.start here.at_start).each p within)

  pub crew_seated : IsSeated (length starts) links near far workers
  crew_seated = record {
    some_worker = of.some_worker;
    each = λ c below. (let start = there_below starts c below in let has = of.parts c start.0 start.1 in (has.part, has.there));
    no_other = of.dealt;
    sending = record { of_channel = sends; of_part = from_channel };
    receiving = record { of_channel = receives; of_part = to_channel };
  }
