-- A crew that is taken apart: its parts, its runners, and the sides of the queues.
use Rattle.std.proofs.Common.{◌≡◌, ◌≤◌, ◌<◌, ℕ, List, length, map, reverse, Option, Some, option_map, refl, sym, ap, ◌∙◌, subst}
use Rattle.std.specs.Prelude.{slice_get, option_and_then, vec_capacity}
use Rattle.std.proofs.lemmas.List.{length-map, length-reverse, reverse-reverse}
use Rattle.atomic_table.specs.Seated.{TableId}
use Rattle.cs_base.specs.declared.link.Link.{Link}
use Rattle.device_api.specs.Channels.{Channel, channels}
use Rattle.device_api.specs.declared.counts.Count.{Count}
use Rattle.device_api.specs.declared.logs.Line.{Line}
use Rattle.mesh_core.specs.Left.{counts_by_port, counts_along, IsRoomFor}
use Rattle.mesh_core.specs.declared.way.Way.{Way}
use Rattle.mesh_core.specs.State.{way_of}
use Rattle.slot_queue.specs.declared.ends.TxEnd.{TxEnd}
use Rattle.slot_queue.specs.declared.ends.RxEnd.{RxEnd}
use Rattle.slot_queue.specs.Ends.{Sender, Receiver}
use Rattle.sync_laws.proofs.Changed.{get_mapped}
use Rattle.sync_rule.specs.declared.runner.Runner.{Runner}
use Rattle.worker_rounds.specs.Rounds.{Work}
use Rattle.run_threads.specs.declared.closing.Closing.{Closing}
use Rattle.run_threads.specs.declared.part.Part.{Part}
use Rattle.run_threads.specs.Closing.{HasRoomFor}
use Rattle.run_threads.specs.CrewOf.{part_at, sender_at, receiver_at}
use Rattle.run_threads.specs.Leaving.{IsLeft}
use Rattle.run_threads.specs.Parting.{HaveOwnPlaces, AreBack, AreFilled, AreSidesIn, runner_of, txs_of, rxs_of, departures_of, arrivals_of}
use Rattle.run_threads.specs.Seating.{tx_name, rx_name, IsSeated, AreSeats}
use Rattle.run_threads.proofs.Collected.{Collected}
use Rattle.run_threads.proofs.Seatings.{IsTable, table_of, within_components, are_spread, own_places, are_filled, side_there, many_sides, side_named}

length_turned : {X : Type 0} (xs ys : List X) → reverse xs ≡ ys → length xs ≡ length ys
length_turned xs ys is = sym (length-reverse xs) ∙ ap length is

module _ {V : Type 0} (components : ℕ) (links : List Link) (near far : List TableId) (workers : List (Work (Part V))) (closing : Closing V) (seated : IsSeated components links near far workers) (room : HasRoomFor components links closing) where
  table : IsTable (part_at workers) components
  table = table_of (part_at workers) components seated.each

  within : (c : ℕ) (part : Part V) → part_at workers c ≡ Some part → c < components
  within = within_components workers seated.some_worker components seated.no_other

  pub for_parts : closing.components ≤ vec_capacity closing.parts
  for_parts = subst (λ n. n ≤ vec_capacity closing.parts) (sym room.components_are) room.for_parts

  module _ (parts : List (Part V)) (collected : Collected closing.components workers parts) where
    parts_are : parts ≡ reverse table.all
    parts_are = collected table.all (table.as_many ∙ sym room.components_are) (are_spread workers seated.some_worker components seated.no_other table)

    all_is : reverse parts ≡ table.all
    all_is = ap reverse parts_are ∙ reverse-reverse table.all

    many_parts : length parts ≡ components
    many_parts = length_turned parts table.all all_is ∙ table.as_many

    pub room_for_runners : length parts ≤ vec_capacity closing.runners
    room_for_runners = subst (λ n. n ≤ vec_capacity closing.runners) (sym many_parts) room.for_runners

    pub own_departures : (bound : ℕ) → bound ≡ length closing.senders.items → HaveOwnPlaces departures_of txs_of bound (reverse parts)
    own_departures bound is = subst (HaveOwnPlaces departures_of txs_of bound) (sym all_is) (own_places txs_of departures_of tx_name (λ (ch : Channel). ch.from) links near workers seated.sending components table bound (is ∙ room.slots_to_send))

    pub own_arrivals : (bound : ℕ) → bound ≡ length closing.receivers.items → HaveOwnPlaces arrivals_of rxs_of bound (reverse parts)
    own_arrivals bound is = subst (HaveOwnPlaces arrivals_of rxs_of bound) (sym all_is) (own_places rxs_of arrivals_of rx_name (λ (ch : Channel). ch.to) links far workers seated.receiving components table bound (is ∙ room.slots_to_receive))

    module _ (senders : List (Option TxEnd)) (sending : AreBack departures_of txs_of (reverse parts) senders) (to_send : length senders ≡ length closing.senders.items) where
      sent_back : AreBack departures_of txs_of table.all senders
      sent_back = subst (λ l. AreBack departures_of txs_of l senders) all_is sending

      pub senders_filled : AreFilled senders
      senders_filled = are_filled txs_of departures_of tx_name (λ (ch : Channel). ch.from) links near workers seated.sending components table within senders sent_back (to_send ∙ room.slots_to_send)

      pub room_for_producers : length senders ≤ vec_capacity closing.producers
      room_for_producers = subst (λ n. n ≤ vec_capacity closing.producers) (sym (to_send ∙ room.slots_to_send)) room.for_producers

      module _ (producers : List Sender) (seats : AreSidesIn (λ (end : TxEnd). end.seat) senders producers) where
        producer_there : (k : ℕ) (ch : Channel) → slice_get (channels links) k ≡ Some ch → slice_get producers k ≡ sender_at workers ch.from
        producer_there k ch at =
            let end = seated.sending.of_channel k ch at in
            side_there txs_of departures_of tx_name (λ (x : Channel). x.from) links near workers seated.sending components table within senders sent_back (λ (e : TxEnd). e.seat) producers seats k ch at ∙ sym (ap (λ (o : Option (Part V)). option_and_then (λ part. option_map (λ (e : TxEnd). e.seat) (slice_get part.driver.txs.items ch.from.port)) o) end.there ∙ ap (option_map (λ (e : TxEnd). e.seat)) end.here)

        pub producer_each : length producers ≡ length (channels links)
        producer_each = many_sides txs_of departures_of tx_name (λ (x : Channel). x.from) links near workers seated.sending components table within senders sent_back (λ (e : TxEnd). e.seat) producers seats (to_send ∙ room.slots_to_send)

        producer_named : (k : ℕ) (one : Sender) → slice_get producers k ≡ Some one → slice_get near k ≡ Some one.queue
        producer_named k one at = side_named txs_of departures_of tx_name (λ (x : Channel). x.from) links near workers seated.sending components table within senders sent_back (λ (e : TxEnd). e.seat) producers seats (λ (s : Sender). s.queue) (λ e. refl) (to_send ∙ room.slots_to_send) k one at

    module _ (receivers : List (Option RxEnd)) (receiving : AreBack arrivals_of rxs_of (reverse parts) receivers) (to_receive : length receivers ≡ length closing.receivers.items) where
      received_back : AreBack arrivals_of rxs_of table.all receivers
      received_back = subst (λ l. AreBack arrivals_of rxs_of l receivers) all_is receiving

      pub receivers_filled : AreFilled receivers
      receivers_filled = are_filled rxs_of arrivals_of rx_name (λ (ch : Channel). ch.to) links far workers seated.receiving components table within receivers received_back (to_receive ∙ room.slots_to_receive)

      pub room_for_consumers : length receivers ≤ vec_capacity closing.consumers
      room_for_consumers = subst (λ n. n ≤ vec_capacity closing.consumers) (sym (to_receive ∙ room.slots_to_receive)) room.for_consumers

      module _ (consumers : List Receiver) (seats : AreSidesIn (λ (end : RxEnd). end.seat) receivers consumers) where
        consumer_there : (k : ℕ) (ch : Channel) → slice_get (channels links) k ≡ Some ch → slice_get consumers k ≡ receiver_at workers ch.to
        consumer_there k ch at =
            let end = seated.receiving.of_channel k ch at in
            side_there rxs_of arrivals_of rx_name (λ (x : Channel). x.to) links far workers seated.receiving components table within receivers received_back (λ (e : RxEnd). e.seat) consumers seats k ch at ∙ sym (ap (λ (o : Option (Part V)). option_and_then (λ part. option_map (λ (e : RxEnd). e.seat) (slice_get part.driver.rxs.items ch.to.port)) o) end.there ∙ ap (option_map (λ (e : RxEnd). e.seat)) end.here)

        pub consumer_each : length consumers ≡ length (channels links)
        consumer_each = many_sides rxs_of arrivals_of rx_name (λ (x : Channel). x.to) links far workers seated.receiving components table within receivers received_back (λ (e : RxEnd). e.seat) consumers seats (to_receive ∙ room.slots_to_receive)

        consumer_named : (k : ℕ) (one : Receiver) → slice_get consumers k ≡ Some one → slice_get far k ≡ Some one.queue
        consumer_named k one at = side_named rxs_of arrivals_of rx_name (λ (x : Channel). x.to) links far workers seated.receiving components table within receivers received_back (λ (e : RxEnd). e.seat) consumers seats (λ (s : Receiver). s.queue) (λ e. refl) (to_receive ∙ room.slots_to_receive) k one at

    module _ (runners : List (Runner V)) (runners_are : runners ≡ map runner_of (reverse parts)) where
      runners_so : runners ≡ map runner_of table.all
      runners_so = runners_are ∙ ap (map runner_of) all_is

      many_runners : length runners ≡ components
      many_runners = ap length runners_so ∙ length-map table.all runner_of ∙ table.as_many

      runner_there : (c : ℕ) → c < components → slice_get runners c ≡ option_map (λ (part : Part V). part.driver.runner) (part_at workers c)
      runner_there c below = (let has = seated.each c below in ap (λ l. slice_get l c) runners_so ∙ get_mapped runner_of table.all c has.0 (table.each c below ∙ has.1) ∙ sym (ap (option_map (λ (part : Part V). part.driver.runner)) has.1))

      pub room_for_outcome : (ways : List Way) → ways ≡ closing.ways.items → IsRoomFor (length runners) (length ways) closing.room
      room_for_outcome ways is = subst (λ k. IsRoomFor k (length ways) closing.room) (sym many_runners) (subst (λ k. IsRoomFor components k closing.room) (sym (ap length (is ∙ room.ways_are) ∙ length-map (channels links) way_of)) room.for_outcome)

      -- WHAT IS LEFT

      module _ (senders : List (Option TxEnd)) (sending : AreBack departures_of txs_of (reverse parts) senders) (to_send : length senders ≡ length closing.senders.items) (receivers : List (Option RxEnd)) (receiving : AreBack arrivals_of rxs_of (reverse parts) receivers) (to_receive : length receivers ≡ length closing.receivers.items) (producers : List Sender) (outs : AreSidesIn (λ (end : TxEnd). end.seat) senders producers) (consumers : List Receiver) (ins : AreSidesIn (λ (end : RxEnd). end.seat) receivers consumers) where
        pub is_left : (logs : List (List Line)) (counts : List Count) (ways : List Way) → ways ≡ closing.ways.items → logs ≡ map (λ r. r.log) runners → counts ≡ counts_along ways (map counts_by_port runners) → IsLeft components links workers logs counts producers consumers
        is_left logs counts ways ways_so logs_are counts_are = record {
          runners = runners;
          as_many = many_runners;
          each = runner_there;
          logs_are = logs_are;
          counts_are = counts_are ∙ ap (λ w. counts_along w (map counts_by_port runners)) (ways_so ∙ room.ways_are);
          senders_are = producer_there senders sending to_send producers outs;
          receivers_are = consumer_there receivers receiving to_receive consumers ins;
        }

        pub are_seats : AreSeats links near far producers consumers
        are_seats = record {
          sender_each = producer_each senders sending to_send producers outs;
          receiver_each = consumer_each receivers receiving to_receive consumers ins;
          senders_are = producer_named senders sending to_send producers outs;
          receivers_are = consumer_named receivers receiving to_receive consumers ins;
        }
