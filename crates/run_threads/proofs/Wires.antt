-- The channels at the ports of a component of a wiring, and that the part that is made for them is that of the component.
use Rattle.std.proofs.Common.{◌≡◌, ℕ, ◌<◌, List, [], ◌∷◌, length, map, All, Some, None, option_map, refl, sym, ap, ap₂, ◌∙◌, subst, arith}
use Rattle.std.specs.Prelude.{slice_get, option_and_then}
use Rattle.std.proofs.lemmas.Option.{same_Some, slice_get_within}
use Rattle.cs_base.specs.declared.link.Link.{Link}
use Rattle.cs_base.specs.declared.port_kind.PortKind.{PortKind}
use Rattle.cs_base.specs.Plan.{End, IsPlan, kind_at, partner}
use Rattle.device_api.specs.Behaviour.{Behaviour, IsLawful}
use Rattle.device_api.specs.Channels.{Channel, channels}
use Rattle.device_api.specs.World.{Network}
use Rattle.global_model.specs.Step.{network}
use Rattle.global_model.proofs.Ways.{way_out}
use Rattle.mesh_core.specs.declared.way.Seat.{Seat}
use Rattle.mesh_core.specs.Start.{first_runner, plans_of, queues_of}
use Rattle.mesh_core.specs.State.{seat_of}
use Rattle.mesh_core.proofs.Runners.{IsThere, turned, back_there, kinds_kept, all_planned}
use Rattle.run_threads.proofs.Queued.{HasQueue, queue_at}
use Rattle.port_queue.specs.Plain.{Plain}
use Rattle.run_laws.proofs.Channels.{IsOwned, ComesIn, owned, port_there, channel_joined, comes_in, out_is}
use Rattle.run_laws.proofs.Lists.{there_below}
use Rattle.slot_queue.specs.Ends.{Named, Sender, Receiver}
use Rattle.slot_queue.specs.declared.ends.TxEnd.{TxEnd}
use Rattle.slot_queue.specs.declared.ends.RxEnd.{RxEnd}
use Rattle.sync_laws.proofs.Changed.{get_mapped, mapped_at, map_mapped, all_at}
use Rattle.sync_laws.proofs.Out.{one_sender, one_receiver}
use Rattle.sync_laws.specs.Stands.{Stands}
use Rattle.sync_laws.proofs.Started.{new_stands}
use Rattle.sync_rule.specs.Ports.{Out, first_out}
use Rattle.sync_rule.specs.declared.port_plan.PortPlan.{PortPlan}
use Rattle.sync_rule.specs.declared.runner.Runner.{Runner}
use Rattle.run_threads.specs.declared.part.Part.{Part}
use Rattle.run_threads.specs.CrewOf.{IsPartOf}
use Rattle.run_threads.specs.Numbers.{seat, HaveNumbers, AreNumbers}
use Rattle.run_threads.specs.Parts.{PartStands}
use Rattle.run_threads.specs.Queues.{as_empty, names_of, its_sender, its_receiver}
use Rattle.run_threads.specs.Stock.{froms_of, tos_of, IsFresh, IsNewPart}

map_same : {X : Type 0} (xs : List X) → map (λ x. x) xs ≡ xs
map_same [] = refl
map_same (x ∷ xs) = ap (λ l. x ∷ l) (map_same xs)

same_ends : (x y : End) → x.component ≡ y.component → x.port ≡ y.port → x ≡ y
same_ends x y components ports = ap₂ (λ c p. record { component = c; port = p }) components ports

-- a channel with an end at a port
record IsEndAt (side : Channel → End) (links : List Link) (c port number : ℕ) : Type 0 where
  channel : Channel
  at_number : slice_get (channels links) number ≡ Some channel
  component_is : (side channel).component ≡ c
  port_is : (side channel).port ≡ port

end_at : (side : Channel → End) (links : List Link) (c ports : ℕ) (numbers : List ℕ) → AreNumbers (map (λ (ch : Channel). seat_of (side ch)) (channels links)) c ports numbers → (port number : ℕ) → slice_get numbers port ≡ Some number → IsEndAt side links c port number
end_at side links c ports numbers are port number at =
    let found = mapped_at (λ (ch : Channel). seat_of (side ch)) (channels links) (map (λ (ch : Channel). seat_of (side ch)) (channels links)) number (seat c port) refl (are.each port number at) in
    record { channel = found.0; at_number = found.1; component_is = ap (λ (s : Seat). s.component) found.2; port_is = ap (λ (s : Seat). s.port) found.2 }

module _ {V : Type 0} (b : Behaviour V) (starts : List V) (links : List Link) (end : ℕ) (wired : IsPlan end (map b.ports starts) links) (c : ℕ) (start : V) (here : slice_get starts c ≡ Some start) where
  abbrev net : Network V
  net = network b starts links

  -- NUMBERS

  way_in : (port : ℕ) → port < length (b.ports start) → ComesIn net wired (record { component = c; port = port })
  way_in port within = (let kind = there_below (b.ports start) port within in comes_in net wired (record { component = c; port = port }) (port_there net c port start kind.0 here kind.1))

  pub have_tos : HaveNumbers (tos_of links) c (length (b.ports start))
  have_tos = record { each = λ port within. (let way = way_in port within in record { number = way.number; there = get_mapped (λ (ch : Channel). seat_of ch.to) (channels links) way.number way.channel way.at_number ∙ ap (λ (e : End). Some (seat_of e)) way.comes_to }) }

  pub have_froms : HaveNumbers (froms_of links) c (length (b.ports start))
  have_froms = record { each = λ port within. (let way = way_in port within in let back : IsThere links (turned way.channel) = back_there links way.number way.channel way.at_number in record { number = back.number; there = get_mapped (λ (ch : Channel). seat_of ch.from) (channels links) back.number (turned way.channel) back.at ∙ ap (λ (e : End). Some (seat_of e)) way.comes_to }) }

  -- a port of the component that an owner tells
  port_within : (at : End) → IsOwned net at → at.component ≡ c → at.port < length (b.ports start)
  port_within at own is =
      let same : own.start ≡ start = same_Some own.start start (sym own.owner ∙ ap (slice_get starts) is ∙ here) in
      slice_get_within (b.ports start) at.port own.kind (ap (λ (s : V). slice_get (b.ports s) at.port) (sym same) ∙ own.there)

  departs : (numbers : List ℕ) → AreNumbers (froms_of links) c (length (b.ports start)) numbers → (k : ℕ) (ch : Channel) → slice_get (channels links) k ≡ Some ch → ch.from.component ≡ c → slice_get numbers ch.from.port ≡ Some k
  departs numbers are k ch at from =
      let within : ch.from.port < length (b.ports start) = port_within ch.from (owned net ch.from (channel_joined net wired k ch at).at_sender) from in
      let number = there_below numbers ch.from.port (let many : length numbers ≡ length (b.ports start) = are.as_many in omega arith) in
      let found = end_at (λ x. x.from) links c (length (b.ports start)) numbers are ch.from.port number.0 number.1 in
      number.1 ∙ ap Some (one_sender net wired k number.0 ch found.channel at found.at_number (same_ends found.channel.from ch.from (found.component_is ∙ sym from) found.port_is))

  arrives : (numbers : List ℕ) → AreNumbers (tos_of links) c (length (b.ports start)) numbers → (k : ℕ) (ch : Channel) → slice_get (channels links) k ≡ Some ch → ch.to.component ≡ c → slice_get numbers ch.to.port ≡ Some k
  arrives numbers are k ch at to =
      let within : ch.to.port < length (b.ports start) = port_within ch.to (owned net ch.to (channel_joined net wired k ch at).at_receiver) to in
      let number = there_below numbers ch.to.port (let many : length numbers ≡ length (b.ports start) = are.as_many in omega arith) in
      let found = end_at (λ x. x.to) links c (length (b.ports start)) numbers are ch.to.port number.0 number.1 in
      number.1 ∙ ap Some (one_receiver net wired k number.0 ch found.channel at found.at_number (same_ends found.channel.to ch.to (found.component_is ∙ sym to) found.port_is))

  kind_here : (at : End) (kind : PortKind) → at.component ≡ c → slice_get (b.ports start) at.port ≡ Some kind → kind_at (map b.ports starts) at ≡ Some kind
  kind_here at kind is there = ap (option_and_then (λ ports. slice_get ports at.port)) (ap (slice_get (map b.ports starts)) is ∙ get_mapped b.ports starts c start here) ∙ there

  module _ (settled : V → ℕ → Type 0) (lawful : IsLawful b settled) (at_start : All (λ (device : V). settled device 0) starts) (nears fars : List Named) (nears_are : map as_empty nears ≡ queues_of (map b.ports starts) links) (fars_are : map as_empty fars ≡ queues_of (map b.ports starts) links) where
    -- a queue's kind is that of the port to which its channel leads
    queue_kind : (queues : List Named) → map as_empty queues ≡ queues_of (map b.ports starts) links → (k : ℕ) (ch : Channel) → slice_get (channels links) k ≡ Some ch → (queue : Named) → slice_get queues k ≡ Some queue → kind_at (map b.ports starts) ch.to ≡ Some queue.kind
    queue_kind queues queues_are k ch at queue named =
        let has : HasQueue (map b.ports starts) links k ch = queue_at b starts links end wired k ch at in
        has.kind ∙ ap (λ (q : Plain). Some q.kind) (same_Some has.queue (as_empty queue) (sym has.there ∙ sym (ap (λ l. slice_get l k) queues_are) ∙ get_mapped as_empty queues k queue named))

    module _ (part : Part V) (new : IsNewPart nears fars (froms_of links) (tos_of links) c (length (b.ports start)) (first_runner b links end c start) part) where
      -- what the ends are, by port
      sender_at : (p : ℕ) (one : TxEnd) → slice_get part.driver.txs.items p ≡ Some one → (number : ℕ) × (slice_get part.departures p ≡ Some number) × IsFresh its_sender nears number one.seat
      sender_at p one got = (let within : p < length part.driver.txs.items = slice_get_within part.driver.txs.items p one got in let number = there_below part.departures p (let many : length part.driver.txs.items ≡ length part.departures = new.sending.as_many in omega arith) in (number.0, number.1, new.sending.each p number.0 one number.1 got))

      receiver_at : (p : ℕ) (one : RxEnd) → slice_get part.driver.rxs.items p ≡ Some one → (number : ℕ) × (slice_get part.arrivals p ≡ Some number) × IsFresh its_receiver fars number one.seat
      receiver_at p one got = (let within : p < length part.driver.rxs.items = slice_get_within part.driver.rxs.items p one got in let number = there_below part.arrivals p (let many : length part.driver.rxs.items ≡ length part.arrivals = new.receiving.as_many in omega arith) in (number.0, number.1, new.receiving.each p number.0 one number.1 got))

      sends_kind : (p : ℕ) (one : TxEnd) (kind : PortKind) → slice_get part.driver.txs.items p ≡ Some one → slice_get (b.ports start) p ≡ Some kind → one.seat.kind ≡ partner kind
      sends_kind p one kind got there =
          let at = sender_at p one got in
          let found = end_at (λ x. x.from) links c (length (b.ports start)) part.departures new.departures p at.0 at.1 in
          let ch = found.channel in
          let way = way_out (map b.ports starts) links ch.from ch wired.links_join (out_is net wired at.0 ch found.at_number) in
          let from_kind = kind_here ch.from kind found.component_is (ap (slice_get (b.ports start)) found.port_is ∙ there) in
          ap (λ (s : Sender). s.kind) at.2.unused ∙ same_Some at.2.queue.kind (partner kind) (sym (queue_kind nears nears_are at.0 ch found.at_number at.2.queue at.2.named) ∙ way.to_partner ∙ ap (option_map partner) from_kind)

      receives_kind : (p : ℕ) (one : RxEnd) (kind : PortKind) → slice_get part.driver.rxs.items p ≡ Some one → slice_get (b.ports start) p ≡ Some kind → one.seat.kind ≡ kind
      receives_kind p one kind got there =
          let at = receiver_at p one got in
          let found = end_at (λ x. x.to) links c (length (b.ports start)) part.arrivals new.arrivals p at.0 at.1 in
          let ch = found.channel in
          let to_kind = kind_here ch.to kind found.component_is (ap (slice_get (b.ports start)) found.port_is ∙ there) in
          ap (λ (r : Receiver). r.kind) at.2.unused ∙ same_Some at.2.queue.kind kind (sym (queue_kind fars fars_are at.0 ch found.at_number at.2.queue at.2.named) ∙ to_kind)

      pub new_part_stands : PartStands b settled start part
      new_part_stands = record {
        position = None;
        received = λ port. [];
        sent = λ port. [];
        runner = subst (λ (r : Runner V). Stands b settled start None (λ port. []) (λ port. []) r) (sym new.runner_is) (new_stands b settled lawful start end (plans_of links c (b.ports start)) (all_at (λ (device : V). settled device 0) starts at_start c start here) wired.sized.short_time (kinds_kept links c 0 (b.ports start)) (all_planned b starts links end wired c start here));
        out = record {
          as_many = new.sending.as_many ∙ new.departures.as_many;
          kinds = sends_kind;
          each = λ p one got. ap (λ (s : Sender). s.sent) (sender_at p one got).2.unused;
        };
        into = record {
          as_many = new.receiving.as_many ∙ new.arrivals.as_many;
          kinds = receives_kind;
          each = λ p one got. ap (λ (r : Receiver). r.received) (receiver_at p one got).2.unused;
        };
      }

      pub is_part_of : IsPartOf b settled links end (names_of nears) (names_of fars) c start part
      is_part_of = record {
        component = new.component_is;
        stands = new_part_stands;
        end_is = ap (λ (r : Runner V). r.end) new.runner_is;
        plans = ap (λ (r : Runner V). map (λ (o : Out). o.plan) r.outgoing) new.runner_is ∙ map_mapped (λ (o : Out). o.plan) first_out (λ (plan : PortPlan). plan) (plans_of links c (b.ports start)) (λ plan. refl) ∙ map_same (plans_of links c (b.ports start));
        departs = departs part.departures new.departures;
        arrives = arrives part.arrivals new.arrivals;
        sends_on = λ k ch one at from got. (let fresh = new.sending.each ch.from.port k one (departs part.departures new.departures k ch at from) got in get_mapped (λ (q : Named). q.name) nears k fresh.queue fresh.named ∙ ap (λ (s : Sender). Some s.queue) (sym fresh.unused));
        receives_on = λ k ch one at to got. (let fresh = new.receiving.each ch.to.port k one (arrives part.arrivals new.arrivals k ch at to) got in get_mapped (λ (q : Named). q.name) fars k fresh.queue fresh.named ∙ ap (λ (r : Receiver). Some r.queue) (sym fresh.unused));
      }
