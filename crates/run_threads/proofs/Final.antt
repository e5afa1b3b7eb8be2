-- A crew whose components have ended and whose channels have delivered stands for a mesh that has ended: its runners are
-- those of the parts, and its queues hold what was sent and not received.
use Rattle.std.proofs.Common.{◌≡◌, ℕ, ◌/◌, ◌%◌, ◌<◌, List, [], ◌∷◌, ◌++◌, length, get_or, map, drop, Option, Some, None, option_map, refl, sym, ap, ◌∙◌, subst, arith}
use Rattle.std.specs.Prelude.{slice_get, option_and_then}
use Rattle.std.proofs.lemmas.Option.{none-some, same_Some, slice_get-get_or, slice_get_within}
use Rattle.atomic_table.specs.Seated.{TableId}
use Rattle.cs_base.specs.declared.link.Link.{Link}
use Rattle.cs_base.specs.declared.port_kind.PortKind.{PortKind}
use Rattle.cs_base.specs.Plan.{End, kind_at}
use Rattle.sb_message.specs.declared.message.Msg.{Msg}
use Rattle.device_api.specs.Behaviour.{Behaviour, IsLawful}
use Rattle.device_api.specs.Channels.{Channel, channels}
use Rattle.device_api.specs.Position.{Position}
use Rattle.device_api.specs.World.{Network, out_of}
use Rattle.device_api.specs.declared.counts.Count.{Count}
use Rattle.device_api.specs.declared.logs.Line.{Line}
use Rattle.global_model.specs.Step.{network}
use Rattle.port_queue.specs.Plain.{Plain}
use Rattle.run_laws.specs.LocalRuns.{IsPrefix, IsDelivered, AreLocalRuns}
use Rattle.run_laws.specs.Wired.{IsChannel}
use Rattle.run_laws.proofs.Channels.{IsOwned, owned, channel_joined, out_is, sender_of as channel_from}
use Rattle.run_laws.proofs.Lists.{there_below}
use Rattle.sync_rule.specs.declared.port_plan.PortPlan.{PortPlan}
use Rattle.sync_rule.specs.declared.runner.Runner.{Runner}
use Rattle.sync_rule.specs.Next.{HasEnded}
use Rattle.sync_rule.specs.Ports.{In, Out}
use Rattle.sync_laws.specs.Stands.{Stands}
use Rattle.sync_laws.specs.Whole.{IsPlannedBy, IsWhole, HaveEnded, of_component}
use Rattle.sync_laws.proofs.Ahead.{only_events}
use Rattle.sync_laws.proofs.Begins.{are_local}
use Rattle.sync_laws.proofs.Changed.{get_mapped}
use Rattle.slot_queue.specs.declared.ends.TxEnd.{TxEnd}
use Rattle.slot_queue.specs.declared.ends.RxEnd.{RxEnd}
use Rattle.slot_queue.specs.Ends.{Sender, Receiver}
use Rattle.mesh_core.specs.Start.{plan_at, plans_of, kind_or}
use Rattle.mesh_core.specs.State.{State, way_of}
use Rattle.mesh_core.specs.MeshOf.{IsMeshOf}
use Rattle.mesh_core.proofs.Begun.{lists_are}
use Rattle.mesh_core.proofs.Outcomes.{leaves_logs, leaves_counts}
use Rattle.mesh_core.proofs.Runners.{plan_is, plan_back}
use Rattle.mesh_core.proofs.Sent.{sent_streams}
use Rattle.mesh_core.proofs.Started.{IsMadeOf, made_of, kind_there}
use Rattle.mesh_channel.specs.declared.carrier.Carrier.{Carrier}
use Rattle.mesh_channel.specs.declared.carrier.Carrier.TheVariants.{Direct}
use Rattle.worker_rounds.specs.Rounds.{Work}
use Rattle.worker_rounds.specs.Passes.{HaveEnded as PassesEnded}
use Rattle.worker_rounds.specs.Crew.{AllEnded}
use Rattle.run_threads.specs.declared.part.Part.{Part}
use Rattle.run_threads.specs.CrewOf.{members_of, part_at, sender_at, receiver_at, IsPartOf, HasPart, IsCrewOf}
use Rattle.run_threads.specs.Leaving.{IsLeft, AreDelivered, LeavesGlobalRun}

-- what is left of a list when its first part is taken away
rest_is : (front whole : List Msg) → IsPrefix front whole → whole ≡ front ++ drop (length front) whole
rest_is front whole prefix = prefix.whole_is ∙ ap (λ l. front ++ l) (sym (rest_after front prefix.rest) ∙ ap (drop (length front)) (sym prefix.whole_is))
  where
    rest_after : (xs ys : List Msg) → drop (length xs) (xs ++ ys) ≡ ys
    rest_after [] ys = refl
    rest_after (x ∷ xs) ys = rest_after xs ys

-- each part of a crew whose components have ended has ended
part_ended : {V : Type 0} {P : Part V → Type 0} (workers : List (Work (Part V))) → AllEnded P workers → (c : ℕ) (part : Part V) → part_at workers c ≡ Some part → P part
part_ended {V} {P} workers ended c part there = at (slice_get workers (c % length workers)) refl
  where
    at : (o : Option (Work (Part V))) → slice_get workers (c % length workers) ≡ o → P part
    at None e = absurd (none-some part (sym (ap (λ (x : Option (Work (Part V))). slice_get (members_of x) (c / length workers)) e) ∙ there))
    at (Some worker) e =
        let within : c % length workers < length workers = slice_get_within workers (c % length workers) worker e in
        let is : get_or workers (c % length workers) worker ≡ worker = same_Some _ worker (sym (slice_get-get_or workers (c % length workers) worker within) ∙ e) in
        let at_part : slice_get worker.members (c / length workers) ≡ Some part = sym (ap (λ (x : Option (Work (Part V))). slice_get (members_of x) (c / length workers)) e) ∙ there in
        let within_members : c / length workers < length worker.members = slice_get_within worker.members (c / length workers) part at_part in
        let all : PassesEnded P worker.members = subst (λ (x : Work (Part V)). PassesEnded P x.members) is (ended.each (c % length workers) worker within) in
        subst P (same_Some _ part (sym (slice_get-get_or worker.members (c / length workers) part within_members) ∙ at_part)) (all.each (c / length workers) part within_members)

module _ {V : Type 0} (b : Behaviour V) (settled : V → ℕ → Type 0) (lawful : IsLawful b settled) (starts : List V) (links : List Link) (end : ℕ) (near far : List TableId) (workers : List (Work (Part V))) (of : IsCrewOf b settled starts links end near far workers) where
  abbrev net : Network V
  net = network b starts links

  -- WHAT EACH PART STANDS FOR

  abbrev position_of : (c : ℕ) (o : Option V) → ((start : V) → o ≡ Some start → HasPart b settled links end near far workers c start) → Position
  position_of c None has = None
  position_of c (Some start) has = (has start refl).is.stands.position

  abbrev received_of : (c : ℕ) (o : Option V) → ((start : V) → o ≡ Some start → HasPart b settled links end near far workers c start) → ℕ → List Msg
  received_of c None has = λ p. []
  received_of c (Some start) has = (has start refl).is.stands.received

  abbrev sent_of : (c : ℕ) (o : Option V) → ((start : V) → o ≡ Some start → HasPart b settled links end near far workers c start) → ℕ → List Msg
  sent_of c None has = λ p. []
  sent_of c (Some start) has = (has start refl).is.stands.sent

  abbrev positions : ℕ → Position
  positions c = position_of c (slice_get starts c) (of.parts c)

  abbrev received : End → List Msg
  received at = received_of at.component (slice_get starts at.component) (of.parts at.component) at.port

  abbrev sent : End → List Msg
  sent at = sent_of at.component (slice_get starts at.component) (of.parts at.component) at.port

  -- a part as it stands
  record IsStandingPart (c : ℕ) (position : Position) (heard said : ℕ → List Msg) (start : V) : Type 0 where
    part : Part V
    there : part_at workers c ≡ Some part
    is : IsPartOf b settled links end near far c start part
    stands : Stands b settled start position heard said part.driver.runner
    txs : (p : ℕ) (one : TxEnd) → slice_get part.driver.txs.items p ≡ Some one → one.seat.sent ≡ said p
    rxs : (p : ℕ) (one : RxEnd) → slice_get part.driver.rxs.items p ≡ Some one → one.seat.received ≡ heard p

  standing_of : (c : ℕ) (o : Option V) (has : (start : V) → o ≡ Some start → HasPart b settled links end near far workers c start) (start : V) → o ≡ Some start → IsStandingPart c (position_of c o has) (received_of c o has) (sent_of c o has) start
  standing_of c None has start is = absurd (none-some start is)
  standing_of c (Some first) has start is = subst (IsStandingPart c (position_of c (Some first) has) (received_of c (Some first) has) (sent_of c (Some first) has)) (same_Some first start is) (record {
    part = (has first refl).part;
    there = (has first refl).there;
    is = (has first refl).is;
    stands = (has first refl).is.stands.runner;
    txs = (has first refl).is.stands.out.each;
    rxs = (has first refl).is.stands.into.each;
  })

  standing : (c : ℕ) (start : V) → slice_get starts c ≡ Some start → IsStandingPart c (positions c) (of_component c received) (of_component c sent) start
  standing c start is = standing_of c (slice_get starts c) (of.parts c) start is

  -- BOTH ENDS OF A CHANNEL

  record HasSender (at : End) : Type 0 where
    sender : Sender
    there : sender_at workers at ≡ Some sender
    says : sender.sent ≡ sent at

  record HasReceiver (at : End) : Type 0 where
    receiver : Receiver
    there : receiver_at workers at ≡ Some receiver
    heard : receiver.received ≡ received at

  has_sender : (at : End) → IsOwned net at → HasSender at
  has_sender at own =
      let stood = standing at.component own.start own.owner in
      let port : at.port < length stood.part.driver.txs.items = (let many : length stood.part.driver.txs.items ≡ length (b.ports own.start) = stood.is.stands.out.as_many in let within : at.port < length (b.ports own.start) = slice_get_within (b.ports own.start) at.port own.kind own.there in omega arith) in
      let one = there_below stood.part.driver.txs.items at.port port in
      record {
        sender = one.0.seat;
        there = ap (λ (o : Option (Part V)). option_and_then (λ part. option_map (λ (e : TxEnd). e.seat) (slice_get part.driver.txs.items at.port)) o) stood.there ∙ ap (option_map (λ (e : TxEnd). e.seat)) one.1;
        says = stood.txs at.port one.0 one.1;
      }

  has_receiver : (at : End) → IsOwned net at → HasReceiver at
  has_receiver at own =
      let stood = standing at.component own.start own.owner in
      let port : at.port < length stood.part.driver.rxs.items = (let many : length stood.part.driver.rxs.items ≡ length (b.ports own.start) = stood.is.stands.into.as_many in let within : at.port < length (b.ports own.start) = slice_get_within (b.ports own.start) at.port own.kind own.there in omega arith) in
      let one = there_below stood.part.driver.rxs.items at.port port in
      record {
        receiver = one.0.seat;
        there = ap (λ (o : Option (Part V)). option_and_then (λ part. option_map (λ (e : RxEnd). e.seat) (slice_get part.driver.rxs.items at.port)) o) stood.there ∙ ap (option_map (λ (e : RxEnd). e.seat)) one.1;
        heard = stood.rxs at.port one.0 one.1;
      }

  sender_of : (k : ℕ) (ch : Channel) → slice_get (channels links) k ≡ Some ch → HasSender ch.from
  sender_of k ch is = has_sender ch.from (owned net ch.from (channel_joined net of.wired k ch is).at_sender)

  receiver_of : (k : ℕ) (ch : Channel) → slice_get (channels links) k ≡ Some ch → HasReceiver ch.to
  receiver_of k ch is = has_receiver ch.to (owned net ch.to (channel_joined net of.wired k ch is).at_receiver)

  -- what was sent from a port and not received where its channel leads
  abbrev held_by : Option Channel → List Msg
  held_by None = []
  held_by (Some ch) = drop (length (received ch.to)) (sent ch.from)

  abbrev held : End → List Msg
  held at = held_by (out_of (channels links) at)

  held_is : (k : ℕ) (ch : Channel) → slice_get (channels links) k ≡ Some ch → held ch.from ≡ drop (length (received ch.to)) (sent ch.from)
  held_is k ch is = ap held_by (out_is net of.wired k ch is)

  module _ (logs : List (List Line)) (counts : List Count) (senders : List Sender) (receivers : List Receiver) (left : IsLeft (length starts) links workers logs counts senders receivers) where
    -- THE RUNNERS

    runner_at : (c : ℕ) (start : V) (r : Runner V) (starts_so : slice_get starts c ≡ Some start) → slice_get left.runners c ≡ Some r → r ≡ (standing c start starts_so).part.driver.runner
    runner_at c start r starts_so is = same_Some r (standing c start starts_so).part.driver.runner (sym is ∙ left.each c (slice_get_within starts c start starts_so) ∙ ap (option_map (λ (part : Part V). part.driver.runner)) (standing c start starts_so).there)

    start_of : (c : ℕ) (r : Runner V) → slice_get left.runners c ≡ Some r → (start : V) × (slice_get starts c ≡ Some start)
    start_of c r is = there_below starts c (let within : c < length left.runners = slice_get_within left.runners c r is in let many : length left.runners ≡ length starts = left.as_many in omega arith)

    planned_by : (ch : Channel) (plan : PortPlan) (kind : PortKind) → plan ≡ record { kind = kind; latency = ch.latency; interval = ch.interval } → IsPlannedBy ch plan
    planned_by ch plan kind is = record { latency = sym (ap (λ (x : PortPlan). x.latency) is); interval = sym (ap (λ (x : PortPlan). x.interval) is) }

    out_planned : (k : ℕ) (ch : Channel) → slice_get (channels links) k ≡ Some ch → (start : V) → slice_get starts ch.from.component ≡ Some start → (r : Runner V) (o : Out) → slice_get left.runners ch.from.component ≡ Some r → slice_get r.outgoing ch.from.port ≡ Some o → IsPlannedBy ch o.plan
    out_planned k ch is start starts_so r o there out_at =
        let c : ℕ = ch.from.component in
        let stood = standing c start starts_so in
        let at_plan : slice_get (plans_of links c (b.ports start)) ch.from.port ≡ Some o.plan = sym (ap (λ l. slice_get l ch.from.port) (ap (λ (x : Runner V). map (λ (out : Out). out.plan) x.outgoing) (runner_at c start r starts_so there) ∙ stood.is.plans)) ∙ get_mapped (λ (out : Out). out.plan) r.outgoing ch.from.port o out_at in
        let made : IsMadeOf (plan_at links c) ch.from.port (b.ports start) o.plan = made_of (plan_at links c) ch.from.port (b.ports start) o.plan at_plan in
        planned_by ch o.plan made.x (made.is ∙ plan_is b starts links end of.wired k ch is made.x)

    in_planned : (k : ℕ) (ch : Channel) → slice_get (channels links) k ≡ Some ch → (start : V) → slice_get starts ch.to.component ≡ Some start → (r : Runner V) (i : In) → slice_get left.runners ch.to.component ≡ Some r → slice_get r.incoming ch.to.port ≡ Some i → IsPlannedBy ch i.plan
    in_planned k ch is start starts_so r i there in_at =
        let c : ℕ = ch.to.component in
        let stood = standing c start starts_so in
        let plans : map (λ (x : In). x.plan) r.incoming ≡ plans_of links c (b.ports start) = ap (λ (x : Runner V). map (λ (y : In). y.plan) x.incoming) (runner_at c start r starts_so there) ∙ sym stood.stands.fitted.same_plans ∙ stood.is.plans in
        let at_plan : slice_get (plans_of links c (b.ports start)) ch.to.port ≡ Some i.plan = sym (ap (λ l. slice_get l ch.to.port) plans) ∙ get_mapped (λ (x : In). x.plan) r.incoming ch.to.port i in_at in
        let made : IsMadeOf (plan_at links c) ch.to.port (b.ports start) i.plan = made_of (plan_at links c) ch.to.port (b.ports start) i.plan at_plan in
        planned_by ch i.plan made.x (made.is ∙ plan_back b starts links end of.wired k ch is made.x)

    module _ (delivered : AreDelivered links senders receivers) where
      between : (k : ℕ) (ch : Channel) → slice_get (channels links) k ≡ Some ch → sent ch.from ≡ received ch.to ++ held ch.from
      between k ch is =
          let from = sender_of k ch is in
          let to = receiver_of k ch is in
          let prefix : IsPrefix to.receiver.received from.sender.sent = delivered.each k ch from.sender to.receiver is (left.senders_are k ch is ∙ from.there) (left.receivers_are k ch is ∙ to.there) in
          let same : IsPrefix (received ch.to) (sent ch.from) = subst (λ l. IsPrefix l (sent ch.from)) to.heard (subst (IsPrefix to.receiver.received) from.says prefix) in
          rest_is (received ch.to) (sent ch.from) same ∙ ap (λ l. received ch.to ++ l) (sym (held_is k ch is))

      whole : IsWhole net settled end positions received sent held left.runners
      whole = record {
        as_many = left.as_many;
        ends = λ c r is. (let start : (s : V) × (slice_get starts c ≡ Some s) = start_of c r is in ap (λ (x : Runner V). x.end) (runner_at c start.0 r start.1 is) ∙ (standing c start.0 start.1).is.end_is);
        standing = λ c start r starts_so is. subst (Stands b settled start (positions c) (of_component c received) (of_component c sent)) (sym (runner_at c start r starts_so is)) (standing c start starts_so).stands;
        joined = λ k ch is. record {
          between = between k ch is;
          sender = λ r o there out_at. (let start : (s : V) × (slice_get starts ch.from.component ≡ Some s) = start_of ch.from.component r there in out_planned k ch is start.0 start.1 r o there out_at);
          receiver = λ r i there in_at. (let start : (s : V) × (slice_get starts ch.to.component ≡ Some s) = start_of ch.to.component r there in in_planned k ch is start.0 start.1 r i there in_at);
        };
      }

      -- THE MESH

      abbrev queue_for : Channel → Plain
      queue_for ch = record { kind = kind_or (kind_at (map b.ports starts) ch.to); slots = 1; held = held ch.from }

      abbrev carrier_for : Channel → Carrier
      carrier_for ch = Direct (queue_for ch)

      abbrev mesh : State V
      mesh = record { runners = left.runners; ways = map way_of (channels links); carriers = map carrier_for (channels links) }

      of_mesh : IsMeshOf b settled starts links end mesh
      of_mesh = record {
        wired = of.wired;
        positions = positions;
        received = received;
        sent = sent;
        held = held;
        whole = whole;
        ways = refl;
        carriers = λ k ch is. (let kind : kind_at (map b.ports starts) ch.to ≡ Some (queue_for ch).kind = kind_there (kind_at (map b.ports starts) ch.to) (channel_joined net of.wired k ch is).at_receiver in record {
          carrier = carrier_for ch;
          there = get_mapped carrier_for (channels links) k ch is;
          carries = record {
            place = omega arith;
            stands = record { held_between = sym (between k ch is); is_sent = sent_streams net settled end positions received sent held left.runners whole of.wired k ch is (queue_for ch).kind kind };
          };
          kind = kind;
        });
      }

      module _ (ended : AllEnded (λ (part : Part V). HasEnded b part.driver.runner) workers) where
        runners_ended : HaveEnded b left.runners
        runners_ended c r is =
            let start : (s : V) × (slice_get starts c ≡ Some s) = start_of c r is in
            let stood = standing c start.0 start.1 in
            subst (HasEnded b) (sym (runner_at c start.0 r start.1 is)) (part_ended workers ended c stood.part stood.there)

        -- on each channel what was sent was received as far as the end
        alone : AreLocalRuns net sent received end
        alone = are_local net settled end positions received sent held left.runners whole of.wired (only_events b settled lawful) runners_ended

        reached : (k : ℕ) (ch : Channel) (sender : Sender) (receiver : Receiver) → slice_get (channels links) k ≡ Some ch → slice_get senders k ≡ Some sender → slice_get receivers k ≡ Some receiver → IsDelivered sender.sent receiver.received end
        reached k ch sender receiver is there back =
            let from = sender_of k ch is in
            let to = receiver_of k ch is in
            let way : (start : V) × (kind : PortKind) × IsChannel net ch start kind = channel_from {last = end} net of.wired k ch is in
            let said : sender.sent ≡ sent ch.from = ap (λ (x : Sender). x.sent) (same_Some sender from.sender (sym there ∙ left.senders_are k ch is ∙ from.there)) ∙ from.says in
            let heard : receiver.received ≡ received ch.to = ap (λ (x : Receiver). x.received) (same_Some receiver to.receiver (sym back ∙ left.receivers_are k ch is ∙ to.there)) ∙ to.heard in
            let ended_so : IsDelivered (sent ch.from) (received ch.to) end = alone.delivered ch way.0 way.1 way.2 in
            subst (λ l. IsDelivered l receiver.received end) (sym said) (subst (λ l. IsDelivered (sent ch.from) l end) (sym heard) ended_so)

        pub leaves : LeavesGlobalRun b starts links end logs counts senders receivers
        unfolding of_mesh
        leaves = record {
          logs_are = left.logs_are ∙ leaves_logs b settled lawful starts links end mesh of_mesh runners_ended;
          counts_are = left.counts_are ∙ leaves_counts b settled lawful starts links end mesh of_mesh runners_ended;
          transcripts = λ k ch sender start kind is there way. (let from = sender_of k ch is in ap (λ (x : Sender). x.sent) (same_Some sender from.sender (sym there ∙ left.senders_are k ch is ∙ from.there)) ∙ from.says ∙ lists_are b settled lawful starts links end mesh of_mesh runners_ended ch start kind way);
          delivered = reached;
        }
