-- A mesh that has not ended may take a step: what is under way on a channel may go on; where nothing is, what waits to be
-- sent may be; and where nothing waits, some component may process its next event.
use Rattle.std.proofs.Common.{◌≡◌, ℕ, zero, suc, ◌⊎◌, inl, inr, List, [], ◌∷◌, ◌++◌, length, map, Some, slice_get, refl, sym, ap, subst, ◌∙◌, arith, append-nil}
use Rattle.std.specs.Prelude.{slice_set}
use Rattle.std.proofs.lemmas.List.{append_cancel_left}
use Rattle.std.proofs.lemmas.Option.{none-some, same_Some}
use Rattle.cs_base.specs.declared.link.Link.{Link}
use Rattle.cs_base.specs.Plan.{End}
use Rattle.sb_message.specs.declared.message.Msg.{Msg}
use Rattle.device_api.specs.Behaviour.{Behaviour}
use Rattle.device_api.specs.Channels.{Channel, channels}
use Rattle.device_api.specs.World.{Network}
use Rattle.global_model.specs.Step.{network}
use Rattle.run_laws.proofs.Channels.{port_there}
use Rattle.run_steps.specs.declared.step.Step.TheVariants.{Event, Send, Poll, Take, Move, Put}
use Rattle.mesh_channel.specs.Standing.{Carries, IsIdle}
use Rattle.mesh_channel.specs.Laws.{CanGoOn, HasRoomFor}
use Rattle.mesh_channel.specs.Laws.CanGoOn.{by_take, by_move, by_put, by_receipt}
use Rattle.mesh_channel.proofs.Going.{goes_on, has_room}
use Rattle.mesh_channel.proofs.Counted.{are_idle}
use Rattle.sync_rule.specs.declared.next.Next.{Next}
use Rattle.sync_rule.specs.declared.next.Next.TheVariants.{Sync, Take, Tick}
use Rattle.sync_rule.specs.declared.runner.Runner.{Runner}
use Rattle.sync_rule.specs.Ports.{In, Out}
use Rattle.sync_rule.specs.ManyPorts.{outbox_at}
use Rattle.sync_rule.specs.Soonest.{IsTimed}
use Rattle.sync_rule.specs.Times.{head_of, head_time}
use Rattle.sync_rule.specs.Next.{IsEnabled}
use Rattle.sync_rule.specs.Steps.{IsAfter, after_sync, after_take, after_tick}
use Rattle.sync_laws.specs.Whole.{HaveEnded, IsStill, CanProcess, outbox_of}
use Rattle.sync_laws.proofs.Changed.{get_mapped}
use Rattle.sync_laws.proofs.Out.{GoesOut, goes_out}
use Rattle.sync_laws.proofs.Stuck.{all_ended_or_goes}
use Rattle.mesh_core.specs.Laws.{CanStep}
use Rattle.mesh_core.specs.State.{State, way_of}
use Rattle.mesh_core.specs.Steps.{IsLine, with_line, sent_by, received_by}
use Rattle.mesh_core.specs.MeshOf.{HasCarrier, IsMeshOf}
use Rattle.mesh_core.specs.ToCome.{IsOver}
use Rattle.mesh_core.proofs.Ends.{HasPort, IsStanding, IsChannelAt, channel_at, mapped_at, sender, receiver, standing}

-- some element of a list has messages, or none has
record HasSome {X : Type 0} (f : X → List Msg) (xs : List X) : Type 0 where
  place : ℕ
  x : X
  there : slice_get xs place ≡ Some x
  m : Msg
  more : List Msg
  is : f x ≡ m ∷ more

abbrev HaveNone : {X : Type 0} → (X → List Msg) → List X → Type 0
HaveNone {X} f xs = (i : ℕ) (x : X) → slice_get xs i ≡ Some x → f x ≡ []

none_more : {X : Type 0} (f : X → List Msg) (x : X) (xs : List X) → f x ≡ [] → HaveNone f xs → HaveNone f (x ∷ xs)
none_more f x xs here none zero y is = ap f (sym (same_Some x y is)) ∙ here
none_more f x xs here none (suc i) y is = none i y is

some_or_none : {X : Type 0} (f : X → List Msg) (xs : List X) → HasSome f xs ⊎ HaveNone f xs
some_or_none f [] = inr (λ i x is. absurd (none-some x is))
some_or_none {X} f (x ∷ xs) = at (f x) refl (some_or_none f xs)
  where
    at : (l : List Msg) → f x ≡ l → HasSome f xs ⊎ HaveNone f xs → HasSome f (x ∷ xs) ⊎ HaveNone f (x ∷ xs)
    at (m ∷ more) e rest = inl (record { place = 0; x = x; there = refl; m = m; more = more; is = e })
    at [] e (inl some) = inl (record { place = suc some.place; x = some.x; there = some.there; m = some.m; more = some.more; is = some.is })
    at [] e (inr none) = inr (none_more f x xs e none)

-- what an event that may be processed leaves
record HasFirst (l : List Msg) (t : ℕ) : Type 0 where
  m : Msg
  more : List Msg
  is : l ≡ m ∷ more
  at_time : m.at ≡ t

first_of : (l : List Msg) (t : ℕ) → head_time l ≡ Some t → HasFirst l t
first_of [] t e = absurd (none-some t e)
first_of (m ∷ more) t e = record { m = m; more = more; is = refl; at_time = same_Some m.at t e }

after_event : {V : Type 0} (b : Behaviour V) (r : Runner V) (next : Next) → IsEnabled b r next → (r' : Runner V) × IsAfter b r next r'
after_event b r (Sync port u) enabled = (after_sync r port u, refl)
after_event b r (Take port t) enabled = (let waits : IsTimed head_of r.incoming port t = enabled.is_next.pending in let first : HasFirst waits.is.inbox t = first_of waits.is.inbox t waits.at_time in (after_take b r port first.m, record { m = first.m; head = record { is = waits.is; there = waits.there; more = first.more; head = first.is }; at_time = first.at_time; is = refl }))
after_event b r (Tick t) enabled = (after_tick b r t, refl)

-- something is held between two ends
some_held : (received held : List Msg) (m : Msg) (more : List Msg) → received ++ held ≡ received → held ≡ m ∷ more → ⊥
some_held received held m more none some =
    let empty : held ≡ [] = append_cancel_left received held [] (none ∙ sym (append-nil received)) in
    let long : length held ≡ length (m ∷ more) = ap length some in
    let short : length held ≡ 0 = ap length empty in
    omega arith

module _ {V : Type 0} (b : Behaviour V) (settled : V → ℕ → Type 0) (starts : List V) (links : List Link) (end : ℕ) (mesh : State V) (of : IsMeshOf b settled starts links end mesh) where
  abbrev net : Network V
  net = network b starts links

  abbrev outbox_on : Channel → List Msg
  outbox_on ch = outbox_of (slice_get mesh.runners ch.from.component) ch.from.port

  module _ (k : ℕ) (ch : Channel) (is : slice_get (channels links) k ≡ Some ch) where
    own : HasCarrier (map b.ports starts) ch k (of.sent ch.from) (of.received ch.to) mesh.carriers
    own = of.carriers k ch is

    from : HasPort b settled starts links end mesh of ch.from
    from = sender b settled starts links end mesh of k ch is

    to : HasPort b settled starts links end mesh of ch.to
    to = receiver b settled starts links end mesh of k ch is

    line : IsLine mesh k (way_of ch) own.carrier
    line = record { leads = ap (λ ways. slice_get ways k) of.ways ∙ get_mapped way_of (channels links) k ch is; between = own.there }

    on : CanGoOn own.carrier → CanStep b mesh
    on (by_take may) = record { step = Take k; enabled = record { way = way_of ch; carrier = own.carrier; line = line; enabled = may } }
    on (by_move may) = record { step = Move k 1; enabled = record { way = way_of ch; carrier = own.carrier; line = line; enabled = may } }
    on (by_put may) = record { step = Put k; enabled = record { way = way_of ch; carrier = own.carrier; line = line; enabled = may } }
    on (by_receipt m after popped) = record {
      step = Poll k;
      enabled = record {
        next = with_line mesh ch.to.component (received_by to.runner ch.to.port m) k after;
        leads = record { way = way_of ch; carrier = own.carrier; line = line; m = m; after = after; popped = popped; runner = to.runner; receiver = to.there; is = refl };
      };
    }

    -- what is under way goes on
    passes : (m : Msg) (more : List Msg) → of.held ch.from ≡ m ∷ more → CanStep b mesh
    passes m more first = on (goes_on own.carrier (of.sent ch.from) (of.received ch.to) own.carries (λ same. some_held (of.received ch.to) (of.held ch.from) m more (sym (of.whole.joined k ch is).between ∙ same) first))

    -- all that was sent was received
    all_received : of.held ch.from ≡ [] → of.sent ch.from ≡ of.received ch.to
    all_received empty = (of.whole.joined k ch is).between ∙ ap (λ l. of.received ch.to ++ l) empty ∙ append-nil (of.received ch.to)

    sends : of.held ch.from ≡ [] → (m : Msg) (more : List Msg) → outbox_of (slice_get mesh.runners ch.from.component) ch.from.port ≡ m ∷ more → CanStep b mesh
    sends empty m more waits =
        let room : HasRoomFor m own.carrier = has_room own.carrier (of.sent ch.from) m (subst (Carries own.carrier (of.sent ch.from)) (sym (all_received empty)) own.carries) in
        record {
          step = Send k;
          enabled = record {
            next = with_line mesh ch.from.component (sent_by from.runner ch.from.port) k room.after;
            leads = record {
              way = way_of ch;
              carrier = own.carrier;
              line = line;
              runner = from.runner;
              sender = from.there;
              m = m;
              more = more;
              waited = ap (λ found. outbox_of found ch.from.port) (sym from.there) ∙ waits;
              after = room.after;
              pushed = room.pushed;
              is = refl;
            };
          };
        }

    idle : of.held ch.from ≡ [] → IsIdle own.carrier
    idle empty = (are_idle own.carrier (of.sent ch.from) (of.received ch.to) own.carries).1 (all_received empty)

  goes : CanProcess b mesh.runners → CanStep b mesh
  goes can = (let after : (r : Runner V) × IsAfter b can.runner can.next r = after_event b can.runner can.next can.enabled in record {
    step = Event can.component;
    enabled = record {
      next = record mesh { runners = slice_set mesh.runners can.component after.0 };
      leads = record { before = can.runner; there = can.there; after = after.0; processed = record { next = can.next; enabled = can.enabled; after = after.1 }; is = refl };
    };
  })

  -- a channel leads out of each port
  module _ (c : ℕ) (r : Runner V) (r_at : slice_get mesh.runners c ≡ Some r) (p : ℕ) (o : Out) (o_at : slice_get r.outgoing p ≡ Some o) where
    at_start : IsStanding b settled starts links end mesh of c r
    at_start = standing b settled starts links end mesh of c r r_at

    heard : (i : In) × (slice_get r.incoming p ≡ Some i) × (i.plan ≡ o.plan)
    heard = mapped_at (λ (i : In). i.plan) r.incoming (map (λ (x : Out). x.plan) r.outgoing) p o.plan (sym at_start.stands.fitted.same_plans) (get_mapped (λ (x : Out). x.plan) r.outgoing p o o_at)

    port_kind : slice_get (b.ports at_start.start) p ≡ Some heard.0.plan.kind
    port_kind = ap (λ kinds. slice_get kinds p) (sym at_start.stands.fitted.kinds) ∙ get_mapped (λ (i : In). i.plan.kind) r.incoming p heard.0 heard.1

    out : GoesOut net of.wired (record { component = c; port = p })
    out = goes_out net of.wired (record { component = c; port = p }) (port_there net c p at_start.start heard.0.plan.kind at_start.starts_so port_kind)

    none_waits : HaveNone outbox_on (channels links) → o.outbox ≡ []
    none_waits none = ap outbox_at (sym o_at) ∙ ap (λ found. outbox_of found p) (sym r_at) ∙ ap (λ (e : End). outbox_of (slice_get mesh.runners e.component) e.port) (sym out.comes_from) ∙ none out.number out.channel out.at_number

  still : HaveNone (λ (ch : Channel). of.held ch.from) (channels links) → HaveNone outbox_on (channels links) → IsStill net of.held mesh.runners
  still empty none = record { all_sent = λ c r r_at p o o_at. none_waits c r r_at p o o_at none; all_received = empty }

  over : HaveNone (λ (ch : Channel). of.held ch.from) (channels links) → HaveEnded b mesh.runners → IsOver b mesh
  over empty all = record {
    ended = all;
    received = λ k way carrier line. (let channel : IsChannelAt b settled starts links end mesh of k way = channel_at b settled starts links end mesh of k way line.leads in subst IsIdle (same_Some (own k channel.ch channel.at).carrier carrier (sym (own k channel.ch channel.at).there ∙ line.between)) (idle k channel.ch channel.at (empty k channel.ch channel.at)));
  }

  -- some step leads somewhere, or all is processed and received
  pub step_or_over : CanStep b mesh ⊎ IsOver b mesh
  step_or_over = at_queues (some_or_none (λ (ch : Channel). of.held ch.from) (channels links))
    where
      at_runners : HaveNone (λ (ch : Channel). of.held ch.from) (channels links) → HaveEnded b mesh.runners ⊎ CanProcess b mesh.runners → CanStep b mesh ⊎ IsOver b mesh
      at_runners empty (inl all) = inr (over empty all)
      at_runners empty (inr can) = inl (goes can)

      at_outboxes : HaveNone (λ (ch : Channel). of.held ch.from) (channels links) → HasSome outbox_on (channels links) ⊎ HaveNone outbox_on (channels links) → CanStep b mesh ⊎ IsOver b mesh
      at_outboxes empty (inl some) = inl (sends some.place some.x some.there (empty some.place some.x some.there) some.m some.more some.is)
      at_outboxes empty (inr none) = at_runners empty (all_ended_or_goes net settled end of.positions of.received of.sent of.held mesh.runners of.whole of.wired (still empty none))

      at_queues : HasSome (λ (ch : Channel). of.held ch.from) (channels links) ⊎ HaveNone (λ (ch : Channel). of.held ch.from) (channels links) → CanStep b mesh ⊎ IsOver b mesh
      at_queues (inl some) = inl (passes some.place some.x some.there some.m some.more some.is)
      at_queues (inr empty) = at_outboxes empty (some_or_none outbox_on (channels links))

  pub can_step : (HaveEnded b mesh.runners → ⊥) → CanStep b mesh
  can_step unended = at step_or_over
    where
      at : CanStep b mesh ⊎ IsOver b mesh → CanStep b mesh
      at (inl can) = can
      at (inr done) = absurd (unended done.ended)
