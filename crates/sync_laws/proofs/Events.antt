-- An event keeps a runner standing.
use Rattle.std.proofs.Common.{◌≡◌, ℕ, suc, ◌+◌, ◌<◌, ◌≤◌, true, false, List, [], ◌∷◌, ◌++◌, length, Some, refl, sym, ap, ◌∙◌, subst, arith, length-append, append_assoc}
use Rattle.std.specs.Prelude.{slice_get}
use Rattle.std.specs.List.{AllByRecursion}
use Rattle.std.proofs.lemmas.Option.{same_Some}
use Rattle.cs_base.specs.Plan.{partner}
use Rattle.sb_message.specs.Receivable.{MayReceive, is_event}
use Rattle.sb_message.specs.Stream.{IsStream}
use Rattle.sb_message.specs.declared.message.Body.TheVariants as body
use Rattle.sb_message.specs.declared.message.Msg.{Msg}
use Rattle.device_api.specs.Behaviour.{Behaviour, IsLawful, IsNotPast, IsLater}
use Rattle.device_api.specs.Channels.{Channel}
use Rattle.device_api.specs.Position.{Key, Position, is_reached, is_at_most, sync_key, message_key, tick_key}
use Rattle.device_api.specs.Transcript.{RisesFrom, Script, bodies, bound_of, bound_from, with_messages, null_message}
use Rattle.device_api.specs.World.{Run, after, sends_by}
use Rattle.run_laws.specs.NextEvent.{IsBeforeHead, IsNextTake, IsNextSync, local_script, with_port}
use Rattle.run_laws.proofs.Grown.{by_none, by_sync}
use Rattle.run_laws.proofs.Inboxes.{boxes_stay, boxes_take}
use Rattle.run_laws.proofs.Keys.{later_is_after, phase_is_after, next_is_after, missed_after, message_before_next}
use Rattle.run_laws.proofs.Lists.{each-back, each-filter}
use Rattle.run_laws.proofs.Steps.{take_step, tick_step, sync_step}
use Rattle.run_laws.proofs.Timestamps.{script_upto_rises, within_bound}
use Rattle.sync_rule.specs.declared.next.Next.{Next}
use Rattle.sync_rule.specs.declared.next.Next.TheVariants.{Sync, Take, Tick}
use Rattle.sync_rule.specs.declared.runner.Runner.{Runner}
use Rattle.sync_rule.specs.Ports.{In, Out, IsPlanned, synced, taken, rest_of, at_place}
use Rattle.sync_rule.specs.ManyPorts.{IsHead}
use Rattle.sync_rule.specs.Next.{IsEnabled, key_of}
use Rattle.sync_rule.specs.Steps.{after_sync, after_take, after_tick, IsAfter}
use Rattle.sync_rule.proofs.Places.{each_at}
use Rattle.sync_rule.proofs.Ready.{may_receive}
use Rattle.sync_laws.specs.Stands.{Stands, HasReceived, HasMade, LeadsOut, inbox_at, inbox_in, place_of, next_at, run_upto}
use Rattle.sync_laws.proofs.Changed.{each_place, map_changed, inboxes_changed, boxes_same}
use Rattle.sync_laws.proofs.Orders.{after_it, earlier_than}
use Rattle.sync_laws.proofs.Rising.{stream_more, sent_rises}
use Rattle.sync_laws.proofs.Posts.{made_of, sync_is, sync_counted}
use Rattle.sync_laws.proofs.Ahead.{head_there, port_below, number_is, ahead, is_ready, settled_then, due_then, limits, quiet_after, only_events}
use Rattle.sync_laws.proofs.Reacted.{Reacts, reacted, channel_from, leads_out}

none_differ : ◌≡◌ {A = ℕ} 0 1 → ⊥
none_differ e = omega arith

module _ {V : Type 0} (b : Behaviour V) (settled : V → ℕ → Type 0) (lawful : IsLawful b settled) (start : V) (position : Position) (received sent : ℕ → List Msg) (old : Runner V) (stands : Stands b settled start position received sent old) where
  abbrev ports : ℕ
  ports = length (b.ports start)

  abbrev inputs : ℕ → List Msg
  inputs port = bodies (received port)

  abbrev run : Run V
  run = run_upto b start position received old.end

  -- what a port received, after an event that isn't before what it hears next
  later_heard : (last : Key) (p : ℕ) (i : In) (inbox : List Msg) → slice_get old.incoming p ≡ Some i → (inbox ≡ [] → is_reached (Some last) (next_at p (received p)) ≡ false) → HasReceived (Some last) p (received p) (record { plan = i.plan; inbox = inbox; bound = i.bound; introduced = i.introduced })
  later_heard last p i inbox is missed = record {
    bound = (stands.heard p i is).bound;
    stream = (stands.heard p i is).stream;
    introduced = (stands.heard p i is).introduced;
    first = (stands.heard p i is).first;
    not_missed = missed;
  }

  -- what waits, after an event that is at most each head
  heads_after : (next : Next) (en : IsEnabled b old next) (n : ℕ) (p : ℕ) → ((m : Msg) → is_at_most (key_of next) (message_key m.at p 0) ≡ true → is_reached (Some (record (key_of next) { number = n })) (message_key m.at p (length (stands.handled p))) ≡ false) → IsBeforeHead (record (key_of next) { number = n }) p (stands.handled p) (inbox_in old.incoming p)
  heads_after next en n p told m more e = told m (en.is_next.least (Take p m.at) (head_there old.incoming p m more e))

  module _ (port u : ℕ) (en : IsEnabled b old (Sync port u)) where
    sync_later : is_reached position (sync_key u port) ≡ false
    sync_later = ahead b settled lawful start position received sent old stands (Sync port u) en.is_next.pending

    sync_heads : (p : ℕ) → p < ports → IsBeforeHead (sync_key u port) p (stands.handled p) (inbox_in old.incoming p)
    sync_heads p lt = heads_after (Sync port u) en 0 p (λ m le. after_it (sync_key u port) (message_key m.at p 0) 0 (length (stands.handled p)) le (λ alike. none_differ alike.0))

    sync_next : IsNextSync b position ports stands.handled (inbox_in old.incoming) run.state u port
    sync_next = record {
      ahead = sync_later;
      before_messages = sync_heads;
      before_tick = subst (λ d. IsNotPast u (b.due d)) stands.device (due_then b settled lawful start position received sent old stands (Sync port u) en);
    }

    sync_run : run_upto b start (Some (sync_key u port)) received old.end ≡ run
    sync_run = sync_step b ports inputs start position old.end stands.handled (inbox_in old.incoming) stands.boxes u port sync_next en.in_run

    -- the port whose null message it is
    sync_made : (o : Out) → slice_get old.outgoing port ≡ Some o → HasMade (Some (sync_key u port)) (run_upto b start (Some (sync_key u port)) received old.end) old.end port (sent port) (synced u o)
    sync_made o there = record {
      script = script;
      stream = stream;
      count = sync_counted u (sent port) o made.count;
      ahead = later_is_after (sync_key u port) (sync_key (u + o.plan.interval) port) (let some : 1 ≤ o.plan.interval = (stands.fitted.planned port o there).some_interval in omega arith);
    }
      where
        made : HasMade position run old.end port (sent port) o
        made = stands.made port o there

        due : o.sync_due ≡ u
        due = ap (λ (x : Out). x.sync_due) (same_Some o en.is_next.pending.is (sym there ∙ en.is_next.pending.there)) ∙ same_Some en.is_next.pending.is.sync_due u en.is_next.pending.at_time

        script : (ch : Channel) → LeadsOut ch port o.plan → local_script o.plan.kind ch (run_upto b start (Some (sync_key u port)) received old.end) (Some (sync_key u port)) old.end ≡ made_of (sent port) (synced u o)
        script ch out = subst (λ q. is_reached position (sync_key u q) ≡ false → run_upto b start (Some (sync_key u q)) received old.end ≡ run → local_script o.plan.kind ch (run_upto b start (Some (sync_key u q)) received old.end) (Some (sync_key u q)) old.end ≡ with_messages ch u (local_script o.plan.kind ch run position old.end) (null_message ch u ∷ [])) out.from_port (λ later same. by_sync b ports inputs start position u old.end o.plan.kind ch (only_events b settled lawful) later en.in_run same (ap (λ (s : Script). s.sync_due) (made.script ch out) ∙ due)) sync_later sync_run ∙ ap (λ s. with_messages ch u s (null_message ch u ∷ [])) (made.script ch out) ∙ sync_is ch u port (sent port) o out

        stream : IsStream (partner o.plan.kind) (sent port ++ (synced u o).outbox)
        stream = subst (IsStream (partner o.plan.kind)) (append_assoc (sent port) o.outbox (record { at = u + o.plan.latency; body = body.Sync } ∷ [])) (stream_more (partner o.plan.kind) (sent port ++ o.outbox) (record { at = u + o.plan.latency; body = body.Sync } ∷ []) made.stream ((refl, refl), tt) (subst (RisesFrom 0) (ap (λ (s : Script). s.messages) (script (channel_from port o.plan) (leads_out port o.plan)) ∙ sym (append_assoc (sent port) o.outbox (record { at = u + o.plan.latency; body = body.Sync } ∷ []))) (script_upto_rises o.plan.kind (channel_from port o.plan) (sends_by port (run_upto b start (Some (sync_key u port)) received old.end).sent) (Some (sync_key u port)) old.end).rises))

    -- the other ports
    sync_others : (p : ℕ) (o : Out) → (p ≡ port → ⊥) → slice_get old.outgoing p ≡ Some o → HasMade (Some (sync_key u port)) (run_upto b start (Some (sync_key u port)) received old.end) old.end p (sent p) o
    sync_others p o differ there = record {
      script = λ ch out. by_none b ports inputs start position (sync_key u port) old.end o.plan.kind ch (only_events b settled lawful) sync_later en.in_run sync_run (subst (λ q. is_reached (Some (sync_key u port)) (sync_key (local_script o.plan.kind ch run position old.end).sync_due q) ≡ false) (sym out.from_port) (subst (λ n. is_reached (Some (sync_key u port)) (sync_key n p) ≡ false) (sym (ap (λ (s : Script). s.sync_due) ((stands.made p o there).script ch out))) still)) ∙ (stands.made p o there).script ch out;
      stream = (stands.made p o there).stream;
      count = (stands.made p o there).count;
      ahead = still;
    }
      where
        still : is_reached (Some (sync_key u port)) (sync_key o.sync_due p) ≡ false
        still = after_it (sync_key u port) (sync_key o.sync_due p) 0 0 (en.is_next.least (Sync p o.sync_due) (record { is = o; there = there; at_time = refl })) (λ alike. differ (sym alike.1))

    pub sync_stands : Stands b settled start (Some (sync_key u port)) received sent (after_sync old port u)
    sync_stands = record {
      fitted = record {
        short = stands.fitted.short;
        few = stands.fitted.few;
        kinds = stands.fitted.kinds;
        same_ports = stands.fitted.same_ports;
        same_plans = map_changed (λ (o : Out). o.plan) port (synced u) old.outgoing (λ o. refl) ∙ stands.fitted.same_plans;
        planned = each_at (λ (o : Out). IsPlanned o.plan) port (synced u) old.outgoing stands.fitted.planned (λ o is. is);
        no_sends = stands.fitted.no_sends;
        no_lines = stands.fitted.no_lines;
      };
      device = stands.device ∙ sym (ap (λ (r : Run V). r.state) sync_run);
      log = stands.log ∙ sym (ap (λ (r : Run V). r.log) sync_run);
      handled = stands.handled;
      boxes = boxes_stay position ports inputs stands.handled (inbox_in old.incoming) stands.boxes (sync_key u port) sync_later sync_heads;
      heard = λ p i is. later_heard (sync_key u port) p i i.inbox is (quiet_after b settled lawful start position received sent old stands (Sync port u) en p i is);
      made = each_place (λ p o. slice_get old.outgoing p ≡ Some o) (λ p o. HasMade (Some (sync_key u port)) (run_upto b start (Some (sync_key u port)) received old.end) old.end p (sent p) o) port (synced u) old.outgoing (λ p o is. is) (λ o is _. sync_made o is) (λ p o differ is _. sync_others p o differ is);
      tick_ahead = λ t e. after_it (sync_key u port) (tick_key t) 0 0 (en.is_next.least (Tick t) e) (λ alike. absurd (let no : ◌≡◌ {A = ℕ} 0 2 = alike.0 in omega arith));
      settled_now = settled_then b settled lawful start position received sent old stands (Sync port u) en.is_next.pending;
      in_run = (let within : u < old.end = en.in_run in omega arith);
    }

  module _ (t : ℕ) (en : IsEnabled b old (Tick t)) where
    tick_later : is_reached position (tick_key t) ≡ false
    tick_later = stands.tick_ahead t en.is_next.pending

    tick_heads : (p : ℕ) → p < ports → IsBeforeHead (tick_key t) p (stands.handled p) (inbox_in old.incoming p)
    tick_heads p lt = heads_after (Tick t) en 0 p (λ m le. after_it (tick_key t) (message_key m.at p 0) 0 (length (stands.handled p)) le (λ alike. absurd (let no : ◌≡◌ {A = ℕ} 2 1 = alike.0 in omega arith)))

    tick_reacts : Reacts b settled lawful start position received sent old stands (tick_key t) old.incoming (b.tick old.device t)
    tick_reacts = record {
      later = tick_later;
      within = en.in_run;
      step = tick_step b ports inputs start position old.end stands.handled (inbox_in old.incoming) stands.boxes t (record { ahead = tick_later; due = ap b.due (sym stands.device) ∙ en.is_next.pending; before_messages = tick_heads }) en.in_run ∙ ap (λ d. after t run (b.tick d t)) (sym stands.device);
      same_plans = refl;
      same_kinds = refl;
      handled = stands.handled;
      boxes = boxes_stay position ports inputs stands.handled (inbox_in old.incoming) stands.boxes (tick_key t) tick_later tick_heads;
      heard = λ p i is. later_heard (tick_key t) p i i.inbox is (quiet_after b settled lawful start position received sent old stands (Tick t) en p i is);
      timers = λ p o is. earlier_than (tick_key t) (sync_key o.sync_due p) (en.is_next.least (Sync p o.sync_due) (record { is = o; there = is; at_time = refl })) (omega arith);
      orderly = (lawful.at old.device).tick_orderly t en.is_next.pending (limits b settled lawful start position received sent old stands (Tick t) en) (settled_then b settled lawful start position received sent old stands (Tick t) en.is_next.pending);
      due = λ t' e. later_is_after (tick_key t) (tick_key t') (subst (IsLater t) e ((lawful.at old.device).due_after_tick t en.is_next.pending (limits b settled lawful start position received sent old stands (Tick t) en) (settled_then b settled lawful start position received sent old stands (Tick t) en.is_next.pending)));
    }

    pub tick_stands : Stands b settled start (Some (tick_key t)) received sent (after_tick b old t)
    tick_stands = reacted b settled lawful start position received sent old stands (tick_key t) old.incoming (b.tick old.device t) tick_reacts

  module _ (port : ℕ) (m : Msg) (head : IsHead old.incoming port m) (en : IsEnabled b old (Take port m.at)) where
    below : port < ports
    below = port_below b settled lawful start position received sent old stands port head.is head.there

    first : inbox_in old.incoming port ≡ m ∷ head.more
    first = ap inbox_at head.there ∙ head.head

    take_later : is_reached position (message_key m.at port (length (stands.handled port))) ≡ false
    take_later = subst (λ n. is_reached position (message_key m.at port n) ≡ false) (number_is b settled lawful start position received sent old stands port below) (ahead b settled lawful start position received sent old stands (Take port m.at) en.is_next.pending)

    take_heads : (p : ℕ) → p < ports → (p ≡ port → ⊥) → IsBeforeHead (message_key m.at port (length (stands.handled port))) p (stands.handled p) (inbox_in old.incoming p)
    take_heads p lt differ = heads_after (Take port m.at) en (length (stands.handled port)) p (λ m' le. after_it (message_key m.at port 0) (message_key m'.at p 0) (length (stands.handled port)) (length (stands.handled p)) le (λ alike. differ (sym alike.1)))

    take_next : IsNextTake b ports stands.handled (inbox_in old.incoming) run.state port m head.more
    take_next = record {
      at_port = below;
      head = first;
      before_others = take_heads;
      before_tick = subst (λ d. IsNotPast m.at (b.due d)) stands.device (due_then b settled lawful start position received sent old stands (Take port m.at) en);
    }

    -- what the port received reaches as far as the message
    within_received : m.at ≤ bound_of (received port)
    within_received = (subst (AllByRecursion (λ (x : Msg). x.at ≤ bound_from 0 (received port))) first (each-back (λ (x : Msg). x.at ≤ bound_from 0 (received port)) (stands.handled port) (inbox_in old.incoming port) (subst (AllByRecursion (λ (x : Msg). x.at ≤ bound_from 0 (received port))) (stands.boxes.whole port below) (each-filter (λ (x : Msg). x.at ≤ bound_from 0 (received port)) (λ (x : Msg). is_event x.body) (received port) (within_bound 0 (received port) (sent_rises head.is.plan.kind (received port) (stands.heard port head.is head.there).stream)).0)))).0

    -- what comes in at the port after its last message
    then_quiet : rest_of head.is.inbox ≡ [] → is_reached (Some (message_key m.at port (length (stands.handled port)))) (next_at port (received port)) ≡ false
    then_quiet none = missed_after (Some (message_key m.at port (length (stands.handled port)))) (message_key m.at port (suc (length (stands.handled port)))) (next_at port (received port)) (message_before_next m.at (bound_of (received port)) port (suc (length (stands.handled port))) (length (bodies (received port))) within_received (let whole : length (bodies (received port)) ≡ length (stands.handled port) + length (m ∷ head.more) = ap length (stands.boxes.whole port below ∙ ap (λ l. stands.handled port ++ l) first) ∙ length-append (stands.handled port) (m ∷ head.more) in omega arith)) (next_is_after m.at port (length (stands.handled port)))

    take_reacts : Reacts b settled lawful start position received sent old stands (message_key m.at port (length (stands.handled port))) (at_place port taken old.incoming) (b.take old.device m.at port m.body)
    take_reacts = record {
      later = take_later;
      within = en.in_run;
      step = take_step b ports inputs start position old.end stands.handled (inbox_in old.incoming) stands.boxes port m head.more take_next en.in_run ∙ ap (λ d. after m.at run (b.take d m.at port m.body)) (sym stands.device);
      same_plans = map_changed (λ (i : In). i.plan) port taken old.incoming (λ i. refl);
      same_kinds = map_changed (λ (i : In). i.plan.kind) port taken old.incoming (λ i. refl);
      handled = with_port port (stands.handled port ++ m ∷ []) stands.handled;
      boxes = boxes_same (Some (message_key m.at port (length (stands.handled port)))) ports inputs (with_port port (stands.handled port ++ m ∷ []) stands.handled) (with_port port head.more (inbox_in old.incoming)) (inbox_in (at_place port taken old.incoming)) (subst (λ l. (p : ℕ) → with_port port l (inbox_in old.incoming) p ≡ inbox_in (at_place port taken old.incoming) p) (ap rest_of head.head) (inboxes_changed port taken old.incoming head.is head.there)) (boxes_take b position ports inputs stands.handled (inbox_in old.incoming) stands.boxes run.state port m head.more take_next);
      heard = each_place (λ p i. slice_get old.incoming p ≡ Some i) (λ p i. HasReceived (Some (message_key m.at port (length (stands.handled port)))) p (received p) i) port taken old.incoming (λ p i is. is) (λ i is _. later_heard (message_key m.at port (length (stands.handled port))) port i (rest_of i.inbox) is (subst (λ (j : In). rest_of j.inbox ≡ [] → is_reached (Some (message_key m.at port (length (stands.handled port)))) (next_at port (received port)) ≡ false) (same_Some head.is i (sym head.there ∙ is)) then_quiet)) (λ p i differ is _. later_heard (message_key m.at port (length (stands.handled port))) p i i.inbox is (λ none. subst (λ n. is_reached (Some (message_key m.at port n)) (next_at p (received p)) ≡ false) (number_is b settled lawful start position received sent old stands port below) (quiet_after b settled lawful start position received sent old stands (Take port m.at) en p i is none)));
      timers = λ p o is. earlier_than (message_key m.at port 0) (sync_key o.sync_due p) (en.is_next.least (Sync p o.sync_due) (record { is = o; there = is; at_time = refl })) (omega arith);
      orderly = (lawful.at old.device).take_orderly m.at port m.body may (due_then b settled lawful start position received sent old stands (Take port m.at) en) (limits b settled lawful start position received sent old stands (Take port m.at) en) (settled_then b settled lawful start position received sent old stands (Take port m.at) en.is_next.pending);
      due = λ t e. phase_is_after (message_key m.at port (length (stands.handled port))) (tick_key t) refl (subst (IsNotPast m.at) e ((lawful.at old.device).due_after_take m.at port m.body may (due_then b settled lawful start position received sent old stands (Take port m.at) en) (limits b settled lawful start position received sent old stands (Take port m.at) en) (settled_then b settled lawful start position received sent old stands (Take port m.at) en.is_next.pending)));
    }
      where
        may : MayReceive (b.ports old.device) port m.body
        may = may_receive b settled old (is_ready b settled lawful start position received sent old stands) port m head

    pub take_stands : Stands b settled start (Some (place_of received old (Take port m.at))) received sent (after_take b old port m)
    take_stands = subst (λ n. Stands b settled start (Some (message_key m.at port n)) received sent (after_take b old port m)) (sym (number_is b settled lawful start position received sent old stands port below)) (reacted b settled lawful start position received sent old stands (message_key m.at port (length (stands.handled port))) (at_place port taken old.incoming) (b.take old.device m.at port m.body) take_reacts)

  pub event_stands : (new : Runner V) (next : Next) → IsEnabled b old next → IsAfter b old next new → Stands b settled start (Some (place_of received old next)) received sent new
  event_stands new (Sync port u) en is = subst (Stands b settled start (Some (sync_key u port)) received sent) (sym is) (sync_stands port u en)
  event_stands new (Tick t) en is = subst (Stands b settled start (Some (tick_key t)) received sent) (sym is) (tick_stands t en)
  event_stands new (Take port t) en take = subst (Stands b settled start (Some (place_of received old (Take port t))) received sent) (sym take.is) (subst (λ x. Stands b settled start (Some (place_of received old (Take port x))) received sent (after_take b old port take.m)) take.at_time (take_stands port take.m take.head (subst (λ x. IsEnabled b old (Take port x)) (sym take.at_time) en)))
