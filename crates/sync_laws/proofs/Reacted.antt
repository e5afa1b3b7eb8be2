-- A reaction keeps a runner standing.
use Rattle.std.proofs.Common.{◌≡◌, ℕ, ◌<◌, ◌≤◌, true, false, List, [], ◌∷◌, ◌++◌, length, map, Some, refl, sym, ap, ◌∙◌, subst, arith}
use Rattle.std.specs.Prelude.{slice_get}
use Rattle.std.specs.List.{AllByRecursion}
use Rattle.std.proofs.lemmas.Option.{same_Some}
use Rattle.std.proofs.lemmas.List.Elements.{recursion_from_All}
use Rattle.cs_base.specs.Plan.{partner}
use Rattle.sb_message.specs.Receivable.{receivable, is_event, MaySend}
use Rattle.sb_message.specs.Stream.{IsStream}
use Rattle.sb_message.specs.declared.message.Body.{Body}
use Rattle.sb_message.specs.declared.message.Msg.{Msg}
use Rattle.device_api.specs.Behaviour.{Behaviour, Reaction, IsLawful, IsOrderly}
use Rattle.device_api.specs.Channels.{Channel}
use Rattle.device_api.specs.Position.{Key, Position, is_reached, sync_key, tick_key}
use Rattle.device_api.specs.Transcript.{RisesFrom, Script, bodies, stamped_after, with_messages}
use Rattle.device_api.specs.World.{Run, after, sends_by, sent_at, logged_at}
use Rattle.run_laws.specs.NextEvent.{AreInboxes, local_script}
use Rattle.run_laws.proofs.Grown.{by_event}
use Rattle.run_laws.proofs.Keys.{later_is_after}
use Rattle.run_laws.proofs.Lists.{each-weaker}
use Rattle.run_laws.proofs.Timestamps.{script_upto_rises}
use Rattle.sync_rule.specs.declared.port_plan.PortPlan.{PortPlan}
use Rattle.sync_rule.specs.declared.runner.Runner.{Runner}
use Rattle.sync_rule.specs.Ports.{In, Out, IsPlanned, posted, at_place, post_all}
use Rattle.sync_rule.specs.ManyPorts.{ArePlanned}
use Rattle.sync_rule.specs.Steps.{after_reaction}
use Rattle.sync_laws.specs.Stands.{Stands, LeadsOut, HasReceived, HasMade, inbox_in, run_upto}
use Rattle.sync_laws.proofs.Changed.{map_changed, length_mapped}
use Rattle.sync_laws.proofs.Rising.{stream_more}
use Rattle.sync_laws.proofs.Posts.{FromOut, from_post, posts_at, posts_plan, posts_are, posts_late, posts_counted, posts_later, made_of}
use Rattle.sync_laws.proofs.Ahead.{kind_of_port, only_events}

-- a channel that leads out of a port
abbrev pub channel_from : ℕ → PortPlan → Channel
channel_from p plan = record { from = record { component = 0; port = p }; to = record { component = 0; port = 0 }; latency = plan.latency; interval = plan.interval }

pub leads_out : (p : ℕ) (plan : PortPlan) → LeadsOut (channel_from p plan) p plan
leads_out p plan = record { from_port = refl; latency = refl; interval = refl }

pub plans_posted : (t : ℕ) (sends : List (ℕ × Body)) (outs : List Out) → map (λ (o : Out). o.plan) (post_all t sends outs) ≡ map (λ (o : Out). o.plan) outs
unfolding post_all
plans_posted t [] outs = refl
plans_posted t (x ∷ more) outs = plans_posted t more (at_place x.0 (posted t x.1) outs) ∙ map_changed (λ (o : Out). o.plan) x.0 (posted t x.1) outs (λ o. refl)

pub planned_posted : (t : ℕ) (sends : List (ℕ × Body)) (outs : List Out) → ArePlanned outs → ArePlanned (post_all t sends outs)
planned_posted t sends outs planned p o is = let from : FromOut t p sends outs o = from_post t p sends outs o is in subst IsPlanned (sym (ap (λ (x : Out). x.plan) from.is ∙ posts_plan t p sends from.before)) (planned p from.before from.there)

module _ {V : Type 0} (b : Behaviour V) (settled : V → ℕ → Type 0) (lawful : IsLawful b settled) (start : V) (position : Position) (received sent : ℕ → List Msg) (old : Runner V) (stands : Stands b settled start position received sent old) where
  -- a reaction at an event's time, after which the receiving halves are others
  pub record Reacts (last : Key) (ins : List In) (x : Reaction V) : Type 0 where
    pub later : is_reached position last ≡ false
    pub within : last.time < old.end
    pub step : run_upto b start (Some last) received old.end ≡ after last.time (run_upto b start position received old.end) x
    pub same_plans : map (λ (i : In). i.plan) ins ≡ map (λ (i : In). i.plan) old.incoming
    pub same_kinds : map (λ (i : In). i.plan.kind) ins ≡ map (λ (i : In). i.plan.kind) old.incoming
    pub handled : ℕ → List Msg
    pub boxes : AreInboxes (Some last) (length (b.ports start)) (λ port. bodies (received port)) handled (inbox_in ins)
    pub heard : (p : ℕ) (i : In) → slice_get ins p ≡ Some i → HasReceived (Some last) p (received p) i
    pub timers : (p : ℕ) (o : Out) → slice_get old.outgoing p ≡ Some o → last.time < o.sync_due
    pub orderly : IsOrderly b settled old.device last.time x
    pub due : (t : ℕ) → b.due x.state ≡ Some t → is_reached (Some last) (tick_key t) ≡ false

  module _ (last : Key) (ins : List In) (x : Reaction V) (reacts : Reacts last ins x) where
    all_events : AllByRecursion (λ (s : ℕ × Body). is_event s.1 ≡ true) x.sends
    all_events = each-weaker (λ (s : ℕ × Body). MaySend (b.ports old.device) s.0 s.1) (λ (s : ℕ × Body). is_event s.1 ≡ true) x.sends (λ s may. may.event) (recursion_from_All (λ (s : ℕ × Body). MaySend (b.ports old.device) s.0 s.1) x.sends reacts.orderly.sendable)

    module _ (p : ℕ) (o : Out) (there : slice_get old.outgoing p ≡ Some o) where
      made : HasMade position (run_upto b start position received old.end) old.end p (sent p) o
      made = stands.made p o there

      -- what the port may send
      fits : (ch : Channel) → LeadsOut ch p o.plan → AllByRecursion (λ (s : ℕ × Body). s.0 ≡ ch.from.port → (receivable (partner o.plan.kind) s.1 ≡ true) × (is_event s.1 ≡ true)) x.sends
      fits ch out = each-weaker (λ (s : ℕ × Body). MaySend (b.ports old.device) s.0 s.1) (λ (s : ℕ × Body). s.0 ≡ ch.from.port → (receivable (partner o.plan.kind) s.1 ≡ true) × (is_event s.1 ≡ true)) x.sends may_be (recursion_from_All (λ (s : ℕ × Body). MaySend (b.ports old.device) s.0 s.1) x.sends reacts.orderly.sendable)
        where
          may_be : (s : ℕ × Body) → MaySend (b.ports old.device) s.0 s.1 → s.0 ≡ ch.from.port → (receivable (partner o.plan.kind) s.1 ≡ true) × (is_event s.1 ≡ true)
          may_be s may e = (subst (λ kind. receivable (partner kind) s.1 ≡ true) (same_Some may.kind o.plan.kind (sym may.at_port ∙ ap (slice_get (b.ports old.device)) (e ∙ out.from_port) ∙ ap (λ l. slice_get l p) stands.fitted.same_ports ∙ kind_of_port b settled lawful start position received sent old stands p o there)) may.fits, may.event)

      -- what it has made with the posts of this event
      grown : (ch : Channel) → LeadsOut ch p o.plan → local_script o.plan.kind ch (run_upto b start (Some last) received old.end) (Some last) old.end ≡ made_of (sent p) (posts_at last.time p x.sends o)
      grown ch out = by_event b (length (b.ports start)) (λ port. bodies (received port)) start position last old.end o.plan.kind ch (only_events b settled lawful) reacts.later reacts.within x reacts.step (later_is_after last _ (subst (λ n. last.time < n) (sym (ap (λ (s : Script). s.sync_due) (made.script ch out))) (reacts.timers p o there))) ∙ ap (λ s. with_messages ch last.time s (stamped_after ch (sends_by ch.from.port (run_upto b start position received old.end).sent) (sends_by ch.from.port (sent_at last.time x.sends)))) (made.script ch out) ∙ sym (posts_are ch last.time p (sent p) x.sends o (sends_by ch.from.port (run_upto b start position received old.end).sent) out)

      plan : PortPlan
      plan = o.plan

      messages_are : (ch : Channel) (out : LeadsOut ch p o.plan) → sent p ++ (posts_at last.time p x.sends o).outbox ≡ (sent p ++ o.outbox) ++ stamped_after ch [] (sends_by ch.from.port (sent_at last.time x.sends))
      messages_are ch out = ap (λ (s : Script). s.messages) (posts_are ch last.time p (sent p) x.sends o [] out)

      stream_then : IsStream (partner o.plan.kind) (sent p ++ (posts_at last.time p x.sends o).outbox)
      stream_then = subst (IsStream (partner o.plan.kind)) (sym same) (stream_more (partner o.plan.kind) (sent p ++ o.outbox) _ made.stream (posts_later ch (partner o.plan.kind) last.time [] x.sends (fits ch (leads_out p o.plan))) (subst (RisesFrom 0) (ap (λ (s : Script). s.messages) (grown ch (leads_out p o.plan)) ∙ same) (script_upto_rises o.plan.kind ch (sends_by ch.from.port (run_upto b start (Some last) received old.end).sent) (Some last) old.end).rises))
        where
          ch : Channel
          ch = channel_from p o.plan

          same : sent p ++ (posts_at last.time p x.sends o).outbox ≡ (sent p ++ o.outbox) ++ stamped_after (channel_from p o.plan) [] (sends_by p (sent_at last.time x.sends))
          same = messages_are (channel_from p o.plan) (leads_out p o.plan)

      made_then : HasMade (Some last) (run_upto b start (Some last) received old.end) old.end p (sent p) (posts_at last.time p x.sends o)
      made_then = record {
        script = λ ch out. ap (λ (q : PortPlan). local_script q.kind ch (run_upto b start (Some last) received old.end) (Some last) old.end) (posts_plan last.time p x.sends o) ∙ grown ch (subst (LeadsOut ch p) (posts_plan last.time p x.sends o) out);
        stream = subst (λ (q : PortPlan). IsStream (partner q.kind) (sent p ++ (posts_at last.time p x.sends o).outbox)) (sym (posts_plan last.time p x.sends o)) stream_then;
        count = posts_counted last.time p (sent p) x.sends o all_events made.count;
        ahead = later_is_after last (sync_key (posts_at last.time p x.sends o).sync_due p) (posts_late last.time p x.sends o (stands.fitted.planned p o there).some_interval (reacts.timers p o there));
      }

    pub reacted : Stands b settled start (Some last) received sent (after_reaction (record old { incoming = ins }) last.time x)
    reacted = record {
      fitted = record {
        short = stands.fitted.short;
        few = subst (λ n. n ≤ 32) (sym (sym (length_mapped (λ (i : In). i.plan) ins) ∙ ap length reacts.same_plans ∙ length_mapped (λ (i : In). i.plan) old.incoming)) stands.fitted.few;
        kinds = reacts.same_kinds ∙ stands.fitted.kinds;
        same_ports = reacts.orderly.same_ports ∙ stands.fitted.same_ports;
        same_plans = plans_posted last.time x.sends old.outgoing ∙ stands.fitted.same_plans ∙ sym reacts.same_plans;
        planned = planned_posted last.time x.sends old.outgoing stands.fitted.planned;
        no_sends = stands.fitted.no_sends;
        no_lines = stands.fitted.no_lines;
      };
      device = sym (ap (λ (run : Run V). run.state) reacts.step);
      log = ap (λ l. l ++ logged_at last.time x.lines) stands.log ∙ sym (ap (λ (run : Run V). run.log) reacts.step);
      handled = reacts.handled;
      boxes = reacts.boxes;
      heard = reacts.heard;
      made = λ p o is. let from : FromOut last.time p x.sends old.outgoing o = from_post last.time p x.sends old.outgoing o is in subst (HasMade (Some last) (run_upto b start (Some last) received old.end) old.end p (sent p)) (sym from.is) (made_then p from.before from.there);
      tick_ahead = reacts.due;
      settled_now = reacts.orderly.settled_after;
      in_run = (let within : last.time < old.end = reacts.within in omega arith);
    }
