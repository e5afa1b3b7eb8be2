-- What a runner that stands has for its next event.
use Rattle.std.proofs.Common.{◌≡◌, ℕ, ◌+◌, ◌-◌, ◌^◌, ◌<◌, ◌≤◌, inl, inr, Bool, true, false, cond, List, [], ◌∷◌, length, map, Option, Some, None, refl, sym, ap, ◌∙◌, subst, arith, length-append}
use Rattle.std.specs.Prelude.{slice_get}
use Rattle.std.specs.List.{AllByRecursion}
use Rattle.std.proofs.lemmas.Option.{none-some, same_Some, slice_get_within}
use Rattle.cs_base.specs.declared.port_kind.PortKind.{PortKind}
use Rattle.sb_message.specs.Receivable.{receivable, is_event}
use Rattle.sb_message.specs.declared.message.Msg.{Msg}
use Rattle.device_api.specs.Behaviour.{Behaviour, IsLawful, IsNotPast}
use Rattle.device_api.specs.Position.{Key, Position, is_reached, sync_key, message_key, tick_key}
use Rattle.device_api.specs.Transcript.{bodies, bound_of}
use Rattle.port_queue.specs.Plain.{IsSent}
use Rattle.run_laws.specs.NextEvent.{AreAhead}
use Rattle.run_laws.specs.Wired.{SendsEvents}
use Rattle.run_laws.proofs.Keys.{later_is_after, phase_is_after}
use Rattle.run_laws.proofs.Lists.{each-back}
use Rattle.sync_rule.specs.declared.next.Next.{Next}
use Rattle.sync_rule.specs.declared.next.Next.TheVariants.{Sync, Take, Tick}
use Rattle.sync_rule.specs.declared.port_plan.PortPlan.{PortPlan}
use Rattle.sync_rule.specs.declared.runner.Runner.{Runner}
use Rattle.sync_rule.specs.Ports.{In, Out}
use Rattle.sync_rule.specs.Times.{head_of, head_time, quiet_bound, time_of, needed_for}
use Rattle.sync_rule.specs.Soonest.{IsTimed}
use Rattle.sync_rule.specs.Next.{IsPending, IsEnabled, IsReady, AreReceivable, key_of}
use Rattle.sync_rule.proofs.Keys.{at_most_time}
use Rattle.sync_rule.proofs.Chosen.{key_time}
use Rattle.sync_laws.specs.Stands.{Stands, after_last, inbox_at, inbox_in, place_of, next_at}
use Rattle.sync_laws.proofs.Changed.{get_mapped, length_mapped}
use Rattle.sync_laws.proofs.Orders.{not_before}

-- INBOXES

-- the head of an inbox
pub record IsFirst (ins : List In) (p t : ℕ) : Type 0 where
  pub m : Msg
  pub more : List Msg
  pub first : inbox_in ins p ≡ m ∷ more
  pub at_time : m.at ≡ t

pub first_of : (ins : List In) (p t : ℕ) → IsTimed head_of ins p t → IsFirst ins p t
first_of ins p t timed = at timed.is.inbox refl timed.at_time
  where
    at : (inbox : List Msg) → timed.is.inbox ≡ inbox → head_time inbox ≡ Some t → IsFirst ins p t
    at [] e none = absurd (none-some t none)
    at (m ∷ more) e some = record { m = m; more = more; first = ap inbox_at timed.there ∙ e; at_time = same_Some m.at t some }

pub head_there : (ins : List In) (p : ℕ) (m : Msg) (more : List Msg) → inbox_in ins p ≡ m ∷ more → IsTimed head_of ins p m.at
head_there ins p m more e = at (slice_get ins p) refl e
  where
    at : (o : Option In) → slice_get ins p ≡ o → inbox_at o ≡ m ∷ more → IsTimed head_of ins p m.at
    at None is none = absurd (let no : length {A = Msg} [] ≡ length (m ∷ more) = ap length none in omega arith)
    at (Some i) is first = record { is = i; there = is; at_time = ap head_time first }

head_ahead : (position : Position) (p n : ℕ) (xs : List Msg) (m : Msg) (more : List Msg) → AreAhead position p n xs → xs ≡ m ∷ more → is_reached position (message_key m.at p n) ≡ false
unfolding AreAhead
head_ahead position p n xs m more ahead e = (subst (AreAhead position p n) e ahead).0

events_receivable : (kind : PortKind) (xs : List Msg) → AllByRecursion (λ (m : Msg). receivable kind m.body ≡ true) xs → AreReceivable kind (bodies xs)
events_receivable kind [] all = tt
events_receivable kind (m ∷ more) all = at (is_event m.body) refl (events_receivable kind more all.1)
  where
    at : (b : Bool) → is_event m.body ≡ b → AreReceivable kind (bodies more) → AreReceivable kind (cond b (m ∷ bodies more) (bodies more))
    at true e rest = ((all.0, e), rest)
    at false e rest = rest

sent_receivable : (kind : PortKind) (xs : List Msg) → IsSent kind xs → AllByRecursion (λ (m : Msg). receivable kind m.body ≡ true) xs
sent_receivable kind xs (inl none) = subst (AllByRecursion (λ (m : Msg). receivable kind m.body ≡ true)) (sym none) tt
sent_receivable kind xs (inr stream) = stream.receivable

map-both : (kinds : List In) → map (λ (plan : PortPlan). plan.kind) (map (λ (i : In). i.plan) kinds) ≡ map (λ (i : In). i.plan.kind) kinds
map-both [] = refl
map-both (i ∷ more) = ap (λ l. i.plan.kind ∷ l) (map-both more)

module _ {V : Type 0} (b : Behaviour V) (settled : V → ℕ → Type 0) (lawful : IsLawful b settled) where
  pub only_events : SendsEvents b
  only_events = record { take_sends_events = λ s. (lawful.at s).take_sends_events; tick_sends_events = λ s. (lawful.at s).tick_sends_events }

  module _ (start : V) (position : Position) (received sent : ℕ → List Msg) (r : Runner V) (stands : Stands b settled start position received sent r) where
    pub as_many_in : length r.incoming ≡ length (b.ports start)
    as_many_in = sym (length_mapped (λ (i : In). i.plan.kind) r.incoming) ∙ ap length stands.fitted.kinds

    pub as_many : length r.outgoing ≡ length r.incoming
    as_many = sym (length_mapped (λ (o : Out). o.plan) r.outgoing) ∙ ap length stands.fitted.same_plans ∙ length_mapped (λ (i : In). i.plan) r.incoming

    pub port_below : (p : ℕ) (i : In) → slice_get r.incoming p ≡ Some i → p < length (b.ports start)
    port_below p i is = subst (λ n. p < n) as_many_in (slice_get_within r.incoming p i is)

    -- the kind of a port
    pub kind_of_port : (p : ℕ) (o : Out) → slice_get r.outgoing p ≡ Some o → slice_get (b.ports start) p ≡ Some o.plan.kind
    kind_of_port p o is = subst (λ l. slice_get l p ≡ Some o.plan.kind) (ap (map (λ (plan : PortPlan). plan.kind)) stands.fitted.same_plans ∙ map-both r.incoming ∙ stands.fitted.kinds) (get_mapped (λ (plan : PortPlan). plan.kind) (map (λ (o : Out). o.plan) r.outgoing) p o.plan (get_mapped (λ (o : Out). o.plan) r.outgoing p o is))

    -- how many messages of a port were handled
    pub number_is : (p : ℕ) → p < length (b.ports start) → length (bodies (received p)) - length (inbox_in r.incoming p) ≡ length (stands.handled p)
    number_is p lt = let whole : length (bodies (received p)) ≡ length (stands.handled p) + length (inbox_in r.incoming p) = ap length (stands.boxes.whole p lt) ∙ length-append (stands.handled p) (inbox_in r.incoming p) in omega arith

    -- what is pending is after the position
    pub ahead : (next : Next) → IsPending b r next → is_reached position (place_of received r next) ≡ false
    ahead (Sync p u) timed = subst (λ x. is_reached position (sync_key x p) ≡ false) (same_Some timed.is.sync_due u timed.at_time) (stands.made p timed.is timed.there).ahead
    ahead (Take p t) timed = let first : IsFirst r.incoming p t = first_of r.incoming p t timed in let below : p < length (b.ports start) = port_below p timed.is timed.there in subst (λ x. is_reached position (message_key x p (length (bodies (received p)) - length (inbox_in r.incoming p))) ≡ false) first.at_time (subst (λ n. is_reached position (message_key first.m.at p n) ≡ false) (sym (number_is p below)) (head_ahead position p (length (stands.handled p)) (inbox_in r.incoming p) first.m first.more (stands.boxes.waits p below) first.first))
    ahead (Tick t) e = stands.tick_ahead t e

    place_time : (next : Next) → (place_of received r next).time ≡ time_of next
    place_time (Sync p u) = refl
    place_time (Take p t) = refl
    place_time (Tick t) = refl

    last_before : (p : Position) (k : Key) → is_reached p k ≡ false → after_last p ≤ k.time + 1
    last_before None k missed = omega arith
    last_before (Some last) k missed = let le : last.time ≤ k.time = not_before last k missed in omega arith

    pub what_waits : (p : ℕ) (i : In) → slice_get r.incoming p ≡ Some i → AreReceivable i.plan.kind i.inbox
    what_waits p i is = subst (AreReceivable i.plan.kind) (ap inbox_at is) (each-back (λ (m : Msg). (receivable i.plan.kind m.body ≡ true) × (is_event m.body ≡ true)) (stands.handled p) (inbox_in r.incoming p) (subst (AreReceivable i.plan.kind) (stands.boxes.whole p (port_below p i is)) (events_receivable i.plan.kind (received p) (sent_receivable i.plan.kind (received p) (stands.heard p i is).stream))))

    pub settled_then : (next : Next) → IsPending b r next → settled r.device (time_of next + 1)
    settled_then next pending = (lawful.at r.device).settled_later (after_last position) (time_of next + 1) stands.settled_now (subst (λ t. after_last position ≤ t + 1) (place_time next) (last_before position (place_of received r next) (ahead next pending)))

    pub is_ready : IsReady b settled r
    is_ready = record {
      short = stands.fitted.short;
      few = stands.fitted.few;
      ports = stands.fitted.kinds ∙ sym stands.fitted.same_ports;
      as_many = as_many;
      planned = stands.fitted.planned;
      receivable = what_waits;
      settled_then = λ next en. settled_then next en.is_next.pending;
      no_sends = stands.fitted.no_sends;
      no_lines = stands.fitted.no_lines;
    }

    module _ (next : Next) (en : IsEnabled b r next) where
      pub not_before_next : (other : Next) → IsPending b r other → time_of next ≤ time_of other
      not_before_next other pending = subst (λ x. x ≤ time_of other) (key_time b r next) (subst (λ y. (key_of next).time ≤ y) (key_time b r other) (at_most_time (key_of next) (key_of other) (en.is_next.least other pending)))

      pub due_then : IsNotPast (time_of next) (b.due r.device)
      due_then = at (b.due r.device) refl
        where
          at : (due : Option ℕ) → b.due r.device ≡ due → IsNotPast (time_of next) due
          at None e = tt
          at (Some d) e = not_before_next (Tick d) e

      pub limits : time_of next < 10 ^ 15
      limits = let soon : time_of next < r.end = en.in_run in let short : r.end ≤ 10 ^ 15 = stands.fitted.short in omega arith

      -- what can still come in at a port where nothing waits is after the event
      pub quiet_after : (p : ℕ) (i : In) → slice_get r.incoming p ≡ Some i → i.inbox ≡ [] → is_reached (Some (place_of received r next)) (next_at p (received p)) ≡ false
      quiet_after p i is none = at next (subst (λ n. needed_for next ≤ n) (stands.heard p i is).bound (en.heard p i.bound (record { is = i; there = is; at_time = ap (λ l. quiet_bound l i.bound) none })))
        where
          at : (n : Next) → needed_for n ≤ bound_of (received p) → is_reached (Some (place_of received r n)) (next_at p (received p)) ≡ false
          at (Sync q u) far = phase_is_after (sync_key u q) (next_at p (received p)) refl far
          at (Take q t) far = later_is_after (message_key t q (length (bodies (received q)) - length (inbox_in r.incoming q))) (next_at p (received p)) (omega arith)
          at (Tick t) far = later_is_after (tick_key t) (next_at p (received p)) (omega arith)
