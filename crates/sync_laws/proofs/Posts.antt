-- What the posts of an event leave at one port.
use Rattle.std.proofs.Common.{◌≡◌, ℕ, ◌+◌, ◌-◌, ◌^◌, ◌<◌, ◌≤◌, Bool, true, false, cond, eqb, List, [], ◌∷◌, ◌++◌, length, Some, refl, sym, ap, ap₂, ◌∙◌, arith, append_assoc, append-nil, length-append}
use Rattle.std.specs.Prelude.{slice_get, min, count_by, sum_by}
use Rattle.std.specs.List.{AllByRecursion}
use Rattle.std.proofs.lemmas.Bool.{cond-true, cond-false, eqb-true, eq-eqb, ne_eqb, false≢true}
use Rattle.std.proofs.lemmas.List.Elements.{filter-append}
use Rattle.std.proofs.lemmas.List.Sums.{sum_by-append}
use Rattle.cs_base.specs.declared.port_kind.PortKind.{PortKind}
use Rattle.sb_message.specs.Receivable.{receivable, is_event}
use Rattle.sb_message.specs.Stream.{is_intro}
use Rattle.sb_message.specs.declared.message.Body.{Body}
use Rattle.sb_message.specs.declared.message.Body.TheVariants as body
use Rattle.sb_message.specs.declared.message.Msg.{Msg}
use Rattle.device_api.specs.declared.counts.Count.{Count}
use Rattle.device_api.specs.Channels.{Channel}
use Rattle.device_api.specs.Counts.{count_of, is_sync, counted}
use Rattle.device_api.specs.Transcript.{Script, bodies, due_after, stamped_after, with_messages, null_message}
use Rattle.device_api.specs.World.{Sent, sends_by, sent_at}
use Rattle.sync_rule.specs.Ports.{Out, posted, synced, one_more, at_place, post_all}
use Rattle.sync_laws.specs.Stands.{LeadsOut}
use Rattle.sync_laws.proofs.Changed.{each_place}
use Rattle.sync_laws.proofs.Rising.{IsLater}

-- a port after all sends of an event at t, of which it has posted its own
pub posts_at : ℕ → ℕ → List (ℕ × Body) → Out → Out
posts_at t p [] o = o
posts_at t p (x ∷ more) o = posts_at t p more (cond (eqb x.0 p) (posted t x.1 o) o)

-- the port that it was before
pub record FromOut (t p : ℕ) (sends : List (ℕ × Body)) (outs : List Out) (o : Out) : Type 0 where
  pub before : Out
  pub there : slice_get outs p ≡ Some before
  pub is : o ≡ posts_at t p sends before

-- a changed list's element comes from the element at its place
record FromPlace {X : Type 0} (i p : ℕ) (f : X → X) (xs : List X) (y : X) : Type 0 where
  before : X
  there : slice_get xs p ≡ Some before
  is : y ≡ cond (eqb i p) (f before) before

from_place : {X : Type 0} (i : ℕ) (f : X → X) (xs : List X) (p : ℕ) (y : X) → slice_get (at_place i f xs) p ≡ Some y → FromPlace i p f xs y
from_place i f xs = each_place (λ p x. slice_get xs p ≡ Some x) (λ p y. FromPlace i p f xs y) i f xs (λ p x is. is) (λ x is here. record { before = x; there = is; is = sym (cond-true (eqb i i) (f x) x (eq-eqb i i refl)) }) (λ p x differ is here. record { before = x; there = is; is = sym (cond-false (eqb i p) (f x) x (ne_eqb i p (λ e. differ (sym e)))) })

pub from_post : (t p : ℕ) (sends : List (ℕ × Body)) (outs : List Out) (o : Out) → slice_get (post_all t sends outs) p ≡ Some o → FromOut t p sends outs o
unfolding post_all posts_at
from_post t p [] outs o is = record { before = o; there = is; is = refl }
from_post t p (x ∷ more) outs o is = let later : FromOut t p more (at_place x.0 (posted t x.1) outs) o = from_post t p more (at_place x.0 (posted t x.1) outs) o is in let first : FromPlace x.0 p (posted t x.1) outs later.before = from_place x.0 (posted t x.1) outs p later.before later.there in record { before = first.before; there = first.there; is = later.is ∙ ap (posts_at t p more) first.is }

-- what a port of a plan says next is not changed by posts
pub posts_plan : (t p : ℕ) (sends : List (ℕ × Body)) (o : Out) → (posts_at t p sends o).plan ≡ o.plan
unfolding posts_at
posts_plan t p [] o = refl
posts_plan t p (x ∷ more) o = at (eqb x.0 p) (posts_plan t p more (posted t x.1 o)) (posts_plan t p more o)
  where
    at : (b : Bool) → (posts_at t p more (posted t x.1 o)).plan ≡ o.plan → (posts_at t p more o).plan ≡ o.plan → (posts_at t p more (cond b (posted t x.1 o) o)).plan ≡ o.plan
    at true here there = here
    at false here there = there

-- an event is no introduction
not_intro : (b : Body) → is_event b ≡ true → is_intro b ≡ false
not_intro body.Sync e = refl
not_intro (body.Intro intro) e = absurd (false≢true e)
not_intro (body.Dev message) e = refl
not_intro (body.Host message) e = refl
not_intro (body.Mem message) e = refl
not_intro (body.Eth frame) e = refl

-- what was made, as a script
abbrev pub made_of : List Msg → Out → Script
made_of sent o = record { messages = sent ++ o.outbox; sync_due = o.sync_due }

timer_of_more : (ch : Channel) (t due : ℕ) (new : List Msg) → due ≡ t + ch.interval → due_after ch t due new ≡ t + ch.interval
timer_of_more ch t due [] is = is
timer_of_more ch t due (m ∷ more) is = refl

-- one message more
made_more : (ch : Channel) (t due : ℕ) (sent outbox : List Msg) (m : Msg) (new : List Msg) → due ≡ t + ch.interval → with_messages ch t (record { messages = sent ++ (outbox ++ m ∷ []); sync_due = due }) new ≡ record { messages = (sent ++ outbox) ++ m ∷ new; sync_due = t + ch.interval }
made_more ch t due sent outbox m new is = ap₂ (λ messages at. record { messages = messages; sync_due = at }) (append_assoc sent (outbox ++ m ∷ []) new ∙ ap (λ l. sent ++ l) (append_assoc outbox (m ∷ []) new) ∙ sym (append_assoc sent outbox (m ∷ new))) (timer_of_more ch t due new is)

-- the posts of an event at a port are the messages of its sends there
pub posts_are : (ch : Channel) (t p : ℕ) (sent : List Msg) (sends : List (ℕ × Body)) (o : Out) (before : List Sent) → LeadsOut ch p o.plan → made_of sent (posts_at t p sends o) ≡ with_messages ch t (made_of sent o) (stamped_after ch before (sends_by ch.from.port (sent_at t sends)))
unfolding posts_at stamped_after
posts_are ch t p sent [] o before out = ap (λ l. record { messages = l; sync_due = o.sync_due }) (sym (append-nil (sent ++ o.outbox)))
posts_are ch t p sent (x ∷ more) o before out = at (eqb x.0 p) refl (posts_are ch t p sent more (posted t x.1 o) (before ++ s ∷ []) out) (posts_are ch t p sent more o before out)
  where
    s : Sent
    s = record { time = t; port = x.0; body = x.1 }

    same : (b : Bool) → eqb x.0 p ≡ b → eqb x.0 ch.from.port ≡ b
    same b e = ap (eqb x.0) out.from_port ∙ e

    mine : Msg
    mine = record { at = t + o.plan.latency; body = x.1 }

    at : (b : Bool) → eqb x.0 p ≡ b → made_of sent (posts_at t p more (posted t x.1 o)) ≡ with_messages ch t (made_of sent (posted t x.1 o)) (stamped_after ch (before ++ s ∷ []) (sends_by ch.from.port (sent_at t more))) → made_of sent (posts_at t p more o) ≡ with_messages ch t (made_of sent o) (stamped_after ch before (sends_by ch.from.port (sent_at t more))) → made_of sent (posts_at t p more (cond b (posted t x.1 o) o)) ≡ with_messages ch t (made_of sent o) (stamped_after ch before (cond (eqb x.0 ch.from.port) (s ∷ sends_by ch.from.port (sent_at t more)) (sends_by ch.from.port (sent_at t more))))
    at false e mine_too others = others ∙ ap (λ l. with_messages ch t (made_of sent o) (stamped_after ch before l)) (sym (cond-false (eqb x.0 ch.from.port) (s ∷ sends_by ch.from.port (sent_at t more)) (sends_by ch.from.port (sent_at t more)) (same false e)))
    at true e mine_too others = mine_too ∙ made_more ch t (t + o.plan.interval) sent o.outbox mine (stamped_after ch (before ++ s ∷ []) (sends_by ch.from.port (sent_at t more))) (ap (λ i. t + i) (sym out.interval)) ∙ ap (λ l. record { messages = (sent ++ o.outbox) ++ record { at = t + l; body = x.1 } ∷ stamped_after ch (before ++ s ∷ []) (sends_by ch.from.port (sent_at t more)); sync_due = t + ch.interval }) (sym out.latency) ∙ ap (λ l. with_messages ch t (made_of sent o) (stamped_after ch before l)) (sym (cond-true (eqb x.0 ch.from.port) (s ∷ sends_by ch.from.port (sent_at t more)) (sends_by ch.from.port (sent_at t more)) (same true e)))

-- the timer is at a moment, or it was put off from an event at t
pub posts_late : (t p : ℕ) (sends : List (ℕ × Body)) (o : Out) → 1 ≤ o.plan.interval → t < o.sync_due → t < (posts_at t p sends o).sync_due
unfolding posts_at
posts_late t p [] o some late = late
posts_late t p (x ∷ more) o some late = at (eqb x.0 p) (posts_late t p more (posted t x.1 o) some (omega arith)) (posts_late t p more o some late)
  where
    at : (b : Bool) → t < (posts_at t p more (posted t x.1 o)).sync_due → t < (posts_at t p more o).sync_due → t < (posts_at t p more (cond b (posted t x.1 o) o)).sync_due
    at true here there = here
    at false here there = there

-- COUNTS

more_counted : (n k : ℕ) → min (min n k + 1) k ≡ min (n + 1) k
more_counted n k = omega arith

pub plus_none : (n : ℕ) → n + 0 ≡ n
plus_none n = omega arith

pub count_by-append : {X : Type 0} (test : X → Bool) (xs ys : List X) → count_by test (xs ++ ys) ≡ count_by test xs + count_by test ys
count_by-append test xs ys = sum_by-append (λ x. cond (test x) 1 0) xs ys

-- an event is no null message
pub not_sync : (b : Body) → is_event b ≡ true → is_sync b ≡ false
not_sync body.Sync e = absurd (false≢true e)
not_sync (body.Intro intro) e = refl
not_sync (body.Dev message) e = refl
not_sync (body.Host message) e = refl
not_sync (body.Mem message) e = refl
not_sync (body.Eth frame) e = refl

pub no_sync : (m : Msg) → is_sync m.body ≡ false → count_by (λ (m : Msg). is_sync m.body) (m ∷ []) ≡ 0
no_sync m e = ap (λ b. sum_by (λ (x : Bool). cond x 1 0) (b ∷ [])) e

count_of_event : (messages : List Msg) (m : Msg) → is_event m.body ≡ true → count_of (messages ++ m ∷ []) ≡ record { syncs = (count_of messages).syncs; sends = one_more (count_of messages).sends }
count_of_event messages m event = ap₂ (λ a b. record { syncs = counted a; sends = counted b }) syncs events ∙ ap (λ n. record { syncs = (count_of messages).syncs; sends = n }) (sym (more_counted (length (bodies messages)) (2 ^ 64 - 1)))
  where
    syncs : count_by (λ (m : Msg). is_sync m.body) (messages ++ m ∷ []) ≡ count_by (λ (m : Msg). is_sync m.body) messages
    syncs = count_by-append (λ (m : Msg). is_sync m.body) messages (m ∷ []) ∙ ap (λ n. count_by (λ (m : Msg). is_sync m.body) messages + n) (no_sync m (not_sync m.body event)) ∙ plus_none (count_by (λ (m : Msg). is_sync m.body) messages)

    events : length (bodies (messages ++ m ∷ [])) ≡ length (bodies messages) + 1
    events = ap length (filter-append (λ (m : Msg). is_event m.body) messages (m ∷ [])) ∙ length-append (bodies messages) (bodies (m ∷ [])) ∙ ap (λ n. length (bodies messages) + length n) (cond-true (is_event m.body) (m ∷ []) [] event)

count_of_sync : (messages : List Msg) (at : ℕ) → count_of (messages ++ record { at = at; body = body.Sync } ∷ []) ≡ record { syncs = one_more (count_of messages).syncs; sends = (count_of messages).sends }
count_of_sync messages at = ap₂ (λ a b. record { syncs = counted a; sends = counted b }) (count_by-append (λ (m : Msg). is_sync m.body) messages (record { at = at; body = body.Sync } ∷ [])) events ∙ ap (λ n. record { syncs = n; sends = (count_of messages).sends }) (sym (more_counted (count_by (λ (m : Msg). is_sync m.body) messages) (2 ^ 64 - 1)))
  where
    events : length (bodies (messages ++ record { at = at; body = body.Sync } ∷ [])) ≡ length (bodies messages)
    events = ap length (filter-append (λ (m : Msg). is_event m.body) messages (record { at = at; body = body.Sync } ∷ [])) ∙ ap length (append-nil (bodies messages))

-- a null message that is made at u
pub sync_is : (ch : Channel) (u p : ℕ) (sent : List Msg) (o : Out) → LeadsOut ch p o.plan → with_messages ch u (made_of sent o) (null_message ch u ∷ []) ≡ made_of sent (synced u o)
sync_is ch u p sent o out = ap₂ (λ latency interval. record { messages = (sent ++ o.outbox) ++ record { at = u + latency; body = body.Sync } ∷ []; sync_due = u + interval }) out.latency out.interval ∙ ap (λ l. record { messages = l; sync_due = u + o.plan.interval }) (append_assoc sent o.outbox (record { at = u + o.plan.latency; body = body.Sync } ∷ []))

pub sync_counted : (u : ℕ) (sent : List Msg) (o : Out) → o.count ≡ count_of (sent ++ o.outbox) → (synced u o).count ≡ count_of (sent ++ (synced u o).outbox)
sync_counted u sent o is = ap (λ (c : Count). record { syncs = one_more c.syncs; sends = c.sends }) is ∙ sym (count_of_sync (sent ++ o.outbox) (u + o.plan.latency)) ∙ ap count_of (append_assoc sent o.outbox (record { at = u + o.plan.latency; body = body.Sync } ∷ []))

-- the counts are those of all that was made
pub posts_counted : (t p : ℕ) (sent : List Msg) (sends : List (ℕ × Body)) (o : Out) → AllByRecursion (λ (x : ℕ × Body). is_event x.1 ≡ true) sends → o.count ≡ count_of (sent ++ o.outbox) → (posts_at t p sends o).count ≡ count_of (sent ++ (posts_at t p sends o).outbox)
unfolding posts_at
posts_counted t p sent [] o events is = is
posts_counted t p sent (x ∷ more) o events is = at (eqb x.0 p) (posts_counted t p sent more (posted t x.1 o) events.1 (ap (λ (c : Count). record { syncs = c.syncs; sends = one_more c.sends }) is ∙ sym (count_of_event (sent ++ o.outbox) m events.0) ∙ ap count_of (append_assoc sent o.outbox (m ∷ [])))) (posts_counted t p sent more o events.1 is)
  where
    m : Msg
    m = record { at = t + o.plan.latency; body = x.1 }

    at : (b : Bool) → (posts_at t p more (posted t x.1 o)).count ≡ count_of (sent ++ (posts_at t p more (posted t x.1 o)).outbox) → (posts_at t p more o).count ≡ count_of (sent ++ (posts_at t p more o).outbox) → (posts_at t p more (cond b (posted t x.1 o) o)).count ≡ count_of (sent ++ (posts_at t p more (cond b (posted t x.1 o) o)).outbox)
    at true here there = here
    at false here there = there

-- each send that is posted at a port may come later in its stream
pub posts_later : (ch : Channel) (kind : PortKind) (t : ℕ) (before : List Sent) (sends : List (ℕ × Body)) → AllByRecursion (λ (x : ℕ × Body). x.0 ≡ ch.from.port → (receivable kind x.1 ≡ true) × (is_event x.1 ≡ true)) sends → AllByRecursion (IsLater kind) (stamped_after ch before (sends_by ch.from.port (sent_at t sends)))
unfolding stamped_after
posts_later ch kind t before [] all = tt
posts_later ch kind t before (x ∷ more) all = at (eqb x.0 ch.from.port) refl (posts_later ch kind t (before ++ s ∷ []) more all.1) (posts_later ch kind t before more all.1)
  where
    s : Sent
    s = record { time = t; port = x.0; body = x.1 }

    at : (b : Bool) → eqb x.0 ch.from.port ≡ b → AllByRecursion (IsLater kind) (stamped_after ch (before ++ s ∷ []) (sends_by ch.from.port (sent_at t more))) → AllByRecursion (IsLater kind) (stamped_after ch before (sends_by ch.from.port (sent_at t more))) → AllByRecursion (IsLater kind) (stamped_after ch before (cond b (s ∷ sends_by ch.from.port (sent_at t more)) (sends_by ch.from.port (sent_at t more))))
    at false e here there = there
    at true e here there = let fits : (receivable kind x.1 ≡ true) × (is_event x.1 ≡ true) = all.0 (eqb-true x.0 ch.from.port e) in ((fits.0, not_intro x.1 fits.1), here)
