-- A port's messages of a moment are taken one by one.
use Rattle.std.specs.Prelude.{ℕ, zero, suc, ◌≡◌, ◌==◌, ◌+◌, ◌-◌, ◌≤◌, ◌<◌, ◌^◌, nat_le, nat_lt, option_map, Bool, true, false, if◌then◌else◌, ◌&&◌, List, [], ◌∷◌, ◌++◌, length, Option, Some, None, IsSome, IfSome, All, refl}
use Rattle.std.proofs.lemmas.Bool.{false≢true}
use Rattle.std.proofs.lemmas.Bool.Decides.{nat_tests}
use Rattle.std.proofs.lemmas.List.Elements.{All-head, All-tail}
use Rattle.std.proofs.Common.{sym, ap, ◌∙◌, arith, cond, subst}
use Rattle.cs_base.specs.Plan.{End, same_end}
use Rattle.sb_message.specs.declared.message.Body.{Body}
use Rattle.sb_message.specs.declared.message.Msg.{Msg}
use Rattle.sb_message.specs.Receivable.{MayReceive, MaySend}
use Rattle.device_api.specs.Behaviour.{Reaction, SendsAndLines, Behaviour, IsLawful}
use Rattle.device_api.specs.Gives.{Gives}
use Rattle.device_api.specs.World.{followed_by, rest, take_all, arrivals_on, arrivals}
use Rattle.global_model.specs.Inboxes.{port_of, end_at, with_queue, StartsOff}
use Rattle.global_model.proofs.Nested.{same_end_is}
use Rattle.global_model.specs.Reactions.{IsTaking, IsMoment}
use Rattle.global_model.proofs.ReactionLaws.{taking_more, ticked, take_on, take_bodies, bodies_at, followed_by_assoc, followed_by-rest, take_all-append}
use Rattle.global_model.specs.Turn.{queue_in, queue_at, from_time, Rises, IsQueue, so_far, take_queue, taken_before, inputs_of, AreQueues}

equal_itself : (n : ℕ) → (n == n) ≡ true
equal_itself n = grind (arith, nat_tests)

pub same_end_itself : (e : End) → same_end e e ≡ true
same_end_itself e = ap (λ first. first && (e.port == e.port)) (equal_itself e.component) ∙ equal_itself e.port

not_from : (t : ℕ) → nat_le (t + 1) t ≡ false
not_from t = grind (arith, nat_tests)

is_from : (u x : ℕ) → u ≤ x → nat_le u x ≡ true
is_from u x le = grind (arith, nat_tests)

another_time : (t x : ℕ) → t < x → (x == t) ≡ false
another_time t x lt = grind (arith, nat_tests)

pub from_time-first : (t : ℕ) (body : Body) (more : List Msg) → from_time (t + 1) (record { at = t; body = body } ∷ more) ≡ from_time (t + 1) more
from_time-first t body more = ap (λ now. cond now (record { at = t; body = body } ∷ from_time (t + 1) more) (from_time (t + 1) more)) (not_from t)

-- what rises from a later time is all left
pub from_time-all : (u low : ℕ) (queue : List Msg) → u ≤ low → Rises low queue → from_time u queue ≡ queue
from_time-all u low [] le rises = refl
from_time-all u low (m ∷ more) le rises =
    let first : low ≤ m.at = rises.0 in
    ap (λ now. cond now (m ∷ from_time u more) (from_time u more)) (is_from u m.at (omega arith)) ∙ ap (λ xs. m ∷ xs) (from_time-all u m.at more (omega arith) rises.1)

pub none_at : (t low : ℕ) (queue : List Msg) → t < low → Rises low queue → bodies_at t queue ≡ []
none_at t low [] lt rises = refl
none_at t low (m ∷ more) lt rises =
    let first : low ≤ m.at = rises.0 in
    ap (λ now. if now then m.body ∷ bodies_at t more else bodies_at t more) (another_time t m.at (omega arith)) ∙ none_at t m.at more (omega arith) rises.1

pub take_queue-none : {S : Type 0} (b : Behaviour S) (t port low : ℕ) (queue : List Msg) (s : S) → t < low → Rises low queue → take_queue b t port queue s ≡ rest s
unfolding take_bodies
take_queue-none b t port low queue s lt rises = take_on b t port 0 queue s ∙ ap (λ bodies. take_bodies b t port bodies s) (none_at t low queue lt rises)

pub take_queue-first : {S : Type 0} (b : Behaviour S) (t port : ℕ) (body : Body) (more : List Msg) (s : S) → take_queue b t port (record { at = t; body = body } ∷ more) s ≡ followed_by (b.take s t port body) (take_queue b t port more)
unfolding take_bodies
take_queue-first {S} b t port body more s =
    take_on b t port 0 (record { at = t; body = body } ∷ more) s
    ∙ ap (λ now. take_bodies b t port (if now then body ∷ bodies_at t more else bodies_at t more) s) (equal_itself t)
    ∙ ap (λ (next : Reaction S). followed_by (b.take s t port body) (λ _. next)) (sym (take_on b t port 0 more (b.take s t port body).state))

-- where a queue starts with another time, it rises from the next one
pub rises_on : (t : ℕ) (queue : List Msg) → Rises t queue → StartsOff t queue → Rises (t + 1) queue
rises_on t [] rises off = tt
rises_on t (m ∷ more) rises off = (after t m.at rises.0 off, rises.1)
  where
    after : (t x : ℕ) → t ≤ x → (x == t) ≡ false → t + 1 ≤ x
    after t x le differs = grind (arith, nat_tests)

starts_off_in : (t : ℕ) (found : Option (List Msg)) → IfSome found (StartsOff t) → StartsOff t (queue_in found)
starts_off_in t None off = tt
starts_off_in t (Some queue) off = off

-- while a port's messages of t are taken: what is as at first, what is still to be taken, and what has been done
pub record TakesPort {S : Type 0} (b : Behaviour S) (settled : S → ℕ → Type 0) (t port : ℕ) (e : End) (s0 : S) (done0 : SendsAndLines) (inboxes0 : List (List (List Msg))) (s : S) (done : SendsAndLines) (inboxes : List (List (List Msg))) : Type 0 where
  pub there : IsSome (port_of inboxes e)
  pub waits : IsQueue (b.ports s0) port t (queue_at inboxes e)
  pub left : from_time (t + 1) (queue_at inboxes e) ≡ from_time (t + 1) (queue_at inboxes0 e)
  pub others : (x : End) → port_of inboxes x ≡ with_queue (port_of inboxes0) e (queue_at inboxes e) x
  pub taking : IsTaking b settled s0 t (so_far s done)
  pub reaction : followed_by (so_far s done) (take_queue b t port (queue_at inboxes e)) ≡ followed_by (so_far s0 done0) (take_queue b t port (queue_at inboxes0 e))

pub queue_is : (found : Option (List Msg)) → IsSome found → found ≡ Some (queue_in found)
queue_is None some = absurd (false≢true some)
queue_is (Some queue) some = refl

with_its_queue : (queues : End → Option (List Msg)) (e x : End) → IsSome (queues e) → queues x ≡ with_queue queues e (queue_in (queues e)) x
with_its_queue queues e x some = at (same_end e x) refl
  where
    at : (same : Bool) → same_end e x ≡ same → queues x ≡ (if same then Some (queue_in (queues e)) else queues x)
    at false differs = refl
    at true same = ap queues (sym (same_end_is e x same)) ∙ queue_is (queues e) some

others_same : (same : Bool) (xs ys zs : List Msg) (o o0 : Option (List Msg)) → xs ≡ ys → o ≡ (if same then Some zs else o0) → (if same then Some xs else o) ≡ (if same then Some ys else o0)
others_same true xs ys zs o o0 is before = ap Some is
others_same false xs ys zs o o0 is before = before

pub takes_port_starts : {S : Type 0} {b : Behaviour S} {settled : S → ℕ → Type 0} {t port : ℕ} {s : S} {done : SendsAndLines} (e : End) (inboxes : List (List (List Msg))) → IsSome (port_of inboxes e) → IsQueue (b.ports s) port t (queue_at inboxes e) → IsTaking b settled s t (so_far s done) → TakesPort b settled t port e s done inboxes s done inboxes
takes_port_starts e inboxes there waits taking = record { there = there; waits = waits; left = refl; others = λ x. with_its_queue (port_of inboxes) e x there; taking = taking; reaction = refl }

module _ {S : Type 0} {b : Behaviour S} {settled : S → ℕ → Type 0} {t port : ℕ} {e : End} {s0 : S} {done0 : SendsAndLines} {inboxes0 : List (List (List Msg))} {s : S} {done : SendsAndLines} {inboxes : List (List (List Msg))} (takes : TakesPort b settled t port e s0 done0 inboxes0 s done inboxes) where
  receives : (body : Body) (more : List Msg) → port_of inboxes e ≡ Some (record { at = t; body = body } ∷ more) → All (λ (m : Msg). MayReceive (b.ports s0) port m.body) (record { at = t; body = body } ∷ more)
  receives body more found = subst (λ xs. All (λ (m : Msg). MayReceive (b.ports s0) port m.body) xs) (ap queue_in found) takes.waits.receivable

  -- the first message of the queue may be taken
  pub may_take : (body : Body) (more : List Msg) → port_of inboxes e ≡ Some (record { at = t; body = body } ∷ more) → MayReceive (b.ports s) port body
  may_take body more found =
      subst (λ ports. MayReceive ports port body) (sym takes.taking.same_ports) (All-head (λ (m : Msg). MayReceive (b.ports s0) port m.body) (record { at = t; body = body }) more (receives body more found))

  pub takes_port_more : IsLawful b settled → t < 10 ^ 15 → (body : Body) (more : List Msg) (s' : S) (done' : SendsAndLines) (inboxes' : List (List (List Msg))) → port_of inboxes e ≡ Some (record { at = t; body = body } ∷ more) → ((x : End) → port_of inboxes' x ≡ with_queue (port_of inboxes) e more x) → Gives (b.take s t port body) s' done done' → TakesPort b settled t port e s0 done0 inboxes0 s' done' inboxes'
  takes_port_more lawful in_run body more s' done' inboxes' found new gives =
      let queue : queue_at inboxes e ≡ record { at = t; body = body } ∷ more = ap queue_in found in
      let here : port_of inboxes' e ≡ Some more = new e ∙ ap (λ same. if same then Some more else port_of inboxes e) (same_end_itself e) in
      let queue' : queue_at inboxes' e ≡ more = ap queue_in here in
      let r : Reaction S = b.take s t port body in
      let reacted : so_far s' done' ≡ followed_by (so_far s done) (λ x. b.take x t port body) =
      ap (λ state. record { state = state; sends = done'.sends; lines = done'.lines }) gives.state_is
      ∙ ap (λ xs. record { state = r.state; sends = xs; lines = done'.lines }) gives.sends_are
      ∙ ap (λ xs. record { state = r.state; sends = done.sends ++ r.sends; lines = xs }) gives.lines_are in
      let rises : Rises t (record { at = t; body = body } ∷ more) = subst (Rises t) queue takes.waits.rises in
      let all : All (λ (m : Msg). MayReceive (b.ports s0) port m.body) (record { at = t; body = body } ∷ more) = receives body more found in
      record {
        there = subst (λ o. IsSome o) (sym here) refl;
        waits = subst (IsQueue (b.ports s0) port t) (sym queue') (record { rises = rises.1; receivable = All-tail (λ (m : Msg). MayReceive (b.ports s0) port m.body) (record { at = t; body = body }) more all });
        left = ap (from_time (t + 1)) queue' ∙ sym (from_time-first t body more) ∙ ap (from_time (t + 1)) (sym queue) ∙ takes.left;
        others = λ x. new x ∙ others_same (same_end e x) more (queue_at inboxes' e) (queue_at inboxes e) (port_of inboxes x) (port_of inboxes0 x) (sym queue') (takes.others x);
        taking = subst (IsTaking b settled s0 t) (sym reacted) (taking_more lawful s0 t (so_far s done) port body in_run (All-head (λ (m : Msg). MayReceive (b.ports s0) port m.body) (record { at = t; body = body }) more all) takes.taking);
        reaction =
            ap (λ (so_far' : Reaction S). followed_by so_far' (take_queue b t port (queue_at inboxes' e))) reacted
            ∙ ap (λ xs. followed_by (followed_by (so_far s done) (λ x. b.take x t port body)) (take_queue b t port xs)) queue'
            ∙ followed_by_assoc (so_far s done) (λ x. b.take x t port body) (take_queue b t port more)
            ∙ ap (λ (next : Reaction S). followed_by (so_far s done) (λ _. next)) (sym (take_queue-first b t port body more s))
            ∙ ap (λ xs. followed_by (so_far s done) (take_queue b t port xs)) (sym queue)
            ∙ takes.reaction;
      }

  pub takes_port_ends : IfSome (port_of inboxes e) (StartsOff t) → (so_far s done ≡ followed_by (so_far s0 done0) (take_queue b t port (queue_at inboxes0 e))) × (queue_at inboxes e ≡ from_time (t + 1) (queue_at inboxes0 e))
  takes_port_ends off =
      let on : Rises (t + 1) (queue_at inboxes e) = rises_on t (queue_at inboxes e) takes.waits.rises (starts_off_in t (port_of inboxes e) off) in (
        sym (followed_by-rest (so_far s done)) ∙ ap (λ (next : Reaction S). followed_by (so_far s done) (λ _. next)) (sym (take_queue-none b t port (t + 1) (queue_at inboxes e) s (omega arith) on)) ∙ takes.reaction,
        sym (from_time-all (t + 1) (t + 1) (queue_at inboxes e) (omega arith) on) ∙ takes.left,
      )

  pub takes_port_fewer : (body : Body) (more : List Msg) (inboxes' : List (List (List Msg))) → port_of inboxes e ≡ Some (record { at = t; body = body } ∷ more) → ((x : End) → port_of inboxes' x ≡ with_queue (port_of inboxes) e more x) → length (queue_at inboxes' e) < length (queue_at inboxes e)
  takes_port_fewer body more inboxes' found new =
      let here : port_of inboxes' e ≡ Some more = new e ∙ ap (λ same. if same then Some more else port_of inboxes e) (same_end_itself e) in
      let before : length (queue_at inboxes e) ≡ suc (length more) = ap (λ o. length (queue_in o)) found in
      let after : length (queue_at inboxes' e) ≡ length more = ap (λ o. length (queue_in o)) here in
      omega (arith, before, after)

-- a device ticks after what it has taken
pub ticked_so : {S : Type 0} {b : Behaviour S} {settled : S → ℕ → Type 0} → IsLawful b settled → (s0 : S) (t : ℕ) (s : S) (done : SendsAndLines) (s' : S) (done' : SendsAndLines) → t < 10 ^ 15 → IsTaking b settled s0 t (so_far s done) → b.due s ≡ Some t → Gives (b.tick s t) s' done done' → IsMoment b settled s0 t (so_far s' done')
ticked_so {S} {b} {settled} lawful s0 t s done s' done' in_run taking due gives =
    let r : Reaction S = b.tick s t in
    let reacted : so_far s' done' ≡ followed_by (so_far s done) (λ x. b.tick x t) =
    ap (λ state. record { state = state; sends = done'.sends; lines = done'.lines }) gives.state_is
    ∙ ap (λ xs. record { state = r.state; sends = xs; lines = done'.lines }) gives.sends_are
    ∙ ap (λ xs. record { state = r.state; sends = done.sends ++ r.sends; lines = xs }) gives.lines_are in
    subst (IsMoment b settled s0 t) (sym reacted) (ticked lawful s0 t (so_far s done) in_run taking due)

pub taking_from : {S : Type 0} {b : Behaviour S} {settled : S → ℕ → Type 0} {s : S} {t : ℕ} {r : Reaction S} (s' : S) → b.ports s ≡ b.ports s' → IsTaking b settled s t r → IsTaking b settled s' t r
taking_from {b = b} {r = r} s' same taking = record { same_ports = taking.same_ports ∙ same; settled_after = taking.settled_after; not_past = taking.not_past; sendable = subst (λ ports. All (λ (sent : ℕ × Body). MaySend ports sent.0 sent.1) r.sends) same taking.sendable }

-- while a device takes what arrives at t, with the ports below p behind it
pub record TakesArrivals {S : Type 0} (b : Behaviour S) (settled : S → ℕ → Type 0) (t c p : ℕ) (s0 : S) (inboxes0 : List (List (List Msg))) (s : S) (done : SendsAndLines) (inboxes : List (List (List Msg))) : Type 0 where
  pub waited : AreQueues (b.ports s0) c t inboxes0
  pub reaction : so_far s done ≡ take_all b t (arrivals t (inputs_of inboxes0 c) p) s0
  pub left : (e : End) → port_of inboxes e ≡ taken_before (t + 1) c p (port_of inboxes0) e
  pub taking : IsTaking b settled s0 t (so_far s done)

not_below : (x : ℕ) → nat_lt x x ≡ false
not_below x = grind (arith, nat_tests)

neither : (here : Bool) (x y : Option (List Msg)) → (if here && false then x else y) ≡ y
neither true x y = refl
neither false x y = refl

below_next : (x p : ℕ) → (p == x) ≡ false → nat_lt x p ≡ nat_lt x (p + 1)
below_next x p differs = grind (arith, nat_tests)

below_itself : (x p : ℕ) → (p == x) ≡ true → nat_lt x (p + 1) ≡ true
below_itself x p same = grind (arith, nat_tests)

-- one more port has taken what it has
taken_more : (u c p : ℕ) (queues0 queues : End → Option (List Msg)) (queue : List Msg) → queues0 (end_at c p) ≡ Some queue → ((e : End) → queues e ≡ taken_before u c p queues0 e) → (e : End) → with_queue queues (end_at c p) (from_time u queue) e ≡ taken_before u c (p + 1) queues0 e
taken_more u c p queues0 queues queue found before e = at (c == e.component) refl (before e)
  where
    at : (here : Bool) → (c == e.component) ≡ here → queues e ≡ (if here && nat_lt e.port p then option_map (from_time u) (queues0 e) else queues0 e) → (if here && (p == e.port) then Some (from_time u queue) else queues e) ≡ (if here && nat_lt e.port (p + 1) then option_map (from_time u) (queues0 e) else queues0 e)
    at false differs before = before
    at true same before = at_port (p == e.port) refl
      where
        at_port : (this : Bool) → (p == e.port) ≡ this → (if this then Some (from_time u queue) else queues e) ≡ (if nat_lt e.port (p + 1) then option_map (from_time u) (queues0 e) else queues0 e)
        at_port false other = before ∙ ap (λ below. if below then option_map (from_time u) (queues0 e) else queues0 e) (below_next e.port p other)
        at_port true this =
            let end : end_at c p ≡ e = same_end_is (end_at c p) e (ap (λ x. x && (p == e.port)) same ∙ this) in
            let there : queues0 e ≡ Some queue = subst (λ x. queues0 x ≡ Some queue) end found in
            ap (option_map (from_time u)) (sym there) ∙ sym (ap (λ below. if below then option_map (from_time u) (queues0 e) else queues0 e) (below_itself e.port p this))

none_before : (x : ℕ) → nat_lt x 0 ≡ false
none_before x = grind (arith, nat_tests)

pub takes_arrivals_start : {S : Type 0} {b : Behaviour S} {settled : S → ℕ → Type 0} {t c : ℕ} {s : S} {inboxes : List (List (List Msg))} (done : SendsAndLines) → AreQueues (b.ports s) c t inboxes → IsTaking b settled s t (rest s) → done.sends ≡ [] → done.lines ≡ [] → TakesArrivals b settled t c 0 s inboxes s done inboxes
unfolding take_all arrivals
takes_arrivals_start {S} {b} {settled} {t} {c} {s} {inboxes} done waits taking nothing_sent nothing_logged =
    let nothing : so_far s done ≡ rest s = ap (λ sends. record { state = s; sends = sends; lines = done.lines }) nothing_sent ∙ ap (λ lines. record { state = s; sends = []; lines = lines }) nothing_logged in
    record { waited = waits; reaction = nothing; left = λ e. sym (nothing_taken e); taking = subst (IsTaking b settled s t) (sym nothing) taking }
  where
    nothing_taken : (e : End) → taken_before (t + 1) c 0 (port_of inboxes) e ≡ port_of inboxes e
    nothing_taken e = ap (λ below. if (c == e.component) && below then option_map (from_time (t + 1)) (port_of inboxes e) else port_of inboxes e) (none_before e.port) ∙ either (c == e.component)
      where
        either : (here : Bool) → (if here && false then option_map (from_time (t + 1)) (port_of inboxes e) else port_of inboxes e) ≡ port_of inboxes e
        either true = refl
        either false = refl

module _ {S : Type 0} {b : Behaviour S} {settled : S → ℕ → Type 0} {t c p : ℕ} {s0 : S} {inboxes0 : List (List (List Msg))} {s : S} {done : SendsAndLines} {inboxes : List (List (List Msg))} (takes : TakesArrivals b settled t c p s0 inboxes0 s done inboxes) where
  -- the next port's queue is as at first
  pub next_as_before : port_of inboxes (end_at c p) ≡ port_of inboxes0 (end_at c p)
  next_as_before = takes.left (end_at c p) ∙ ap (λ below. if (c == c) && below then option_map (from_time (t + 1)) (port_of inboxes0 (end_at c p)) else port_of inboxes0 (end_at c p)) (not_below p) ∙ neither (c == c) (option_map (from_time (t + 1)) (port_of inboxes0 (end_at c p))) (port_of inboxes0 (end_at c p))

  pub next_there : p < length (b.ports s0) → IsSome (port_of inboxes (end_at c p))
  next_there lt = subst (λ o. IsSome o) (sym next_as_before) (takes.waited.there p lt)

  pub next_waits : p < length (b.ports s0) → IsQueue (b.ports s) p t (queue_at inboxes (end_at c p))
  next_waits lt = subst (λ ports. IsQueue ports p t (queue_at inboxes (end_at c p))) (sym takes.taking.same_ports) (subst (IsQueue (b.ports s0) p t) (ap queue_in (sym next_as_before)) (takes.waited.waits p lt))

  pub next_taking : IsTaking b settled s t (so_far s done)
  next_taking = taking_from s (sym takes.taking.same_ports) takes.taking

  pub takes_arrivals_more : p < length (b.ports s0) → (s' : S) (done' : SendsAndLines) (inboxes' : List (List (List Msg))) → so_far s' done' ≡ followed_by (so_far s done) (take_queue b t p (queue_at inboxes (end_at c p))) → ((e : End) → port_of inboxes' e ≡ with_queue (port_of inboxes) (end_at c p) (from_time (t + 1) (queue_at inboxes (end_at c p))) e) → IsTaking b settled s t (so_far s' done') → TakesArrivals b settled t c (p + 1) s0 inboxes0 s' done' inboxes'
  unfolding arrivals
  takes_arrivals_more lt s' done' inboxes' reacted new taking =
      let next : suc p ≡ p + 1 = omega arith in
      let found : port_of inboxes0 (end_at c p) ≡ Some (queue_at inboxes (end_at c p)) = queue_is (port_of inboxes0 (end_at c p)) (takes.waited.there p lt) ∙ ap (λ o. Some (queue_in o)) (sym next_as_before) in
      record {
        waited = takes.waited;
        reaction =
            reacted
            ∙ ap (λ (r : Reaction S). followed_by r (take_queue b t p (queue_at inboxes (end_at c p)))) takes.reaction
            ∙ ap (λ o. followed_by (take_all b t (arrivals t (inputs_of inboxes0 c) p) s0) (take_queue b t p (queue_in o))) next_as_before
            ∙ sym (take_all-append b t (arrivals t (inputs_of inboxes0 c) p) (arrivals_on t p 0 (inputs_of inboxes0 c p)) s0)
            ∙ ap (λ n. take_all b t (arrivals t (inputs_of inboxes0 c) n) s0) next;
        left = λ e. new e ∙ taken_more (t + 1) c p (port_of inboxes0) (port_of inboxes) (queue_at inboxes (end_at c p)) found takes.left e;
        taking = taking_from s0 takes.taking.same_ports taking;
      }

  -- a port at which nothing waits has taken what it has
  over_one : p < length (b.ports s0) → queue_at inboxes (end_at c p) ≡ [] → TakesArrivals b settled t c (p + 1) s0 inboxes0 s done inboxes
  over_one lt empty =
      let rises : Rises (t + 1) (queue_at inboxes (end_at c p)) = subst (Rises (t + 1)) (sym empty) tt in
      takes_arrivals_more lt s done inboxes
      (sym (followed_by-rest (so_far s done)) ∙ ap (λ (next : Reaction S). followed_by (so_far s done) (λ _. next)) (sym (take_queue-none b t p (t + 1) (queue_at inboxes (end_at c p)) s (omega arith) rises)))
      (λ e. with_its_queue (port_of inboxes) (end_at c p) e (next_there lt) ∙ ap (λ queue. with_queue (port_of inboxes) (end_at c p) queue e) (sym (from_time-all (t + 1) (t + 1) (queue_at inboxes (end_at c p)) (omega arith) rises)))
      next_taking

-- so have ports in a row at which nothing waits
pub takes_arrivals_over : {S : Type 0} {b : Behaviour S} {settled : S → ℕ → Type 0} {t c : ℕ} {s0 : S} {inboxes0 : List (List (List Msg))} {s : S} {done : SendsAndLines} {inboxes : List (List (List Msg))} (k p : ℕ) → TakesArrivals b settled t c p s0 inboxes0 s done inboxes → p + k ≤ length (b.ports s0) → ((q : ℕ) → p ≤ q → q < p + k → queue_at inboxes (end_at c q) ≡ []) → TakesArrivals b settled t c (p + k) s0 inboxes0 s done inboxes
takes_arrivals_over {S} {b} {settled} {t} {c} {s0} {inboxes0} {s} {done} {inboxes} zero p takes le empty = subst (λ n. TakesArrivals b settled t c n s0 inboxes0 s done inboxes) (let same : p ≡ p + 0 = omega arith in same) takes
takes_arrivals_over {S} {b} {settled} {t} {c} {s0} {inboxes0} {s} {done} {inboxes} (suc k) p takes le empty =
    subst (λ n. TakesArrivals b settled t c n s0 inboxes0 s done inboxes) (let same : p + 1 + k ≡ p + suc k = omega arith in same)
    (takes_arrivals_over k (p + 1) (over_one takes (omega arith) (empty p (omega arith) (omega arith))) (omega arith) (λ q above below. empty q (omega arith) (omega arith)))

pub takes_arrivals_until : {S : Type 0} {b : Behaviour S} {settled : S → ℕ → Type 0} {t c : ℕ} {s0 : S} {inboxes0 : List (List (List Msg))} {s : S} {done : SendsAndLines} {inboxes : List (List (List Msg))} (p p' : ℕ) → TakesArrivals b settled t c p s0 inboxes0 s done inboxes → p ≤ p' → p' ≤ length (b.ports s0) → ((q : ℕ) → p ≤ q → q < p' → queue_at inboxes (end_at c q) ≡ []) → TakesArrivals b settled t c p' s0 inboxes0 s done inboxes
takes_arrivals_until {S} {b} {settled} {t} {c} {s0} {inboxes0} {s} {done} {inboxes} p p' takes le within empty =
    subst (λ n. TakesArrivals b settled t c n s0 inboxes0 s done inboxes) (let same : p + (p' - p) ≡ p' = omega arith in same)
    (takes_arrivals_over (p' - p) p takes (omega arith) (λ q above below. empty q above (omega arith)))
