-- What a runner that may go on has for its next event.
use Rattle.std.proofs.Common.{◌≡◌, ℕ, zero, suc, ◌^◌, ◌<◌, ◌≤◌, true, List, [], ◌∷◌, ◌++◌, length, map, Option, Some, None, refl, sym, ap, ◌∙◌, subst, arith}
use Rattle.std.specs.Prelude.{slice_get, All}
use Rattle.std.proofs.lemmas.Option.{none-some, same_Some, slice_get_within}
use Rattle.sb_message.specs.Receivable.{MayReceive, MaySend, receivable, is_event}
use Rattle.sb_message.specs.declared.message.Body.{Body}
use Rattle.sb_message.specs.declared.message.Msg.{Msg}
use Rattle.device_api.specs.Behaviour.{Behaviour, Reaction, SendsAndLines, IsLawful, IsNotPast}
use Rattle.device_api.specs.Gives.{Gives}
use Rattle.device_api.specs.Position.{message_key, tick_key}
use Rattle.device_api.specs.World.{logged_at}
use Rattle.sync_rule.specs.declared.next.Next.{Next}
use Rattle.sync_rule.specs.declared.next.Next.TheVariants.{Sync, Take, Tick}
use Rattle.sync_rule.specs.declared.runner.Runner.{Runner}
use Rattle.sync_rule.specs.Ports.{In, taken, at_place, post_all}
use Rattle.sync_rule.specs.Times.{head_of, head_time, time_of}
use Rattle.sync_rule.specs.ManyPorts.{IsHead, IsEmptyAt, HavePorts}
use Rattle.sync_rule.specs.Next.{IsEnabled, IsReady, AreReceivable}
use Rattle.sync_rule.specs.Steps.{after_done, after_reaction, after_tick, IsAfterTake}
use Rattle.sync_rule.proofs.Keys.{at_most_time}

get-map : {X Y : Type 0} (f : X → Y) (xs : List X) (i : ℕ) (x : X) → slice_get xs i ≡ Some x → slice_get (map f xs) i ≡ Some (f x)
get-map f [] i x is = absurd (none-some x is)
get-map f (y ∷ ys) zero x is = ap (λ z. Some (f z)) (same_Some y x is)
get-map f (y ∷ ys) (suc i) x is = get-map f ys i x is

length-mapped : {X Y : Type 0} (f : X → Y) (xs : List X) → length (map f xs) ≡ length xs
length-mapped f [] = refl
length-mapped f (x ∷ xs) = ap suc (length-mapped f xs)

all_on : {X : Type 0} (P Q : X → Type 0) (xs : List X) → ((x : X) → P x → Q x) → All P xs → All Q xs
all_on P Q xs step all = λ k d lt. step _ (all k d lt)

module _ {V : Type 0} (b : Behaviour V) (settled : V → ℕ → Type 0) (r : Runner V) (ready : IsReady b settled r) where
  pub in_limits : (next : Next) → IsEnabled b r next → time_of next < 10 ^ 15
  in_limits next en = let soon : time_of next < r.end = en.in_run in let short : r.end ≤ 10 ^ 15 = ready.short in omega arith

  pub sync_there : (port u : ℕ) → IsEnabled b r (Sync port u) → port < length r.outgoing
  sync_there port u en = slice_get_within r.outgoing port en.is_next.pending.is en.is_next.pending.there

  pub take_there : (port t : ℕ) → IsEnabled b r (Take port t) → port < length r.incoming
  take_there port t en = slice_get_within r.incoming port en.is_next.pending.is en.is_next.pending.there

  pub not_empty : (port t : ℕ) → IsEnabled b r (Take port t) → IsEmptyAt r.incoming port → ⊥
  not_empty port t en empty = none-some t (ap head_time (sym empty.none) ∙ ap (λ (i : In). head_of i) (same_Some empty.is en.is_next.pending.is (sym empty.there ∙ en.is_next.pending.there)) ∙ en.is_next.pending.at_time)

  pub head_at : (port t : ℕ) (m : Msg) → IsEnabled b r (Take port t) → IsHead r.incoming port m → m.at ≡ t
  head_at port t m en head = same_Some m.at t (ap head_time (sym head.head) ∙ ap (λ (i : In). head_of i) (same_Some head.is en.is_next.pending.is (sym head.there ∙ en.is_next.pending.there)) ∙ en.is_next.pending.at_time)

  pub may_receive : (port : ℕ) (m : Msg) → IsHead r.incoming port m → MayReceive (b.ports r.device) port m.body
  may_receive port m head = record {
    kind = head.is.plan.kind;
    at_port = subst (λ l. slice_get l port ≡ Some head.is.plan.kind) ready.ports (get-map (λ (i : In). i.plan.kind) r.incoming port head.is head.there);
    fits = first.0;
    event = first.1;
  }
    where
      first : (receivable head.is.plan.kind m.body ≡ true) × (is_event m.body ≡ true)
      first = (let waiting : AreReceivable head.is.plan.kind (m ∷ head.more) = subst (AreReceivable head.is.plan.kind) head.head (ready.receivable port head.is head.there) in waiting.0)

  pub not_past : (port t : ℕ) → IsEnabled b r (Take port t) → IsNotPast t (b.due r.device)
  not_past port t en = at (b.due r.device) refl
    where
      at : (due : Option ℕ) → b.due r.device ≡ due → IsNotPast t due
      at None e = tt
      at (Some d) e = at_most_time (message_key t port 0) (tick_key d) (en.is_next.least (Tick d) e)

  ports_length : length (b.ports r.device) ≡ length r.outgoing
  ports_length = sym (ap length ready.ports) ∙ length-mapped (λ (i : In). i.plan.kind) r.incoming ∙ sym ready.as_many

  routed : (sends : List (ℕ × Body)) → All (λ (sent : ℕ × Body). MaySend (b.ports r.device) sent.0 sent.1) sends → HavePorts (length r.outgoing) sends
  routed sends may = all_on (λ (sent : ℕ × Body). MaySend (b.ports r.device) sent.0 sent.1) (λ (sent : ℕ × Body). sent.0 < length r.outgoing) sends (λ sent one. subst (λ n. sent.0 < n) ports_length (slice_get_within (b.ports r.device) sent.0 one.kind one.at_port)) may

  module _ (lawful : IsLawful b settled) where
    take_sends : (port t : ℕ) (m : Msg) → IsEnabled b r (Take port t) → IsHead r.incoming port m → HavePorts (length r.outgoing) (b.take r.device t port m.body).sends
    take_sends port t m en head = routed _ ((lawful.at r.device).take_orderly t port m.body (may_receive port m head) (not_past port t en) (in_limits (Take port t) en) (ready.settled_then (Take port t) en)).sendable

    tick_sends : (t : ℕ) → IsEnabled b r (Tick t) → HavePorts (length r.outgoing) (b.tick r.device t).sends
    tick_sends t en = routed _ ((lawful.at r.device).tick_orderly t en.is_next.pending (in_limits (Tick t) en) (ready.settled_then (Tick t) en)).sendable

    -- what the device gave, as the effects that are to be carried out
    pub take_there_all : (port t : ℕ) (m : Msg) (device : V) (done : SendsAndLines) → IsEnabled b r (Take port t) → IsHead r.incoming port m → Gives (b.take r.device t port m.body) device r.done done → HavePorts (length r.outgoing) done.sends
    take_there_all port t m device done en head gave = subst (HavePorts (length r.outgoing)) (ap (λ l. l ++ (b.take r.device t port m.body).sends) (sym ready.no_sends) ∙ sym gave.sends_are) (take_sends port t m en head)

    pub tick_there_all : (t : ℕ) (device : V) (done : SendsAndLines) → IsEnabled b r (Tick t) → Gives (b.tick r.device t) device r.done done → HavePorts (length r.outgoing) done.sends
    tick_there_all t device done en gave = subst (HavePorts (length r.outgoing)) (ap (λ l. l ++ (b.tick r.device t).sends) (sym ready.no_sends) ∙ sym gave.sends_are) (tick_sends t en)

  abbrev whole : ℕ → Reaction V → List In → List (List ℕ) → List (ℕ × Body) → List (ℕ × Body) → List (List ℕ) → Runner V
  whole t x incoming lines sends left_sends left_lines = record { device = x.state; log = r.log ++ logged_at t lines; incoming = incoming; outgoing = post_all t sends r.outgoing; end = r.end; done = record { sends = left_sends; lines = left_lines } }

  carried : (t : ℕ) (x : Reaction V) (device : V) (incoming : List In) (done : SendsAndLines) → Gives x device r.done done → after_done (record r { device = device; incoming = incoming; done = done }) t ≡ after_reaction (record r { incoming = incoming }) t x
  carried t x device incoming done gave = ap (λ d. after_done (record r { device = d; incoming = incoming; done = done }) t) gave.state_is ∙ ap (λ l. whole t x incoming l done.sends [] []) lines_are ∙ ap (λ l. whole t x incoming x.lines l [] []) sends_are ∙ ap (λ l. whole t x incoming x.lines x.sends l []) (sym ready.no_sends) ∙ ap (λ l. whole t x incoming x.lines x.sends r.done.sends l) (sym ready.no_lines)
    where
      lines_are : done.lines ≡ x.lines
      lines_are = gave.lines_are ∙ ap (λ l. l ++ x.lines) ready.no_lines

      sends_are : done.sends ≡ x.sends
      sends_are = gave.sends_are ∙ ap (λ l. l ++ x.sends) ready.no_sends

  pub after_tick_is : (t : ℕ) (device : V) (done : SendsAndLines) (new : Runner V) → Gives (b.tick r.device t) device r.done done → new ≡ after_done (record r { device = device; done = done }) t → new ≡ after_tick b r t
  after_tick_is t device done new gave is = is ∙ carried t (b.tick r.device t) device r.incoming done gave

  pub after_take_is : (port t : ℕ) (m : Msg) (device : V) (incoming : List In) (done : SendsAndLines) (new : Runner V) → IsEnabled b r (Take port t) → IsHead r.incoming port m → incoming ≡ at_place port taken r.incoming → Gives (b.take r.device t port m.body) device r.done done → new ≡ after_done (record r { device = device; incoming = incoming; done = done }) t → IsAfterTake b r new port t
  after_take_is port t m device incoming done new en head place gave is = record {
    m = m;
    head = head;
    at_time = head_at port t m en head;
    is = is ∙ carried t (b.take r.device t port m.body) device incoming done gave ∙ ap (λ l. after_reaction (record r { incoming = l }) t (b.take r.device t port m.body)) place ∙ ap (λ u. after_reaction (record r { incoming = at_place port taken r.incoming }) u (b.take r.device u port m.body)) (sym (head_at port t m en head));
  }
