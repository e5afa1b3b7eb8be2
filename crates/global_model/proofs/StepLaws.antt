use Rattle.std.specs.Prelude.{ℕ, ◌≡◌, ◌==◌, ◌+◌, ◌<◌, Bool, true, false, ◌&&◌, if◌then◌else◌, nat_lt, List, ◌++◌, length, slice_get, slice_set, Option, Some, None, IsSome, All, option_map, refl}
use Rattle.std.proofs.lemmas.Bool.{false≢true}
use Rattle.std.proofs.lemmas.List.Elements.{All-weaker}
use Rattle.std.proofs.lemmas.Option.{slice_get_within, get_or_from_slice_get}
use Rattle.std.proofs.Common.{sym, ap, ◌∙◌, subst, get_or}
use Rattle.cs_base.specs.declared.port_kind.PortKind.{PortKind}
use Rattle.cs_base.specs.Plan.{End}
use Rattle.sb_message.specs.declared.message.Body.{Body}
use Rattle.sb_message.specs.declared.message.Msg.{Msg}
use Rattle.sb_message.specs.Receivable.{MaySend}
use Rattle.device_api.specs.Behaviour.{Reaction, Behaviour}
use Rattle.device_api.specs.World.{Event, logged_at}
use Rattle.device_api.specs.declared.component.Component.{Component}
use Rattle.global_model.specs.Reactions.{IsMoment}
use Rattle.global_model.specs.Step.{moment_in, late_of, HasStepped}
use Rattle.global_model.specs.declared.routes.Route.{Route}
use Rattle.global_model.specs.Inboxes.{port_of, end_at, IsSoonest}
use Rattle.global_model.specs.Post.{IsRouted, AreRouted, events_along, note_all, with_arrivals}
use Rattle.global_model.specs.Turn.{from_time, inputs_of, taken_before}

-- a port is there also after messages were taken
taken_there : (u c count : ℕ) (queues : End → Option (List Msg)) (e : End) → IsSome (queues e) → IsSome (taken_before u c count queues e)
taken_there u c count queues e there = at ((c == e.component) && nat_lt e.port count) (queues e) there
  where
    at : (here : Bool) (queue : Option (List Msg)) → IsSome queue → IsSome (if here then option_map (from_time u) queue else queue)
    at here None some = absurd (false≢true some)
    at true (Some messages) some = refl
    at false (Some messages) some = refl

-- what a component's ports may send is routed
pub routed_after : (ports : List PortKind) (routes : List (List (Option Route))) (u c count : ℕ) (inboxes inboxes' : List (List (List Msg))) (sends : List (ℕ × Body)) → ((p : ℕ) → p < length ports → IsRouted routes inboxes (end_at c p)) → ((e : End) → port_of inboxes' e ≡ taken_before u c count (port_of inboxes) e) → All (λ (sent : ℕ × Body). MaySend ports sent.0 sent.1) sends → AreRouted routes inboxes' c sends
routed_after ports routes u c count inboxes inboxes' sends routed left may = All-weaker (λ (sent : ℕ × Body). MaySend ports sent.0 sent.1) (λ (sent : ℕ × Body). IsRouted routes inboxes' (end_at c sent.0)) (λ sent may_send.
    let by_port : IsRouted routes inboxes (end_at c sent.0) = routed sent.0 (slice_get_within ports sent.0 may_send.kind may_send.at_port) in
    record {
      there = by_port.there;
      short = by_port.short;
      arrives = λ route found. subst (λ o. IsSome o) (sym (left (end_at route.component route.port))) (taken_there u c count (port_of inboxes) (end_at route.component route.port) (by_port.arrives route found));
    }) sends may

-- and after others have arrived
pub there_after : (u c count : ℕ) (events : List Event) (inboxes inboxes1 inboxes2 : List (List (List Msg))) (e : End) → IsSome (port_of inboxes e) → port_of inboxes1 e ≡ taken_before u c count (port_of inboxes) e → port_of inboxes2 e ≡ with_arrivals e events (port_of inboxes1 e) → IsSome (port_of inboxes2 e)
there_after u c count events inboxes inboxes1 inboxes2 e there left arrives = subst (λ o. IsSome o) (sym arrives) (some_more (port_of inboxes1 e) (subst (λ o. IsSome o) (sym left) (taken_there u c count (port_of inboxes) e there)))
  where
    some_more : (queue : Option (List Msg)) → IsSome queue → IsSome (with_arrivals e events queue)
    some_more None some = absurd (false≢true some)
    some_more (Some messages) some = refl

-- an element that is read is the one that is there
pub same_read : {X : Type 0} (xs : List X) (i : ℕ) (x y : X) → slice_get xs i ≡ Some x → y ≡ get_or xs i y → y ≡ x
same_read xs i x y is read = read ∙ get_or_from_slice_get xs i x y is

pub stepped : {S : Type 0} {b : Behaviour S} {settled : S → ℕ → Type 0} (t c : ℕ) (routes : List (List (Option Route))) (component : Component S) (components : List (Component S)) (inboxes : List (List (List Msg))) (agenda : List (Option ℕ)) (turned : Component S) (sends : List (ℕ × Body)) (inboxes1 inboxes2 : List (List (List Msg))) (late next : ℕ) (agenda2 : List (Option ℕ)) → turned.device ≡ (moment_in b t c inboxes component.device).state → turned.log ≡ component.log ++ logged_at t (moment_in b t c inboxes component.device).lines → sends ≡ (moment_in b t c inboxes component.device).sends → ((e : End) → port_of inboxes1 e ≡ taken_before (t + 1) c (length (b.ports component.device)) (port_of inboxes) e) → IsMoment b settled component.device t (moment_in b t c inboxes component.device) → ((e : End) → port_of inboxes2 e ≡ with_arrivals e (events_along routes c t sends) (port_of inboxes1 e)) → agenda2 ≡ note_all (events_along routes c t sends) agenda → late ≡ late_of (b.due turned.device) → IsSoonest late (length (b.ports component.device)) (inputs_of inboxes2 c) next → HasStepped b settled t c routes component components inboxes agenda (slice_set components c turned) inboxes2 agenda2 next
stepped {S} {b} {settled} t c routes component components inboxes agenda turned sends inboxes1 inboxes2 late next agenda2 device log sent left whole arrives noted late_is soonest =
    let r : Reaction S = moment_in b t c inboxes component.device in
    record {
      components_are = ap (slice_set components c) (ap (λ d. record { device = d; log = turned.log }) device ∙ ap (λ l. record { device = r.state; log = l }) log);
      inboxes_are = λ e. arrives e ∙ ap (λ xs. with_arrivals e (events_along routes c t xs) (port_of inboxes1 e)) sent ∙ ap (with_arrivals e (events_along routes c t r.sends)) (left e);
      agenda_is = noted ∙ ap (λ xs. note_all (events_along routes c t xs) agenda) sent;
      whole = whole;
      soonest = subst (λ x. IsSoonest x (length (b.ports component.device)) (inputs_of inboxes2 c) next) (late_is ∙ ap (λ d. late_of (b.due d)) device) soonest;
    }
