-- Channels whose ends leave the workers, from the last channel down.
use Rattle.std.proofs.Common.{◌≡◌, ℕ, ◌<◌, ◌≤◌, ◌+◌, ◌%◌, List, [], ◌∷◌, ◌++◌, length, map, reverse, sym, ap, ap₂, ◌∙◌, subst, append_assoc, append-nil, arith}
use Rattle.std.specs.Prelude.{vec_len, vec_capacity}
use Rattle.std.proofs.lemmas.List.{reverse-append, reverse-reverse, map_push, length-append}
use Rattle.cs_base.specs.declared.wire_end.WireEnd.{WireEnd}
use Rattle.worker_rounds.specs.Rounds.{Work}
use Rattle.crew_members.specs.declared.hand.Hand.TheVariants.{Receiving}
use Rattle.proxy_members.specs.declared.in_member.InMember.{InMember}
use Rattle.proxy_members.specs.declared.out_member.OutMember.{OutMember}
use Rattle.slot_queue.specs.Ends.{Sender, Receiver}
use Rattle.proxy_crew.specs.declared.dismissing.Dismissed.{Dismissed}
use Rattle.proxy_crew.specs.declared.proxied.Proxied.{Proxied}
use Rattle.proxy_crew.specs.declared.route.Route.{Route}
use Rattle.proxy_crew.specs.Dialing.{route_of}
use Rattle.proxy_crew.specs.Ending.{wire_end_of, end_of, near_side, far_side, HasDismissed}
use Rattle.proxy_crew.specs.Engaging.{Workers, AreEngaged}
use Rattle.proxy_crew.specs.Leaving.{BothCame, HaveComeLast}
use Rattle.proxy_crew.proofs.Engaged.{within, as_many}
use Rattle.proxy_crew.proofs.Taken.{IsEnded, is_ended, not_none, last_same, others_same, CameLast, came_last, none_left, receiving_same, sending_same, before_both}
use Rattle.proxy_crew.proofs.Taken.IsEnded.{empty, ended}

-- the last of these channels have left, and what is left of them stands in turned order
pub record HaveGone {C O I : Type 0} (parts : List (Work C)) (all : List (Proxied O I)) (workers : Workers C O I) (routes : List Route) (ends : List (WireEnd O I)) (near : List Receiver) (far : List Sender) : Type 0 where
  pub front : List (Proxied O I)
  pub gone : List (Proxied O I)
  pub whole : front ++ gone ≡ all
  pub engaged : AreEngaged parts front workers
  pub routes_are : map route_of front ≡ routes
  pub ends_are : ends ≡ reverse (map end_of gone)
  pub near_are : near ≡ reverse (map near_side gone)
  pub far_are : far ≡ reverse (map far_side gone)

-- so it is of whichever channels came to the workers at first, and there is room for those that stay
pub record AreLeaving {C O I : Type 0} (first : Workers C O I) (at_first : List Route) (workers : Workers C O I) (routes : List Route) (left : Dismissed O I) : Type 0 where
  pub every : (parts : List (Work C)) (all : List (Proxied O I)) → AreEngaged parts all first → map route_of all ≡ at_first → HaveGone parts all workers routes left.ends.items left.near.items left.far.items
  pub for_ends : length routes + vec_len left.ends ≤ vec_capacity left.ends
  pub for_near : length routes + vec_len left.near ≤ vec_capacity left.near
  pub for_far : length routes + vec_len left.far ≤ vec_capacity left.far

turned_more : {X : Type 0} (x y : X) (l l' m : List X) → l' ≡ l ++ y ∷ [] → l ≡ reverse m → y ≡ x → l' ≡ reverse (x ∷ m)
turned_more x y l l' m pushed is same = pushed ∙ ap₂ (λ r z. r ++ z ∷ []) is same ∙ sym (reverse-append (x ∷ []) m)

-- the last channel by its route
record HasRoute {O I : Type 0} (front : List (Proxied O I)) (routes : List Route) (route : Route) : Type 0 where
  before : List (Proxied O I)
  one : Proxied O I
  is : front ≡ before ++ one ∷ []
  routes_are : map route_of before ≡ routes
  route_is : one.route ≡ route

has_route : {O I : Type 0} (front : List (Proxied O I)) (routes : List Route) (route : Route) → map route_of front ≡ routes ++ route ∷ [] → IsEnded front → HasRoute front routes route
has_route front routes route maps (empty none) = absurd (not_none routes route (sym (ap (map route_of) none) ∙ maps))
has_route front routes route maps (ended before one is) =
    let ends : map route_of before ++ one.route ∷ [] ≡ routes ++ route ∷ [] = sym (map_push route_of before one) ∙ sym (ap (map route_of) is) ∙ maps in
    record {
      before = before;
      one = one;
      is = is;
      routes_are = others_same (map route_of before) routes one.route route ends;
      route_is = last_same (map route_of before) routes one.route route ends;
    }

no_channel : {O I : Type 0} (front : List (Proxied O I)) → map route_of front ≡ [] → IsEnded front → front ≡ []
no_channel front none (empty is) = is
no_channel front none (ended before one is) = absurd (not_none (map route_of before) one.route (sym none ∙ ap (map route_of) is ∙ map_push route_of before one))

module _ {C O I : Type 0} (parts : List (Work C)) (all : List (Proxied O I)) (workers : Workers C O I) (routes : List Route) (ends : List (WireEnd O I)) (near : List Receiver) (far : List Sender) (so_far : HaveGone parts all workers routes ends near far) where
  module _ (routes' : List Route) (route : Route) (last : routes ≡ routes' ++ route ∷ []) where
    has : HasRoute so_far.front routes' route
    has = has_route so_far.front routes' route (so_far.routes_are ∙ last) (is_ended so_far.front)

    came : CameLast parts has.before has.one workers
    came = came_last parts so_far.front workers so_far.engaged has.before has.one has.is

    both : BothCame route has.one.sending has.one.receiving came.others workers
    both = subst (λ r. BothCame r has.one.sending has.one.receiving came.others workers) has.route_is came.both

    some_worker : 0 < length workers
    some_worker =
        let here : route.receiver % length workers < length both.mid = within (route.receiver % length workers) (Receiving has.one.receiving) both.mid workers both.received in
        let many : length workers ≡ length both.mid = as_many (route.receiver % length workers) (Receiving has.one.receiving) both.mid workers both.received in
        omega (arith, here, many)

    pub come_last : HaveComeLast route workers
    come_last = record {
      some = some_worker;
      sending = has.one.sending;
      receiving = has.one.receiving;
      others = came.others;
      came = both;
    }

    pub goes_on : (workers' : Workers C O I) (sending : OutMember O) (receiving : InMember I) → BothCame route sending receiving workers' workers → (ends' : List (WireEnd O I)) (near' : List Receiver) (far' : List Sender) → ends' ≡ ends ++ wire_end_of sending receiving ∷ [] → near' ≡ near ++ sending.near.seat ∷ [] → far' ≡ far ++ receiving.far.seat ∷ [] → HaveGone parts all workers' routes' ends' near' far'
    goes_on workers' sending receiving taken ends' near' far' ends_pushed near_pushed far_pushed =
        let sends : sending ≡ has.one.sending = sending_same route sending has.one.sending receiving has.one.receiving workers' came.others workers taken both in
        let receives : receiving ≡ has.one.receiving = receiving_same route sending has.one.sending receiving has.one.receiving workers' came.others workers taken both in
        record {
          front = has.before;
          gone = has.one ∷ so_far.gone;
          whole = sym (append_assoc has.before (has.one ∷ []) so_far.gone) ∙ ap (λ l. l ++ so_far.gone) (sym has.is) ∙ so_far.whole;
          engaged = subst (λ w. AreEngaged parts has.before w) (sym (before_both route sending has.one.sending receiving has.one.receiving workers' came.others workers taken both)) came.so_far;
          routes_are = has.routes_are;
          ends_are = turned_more (end_of has.one) (wire_end_of sending receiving) ends ends' (map end_of so_far.gone) ends_pushed so_far.ends_are (ap₂ wire_end_of sends receives);
          near_are = turned_more (near_side has.one) sending.near.seat near near' (map near_side so_far.gone) near_pushed so_far.near_are (ap (λ (s : OutMember O). s.near.seat) sends);
          far_are = turned_more (far_side has.one) receiving.far.seat far far' (map far_side so_far.gone) far_pushed so_far.far_are (ap (λ (r : InMember I). r.far.seat) receives);
        }

  pub all_gone : routes ≡ [] → (left : Dismissed O I) → left.ends.items ≡ reverse ends → left.near.items ≡ reverse near → left.far.items ≡ reverse far → HasDismissed parts all workers left
  all_gone none left ends_turned near_turned far_turned =
      let nothing : so_far.front ≡ [] = no_channel so_far.front (so_far.routes_are ∙ none) (is_ended so_far.front) in
      let these : so_far.gone ≡ all = ap (λ l. l ++ so_far.gone) (sym nothing) ∙ so_far.whole in
      record {
        workers_are = none_left parts so_far.front workers so_far.engaged nothing;
        left_are = record {
          ends_are = ends_turned ∙ ap reverse so_far.ends_are ∙ reverse-reverse (map end_of so_far.gone) ∙ ap (map end_of) these;
          near_are = near_turned ∙ ap reverse so_far.near_are ∙ reverse-reverse (map near_side so_far.gone) ∙ ap (map near_side) these;
          far_are = far_turned ∙ ap reverse so_far.far_are ∙ reverse-reverse (map far_side so_far.gone) ∙ ap (map far_side) these;
        };
      }

-- nothing has left yet
pub none_gone : {C O I : Type 0} (parts : List (Work C)) (all : List (Proxied O I)) (workers : Workers C O I) (routes : List Route) (ends : List (WireEnd O I)) (near : List Receiver) (far : List Sender) → AreEngaged parts all workers → map route_of all ≡ routes → ends ≡ [] → near ≡ [] → far ≡ [] → HaveGone parts all workers routes ends near far
none_gone parts all workers routes ends near far engaged routes_are no_ends none_near none_far = record {
  front = all;
  gone = [];
  whole = append-nil all;
  engaged = engaged;
  routes_are = routes_are;
  ends_are = no_ends;
  near_are = none_near;
  far_are = none_far;
}

pub room_left : (routes routes' : List Route) (route : Route) (len len' room room' : ℕ) → routes ≡ routes' ++ route ∷ [] → length routes + len ≤ room → len' ≡ len + 1 → room' ≡ room → length routes' + len' ≤ room'
room_left routes routes' route len len' room room' last fits one_more same =
    let many : length routes ≡ length routes' + 1 = ap length last ∙ length-append routes' (route ∷ []) in
    omega (arith, many, fits, one_more, same)
