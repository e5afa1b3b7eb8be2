-- Members and ends of channels that are taken off the workers to which they came last.
use Rattle.std.proofs.Common.{◌≡◌, ℕ, ◌<◌, ◌+◌, ◌%◌, List, [], ◌∷◌, ◌++◌, length, drop, get_or, map, reverse, refl, sym, ap, ◌∙◌, subst, arith}
use Rattle.std.specs.Prelude.{slice_set, slice_index_or, Option, Some}
use Rattle.std.proofs.lemmas.List.{reverse-append, reverse-reverse, length-append, set-set, set-get_or, get_or-set_same, length-set}
use Rattle.std.proofs.lemmas.Option.{same_Some, slice_get-get_or}
use Rattle.worker_rounds.specs.Rounds.{Work}
use Rattle.worker_rounds.specs.declared.mesh_bad.MeshBad.{MeshBad}
use Rattle.crew_members.specs.declared.hand.Hand.{Hand}
use Rattle.crew_members.specs.declared.hand.Hand.TheVariants.{Sending, Receiving}
use Rattle.crew_members.specs.Hands.{sending_of, receiving_of}
use Rattle.crew_members.specs.Staffing.{as_hands, OneMore}
use Rattle.proxy_members.specs.declared.in_member.InMember.{InMember}
use Rattle.proxy_members.specs.declared.out_member.OutMember.{OutMember}
use Rattle.proxy_crew.specs.declared.proxied.Proxied.{Proxied}
use Rattle.proxy_crew.specs.declared.route.Route.{Route}
use Rattle.proxy_crew.specs.Engaging.{Workers, AreEngaged}
use Rattle.proxy_crew.specs.Engaging.AreEngaged.{none_came, one_came}
use Rattle.proxy_crew.specs.Leaving.{HasLast, BothCame}
use Rattle.proxy_crew.proofs.Engaged.{within, is_now, after, put_back, as_many, engaged_many}

-- LISTS WITH A LAST ELEMENT

module _ {X : Type 0} (xs ys : List X) (x y : X) (same : xs ++ x ∷ [] ≡ ys ++ y ∷ []) where
  turned : x ∷ reverse xs ≡ y ∷ reverse ys
  turned = sym (reverse-append xs (x ∷ [])) ∙ ap reverse same ∙ reverse-append ys (y ∷ [])

  pub last_same : x ≡ y
  last_same = ap (λ l. slice_index_or l 0 x) turned

  pub others_same : xs ≡ ys
  others_same = sym (reverse-reverse xs) ∙ ap (λ l. reverse (drop 1 l)) turned ∙ reverse-reverse ys

pub not_none : {X : Type 0} (xs : List X) (x : X) → [] ≡ xs ++ x ∷ [] → ⊥
not_none xs x none =
    let many : length (xs ++ x ∷ []) ≡ length xs + 1 = length-append xs (x ∷ []) in
    let few : 0 ≡ length (xs ++ x ∷ []) = ap length none in
    absurd (omega (arith, many, few))

-- a list is empty or has a last element
pub data IsEnded {X : Type 0} (l : List X) : Type 0 where
  empty : l ≡ [] → IsEnded l
  ended : (xs : List X) (x : X) → l ≡ xs ++ x ∷ [] → IsEnded l

longer : {X : Type 0} (x : X) (l : List X) → IsEnded l → IsEnded (x ∷ l)
longer x l (empty none) = ended [] x (ap (λ r. x ∷ r) none)
longer x l (ended xs y is) = ended (x ∷ xs) y (ap (λ r. x ∷ r) is)

pub is_ended : {X : Type 0} (l : List X) → IsEnded l
is_ended [] = empty refl
is_ended (x ∷ l) = longer x l (is_ended l)

-- ONE MEMBER

abbrev work_of : {M : Type 0} → ℕ → List M → Option MeshBad → Work M
work_of number members fault = record { number = number; members = members; fault = fault }

module _ {M : Type 0} (place : ℕ) (last last' : M) (others others' workers : List (Work M)) (came : OneMore place last others workers) (came' : OneMore place last' others' workers) where
  worker_same : after place last others workers came ≡ after place last' others' workers came'
  worker_same = sym (is_now place last others workers came came.before) ∙ is_now place last' others' workers came' came.before

  members_same : came.before.members ++ last ∷ [] ≡ came'.before.members ++ last' ∷ []
  members_same = ap (λ (w : Work M). w.members) worker_same

  pub member_same : last ≡ last'
  member_same = last_same came.before.members came'.before.members last last' members_same

  before_same : came.before ≡ came'.before
  before_same = ap (λ n. work_of n came.before.members came.before.fault) (ap (λ (w : Work M). w.number) worker_same) ∙ ap (λ m. work_of came'.before.number m came.before.fault) (others_same came.before.members came'.before.members last last' members_same) ∙ ap (λ f. work_of came'.before.number came'.before.members f) (ap (λ (w : Work M). w.fault) worker_same)

  pub workers_same : others ≡ others'
  workers_same = sym (put_back place last others workers came) ∙ ap (slice_set workers place) before_same ∙ put_back place last' others' workers came'

-- what is left where the last member was taken off a worker
module _ {M : Type 0} (place : ℕ) (workers : List (Work M)) (has : HasLast place workers) where
  pub place_is : place < length workers
  place_is = subst (λ n. place < n) (sym (as_many place has.last has.others workers has.came)) (within place has.last has.others workers has.came)

  abbrev at_place : Work M → Work M
  at_place d = get_or workers place d

  pub last_taken : (d new : Work M) (last : M) → (get_or workers place d).members ≡ new.members ++ last ∷ [] → new.number ≡ (get_or workers place d).number → new.fault ≡ (get_or workers place d).fault → OneMore place last (slice_set workers place new) workers
  last_taken d new last members number fault = record {
    before = new;
    there = slice_get-get_or (slice_set workers place new) place new (subst (λ n. place < n) (sym (length-set workers place new)) place_is) ∙ ap Some (get_or-set_same workers place new new place_is);
    is = sym (set-get_or workers place d) ∙ ap (slice_set workers place) whole ∙ sym (set-set workers place new _);
  }
    where
      whole : at_place d ≡ work_of new.number (new.members ++ last ∷ []) new.fault
      whole = ap (λ n. work_of n (at_place d).members (at_place d).fault) (sym number) ∙ ap (λ m. work_of new.number m (at_place d).fault) members ∙ ap (λ f. work_of new.number (new.members ++ last ∷ []) f) (sym fault)

-- BOTH ENDS OF A CHANNEL

-- the ends of this channel came last, behind those of the channels before it
pub record CameLast {C O I : Type 0} (parts : List (Work C)) (before : List (Proxied O I)) (one : Proxied O I) (workers : Workers C O I) : Type 0 where
  pub others : Workers C O I
  pub so_far : AreEngaged parts before others
  pub both : BothCame one.route one.sending one.receiving others workers

module _ {C O I : Type 0} (parts : List (Work C)) where
  same_last : (before before' : List (Proxied O I)) (one one' : Proxied O I) (workers : Workers C O I) → before' ≡ before → one' ≡ one → CameLast parts before' one' workers → CameLast parts before one workers
  same_last before before' one one' workers befores ones came = subst (λ o. CameLast parts before o workers) ones (subst (λ b. CameLast parts b one' workers) befores came)

  pub came_last : (all : List (Proxied O I)) (workers : Workers C O I) → AreEngaged parts all workers → (before : List (Proxied O I)) (one : Proxied O I) → all ≡ before ++ one ∷ [] → CameLast parts before one workers
  came_last _ _ (none_came workers is) before one none = absurd (not_none before one none)
  came_last _ _ (one_came before' one' old mid new so_far sent received) before one same =
      let many : length new ≡ length parts = engaged_many parts (before' ++ one' ∷ []) new (one_came before' one' old mid new so_far sent received) in
      same_last before before' one one' new (others_same before' before one' one same) (last_same before' before one' one same) (record {
        others = old;
        so_far = so_far;
        both = record {
          mid = mid;
          sent = subst (λ n. OneMore (one'.route.sender % n) (Sending one'.sending) old mid) (sym many) sent;
          received = subst (λ n. OneMore (one'.route.receiver % n) (Receiving one'.receiving) mid new) (sym many) received;
        };
      })

  pub none_left : (all : List (Proxied O I)) (workers : Workers C O I) → AreEngaged parts all workers → all ≡ [] → workers ≡ map as_hands parts
  none_left _ _ (none_came workers is) none = is
  none_left _ _ (one_came before one old mid new so_far sent received) none = absurd (not_none before one (sym none))

-- the ends that came last are told by the workers
module _ {C O I : Type 0} (route : Route) (sending sending' : OutMember O) (receiving receiving' : InMember I) (old old' workers : Workers C O I) (came : BothCame route sending receiving old workers) (came' : BothCame route sending' receiving' old' workers) where
  abbrev receiver : InMember I → Hand C (OutMember O) (InMember I)
  receiver end = Receiving end

  abbrev sender : OutMember O → Hand C (OutMember O) (InMember I)
  sender end = Sending end

  receiving_hand : receiver receiving ≡ receiver receiving'
  receiving_hand = member_same (route.receiver % length workers) (Receiving receiving) (Receiving receiving') came.mid came'.mid workers came.received came'.received

  mid_same : came.mid ≡ came'.mid
  mid_same = workers_same (route.receiver % length workers) (Receiving receiving) (Receiving receiving') came.mid came'.mid workers came.received came'.received

  sent' : OneMore (route.sender % length workers) (Sending sending') old' came.mid
  sent' = subst (λ m. OneMore (route.sender % length workers) (Sending sending') old' m) (sym mid_same) came'.sent

  sending_hand : sender sending ≡ sender sending'
  sending_hand = member_same (route.sender % length workers) (Sending sending) (Sending sending') old old' came.mid came.sent sent'

  pub receiving_same : receiving ≡ receiving'
  receiving_same = same_Some receiving receiving' (ap receiving_of receiving_hand)

  pub sending_same : sending ≡ sending'
  sending_same = same_Some sending sending' (ap sending_of sending_hand)

  pub before_both : old ≡ old'
  before_both = workers_same (route.sender % length workers) (Sending sending) (Sending sending') old old' came.mid came.sent sent'

-- where a member was taken off the worker of the receiver, the sending end is the last on its worker
pub sent_before : {C O I : Type 0} (route : Route) (sending : OutMember O) (receiving : InMember I) (old workers : Workers C O I) → (came : BothCame route sending receiving old workers) → (last : Hand C (OutMember O) (InMember I)) (others : Workers C O I) → OneMore (route.receiver % length workers) last others workers → OneMore (route.sender % length workers) (Sending sending) old others
sent_before route sending receiving old workers came last others taken = subst (λ m. OneMore (route.sender % length workers) (Sending sending) old m) (workers_same (route.receiver % length workers) (Receiving receiving) last came.mid others workers came.received taken) came.sent
