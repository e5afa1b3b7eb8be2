-- What the closed queues of a run tell of its channels, and what the ends of its channels by proxy do.
use Rattle.std.specs.Prelude.{◌⊎◌}
use Rattle.std.proofs.Common.{◌≡◌, ℕ, zero, suc, false, true, ◌+◌, ◌<◌, ◌≤◌, List, [], ◌∷◌, ◌++◌, length, map, take, All, Option, Some, None, inl, inr, refl, sym, ap, subst, append_assoc, append-nil, ◌∙◌, arith, get_or}
use Rattle.std.specs.Prelude.{slice_get, option_map, option_and_then, sum_by, Result, Ok, Err, IfOk, IfErr, IsErr, IsErrAnd, IfSome, IsTrue}
use Rattle.std.specs.List.{AllByRecursion}
use Rattle.std.proofs.lemmas.Option.{none-some, same_Some, slice_get_within, slice_get-get_or, get_or_from_slice_get}
use Rattle.std.proofs.lemmas.List.{length-map}
use mathlib.Core.List.{IsPrefix}
use Rattle.cs_base.specs.declared.link.Link.{Link}
use Rattle.cs_base.specs.declared.port_kind.PortKind.{PortKind}
use Rattle.cs_base.specs.declared.wire_end.WireEnd.{WireEnd}
use Rattle.cs_base.specs.Plan.{End, kind_at, partner}
use Rattle.cs_base.specs.Wires.{OutSeen, InSeen, DialerSeen}
use Rattle.device_api.specs.Behaviour.{Behaviour}
use Rattle.device_api.specs.Channels.{Channel, channels}
use Rattle.device_api.specs.Transcript.{bound_of, introduction}
use Rattle.device_api.specs.World.{Network}
use Rattle.device_api.specs.declared.counts.Count.{Count}
use Rattle.device_api.specs.declared.logs.Line.{Line}
use Rattle.global_model.specs.Step.{network}
use Rattle.proxy_crew.specs.declared.proxied.Proxied.{Proxied}
use Rattle.proxy_crew.specs.declared.route.Route.{Route}
use Rattle.proxy_crew.specs.declared.build_bad.BuildBad.{BuildBad}
use Rattle.proxy_crew.specs.declared.build_bad.BuildBad.TheVariants.{NoMemory}
use Rattle.proxy_crew.specs.Dialing.{channel_of, route_of, DialTells}
use Rattle.proxy_crew.specs.Ending.{end_of, near_side, far_side}
use Rattle.proxy_members.specs.Differing.{AllAgree}
use Rattle.proxy_members.proofs.Outgoing.{prefix_on, prefix_self}
use Rattle.run_laws.specs.LocalRuns as runs
use Rattle.run_laws.specs.Wired.{IsChannel, IsWired}
use Rattle.run_laws.proofs.Channels.{sender_of}
use Rattle.run_laws.proofs.Lists.{there_below}
use Rattle.sb_frame.specs.Frames.{AreFrames}
use Rattle.sb_message.specs.declared.message.Msg.{Msg}
use Rattle.slot_queue.specs.Closing.{Remains}
use Rattle.slot_queue.specs.Ends.{Named, Sender, Receiver}
use Rattle.sync_laws.proofs.Changed.{get_mapped}
use Rattle.tcp_proxy.specs.Receiving.{ArePushedFrom}
use Rattle.worker_rounds.specs.declared.mesh_bad.MeshBad.{MeshBad}
use Rattle.run_threads.specs.Leaving.{AreDelivered, LeavesGlobalRun}
use Rattle.run_threads.specs.Merging.{AreMerged, SidesMerge, vias_of, with_behind, with_before, at_near, at_far}
use Rattle.run_threads.specs.Proxied.{AreAllNew, proxied, near_places, far_places, queues_on}
use Rattle.run_threads.specs.Queues.{as_empty}
use Rattle.run_threads.specs.Routes.{routes_of}
use Rattle.run_threads.specs.Whole.{EndsHold}
use Rattle.run_threads.proofs.Routed.{numbers_are}
use Rattle.thread_run.specs.Closing.{AreSidesOf, AreClosed}
use Rattle.thread_run.specs.Spent.{IsSpent}
use Rattle.thread_run.specs.Whole.{AreWhole}
use Rattle.thread_run.proofs.Closings.{Whole}
use Rattle.thread_run.proofs.Ports.{near_each, far_all, queues_each, stands_in, and_then_some, map_map}

-- an element that a list is made of
pub unmapped : {A B : Type 0} (f : A → B) (xs : List A) (k : ℕ) (y : B) → slice_get (map f xs) k ≡ Some y → (x : A) × (slice_get xs k ≡ Some x) × (f x ≡ y)
unmapped f [] k y is = absurd (none-some y is)
unmapped f (x ∷ xs) zero y is = (x, refl, same_Some (f x) y is)
unmapped f (x ∷ xs) (suc k) y is = unmapped f xs k y is

pub all_at : {A : Type 0} (P : A → Type 0) (xs : List A) (k : ℕ) (x : A) → All P xs → slice_get xs k ≡ Some x → P x
all_at P xs k x all is = subst P (get_or_from_slice_get xs k x x is) (all k x (slice_get_within xs k x is))

-- what was pushed is the beginning of what was popped, where what came is the beginning of what went
abbrev pub Onward : Type 0
Onward = (kind : PortKind) (sent got : List ℕ) (popped pushed : List Msg) → AreFrames kind popped sent → ArePushedFrom kind got pushed → IsPrefix got sent → IsPrefix pushed popped

-- one of the ends that has a channel's number
pub record HasEnd {O I : Type 0} (ends : List (Proxied O I)) (i k : ℕ) : Type 0 where
  pub one : Proxied O I
  pub there : slice_get ends i ≡ Some one
  pub numbered : one.route.channel ≡ k

pub end_at : {O I : Type 0} (kinds : List (List PortKind)) (links : List Link) (ends : List (Proxied O I)) → map route_of ends ≡ routes_of kinds links → (i k : ℕ) → slice_get (proxied links) i ≡ Some k → HasEnd ends i k
end_at kinds links ends routes i k is =
    let route = unmapped channel_of (map route_of ends) i k (ap (λ l. slice_get (map channel_of l) i) routes ∙ ap (λ l. slice_get l i) (numbers_are kinds links) ∙ is) in
    let one = unmapped route_of ends i route.0 route.1 in
    record { one = one.0; there = one.1; numbered = ap channel_of one.2 ∙ route.2 }

-- the number of an end's channel is that at its place
pub number_at : {O I : Type 0} (kinds : List (List PortKind)) (links : List Link) (ends : List (Proxied O I)) → map route_of ends ≡ routes_of kinds links → (i : ℕ) (one : Proxied O I) → slice_get ends i ≡ Some one → slice_get (proxied links) i ≡ Some one.route.channel
number_at kinds links ends routes i one is = ap (λ l. slice_get l i) (sym (numbers_are kinds links)) ∙ ap (λ l. slice_get (map channel_of l) i) (sym routes) ∙ get_mapped channel_of (map route_of ends) i one.route (get_mapped route_of ends i one is)

module _ {V O I T : Type 0} (b : Behaviour V) (out : O → OutSeen) (wire : I → InSeen) (starts : List V) (kinds : List (List PortKind)) (links : List Link) (end : ℕ) (queues : List Named)
    (ended : Result T MeshBad) (logs : List (List Line)) (counts : List Count) (producers : List Sender) (consumers : List Receiver) (wire_ends : List (WireEnd O I))
    (spent : IsSpent b out wire starts kinds links end queues ended logs counts producers consumers wire_ends)
    (p0 : List Sender) (c0 : List Receiver) (new : AreAllNew kinds links queues p0 c0) (merge : SidesMerge) where
  abbrev pub outs : List Receiver
  outs = map near_side spent.ends

  abbrev pub ins : List Sender
  ins = map far_side spent.ends

  pub merged : AreMerged links queues spent.senders spent.receivers outs ins producers consumers
  merged =
      let whole = merge kinds links queues p0 c0 spent.senders spent.receivers outs ins new spent.seats (map_map near_side (λ (r : Receiver). r.queue) spent.ends ∙ spent.ends_at.near) (map_map far_side (λ (s : Sender). s.queue) spent.ends ∙ spent.ends_at.far) in
      subst (λ p. AreMerged links queues spent.senders spent.receivers outs ins p consumers) (sym spent.producers_are)
      (subst (λ c. AreMerged links queues spent.senders spent.receivers outs ins (with_behind (vias_of links) spent.senders ins) c) (sym spent.consumers_are) whole)

  pub sides : AreSidesOf queues producers consumers
  sides = record { senders_are = merged.producers_named; receivers_are = merged.consumers_named }

  module _ (rests : List Remains) (closed : AreClosed producers consumers rests) where
    -- the sides of a closed queue
    sender_at : (p : ℕ) (rest : Remains) → slice_get rests p ≡ Some rest → (s : Sender) × (slice_get producers p ≡ Some s) × (s.sent ≡ rest.sent)
    sender_at p rest there = unmapped (λ (s : Sender). s.sent) producers p rest.sent (sym (ap (λ l. slice_get l p) closed.sent) ∙ get_mapped (λ (rest : Remains). rest.sent) rests p rest there)

    receiver_at : (p : ℕ) (rest : Remains) → slice_get rests p ≡ Some rest → (r : Receiver) × (slice_get consumers p ≡ Some r) × (r.received ≡ rest.received)
    receiver_at p rest there = unmapped (λ (r : Receiver). r.received) consumers p rest.received (sym (ap (λ l. slice_get l p) closed.received) ∙ get_mapped (λ (rest : Remains). rest.received) rests p rest there)

    rest_of : (p : ℕ) (s : Sender) → slice_get producers p ≡ Some s → (rest : Remains) × (slice_get rests p ≡ Some rest) × (rest.sent ≡ s.sent)
    rest_of p s is = unmapped (λ (rest : Remains). rest.sent) rests p s.sent (ap (λ l. slice_get l p) closed.sent ∙ get_mapped (λ (s : Sender). s.sent) producers p s is)

    rest_for : (p : ℕ) (r : Receiver) → slice_get consumers p ≡ Some r → (rest : Remains) × (slice_get rests p ≡ Some rest) × (rest.received ≡ r.received)
    rest_for p r is = unmapped (λ (rest : Remains). rest.received) rests p r.received (ap (λ l. slice_get l p) closed.received ∙ get_mapped (λ (r : Receiver). r.received) consumers p r is)

    begins : (p : ℕ) (rest : Remains) → slice_get rests p ≡ Some rest → IsPrefix rest.received rest.sent
    begins p rest there = (rest.messages, all_at Whole rests p rest closed.left there)

    -- ---- the queues of a channel

    below_near : (k p : ℕ) → slice_get (near_places 0 links) k ≡ Some p → k < length (channels links)
    below_near k p is = subst (λ n. k < n) (near_each 0 links) (slice_get_within (near_places 0 links) k p is)

    pub sender_of_near : (k : ℕ) (near : Remains) → at_near links rests k ≡ Some near → (s : Sender) × (slice_get spent.senders k ≡ Some s) × (s.sent ≡ near.sent)
    sender_of_near k near is =
        let place = and_then_some (slice_get rests) (slice_get (near_places 0 links) k) near is in
        let side = sender_at place.0 near place.2 in
        (side.0, sym (merged.near_sender k (below_near k place.0 place.1)) ∙ ap (option_and_then (slice_get producers)) place.1 ∙ side.1, side.2)

    pub near_of_sender : (k : ℕ) (s : Sender) → k < length (channels links) → slice_get spent.senders k ≡ Some s → (near : Remains) × (at_near links rests k ≡ Some near) × (near.sent ≡ s.sent)
    near_of_sender k s below is =
        let place = and_then_some (slice_get producers) (slice_get (near_places 0 links) k) s (merged.near_sender k below ∙ is) in
        let rest = rest_of place.0 s place.2 in
        (rest.0, ap (option_and_then (slice_get rests)) place.1 ∙ rest.1, rest.2)

    pub receiver_of_far : (k : ℕ) (far : Remains) → k < length (channels links) → at_far links rests k ≡ Some far → (r : Receiver) × (slice_get spent.receivers k ≡ Some r) × (r.received ≡ far.received)
    receiver_of_far k far below is =
        let place = and_then_some (slice_get rests) (slice_get (far_places 0 links) k) far is in
        let side = receiver_at place.0 far place.2 in
        (side.0, sym (merged.far_receiver k below) ∙ ap (option_and_then (slice_get consumers)) place.1 ∙ side.1, side.2)

    pub far_of_receiver : (k : ℕ) (r : Receiver) → k < length (channels links) → slice_get spent.receivers k ≡ Some r → (far : Remains) × (at_far links rests k ≡ Some far) × (far.received ≡ r.received)
    far_of_receiver k r below is =
        let place = and_then_some (slice_get consumers) (slice_get (far_places 0 links) k) r (merged.far_receiver k below ∙ is) in
        let rest = rest_for place.0 r place.2 in
        (rest.0, ap (option_and_then (slice_get rests)) place.1 ∙ rest.1, rest.2)

    pub near_begins : (k : ℕ) (near : Remains) → at_near links rests k ≡ Some near → IsPrefix near.received near.sent
    near_begins k near is = let place = and_then_some (slice_get rests) (slice_get (near_places 0 links) k) near is in begins place.0 near place.2

    pub far_begins : (k : ℕ) (far : Remains) → at_far links rests k ≡ Some far → IsPrefix far.received far.sent
    far_begins k far is = let place = and_then_some (slice_get rests) (slice_get (far_places 0 links) k) far is in begins place.0 far place.2

    -- a channel by queue has one queue
    pub same_when_by_queue : (k : ℕ) (near far : Remains) → at_near links rests k ≡ Some near → at_far links rests k ≡ Some far → ((i : ℕ) → slice_get (proxied links) i ≡ Some k → ⊥) → near ≡ far
    same_when_by_queue k near far is also by_queue =
        let place = and_then_some (slice_get rests) (slice_get (near_places 0 links) k) near is in
        let one_place = merged.one_queue k (below_near k place.0 place.1) by_queue in
        same_Some near far (sym is ∙ ap (option_and_then (slice_get rests)) one_place ∙ also)

    -- ---- a channel by proxy

    module _ (i : ℕ) (one : Proxied O I) (there : slice_get spent.ends i ≡ Some one) where
      k_is : slice_get (proxied links) i ≡ Some one.route.channel
      k_is = number_at kinds links spent.ends spent.routes i one there

      pub holds : EndsHold out wire one
      holds = all_at (EndsHold out wire) spent.ends i one spent.hold there

      pub taken_from_near : (near : Remains) → at_near links rests one.route.channel ≡ Some near → near.received ≡ one.sending.near.seat.received
      taken_from_near near is =
          let place = and_then_some (slice_get rests) (slice_get (near_places 0 links) one.route.channel) near is in
          let side = receiver_at place.0 near place.2 in
          let same : side.0 ≡ near_side one = same_Some side.0 (near_side one) (sym side.1 ∙ sym (ap (option_and_then (slice_get consumers)) place.1) ∙ merged.near_receiver i one.route.channel k_is ∙ get_mapped near_side spent.ends i one there) in
          sym side.2 ∙ ap (λ (r : Receiver). r.received) same

      pub put_into_far : (far : Remains) → at_far links rests one.route.channel ≡ Some far → far.sent ≡ one.receiving.far.seat.sent
      put_into_far far is =
          let place = and_then_some (slice_get rests) (slice_get (far_places 0 links) one.route.channel) far is in
          let side = sender_at place.0 far place.2 in
          let same : side.0 ≡ far_side one = same_Some side.0 (far_side one) (sym side.1 ∙ sym (ap (option_and_then (slice_get producers)) place.1) ∙ merged.far_sender i one.route.channel k_is ∙ get_mapped far_side spent.ends i one there) in
          sym side.2 ∙ ap (λ (s : Sender). s.sent) same

      pub frames_of_near : (near : Remains) → at_near links rests one.route.channel ≡ Some near → AreFrames one.route.kind near.received one.sending.proxy.kept
      frames_of_near near is = subst (λ l. AreFrames one.route.kind l one.sending.proxy.kept) (sym (taken_from_near near is)) (subst (λ kind. AreFrames kind one.sending.near.seat.received one.sending.proxy.kept) holds.near_kind holds.sending.frames)

      pub pushed_to_far : (far : Remains) → at_far links rests one.route.channel ≡ Some far → ArePushedFrom one.route.kind one.receiving.proxy.kept far.sent
      pushed_to_far far is = subst (ArePushedFrom one.route.kind one.receiving.proxy.kept) (sym (put_into_far far is)) (subst (λ kind. ArePushedFrom kind one.receiving.proxy.kept one.receiving.far.seat.sent) holds.far_kind holds.receiving.pushed)

      pub far_goes_on : Onward → (near far : Remains) → at_near links rests one.route.channel ≡ Some near → at_far links rests one.route.channel ≡ Some far → IsPrefix one.receiving.proxy.kept one.sending.proxy.kept → IsPrefix far.sent near.sent
      far_goes_on onward near far is also agrees =
          prefix_on far.sent near.received near.sent (onward one.route.kind one.sending.proxy.kept one.receiving.proxy.kept near.received far.sent (frames_of_near near is) (pushed_to_far far also) agrees) (near_begins one.route.channel near is)

    -- ---- what was delivered, where what came on each channel by proxy is the beginning of what went

    module _ (onward : Onward) (agree : AllAgree (map end_of spent.ends)) where
      agrees_at : (i : ℕ) (one : Proxied O I) → slice_get spent.ends i ≡ Some one → IsPrefix one.receiving.proxy.kept one.sending.proxy.kept
      agrees_at i one there = agree.each i (end_of one) (get_mapped end_of spent.ends i one there)

      pub went_on : (k : ℕ) (near far : Remains) → at_near links rests k ≡ Some near → at_far links rests k ≡ Some far → IsPrefix far.sent near.sent
      went_on k near far is also = at (stands_in (proxied links) k)
        where
          at : ((i : ℕ) × (slice_get (proxied links) i ≡ Some k)) ⊎ ((i : ℕ) → slice_get (proxied links) i ≡ Some k → ⊥) → IsPrefix far.sent near.sent
          at (inl (i, by_proxy)) =
              let its = end_at kinds links spent.ends spent.routes i k by_proxy in
              far_goes_on i its.one its.there onward near far (ap (at_near links rests) its.numbered ∙ is) (ap (at_far links rests) its.numbered ∙ also) (agrees_at i its.one its.there)
          at (inr by_queue) = subst (λ (rest : Remains). IsPrefix rest.sent near.sent) (same_when_by_queue k near far is also by_queue) (prefix_self near.sent)

      pub delivered : AreDelivered links spent.senders spent.receivers
      delivered = record { each = each }
        where
          each : (k : ℕ) (ch : Channel) (s : Sender) (r : Receiver) → slice_get (channels links) k ≡ Some ch → slice_get spent.senders k ≡ Some s → slice_get spent.receivers k ≡ Some r → runs.IsPrefix r.received s.sent
          each k ch s r at is also =
              let below : k < length (channels links) = slice_get_within (channels links) k ch at in
              let near = near_of_sender k s below is in
              let far = far_of_receiver k r below also in
              let far_prefix : IsPrefix (far.0).received (far.0).sent = far_begins k far.0 far.1 in
              let whole : IsPrefix (far.0).received (near.0).sent = prefix_on (far.0).received (far.0).sent (near.0).sent far_prefix (went_on k near.0 far.0 near.1 far.1) in
              record { rest = whole.0; whole_is = sym near.2 ∙ sym whole.1 ∙ ap (λ l. l ++ whole.0) far.2 }

      pub whole_rests : LeavesGlobalRun b starts links end logs counts spent.senders spent.receivers → AreWhole b starts links end rests
      whole_rests leaves = record {
        as_many = sym (length-map rests (λ (rest : Remains). rest.sent)) ∙ ap length closed.sent ∙ length-map producers (λ (s : Sender). s.sent) ∙ sym (length-map producers (λ (s : Sender). s.queue)) ∙ ap length sides.senders_are ∙ length-map queues (λ (q : Named). q.name) ∙ sym (length-map queues as_empty) ∙ ap length new.queues_are ∙ queues_each kinds links;
        sent = λ k ch near start kind at is way. (let s = sender_of_near k near is in sym s.2 ∙ leaves.transcripts k ch s.0 start kind at s.1 way);
        went_on = went_on;
        reached = reached;
        left = closed.left;
      }
        where
          far_each : (k : ℕ) (far : Remains) → at_far links rests k ≡ Some far → k < length (channels links)
          far_each k far is = let place = and_then_some (slice_get rests) (slice_get (far_places 0 links) k) far is in subst (λ n. k < n) (far_all 0 links) (slice_get_within (far_places 0 links) k place.0 place.1)

          reached : (k : ℕ) (far : Remains) → at_far links rests k ≡ Some far → end ≤ bound_of far.received
          reached k far is =
              let below : k < length (channels links) = far_each k far is in
              let ch = there_below (channels links) k below in
              let r = receiver_of_far k far below is in
              let within : k < length spent.senders = (let many = spent.seats.sender_each in omega arith) in
              let s = there_below spent.senders k within in
              subst (λ l. end ≤ bound_of l) r.2 (leaves.delivered k ch.0 s.0 r.0 ch.1 s.1 r.1).reached

-- ---- how a run ended

pub if_ok : {A E : Type 0} (r : Result A E) (P : A → Type 0) → ((x : A) → r ≡ Ok x → P x) → IfOk r P
if_ok (Ok x) P each = each x refl
if_ok (Err e) P each = tt

pub if_err : {A E : Type 0} (r : Result A E) (P : E → Type 0) → ((e : E) → r ≡ Err e → P e) → IfErr r P
if_err (Ok x) P each = tt
if_err (Err e) P each = each e refl

-- nothing was dialed yet
pub untouched : {A : Type 0} (r : Result A BuildBad) (channels : List ℕ) (seen : DialerSeen) → IsErr r → IsErrAnd r (λ bad. bad ≡ NoMemory) → DialTells r channels seen seen
untouched {A} (Ok x) channels seen some is = absurd (let no : false ≡ true = some in cc)
untouched {A} (Err bad) channels seen some is = subst (λ bad. DialTells {T = A} (Err bad) channels seen seen) (sym is) (record { count = 0; within = (let none : 0 ≤ length channels = omega arith in none); dialed = same seen.dialed; never_falls = (let still : seen.faults ≤ seen.faults = omega arith in still) })
  where
    same : (o : Option (List ℕ)) → o ≡ option_map (λ before. before ++ take 0 channels) o
    same None = refl
    same (Some l) = ap Some (sym (append-nil l))
