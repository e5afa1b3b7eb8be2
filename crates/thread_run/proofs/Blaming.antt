-- What is left of the channels by proxy, and the cause of a fault.
use Rattle.std.specs.Prelude.{◌⊎◌}
use Rattle.std.proofs.Common.{◌≡◌, ℕ, ◌+◌, ◌<◌, ◌≤◌, List, [], ◌∷◌, ◌++◌, length, map, take, drop, All, Option, Some, None, true, inl, inr, refl, sym, ap, subst, append_assoc, ◌∙◌, arith, get_or}
use Rattle.std.specs.Prelude.{slice_get, option_and_then, is_some, Result, Ok, Err, IfSome, IsTrue}
use Rattle.std.proofs.lemmas.Bool.{false≢true}
use Rattle.std.proofs.lemmas.Option.{none-some, same_Some, slice_get_within, slice_get-get_or}
use Rattle.std.proofs.lemmas.List.{length-map, take-append-drop}
use Rattle.std.proofs.lemmas.List.Elements.{recursion_from_All}
use Rattle.std.specs.List.{AllByRecursion}
use mathlib.Core.List.{IsPrefix}
use Rattle.cs_base.specs.declared.link.Link.{Link}
use Rattle.cs_base.specs.declared.port_kind.PortKind.{PortKind}
use Rattle.cs_base.specs.declared.peer_reason.PeerReason.TheVariants.{Intro}
use Rattle.cs_base.specs.declared.wire_end.WireEnd.{WireEnd}
use Rattle.cs_base.specs.Plan.{End, Joins, kind_at, partner}
use Rattle.cs_base.specs.Wires.{OutSeen, InSeen}
use Rattle.device_api.specs.Behaviour.{Behaviour}
use Rattle.device_api.specs.Channels.{Channel, channels}
use Rattle.device_api.specs.Transcript.{introduction}
use Rattle.device_api.specs.World.{Network}
use Rattle.device_api.specs.declared.counts.Count.{Count}
use Rattle.device_api.specs.declared.logs.Line.{Line}
use Rattle.global_model.specs.Step.{network}
use Rattle.mesh_core.proofs.Outcomes.{same_lists}
use Rattle.mesh_core.specs.Start.{kind_or}
use Rattle.proxy_crew.specs.declared.proxied.Proxied.{Proxied}
use Rattle.proxy_crew.specs.Dialing.{channel_of, route_of}
use Rattle.proxy_crew.specs.Ending.{end_of}
use Rattle.proxy_members.specs.Faults.{fault_of}
use Rattle.proxy_members.specs.Inward.{InSays}
use Rattle.proxy_members.specs.Inward.InSays.{its_wire_failed as in_failed, its_wire_ended, its_bytes_are_bad, memory_was_wanting as in_wanting}
use Rattle.proxy_members.specs.Outward.{OutSays, IsBegun}
use Rattle.proxy_members.specs.Outward.OutSays.{its_wire_failed as out_failed, memory_was_wanting as out_wanting}
use Rattle.proxy_members.proofs.Outgoing.{prefix_on}
use Rattle.run_laws.specs.Wired.{IsChannel, IsWired}
use Rattle.run_laws.proofs.Channels.{sender_of, channel_joined}
use Rattle.run_laws.proofs.Lists.{there_below}
use Rattle.sb_frame.specs.declared.frame_bad.FrameBad.{FrameBad}
use Rattle.sb_frame.specs.declared.frame_bad.FrameBad.TheVariants as frame
use Rattle.sb_frame.specs.Faults.{FirstFault}
use Rattle.sb_frame.specs.Frames.{AreFrames}
use Rattle.sb_message.specs.declared.message.Msg.{Msg}
use Rattle.slot_queue.specs.Closing.{Remains}
use Rattle.slot_queue.specs.Ends.{Named, Sender, Receiver}
use Rattle.sync_laws.proofs.Changed.{get_mapped}
use Rattle.tcp_proxy.specs.declared.hop.ProxyBad.TheVariants.{Frame}
use Rattle.tcp_proxy.specs.Receiving.{ArePushedFrom}
use Rattle.worker_rounds.specs.declared.mesh_bad.MeshBad.{MeshBad}
use Rattle.worker_rounds.specs.declared.mesh_bad.MeshBad.TheVariants.{Lost, Peer}
use Rattle.run_threads.specs.Merging.{SidesMerge, at_near, at_far}
use Rattle.run_threads.specs.Proxied.{AreAllNew, proxied, near_places, far_places}
use Rattle.run_threads.specs.Routes.{routes_of}
use Rattle.run_threads.specs.Whole.{EndsHold}
use Rattle.run_threads.proofs.Routed.{numbers_are}
use Rattle.thread_run.specs.Closing.{AreClosed}
use Rattle.thread_run.specs.Spent.{IsSpent, IsSpentCause, CameWrong}
use Rattle.thread_run.specs.Spent.IsSpentCause.{no_memory, wrong_introduction, by_sending, by_receiving, by_difference}
use Rattle.thread_run.specs.Whole.{IsEndOf, AreEndsOf, AreFramesOf, AreBetween, LosesWire, HasBadPeer, IsBadFrom, IsCause}
use Rattle.thread_run.specs.Whole.IsBadFrom.{by_frame, by_introduction}
use Rattle.thread_run.proofs.Faultless.{no_fault_in_prefix}
use Rattle.thread_run.proofs.Ports.{partners, route_is, stands_in, and_then_some}
use Rattle.thread_run.proofs.Telling.{Onward, HasEnd, end_at, number_at, unmapped, merged, holds, near_of_sender, sender_of_near, far_of_receiver, near_begins, far_begins, frames_of_near, pushed_to_far, far_goes_on, taken_from_near, same_when_by_queue}

-- what a wire took is the beginning of what was kept for it
front : (o : Option (List ℕ)) (n : ℕ) (kept : List ℕ) → IfSome o (λ bytes. bytes ≡ take n kept) → IfSome o (λ bytes. IsPrefix bytes kept)
front None n kept told = tt
front (Some bytes) n kept told = (drop n kept, ap (λ l. l ++ drop n kept) told ∙ take-append-drop n kept)

some_kind : (o : Option PortKind) → is_some o ≡ true → (kind : PortKind) × (o ≡ Some kind)
some_kind None none = absurd (false≢true none)
some_kind (Some kind) some = (kind, refl)

first_of : (received sent : List Msg) (first : Msg) (more : List Msg) → IsPrefix received sent → received ≡ first ∷ more → (rest : List Msg) × (sent ≡ first ∷ rest)
first_of received sent first more p is = (more ++ p.0, sym p.1 ∙ ap (λ l. l ++ p.0) is)

module _ {V O I T : Type 0} (b : Behaviour V) (out : O → OutSeen) (wire : I → InSeen) (starts : List V) (kinds : List (List PortKind)) (links : List Link) (end : ℕ) (queues : List Named)
    (ended : Result T MeshBad) (logs : List (List Line)) (counts : List Count) (producers : List Sender) (consumers : List Receiver) (wire_ends : List (WireEnd O I))
    (spent : IsSpent b out wire starts kinds links end queues ended logs counts producers consumers wire_ends)
    (p0 : List Sender) (c0 : List Receiver) (new : AreAllNew kinds links queues p0 c0) (merge : SidesMerge) (rests : List Remains) (closed : AreClosed producers consumers rests)
    (onward : Onward) (matches : map b.ports starts ≡ kinds) where
  abbrev net : Network V
  net = network b starts links

  -- ---- the numbers of the ends

  numbers_same : map (λ (e : WireEnd O I). e.channel) (map end_of spent.ends) ≡ proxied links
  numbers_same = same_lists (map (λ (e : WireEnd O I). e.channel) (map end_of spent.ends)) (proxied links) (length-map (map end_of spent.ends) (λ (e : WireEnd O I). e.channel) ∙ length-map spent.ends end_of ∙ sym (length-map spent.ends route_of) ∙ ap length spent.routes ∙ sym (length-map (routes_of kinds links) channel_of) ∙ ap length (numbers_are kinds links)) each
    where
      each : (i : ℕ) (x y : ℕ) → slice_get (map (λ (e : WireEnd O I). e.channel) (map end_of spent.ends)) i ≡ Some x → slice_get (proxied links) i ≡ Some y → x ≡ y
      each i x y at at' =
          let e = unmapped (λ (e : WireEnd O I). e.channel) (map end_of spent.ends) i x at in
          let one = unmapped end_of spent.ends i e.0 e.1 in
          let its : EndsHold out wire one.0 = holds b out wire starts kinds links end queues ended logs counts producers consumers wire_ends spent p0 c0 new merge rests closed i one.0 one.1 in
          sym e.2 ∙ sym (ap (λ (e : WireEnd O I). e.channel) one.2) ∙ its.sending_channel ∙ same_Some (one.0).route.channel y (sym (number_at kinds links spent.ends spent.routes i one.0 one.1) ∙ at')

  -- ---- what opens a channel

  kind_from : (e : End) (start : V) (kind : PortKind) → slice_get starts e.component ≡ Some start → slice_get (b.ports start) e.port ≡ Some kind → kind_at kinds e ≡ Some kind
  kind_from e start kind is there = subst (λ (l : List (List PortKind)). kind_at l e ≡ Some kind) matches (ap (option_and_then (λ ports. slice_get ports e.port)) (get_mapped b.ports starts e.component start is) ∙ there)

  kind_to : (k : ℕ) (ch : Channel) → slice_get (channels links) k ≡ Some ch → (kind : PortKind) × (kind_at kinds ch.to ≡ Some kind)
  kind_to k ch at = some_kind (kind_at kinds ch.to) (subst (λ (l : List (List PortKind)). is_some (kind_at l ch.to) ≡ true) matches (channel_joined {last = end} net spent.wired k ch at).at_receiver)

  opens : (k : ℕ) (ch : Channel) (kind : PortKind) (near : Remains) (first : Msg) (more : List Msg) → slice_get (channels links) k ≡ Some ch → kind_at kinds ch.to ≡ Some kind → at_near links rests k ≡ Some near → near.sent ≡ first ∷ more → first ≡ introduction (partner kind) ch
  opens k ch kind near first more at to is sent =
      let way = sender_of {last = end} net spent.wired k ch at in
      let s = sender_of_near b out wire starts kinds links end queues ended logs counts producers consumers wire_ends spent p0 c0 new merge rests closed k near is in
      let opening = spent.introduced.each k ch s.0 way.0 way.1 at s.1 way.2 first more (s.2 ∙ sent) in
      let from : kind_at kinds ch.from ≡ Some way.1 = kind_from ch.from way.0 way.1 way.2.sender way.2.sending_port in
      let same : way.1 ≡ partner kind = partners kinds links (subst (λ (l : List (List PortKind)). AllByRecursion (Joins l) links) matches (recursion_from_All _ _ spent.wired.links_join)) k ch way.1 kind at from to in
      opening ∙ ap (λ kind. introduction kind ch) same

  -- the near queue of each channel
  near_there : (k : ℕ) (ch : Channel) → slice_get (channels links) k ≡ Some ch → (near : Remains) × (at_near links rests k ≡ Some near)
  near_there k ch at =
      let below : k < length (channels links) = slice_get_within (channels links) k ch at in
      let within : k < length spent.senders = (let many = spent.seats.sender_each in omega arith) in
      let s = there_below spent.senders k within in
      let near = near_of_sender b out wire starts kinds links end queues ended logs counts producers consumers wire_ends spent p0 c0 new merge rests closed k s.0 below s.1 in
      (near.0, near.1)

  -- ---- one channel by proxy

  module _ (i : ℕ) (one : Proxied O I) (there : slice_get spent.ends i ≡ Some one) where
    its : EndsHold out wire one
    its = holds b out wire starts kinds links end queues ended logs counts producers consumers wire_ends spent p0 c0 new merge rests closed i one there

    channel : (ch : Channel) × (slice_get (channels links) one.route.channel ≡ Some ch) × (one.route.kind ≡ kind_or (kind_at kinds ch.to))
    channel = route_is kinds links i one.route (ap (λ l. slice_get l i) (sym spent.routes) ∙ get_mapped route_of spent.ends i one there)

    kind_same : (ch : Channel) (kind : PortKind) → slice_get (channels links) one.route.channel ≡ Some ch → kind_at kinds ch.to ≡ Some kind → one.route.kind ≡ kind
    kind_same ch kind at to =
        let same : channel.0 ≡ ch = same_Some channel.0 ch (sym channel.1 ∙ at) in
        channel.2 ∙ ap (λ (c : Channel). kind_or (kind_at kinds c.to)) same ∙ ap kind_or to

    near_frames : (near : Remains) → at_near links rests one.route.channel ≡ Some near → AreFrames one.route.kind near.received one.sending.proxy.kept
    near_frames near is = frames_of_near b out wire starts kinds links end queues ended logs counts producers consumers wire_ends spent p0 c0 new merge rests closed i one there near is

    near_stream : (near : Remains) → at_near links rests one.route.channel ≡ Some near → IsBegun one.route.kind near.received
    near_stream near is =
        subst (IsBegun one.route.kind) (sym (taken_from_near b out wire starts kinds links end queues ended logs counts producers consumers wire_ends spent p0 c0 new merge rests closed i one there near is))
        (subst (λ kind. IsBegun kind one.sending.near.seat.received) its.near_kind its.stream)

    far_pushed : (far : Remains) → at_far links rests one.route.channel ≡ Some far → ArePushedFrom one.route.kind one.receiving.proxy.kept far.sent
    far_pushed far is = pushed_to_far b out wire starts kinds links end queues ended logs counts producers consumers wire_ends spent p0 c0 new merge rests closed i one there far is

    begins_near : (near : Remains) → at_near links rests one.route.channel ≡ Some near → IsPrefix near.received near.sent
    begins_near near is = near_begins b out wire starts kinds links end queues ended logs counts producers consumers wire_ends spent p0 c0 new merge rests closed one.route.channel near is

    pub is_end : IsEndOf out wire kinds links (end_of one)
    is_end = record {
      gave = its.receiving.told;
      took = front (out one.sending.proxy.wire).taken one.sending.proxy.gone one.sending.proxy.kept its.sending.told;
      frames = λ ch kind at to. frames ch kind (ap (slice_get (channels links)) (sym its.sending_channel) ∙ at) to;
    }
      where
        frames : (ch : Channel) (kind : PortKind) → slice_get (channels links) one.route.channel ≡ Some ch → kind_at kinds ch.to ≡ Some kind → AreFramesOf kind ch one.sending.proxy.kept
        frames ch kind at to =
            let near = near_there one.route.channel ch at in
            let same = kind_same ch kind at to in
            record {
              messages = (near.0).received;
              frames = subst (λ k. AreFrames k (near.0).received one.sending.proxy.kept) same (near_frames near.0 near.1);
              stream = subst (λ k. IsBegun k (near.0).received) same (near_stream near.0 near.1);
              introduced = λ first more is. (let sent = first_of (near.0).received (near.0).sent first more (begins_near near.0 near.1) is in opens one.route.channel ch kind near.0 first sent.0 at to near.1 sent.1);
            }

    lost_at : (channel : ℕ) → one.sending.channel ≡ channel → (0 < (out one.sending.proxy.wire).faults) ⊎ ((0 < (wire one.receiving.proxy.wire).faults) ⊎ IsTrue (wire one.receiving.proxy.wire).ended) → LosesWire out wire (map end_of spent.ends) channel
    lost_at channel is lost = record { place = i; end = end_of one; there = get_mapped end_of spent.ends i one there; channel_is = is; lost = lost }

    same_channel : one.sending.channel ≡ one.receiving.channel
    same_channel = its.sending_channel ∙ sym its.receiving_channel

    -- bytes that came with a fault aren't the beginning of those that were to go
    bad_frame : (fault : FrameBad) → FirstFault one.receiving.far.seat.kind one.receiving.proxy.kept fault → HasBadPeer kinds links (map end_of spent.ends) one.receiving.channel (fault_of one.receiving.channel (Frame fault))
    bad_frame fault found =
        let at : slice_get (channels links) one.route.channel ≡ Some channel.0 = channel.1 in
        let to = kind_to one.route.channel channel.0 at in
        let same : one.route.kind ≡ to.0 = kind_same channel.0 to.0 at to.1 in
        let first : FirstFault one.route.kind one.receiving.proxy.kept fault = subst (λ k. FirstFault k one.receiving.proxy.kept fault) its.far_kind found in
        let near = near_there one.route.channel channel.0 at in
        record {
          place = i;
          end = end_of one;
          there = get_mapped end_of spent.ends i one there;
          channel_is = same_channel;
          ch = channel.0;
          is_channel = ap (slice_get (channels links)) its.receiving_channel ∙ at;
          kind = to.0;
          its_kind = to.1;
          bad = by_frame fault (subst (λ k. FirstFault k one.receiving.proxy.kept fault) same first);
          differs = λ agrees. no_fault_in_prefix one.route.kind (near.0).received one.sending.proxy.kept one.receiving.proxy.kept fault (near_frames near.0 near.1) (near_stream near.0 near.1) agrees first;
        }

    -- a first message that isn't the introduction wasn't sent
    bad_opening : (k : ℕ) → one.route.channel ≡ k → (wrong : CameWrong b starts links spent.receivers k) → HasBadPeer kinds links (map end_of spent.ends) k (Peer k 0 Intro)
    bad_opening k is wrong =
        let at : slice_get (channels links) one.route.channel ≡ Some wrong.channel = ap (slice_get (channels links)) is ∙ wrong.at_number in
        let below : one.route.channel < length (channels links) = slice_get_within (channels links) one.route.channel wrong.channel at in
        let to = kind_to one.route.channel wrong.channel at in
        let same : one.route.kind ≡ to.0 = kind_same wrong.channel to.0 at to.1 in
        let near = near_there one.route.channel wrong.channel at in
        let far = far_of_receiver b out wire starts kinds links end queues ended logs counts producers consumers wire_ends spent p0 c0 new merge rests closed one.route.channel wrong.receiver below (ap (slice_get spent.receivers) is ∙ wrong.there) in
        let sent = first_of (far.0).received (far.0).sent wrong.found [] (far_begins b out wire starts kinds links end queues ended logs counts producers consumers wire_ends spent p0 c0 new merge rests closed one.route.channel far.0 far.1) (far.2 ∙ wrong.received) in
        let pushed : ArePushedFrom to.0 one.receiving.proxy.kept (wrong.found ∷ sent.0) = subst (ArePushedFrom to.0 one.receiving.proxy.kept) sent.1 (subst (λ k. ArePushedFrom k one.receiving.proxy.kept (far.0).sent) same (far_pushed far.0 far.1)) in
        let way = sender_of {last = end} net spent.wired one.route.channel wrong.channel at in
        let from : kind_at kinds wrong.channel.from ≡ Some way.1 = kind_from wrong.channel.from way.0 way.1 way.2.sender way.2.sending_port in
        let turned : way.1 ≡ partner to.0 = partners kinds links (subst (λ (l : List (List PortKind)). AllByRecursion (Joins l) links) matches (recursion_from_All _ _ spent.wired.links_join)) one.route.channel wrong.channel way.1 to.0 at from to.1 in
        let never : wrong.found ≡ introduction (partner to.0) wrong.channel → ⊥ = λ e. wrong.wrong way.0 way.1 way.2 (e ∙ ap (λ k. introduction k wrong.channel) (sym turned)) in
        record {
          place = i;
          end = end_of one;
          there = get_mapped end_of spent.ends i one there;
          channel_is = its.sending_channel ∙ is;
          ch = wrong.channel;
          is_channel = wrong.at_number;
          kind = to.0;
          its_kind = to.1;
          bad = by_introduction wrong.found sent.0 pushed never;
          differs = λ agrees. (
              let on = far_goes_on b out wire starts kinds links end queues ended logs counts producers consumers wire_ends spent p0 c0 new merge rests closed i one there onward near.0 far.0 near.1 far.1 agrees in
              let first = first_of (far.0).sent (near.0).sent wrong.found sent.0 on sent.1 in
              never (opens one.route.channel wrong.channel to.0 near.0 wrong.found first.0 at to.1 near.1 first.1));
        }

    -- ---- what the fault of an end tells

    sending_cause : (fault : MeshBad) → OutSays out one.sending fault → IsCause out wire kinds links (map end_of spent.ends) fault
    sending_cause _ (out_failed faults) = lost_at one.sending.channel refl (inl faults)
    sending_cause _ out_wanting = tt

    frame_cause : (fault : FrameBad) → FirstFault one.receiving.far.seat.kind one.receiving.proxy.kept fault → IsCause out wire kinds links (map end_of spent.ends) (fault_of one.receiving.channel (Frame fault))
    frame_cause (frame.Length offset) found = bad_frame (frame.Length offset) found
    frame_cause (frame.Message offset why) found = bad_frame (frame.Message offset why) found
    frame_cause (frame.Falls offset) found = bad_frame (frame.Falls offset) found
    frame_cause (frame.Order offset) found = bad_frame (frame.Order offset) found
    frame_cause frame.NoMemory found = tt

    receiving_cause : (fault : MeshBad) → InSays wire one.receiving fault → IsCause out wire kinds links (map end_of spent.ends) fault
    receiving_cause _ (in_failed faults) = lost_at one.receiving.channel same_channel (inr (inl faults))
    receiving_cause _ (its_wire_ended ended) = lost_at one.receiving.channel same_channel (inr (inr ended))
    receiving_cause _ (its_bytes_are_bad fault found) = frame_cause fault found
    receiving_cause _ in_wanting = tt

  -- ---- all of them

  pub ends_of : AreEndsOf out wire kinds links wire_ends
  ends_of = subst (AreEndsOf out wire kinds links) (sym spent.ends_are) (record { in_order = numbers_same; each = each })
    where
      each : All (IsEndOf out wire kinds links) (map end_of spent.ends)
      each k d within =
          let one = unmapped end_of spent.ends k _ (slice_get-get_or (map end_of spent.ends) k d within) in
          subst (IsEndOf out wire kinds links) one.2 (is_end k one.0 one.1)

  pub between : AreBetween kinds links rests wire_ends
  between = subst (AreBetween kinds links rests) (sym spent.ends_are) (record { taken = taken; put = put })
    where
      taken : (i : ℕ) (e : WireEnd O I) (near : Remains) (ch : Channel) (kind : PortKind) → slice_get (map end_of spent.ends) i ≡ Some e → at_near links rests e.channel ≡ Some near → slice_get (channels links) e.channel ≡ Some ch → kind_at kinds ch.to ≡ Some kind → AreFrames kind near.received e.sent
      taken i e near ch kind is at_queue at to =
          let one = unmapped end_of spent.ends i e is in
          let number : e.channel ≡ (one.0).route.channel = sym (ap (λ (e : WireEnd O I). e.channel) one.2) ∙ (its i one.0 one.1).sending_channel in
          let at' : slice_get (channels links) (one.0).route.channel ≡ Some ch = ap (slice_get (channels links)) (sym number) ∙ at in
          subst (AreFrames kind near.received) (ap (λ (e : WireEnd O I). e.sent) one.2) (subst (λ k. AreFrames k near.received (one.0).sending.proxy.kept) (kind_same i one.0 one.1 ch kind at' to) (near_frames i one.0 one.1 near (ap (at_near links rests) (sym number) ∙ at_queue)))

      put : (i : ℕ) (e : WireEnd O I) (far : Remains) (ch : Channel) (kind : PortKind) → slice_get (map end_of spent.ends) i ≡ Some e → at_far links rests e.channel ≡ Some far → slice_get (channels links) e.channel ≡ Some ch → kind_at kinds ch.to ≡ Some kind → ArePushedFrom kind e.got far.sent
      put i e far ch kind is at_queue at to =
          let one = unmapped end_of spent.ends i e is in
          let number : e.channel ≡ (one.0).route.channel = sym (ap (λ (e : WireEnd O I). e.channel) one.2) ∙ (its i one.0 one.1).sending_channel in
          let at' : slice_get (channels links) (one.0).route.channel ≡ Some ch = ap (slice_get (channels links)) (sym number) ∙ at in
          subst (λ got. ArePushedFrom kind got far.sent) (ap (λ (e : WireEnd O I). e.got) one.2) (subst (λ k. ArePushedFrom k (one.0).receiving.proxy.kept far.sent) (kind_same i one.0 one.1 ch kind at' to) (far_pushed i one.0 one.1 far (ap (at_far links rests) (sym number) ∙ at_queue)))

  -- on a channel by queue nothing else comes first than the introduction
  no_wrong : (k : ℕ) → CameWrong b starts links spent.receivers k → ((i : ℕ) → slice_get (proxied links) i ≡ Some k → ⊥) → ⊥
  no_wrong k wrong by_queue =
      let below : k < length (channels links) = slice_get_within (channels links) k wrong.channel wrong.at_number in
      let near = near_there k wrong.channel wrong.at_number in
      let far = far_of_receiver b out wire starts kinds links end queues ended logs counts producers consumers wire_ends spent p0 c0 new merge rests closed k wrong.receiver below wrong.there in
      let same : near.0 ≡ far.0 = same_when_by_queue b out wire starts kinds links end queues ended logs counts producers consumers wire_ends spent p0 c0 new merge rests closed k near.0 far.0 near.1 far.1 by_queue in
      let received : (near.0).received ≡ wrong.found ∷ [] = ap (λ (r : Remains). r.received) same ∙ far.2 ∙ wrong.received in
      let sent = first_of (near.0).received (near.0).sent wrong.found [] (near_begins b out wire starts kinds links end queues ended logs counts producers consumers wire_ends spent p0 c0 new merge rests closed k near.0 near.1) received in
      let way = sender_of {last = end} net spent.wired k wrong.channel wrong.at_number in
      let s = sender_of_near b out wire starts kinds links end queues ended logs counts producers consumers wire_ends spent p0 c0 new merge rests closed k near.0 near.1 in
      wrong.wrong way.0 way.1 way.2 (spent.introduced.each k wrong.channel s.0 way.0 way.1 wrong.at_number s.1 way.2 wrong.found sent.0 (s.2 ∙ sent.1))

  wrong_cause : (k : ℕ) → CameWrong b starts links spent.receivers k → HasBadPeer kinds links (map end_of spent.ends) k (Peer k 0 Intro)
  wrong_cause k wrong = at (stands_in (proxied links) k)
    where
      at : ((i : ℕ) × (slice_get (proxied links) i ≡ Some k)) ⊎ ((i : ℕ) → slice_get (proxied links) i ≡ Some k → ⊥) → HasBadPeer kinds links (map end_of spent.ends) k (Peer k 0 Intro)
      at (inl (i, by_proxy)) = let found = end_at kinds links spent.ends spent.routes i k by_proxy in bad_opening i found.one found.there k found.numbered wrong
      at (inr by_queue) = absurd (no_wrong k wrong by_queue)

  caused : (fault : MeshBad) → IsSpentCause b out wire starts links spent.receivers spent.ends fault → IsCause out wire kinds links (map end_of spent.ends) fault
  caused _ no_memory = tt
  caused _ (wrong_introduction k wrong) = wrong_cause k wrong
  caused _ (by_sending fault i one there says) = sending_cause i one there fault says
  caused _ (by_receiving fault i one there says) = receiving_cause i one there fault says
  caused _ (by_difference channel differ first below) = (first, below)

  pub cause_of : (fault : MeshBad) → ended ≡ Err fault → IsCause out wire kinds links wire_ends fault
  cause_of fault is = subst (λ l. IsCause out wire kinds links l fault) (sym spent.ends_are) (caused fault (spent.cause fault is))
