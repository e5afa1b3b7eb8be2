-- Each step keeps a mesh one of its system, and lowers what is to come by as much as it counts.
use Rattle.std.proofs.Common.{◌≡◌, ℕ, ◌+◌, Bool, true, false, eqb, List, [], ◌∷◌, ◌++◌, map, Some, slice_get, refl, sym, ap, ap₂, ◌∙◌, subst, arith}
use Rattle.std.specs.Prelude.{slice_set}
use Rattle.std.proofs.lemmas.Bool.{eqb-true, eqb-false}
use Rattle.std.proofs.lemmas.List.{append_cancel_left}
use Rattle.std.proofs.lemmas.Option.{same_Some}
use Rattle.cs_base.specs.declared.link.Link.{Link}
use Rattle.cs_base.specs.Plan.{End}
use Rattle.sb_message.specs.declared.message.Msg.{Msg}
use Rattle.sb_message.specs.Stream.{IsStream}
use Rattle.device_api.specs.Behaviour.{Behaviour, IsLawful}
use Rattle.device_api.specs.Channels.{Channel, channels}
use Rattle.device_api.specs.GlobalCounts.{messages_of}
use Rattle.device_api.specs.Position.{Position}
use Rattle.device_api.specs.World.{Network}
use Rattle.global_model.specs.Step.{network}
use Rattle.run_laws.specs.LocalRuns.{IsPrefix}
use Rattle.run_laws.specs.Wired.{IsWired}
use Rattle.run_laws.proofs.Channels.{test_same, test_differs}
use Rattle.run_laws.proofs.Lists.{slice_get-set_same, slice_get-set_other}
use Rattle.run_steps.specs.declared.step.Step.{Step}
use Rattle.run_steps.specs.declared.step.Step.TheVariants.{Event, Send, Poll, Take, Move, Put}
use Rattle.sync_rule.specs.declared.runner.Runner.{Runner}
use Rattle.sync_rule.specs.ManyPorts.{outbox_in}
use Rattle.sync_rule.specs.Steps.{Passes}
use Rattle.sync_laws.specs.ToCome.{total, left}
use Rattle.sync_laws.specs.Whole.{IsWhole, with_end}
use Rattle.sync_laws.proofs.Begins.{sent_begins}
use Rattle.sync_laws.proofs.Falls.{event_falls, send_falls, receipt_falls}
use Rattle.sync_laws.proofs.Fronts.{only, from, way, messages_are}
use Rattle.sync_laws.proofs.Out.{one_sender, one_receiver}
use Rattle.sync_laws.proofs.Steps.{end_same, end_other, event_whole, send_whole, heard_whole}
use Rattle.mesh_channel.specs.declared.carrier.Carrier.{Carrier}
use Rattle.mesh_channel.specs.Carrier.{kind_sent, Pushes, Pops, Takes, Puts}
use Rattle.mesh_channel.specs.Left.{left_between, CountsDown}
use Rattle.mesh_channel.specs.Standing.{Carries}
use Rattle.mesh_channel.specs.Laws.{KeepsCarrying, IsNext}
use Rattle.mesh_channel.proofs.Kept.{go_on, keep_kind, in_order}
use Rattle.mesh_channel.proofs.Counted.{counts}
use Rattle.mesh_core.specs.declared.way.Way.{Way}
use Rattle.mesh_core.specs.State.{State}
use Rattle.mesh_core.specs.Steps.{ProcessesAt, SendsOn, ReceivesOn, GoesOn, MovesOn, Leads, counted, with_line, with_carrier, sent_by, received_by}
use Rattle.mesh_core.specs.MeshOf.{HasCarrier, IsMeshOf}
use Rattle.mesh_core.specs.ToCome.{IsOneLess, steps_to_come, work_to_come}
use Rattle.mesh_core.specs.Walk.{IsLessBy}
use Rattle.mesh_core.proofs.Ends.{IsChannelAt, channel_at, between, next_streams, sender}
use Rattle.mesh_core.proofs.Work.{AreAlike, push_alike, pop_alike, take_alike, move_alike, put_alike, sent_work, between_work, work_at, work_falls, weights_at, weights_fall}

-- what was sent on a channel is at the front of the messages of the global run
sent_front : {V : Type 0} (net : Network V) (settled : V → ℕ → Type 0) (end : ℕ) (positions : ℕ → Position) (received sent held : End → List Msg) (runners : List (Runner V)) (whole : IsWhole net settled end positions received sent held runners) (wired : IsWired net end) (lawful : IsLawful net.behaviour settled) (k : ℕ) (ch : Channel) → slice_get (channels net.links) k ≡ Some ch → IsPrefix (sent ch.from) (messages_of net end ch)
sent_front net settled end positions received sent held runners whole wired lawful k ch is =
    let port = from net settled end positions received sent held runners whole wired lawful k ch is in
    subst (IsPrefix (sent ch.from)) (sym (messages_are net settled end positions received sent held runners whole wired lawful k ch is)) (sent_begins net settled end positions received sent held runners whole wired (only net settled end positions received sent held runners whole wired lawful) ch port.start port.kind (way net settled end positions received sent held runners whole wired lawful k ch is))

weights_stay : (l l' t : ℕ) → l ≡ l' + 1 → l + t ≡ (l' + t) + 1
weights_stay l l' t first = omega arith

weights_go : (l l' t t' n : ℕ) → l ≡ l' + 1 → t ≡ t' + n → l + t ≡ (l' + t') + (1 + n)
weights_go l l' t t' n first second = omega arith

both_fall : (l l' t t' : ℕ) → l ≡ l' + 1 → t ≡ t' + 0 → l + t ≡ (l' + t') + 1
both_fall l l' t t' first second = omega arith

work_alone : (l t t' n : ℕ) → t ≡ t' + n → l + t ≡ (l + t') + n
work_alone l t t' n falls = omega arith

no_work : (t : ℕ) → t ≡ t + 0
no_work t = omega arith

-- what is left of a run, where each message to be sent has a weight besides
abbrev pub weighted_of : {V : Type 0} {b : Behaviour V} {settled : V → ℕ → Type 0} {starts : List V} {links : List Link} {end : ℕ} {mesh : State V} → (ℕ → Msg → ℕ) → IsMeshOf b settled starts links end mesh → ℕ
weighted_of {V} {b} {settled} {starts} {links} {end} {mesh} w of = left (network b starts links) end of.positions of.received of.sent mesh.runners + total (weights_at (network b starts links) end w of.sent) (channels links)

module _ {V : Type 0} (b : Behaviour V) (settled : V → ℕ → Type 0) (lawful : IsLawful b settled) (starts : List V) (links : List Link) (end : ℕ) (old : State V) (of : IsMeshOf b settled starts links end old) where
  abbrev net : Network V
  net = network b starts links

  -- what a step leaves: a mesh of the system, of which as many less are to come as it counts, and so much less for any
  -- weights of the messages to be sent
  pub record Then (step : Step) (fall : (ℕ → Msg → ℕ) → ℕ) (mesh : State V) : Type 0 where
    pub of' : IsMeshOf b settled starts links end mesh
    pub one_less : steps_to_come of ≡ steps_to_come of' + counted step
    pub weighted : (w : ℕ → Msg → ℕ) → weighted_of w of ≡ weighted_of w of' + fall w

  module _ (k : ℕ) (ch : Channel) (is : slice_get (channels links) k ≡ Some ch) (carrier : Carrier) (there : slice_get old.carriers k ≡ Some carrier) where
    abbrev own : HasCarrier (map b.ports starts) ch k (of.sent ch.from) (of.received ch.to) old.carriers
    own = between b settled starts links end old of k ch is

    own_is : own.carrier ≡ carrier
    own_is = same_Some own.carrier carrier (sym own.there ∙ there)

    carries : Carries carrier (of.sent ch.from) (of.received ch.to)
    carries = subst (λ c. Carries c (of.sent ch.from) (of.received ch.to)) own_is own.carries

    counts_down : CountsDown carrier (of.held ch.from)
    counts_down = counts carrier (of.sent ch.from) (of.received ch.to) (of.held ch.from) carries (of.whole.joined k ch is).between

    keeps : KeepsCarrying carrier (of.sent ch.from) (of.received ch.to)
    keeps = go_on carrier (of.sent ch.from) (of.received ch.to) carries

    -- the lists of other channels
    other_from : (messages : List Msg) (lists : End → List Msg) (i : ℕ) (other : Channel) → (i ≡ k → ⊥) → slice_get (channels links) i ≡ Some other → with_end ch.from messages lists other.from ≡ lists other.from
    other_from messages lists i other differ other_is = end_other ch.from other.from messages lists (test_differs other.from ch.from (λ same. differ (one_sender net of.wired k i ch other is other_is same)))

    other_to : (messages : List Msg) (lists : End → List Msg) (i : ℕ) (other : Channel) → (i ≡ k → ⊥) → slice_get (channels links) i ≡ Some other → with_end ch.to messages lists other.to ≡ lists other.to
    other_to messages lists i other differ other_is = end_other ch.to other.to messages lists (test_differs other.to ch.to (λ same. differ (one_receiver net of.wired k i ch other is other_is same)))

    here_from : (messages : List Msg) (lists : End → List Msg) → with_end ch.from messages lists ch.from ≡ messages
    here_from messages lists = end_same ch.from ch.from messages lists (test_same ch.from)

    here_to : (messages : List Msg) (lists : End → List Msg) → with_end ch.to messages lists ch.to ≡ messages
    here_to messages lists = end_same ch.to ch.to messages lists (test_same ch.to)

    -- what carries the channels after one carrier has changed
    carriers_then : (after : Carrier) → kind_sent after ≡ kind_sent carrier → (sent' received' : End → List Msg) → Carries after (sent' ch.from) (received' ch.to)
        → ((i : ℕ) (other : Channel) → (i ≡ k → ⊥) → slice_get (channels links) i ≡ Some other → sent' other.from ≡ of.sent other.from)
        → ((i : ℕ) (other : Channel) → (i ≡ k → ⊥) → slice_get (channels links) i ≡ Some other → received' other.to ≡ of.received other.to)
        → (k' : ℕ) (ch' : Channel) → slice_get (channels links) k' ≡ Some ch' → HasCarrier (map b.ports starts) ch' k' (sent' ch'.from) (received' ch'.to) (slice_set old.carriers k after)
    carriers_then after same_kind sent' received' carried same_sent same_received k' ch' is' = at (eqb k' k) refl
      where
        here : HasCarrier (map b.ports starts) ch k (sent' ch.from) (received' ch.to) (slice_set old.carriers k after)
        here = record {
          carrier = after;
          there = slice_get-set_same old.carriers k carrier after there;
          carries = carried;
          kind = own.kind ∙ ap (λ c. Some (kind_sent c)) own_is ∙ ap Some (sym same_kind);
        }

        at : (c : Bool) → eqb k' k ≡ c → HasCarrier (map b.ports starts) ch' k' (sent' ch'.from) (received' ch'.to) (slice_set old.carriers k after)
        at true e = subst (λ (x : Channel). HasCarrier (map b.ports starts) x k' (sent' x.from) (received' x.to) (slice_set old.carriers k after)) (same_Some ch ch' (sym is ∙ ap (slice_get (channels links)) (sym (eqb-true k' k e)) ∙ is')) (subst (λ n. HasCarrier (map b.ports starts) ch n (sent' ch.from) (received' ch.to) (slice_set old.carriers k after)) (sym (eqb-true k' k e)) here)
        at false e = record {
          carrier = other.carrier;
          there = slice_get-set_other old.carriers k k' after (λ same_number. eqb-false k' k e (sym same_number)) ∙ other.there;
          carries = subst (λ l. Carries other.carrier l (received' ch'.to)) (sym (same_sent k' ch' (eqb-false k' k e) is')) (subst (Carries other.carrier (of.sent ch'.from)) (sym (same_received k' ch' (eqb-false k' k e) is')) other.carries);
          kind = other.kind;
        }
          where
            other : HasCarrier (map b.ports starts) ch' k' (of.sent ch'.from) (of.received ch'.to) old.carriers
            other = of.carriers k' ch' is'

    -- a step between the ends
    goes_on : (after : Carrier) → kind_sent after ≡ kind_sent carrier → AreAlike carrier after → Carries after (of.sent ch.from) (of.received ch.to) → (n : ℕ) → left_between carrier (of.held ch.from) ≡ left_between after (of.held ch.from) + n → IsLessBy b settled starts links end (steps_to_come of) n (with_carrier old k after)
    goes_on after same_kind alike carried n falls = record {
      of = record {
        wired = of.wired;
        positions = of.positions;
        received = of.received;
        sent = of.sent;
        held = of.held;
        whole = of.whole;
        ways = of.ways;
        carriers = carriers_then after same_kind of.sent of.received carried (λ i other differ other_is. refl) (λ i other differ other_is. refl);
      };
      less = work_alone (left net end of.positions of.received of.sent old.runners) _ _ n (work_falls net end old.carriers of.sent of.held of.sent of.held k ch is carrier after there n (between_work carrier after n (messages_of net end ch) (of.sent ch.from) (of.held ch.from) (of.held ch.from) alike falls) (λ i other differ other_is. refl) (λ i other differ other_is. refl));
    }

    -- a message that was sent on the channel
    sent_on : (r : Runner V) → slice_get old.runners ch.from.component ≡ Some r → (m : Msg) (more : List Msg) → outbox_in r.outgoing ch.from.port ≡ m ∷ more → (after : Carrier) → Pushes carrier m after → Then (Send k) (λ w. 1 + w k m) (with_line old ch.from.component (sent_by r ch.from.port) k after)
    sent_on r there_too m more waited after pushed = record {
      of' = record {
        wired = of.wired;
        positions = of.positions;
        received = of.received;
        sent = sent';
        held = held';
        whole = whole';
        ways = of.ways;
        carriers = carriers_then after ((keep_kind carrier).push after m pushed) sent' of.received (subst (λ l. Carries after l (of.received ch.to)) (sym (here_from (of.sent ch.from ++ m ∷ []) of.sent)) (keeps.push after m stream pushed)) (other_from (of.sent ch.from ++ m ∷ []) of.sent) (λ i other differ other_is. refl);
      };
      one_less = both_fall _ _ _ _ falls (work_falls net end old.carriers of.sent of.held sent' held' k ch is carrier after there 0 work (other_from (of.sent ch.from ++ m ∷ []) of.sent) (other_from (of.held ch.from ++ m ∷ []) of.held));
      weighted = λ w. weights_go _ _ _ _ (w k m) falls (weights_fall net end w of.sent sent' k ch is m (here_from (of.sent ch.from ++ m ∷ []) of.sent) prefix (other_from (of.sent ch.from ++ m ∷ []) of.sent));
    }
      where
        sent' : End → List Msg
        sent' = with_end ch.from (of.sent ch.from ++ m ∷ []) of.sent

        held' : End → List Msg
        held' = with_end ch.from (of.held ch.from ++ m ∷ []) of.held

        passes : Passes (λ _. Unit {0}) r (sent_by r ch.from.port) ch.from.port
        passes = record { m = m; more = more; waited = waited; pushed = tt; is = refl }

        whole' : IsWhole net settled end of.positions of.received sent' held' (slice_set old.runners ch.from.component (sent_by r ch.from.port))
        whole' = send_whole net settled end of.positions of.received of.sent of.held old.runners of.whole lawful (λ _. Unit {0}) ch.from r (sent_by r ch.from.port) there_too passes

        falls : left net end of.positions of.received of.sent old.runners ≡ left net end of.positions of.received sent' (slice_set old.runners ch.from.component (sent_by r ch.from.port)) + 1
        falls = send_falls net settled end of.positions of.received of.sent of.held old.runners of.whole of.wired lawful k ch is (λ _. Unit {0}) r (sent_by r ch.from.port) there_too passes

        runner_is : (sender b settled starts links end old of k ch is).runner ≡ r
        runner_is = same_Some _ r (sym (sender b settled starts links end old of k ch is).there ∙ there_too)

        stream : IsStream (kind_sent carrier) (of.sent ch.from ++ m ∷ [])
        stream = subst (λ c. IsStream (kind_sent c) (of.sent ch.from ++ m ∷ [])) own_is (next_streams b settled starts links end old of k ch is m more (ap (λ (x : Runner V). outbox_in x.outgoing ch.from.port) runner_is ∙ waited))

        prefix : IsPrefix (of.sent ch.from ++ m ∷ []) (messages_of net end ch)
        prefix = subst (λ l. IsPrefix l (messages_of net end ch)) (here_from (of.sent ch.from ++ m ∷ []) of.sent) (sent_front net settled end of.positions of.received sent' held' (slice_set old.runners ch.from.component (sent_by r ch.from.port)) whole' of.wired lawful k ch is)

        work : work_to_come (Some carrier) (messages_of net end ch) (of.sent ch.from) (of.held ch.from) ≡ work_to_come (Some after) (messages_of net end ch) (sent' ch.from) (held' ch.from) + 0
        work = sent_work carrier after m (messages_of net end ch) (of.sent ch.from) (of.held ch.from) (push_alike carrier after m pushed) prefix (counts_down.send after m pushed) ∙ ap₂ (λ s h. work_to_come (Some after) (messages_of net end ch) s h + 0) (sym (here_from (of.sent ch.from ++ m ∷ []) of.sent)) (sym (here_from (of.held ch.from ++ m ∷ []) of.held))

    -- a message that was received on the channel
    received_on : (r : Runner V) → slice_get old.runners ch.to.component ≡ Some r → (m : Msg) (after : Carrier) → Pops carrier m after → Then (Poll k) (λ w. 1) (with_line old ch.to.component (received_by r ch.to.port m) k after)
    received_on r there_too m after popped = record {
      of' = record {
        wired = of.wired;
        positions = of.positions;
        received = received';
        sent = of.sent;
        held = held';
        whole = heard_whole net settled end of.positions of.received of.sent of.held old.runners of.whole lawful of.wired k ch is r there_too m next.rest first;
        ways = of.ways;
        carriers = carriers_then after ((keep_kind carrier).pop after m popped) of.sent received' (subst (Carries after (of.sent ch.from)) (sym (here_to (of.received ch.to ++ m ∷ []) of.received)) (keeps.pop after m popped)) (λ i other differ other_is. refl) (other_to (of.received ch.to ++ m ∷ []) of.received);
      };
      one_less = both_fall _ _ _ _ falls (work_falls net end old.carriers of.sent of.held of.sent held' k ch is carrier after there 0 work (λ i other differ other_is. refl) (other_from next.rest of.held));
      weighted = λ w. weights_stay _ _ (total (weights_at net end w of.sent) (channels links)) falls;
    }
      where
        next : IsNext m (of.sent ch.from) (of.received ch.to)
        next = in_order carrier after m (of.sent ch.from) (of.received ch.to) carries popped

        first : of.held ch.from ≡ m ∷ next.rest
        first = append_cancel_left (of.received ch.to) (of.held ch.from) (m ∷ next.rest) (sym (of.whole.joined k ch is).between ∙ next.parts)

        received' : End → List Msg
        received' = with_end ch.to (of.received ch.to ++ m ∷ []) of.received

        held' : End → List Msg
        held' = with_end ch.from next.rest of.held

        falls : left net end of.positions of.received of.sent old.runners ≡ left net end of.positions received' of.sent (slice_set old.runners ch.to.component (received_by r ch.to.port m)) + 1
        falls = receipt_falls net settled end of.positions of.received of.sent of.held old.runners of.whole of.wired lawful k ch is r there_too m next.rest first

        stays : left_between carrier (of.held ch.from) ≡ left_between after next.rest + 0
        stays = sym (counts_down.receipt after m next.rest popped first) ∙ no_work (left_between after next.rest)

        work : work_to_come (Some carrier) (messages_of net end ch) (of.sent ch.from) (of.held ch.from) ≡ work_to_come (Some after) (messages_of net end ch) (of.sent ch.from) (held' ch.from) + 0
        work = between_work carrier after 0 (messages_of net end ch) (of.sent ch.from) (of.held ch.from) next.rest (pop_alike carrier after m popped) stays ∙ ap (λ h. work_to_come (Some after) (messages_of net end ch) (of.sent ch.from) h + 0) (sym (here_from next.rest of.held))

  pub event_kept : (c : ℕ) (new : State V) → ProcessesAt b old new c → Then (Event c) (λ w. 1) new
  event_kept c new at = subst (Then (Event c) (λ w. 1)) (sym at.is) (record {
    of' = record {
      wired = of.wired;
      positions = _;
      received = of.received;
      sent = of.sent;
      held = of.held;
      whole = event_whole net settled end of.positions of.received of.sent of.held old.runners of.whole lawful c at.before at.after at.there at.processed;
      ways = of.ways;
      carriers = of.carriers;
    };
    one_less = both_fall _ _ _ _ (event_falls net settled end of.positions of.received of.sent of.held old.runners of.whole of.wired lawful c at.before at.after at.there at.processed.next at.processed.enabled at.processed.after) (no_work (total (work_at net end old.carriers of.sent of.held) (channels links)));
    weighted = λ w. weights_stay _ _ (total (weights_at net end w of.sent) (channels links)) (event_falls net settled end of.positions of.received of.sent of.held old.runners of.whole of.wired lawful c at.before at.after at.there at.processed.next at.processed.enabled at.processed.after);
  })

  pub send_kept : (k : ℕ) (new : State V) (at : SendsOn old new k) → Then (Send k) (λ w. 1 + w k at.m) new
  send_kept k new at = subst (Then (Send k) (λ w. 1 + w k at.m)) (sym at.is) (subst (λ (way : Way). Then (Send k) (λ w. 1 + w k at.m) (with_line old way.from.component (sent_by at.runner way.from.port) k at.after)) channel.is (sent_on k channel.ch channel.at at.carrier at.line.between at.runner (ap (λ (way : Way). slice_get old.runners way.from.component) channel.is ∙ at.sender) at.m at.more (ap (λ (way : Way). outbox_in at.runner.outgoing way.from.port) channel.is ∙ at.waited) at.after at.pushed))
    where
      channel : IsChannelAt b settled starts links end old of k at.way
      channel = channel_at b settled starts links end old of k at.way at.line.leads

  pub receive_kept : (k : ℕ) (new : State V) → ReceivesOn old new k → Then (Poll k) (λ w. 1) new
  receive_kept k new at = subst (Then (Poll k) (λ w. 1)) (sym at.is) (subst (λ (way : Way). Then (Poll k) (λ w. 1) (with_line old way.to.component (received_by at.runner way.to.port at.m) k at.after)) channel.is (received_on k channel.ch channel.at at.carrier at.line.between at.runner (ap (λ (way : Way). slice_get old.runners way.to.component) channel.is ∙ at.receiver) at.m at.after at.popped))
    where
      channel : IsChannelAt b settled starts links end old of k at.way
      channel = channel_at b settled starts links end old of k at.way at.line.leads

  -- what a step between the ends leaves
  abbrev Lowered : Step → State V → Type 0
  Lowered step = IsLessBy b settled starts links end (steps_to_come of) (counted step)

  take_kept : (k : ℕ) (new : State V) → GoesOn Takes old new k → Lowered (Take k) new
  take_kept k new at = subst (Lowered (Take k)) (sym at.is) (goes_on k channel.ch channel.at at.carrier at.line.between at.after ((keep_kind at.carrier).take at.after at.made) (take_alike at.carrier at.after at.made) ((keeps k channel.ch channel.at at.carrier at.line.between).take at.after at.made) 1 ((counts_down k channel.ch channel.at at.carrier at.line.between).take at.after at.made))
    where
      channel : IsChannelAt b settled starts links end old of k at.way
      channel = channel_at b settled starts links end old of k at.way at.line.leads

  move_kept : (k n : ℕ) (new : State V) → GoesOn (MovesOn n) old new k → Lowered (Move k n) new
  move_kept k n new at = subst (Lowered (Move k n)) (sym at.is) (goes_on k channel.ch channel.at at.carrier at.line.between at.after ((keep_kind at.carrier).move at.after n at.made.moved) (move_alike at.carrier at.after n at.made.moved) ((keeps k channel.ch channel.at at.carrier at.line.between).move at.after n at.made.moved) n ((counts_down k channel.ch channel.at at.carrier at.line.between).move at.after n at.made.moved))
    where
      channel : IsChannelAt b settled starts links end old of k at.way
      channel = channel_at b settled starts links end old of k at.way at.line.leads

  put_kept : (k : ℕ) (new : State V) → GoesOn Puts old new k → Lowered (Put k) new
  put_kept k new at = subst (Lowered (Put k)) (sym at.is) (goes_on k channel.ch channel.at at.carrier at.line.between at.after ((keep_kind at.carrier).put at.after at.made) (put_alike at.carrier at.after at.made) ((keeps k channel.ch channel.at at.carrier at.line.between).put at.after at.made) 1 ((counts_down k channel.ch channel.at at.carrier at.line.between).put at.after at.made))
    where
      channel : IsChannelAt b settled starts links end old of k at.way
      channel = channel_at b settled starts links end old of k at.way at.line.leads

  of_then : (step : Step) (fall : (ℕ → Msg → ℕ) → ℕ) (new : State V) → Then step fall new → IsOneLess b settled starts links end (steps_to_come of) step new
  of_then step fall new then = record { of = then.of'; one_less = then.one_less }

  of_lowered : (step : Step) (new : State V) → Lowered step new → IsOneLess b settled starts links end (steps_to_come of) step new
  of_lowered step new less = record { of = less.of; one_less = less.less }

  pub step_falls : (step : Step) (new : State V) → Leads b step old new → IsOneLess b settled starts links end (steps_to_come of) step new
  step_falls (Event c) new at = of_then (Event c) (λ w. 1) new (event_kept c new at)
  step_falls (Send k) new at = of_then (Send k) (λ w. 1 + w k at.m) new (send_kept k new at)
  step_falls (Poll k) new at = of_then (Poll k) (λ w. 1) new (receive_kept k new at)
  step_falls (Take k) new at = of_lowered (Take k) new (take_kept k new at)
  step_falls (Move k n) new at = of_lowered (Move k n) new (move_kept k n new at)
  step_falls (Put k) new at = of_lowered (Put k) new (put_kept k new at)

  pub step_kept : (step : Step) (new : State V) → Leads b step old new → IsMeshOf b settled starts links end new
  step_kept step new at = (step_falls step new at).of
