-- A message that is sent and a message that is received keep a runner standing.
use Rattle.std.proofs.Common.{◌≡◌, ℕ, ◌+◌, ◌<◌, ◌≤◌, inr, Bool, true, false, List, [], ◌∷◌, ◌++◌, length, Some, refl, sym, ap, ◌∙◌, subst, arith, append_assoc, append-nil, length-append, le_refl}
use Rattle.std.specs.Prelude.{slice_get}
use Rattle.std.proofs.Math.Path.{fun_ext}
use Rattle.std.proofs.lemmas.Bool.{cond-true, cond-false}
use Rattle.std.proofs.lemmas.List.Elements.{filter-append}
use Rattle.std.proofs.lemmas.Option.{same_Some}
use Rattle.cs_base.specs.Plan.{partner}
use Rattle.sb_message.specs.Receivable.{is_event}
use Rattle.sb_message.specs.Stream.{IsStream}
use Rattle.sb_message.specs.declared.message.Msg.{Msg}
use Rattle.device_api.specs.Behaviour.{Behaviour, IsLawful}
use Rattle.device_api.specs.Channels.{Channel}
use Rattle.device_api.specs.Counts.{count_of}
use Rattle.device_api.specs.Position.{Position, is_reached, message_key, local_upto}
use Rattle.device_api.specs.Transcript.{RisesFrom, bodies, bound_of, bound_from}
use Rattle.device_api.specs.World.{Run}
use Rattle.port_queue.specs.Streams.{stream_so_far}
use Rattle.run_laws.specs.NextEvent.{AreInboxes, ComesAfter, with_port}
use Rattle.run_laws.proofs.Inboxes.{boxes_receive, nothing_missed}
use Rattle.run_laws.proofs.Keys.{missed_after, message_before_next}
use Rattle.run_laws.proofs.Steps.{receive_step}
use Rattle.run_laws.proofs.Times.{rest_rises}
use Rattle.run_laws.proofs.Timestamps.{bound-append, rises-filter}
use Rattle.sync_rule.specs.declared.runner.Runner.{Runner}
use Rattle.sync_rule.specs.Ports.{In, Out, IsPlanned, introduction_to, passed_on, rest_of, heard, waiting_of, at_place}
use Rattle.sync_rule.specs.ManyPorts.{outbox_at, outbox_in}
use Rattle.sync_rule.specs.Steps.{Passes, Receives, IsIntroduction, introduced_at}
use Rattle.sync_rule.proofs.Places.{each_at, length-at_place}
use Rattle.sync_laws.specs.Stands.{Stands, HasReceived, HasMade, inbox_at, inbox_in, has_begun, next_at, run_upto}
use Rattle.sync_laws.proofs.Changed.{each_place, map_changed, agree_at, port_same, port_other, inboxes_changed, boxes_same}
use Rattle.sync_laws.proofs.Rising.{sent_rises, stream_rises}
use Rattle.sync_laws.proofs.Ahead.{port_below}

-- SENT

-- a message went from the outbox to the end of the list sent
moved : (sent outbox : List Msg) (m : Msg) (more : List Msg) → outbox ≡ m ∷ more → (sent ++ m ∷ []) ++ rest_of outbox ≡ sent ++ outbox
moved sent outbox m more e = ap (λ l. (sent ++ m ∷ []) ++ rest_of l) e ∙ append_assoc sent (m ∷ []) more ∙ ap (λ l. sent ++ l) (sym e)

module _ {V : Type 0} (b : Behaviour V) (settled : V → ℕ → Type 0) (lawful : IsLawful b settled) (start : V) (position : Position) (received sent : ℕ → List Msg) (old : Runner V) (stands : Stands b settled start position received sent old) where
  abbrev ports : ℕ
  ports = length (b.ports start)

  abbrev inputs : ℕ → List Msg
  inputs port = bodies (received port)

  abbrev run : Run V
  run = run_upto b start position received old.end

  -- what waits first at a port may stand next in its stream
  pub next_streams : (port : ℕ) (o : Out) (m : Msg) (more : List Msg) → slice_get old.outgoing port ≡ Some o → outbox_in old.outgoing port ≡ m ∷ more → IsStream (partner o.plan.kind) (sent port ++ m ∷ [])
  next_streams port o m more is first = stream_so_far (partner o.plan.kind) (sent port) m more (subst (IsStream (partner o.plan.kind)) (ap (λ l. sent port ++ l) (sym (ap outbox_at is) ∙ first) ∙ sym (append_assoc (sent port) (m ∷ []) more)) (stands.made port o is).stream)

  sent_more : (port : ℕ) (o : Out) (m : Msg) (more : List Msg) → slice_get old.outgoing port ≡ Some o → outbox_in old.outgoing port ≡ m ∷ more → HasMade position run old.end port (with_port port (sent port ++ m ∷ []) sent port) (passed_on o)
  sent_more port o m more is first = subst (λ l. HasMade position run old.end port l (passed_on o)) (sym (port_same port (sent port ++ m ∷ []) sent)) (record {
    script = λ ch out. (stands.made port o is).script ch out ∙ ap (λ l. record { messages = l; sync_due = o.sync_due }) (sym same);
    stream = subst (IsStream (partner o.plan.kind)) (sym same) (stands.made port o is).stream;
    count = (stands.made port o is).count ∙ ap count_of (sym same);
    ahead = (stands.made port o is).ahead;
  })
    where
      same : (sent port ++ m ∷ []) ++ rest_of o.outbox ≡ sent port ++ o.outbox
      same = moved (sent port) o.outbox m more (sym (ap outbox_at is) ∙ first)

  pub send_stands : (pushes : Msg → Type 0) (new : Runner V) (port : ℕ) (passes : Passes pushes old new port) → Stands b settled start position received (with_port port (sent port ++ passes.m ∷ []) sent) new
  send_stands pushes new port passes = subst (Stands b settled start position received (with_port port (sent port ++ passes.m ∷ []) sent)) (sym passes.is) (record {
    fitted = record {
      short = stands.fitted.short;
      few = stands.fitted.few;
      kinds = stands.fitted.kinds;
      same_ports = stands.fitted.same_ports;
      same_plans = map_changed (λ (o : Out). o.plan) port passed_on old.outgoing (λ o. refl) ∙ stands.fitted.same_plans;
      planned = each_at (λ (o : Out). IsPlanned o.plan) port passed_on old.outgoing stands.fitted.planned (λ o is. is);
      no_sends = stands.fitted.no_sends;
      no_lines = stands.fitted.no_lines;
    };
    device = stands.device;
    log = stands.log;
    handled = stands.handled;
    boxes = stands.boxes;
    heard = stands.heard;
    made = each_place (λ p o. HasMade position run old.end p (sent p) o) (λ p o. HasMade position run old.end p (with_port port (sent port ++ passes.m ∷ []) sent p) o) port passed_on old.outgoing stands.made (λ o is _. sent_more port o passes.m passes.more is passes.waited) (λ p o differ is made. subst (λ l. HasMade position run old.end p l o) (sym (port_other port p (sent port ++ passes.m ∷ []) sent differ)) made);
    tick_ahead = stands.tick_ahead;
    settled_now = stands.settled_now;
    in_run = stands.in_run;
  })

  -- RECEIVED

  module _ (port : ℕ) (i : In) (there : slice_get old.incoming port ≡ Some i) (m : Msg) (stream : IsStream i.plan.kind (received port ++ m ∷ [])) where
    abbrev received_then : ℕ → List Msg
    received_then = with_port port (received port ++ m ∷ []) received

    abbrev inputs_then : ℕ → List Msg
    inputs_then p = bodies (with_port port (received port ++ m ∷ []) received p)

    below : port < ports
    below = port_below b settled lawful start position received sent old stands port i there

    rises_whole : RisesFrom 0 (received port ++ m ∷ [])
    rises_whole = stream_rises i.plan.kind (received port ++ m ∷ []) stream

    bodies_more : bodies (received port ++ m ∷ []) ≡ bodies (received port) ++ waiting_of m
    bodies_more = filter-append (λ (x : Msg). is_event x.body) (received port) (m ∷ [])

    -- it isn't before what came in earlier, and it is after the position
    later : bound_of (received port) ≤ m.at
    later = (rest_rises 0 (received port) (m ∷ []) rises_whole).0

    ahead_then : is_reached position (message_key m.at port (length (bodies (received port)))) ≡ false
    ahead_then = missed_after position (next_at port (received port)) (message_key m.at port (length (bodies (received port)))) (message_before_next (bound_of (received port)) m.at port (length (bodies (received port))) (length (bodies (received port))) later (le_refl (length (bodies (received port))))) (nothing_missed position ch (received port) (stands.handled port) (inbox_in old.incoming port) (sent_rises i.plan.kind (received port) (stands.heard port i there).stream) (stands.boxes.whole port below) (stands.boxes.waits port below) (λ none. (stands.heard port i there).not_missed (sym (ap inbox_at there) ∙ none)))
      where
        ch : Channel
        ch = record { from = record { component = 0; port = 0 }; to = record { component = 0; port = port }; latency = 0; interval = 0 }

    -- the run and the inboxes
    record Waits : Type 0 where
      run_same : run_upto b start position (with_port port (received port ++ m ∷ []) received) old.end ≡ run_upto b start position received old.end
      boxes : AreInboxes position (length (b.ports start)) (λ p. bodies (with_port port (received port ++ m ∷ []) received p)) stands.handled (inbox_in (at_place port (heard m) old.incoming))

    inbox_then : (p : ℕ) → with_port port (inbox_in old.incoming port ++ waiting_of m) (inbox_in old.incoming) p ≡ inbox_in (at_place port (heard m) old.incoming) p
    inbox_then = subst (λ l. (p : ℕ) → with_port port (l ++ waiting_of m) (inbox_in old.incoming) p ≡ inbox_in (at_place port (heard m) old.incoming) p) (sym (ap inbox_at there)) (inboxes_changed port (heard m) old.incoming i there)

    inputs_are : (p : ℕ) → with_port port (bodies (received port) ++ waiting_of m) (λ q. bodies (received q)) p ≡ bodies (with_port port (received port ++ m ∷ []) received p)
    inputs_are = agree_at port (bodies (received port) ++ waiting_of m) (λ q. bodies (received q)) (λ p. bodies (with_port port (received port ++ m ∷ []) received p)) (ap bodies (port_same port (received port ++ m ∷ []) received) ∙ bodies_more) (λ p differ. ap bodies (port_other port p (received port ++ m ∷ []) received differ))

    same_lists : (lists : ℕ → List Msg) (p : ℕ) → lists p ≡ with_port port (lists port ++ []) lists p
    same_lists lists p = sym (agree_at port (lists port ++ []) lists lists (sym (append-nil (lists port))) (λ q differ. refl) p)

    waits : Waits
    waits = at (is_event m.body) refl
      where
        at : (event : Bool) → is_event m.body ≡ event → Waits
        at true e = record {
          run_same = ap (λ l. local_upto b (length (b.ports start)) l start position old.end) (sym inputs_same) ∙ receive_step b (length (b.ports start)) (λ p. bodies (received p)) stands.handled (inbox_in old.incoming) start position port m stands.boxes comes old.end;
          boxes = boxes_same position (length (b.ports start)) _ stands.handled (with_port port (inbox_in old.incoming port ++ m ∷ []) (inbox_in old.incoming)) (inbox_in (at_place port (heard m) old.incoming)) (subst (λ l. (p : ℕ) → with_port port (inbox_in old.incoming port ++ l) (inbox_in old.incoming) p ≡ inbox_in (at_place port (heard m) old.incoming) p) waits_m inbox_then) (subst (λ l. AreInboxes position (length (b.ports start)) l stands.handled (with_port port (inbox_in old.incoming port ++ m ∷ []) (inbox_in old.incoming))) inputs_same (boxes_receive position (length (b.ports start)) (λ p. bodies (received p)) stands.handled (inbox_in old.incoming) stands.boxes port m comes));
        }
          where
            waits_m : waiting_of m ≡ m ∷ []
            waits_m = cond-true (is_event m.body) (m ∷ []) [] e

            inputs_same : ◌≡◌ {A = ℕ → List Msg} (with_port port (bodies (received port) ++ m ∷ []) (λ q. bodies (received q))) (λ p. bodies (with_port port (received port ++ m ∷ []) received p))
            inputs_same = fun_ext (subst (λ l. (p : ℕ) → with_port port (bodies (received port) ++ l) (λ q. bodies (received q)) p ≡ bodies (with_port port (received port ++ m ∷ []) received p)) waits_m inputs_are)

            comes : ComesAfter position (λ p. bodies (received p)) port m
            comes = record {
              rises = (rest_rises 0 (bodies (received port)) (m ∷ []) (subst (RisesFrom 0) (bodies_more ∙ ap (λ l. bodies (received port) ++ l) waits_m) (rises-filter (λ (x : Msg). is_event x.body) 0 (received port ++ m ∷ []) rises_whole))).0;
              ahead = ahead_then;
            }
        at false e = record {
          run_same = ap (λ l. local_upto b (length (b.ports start)) l start position old.end) (sym inputs_same);
          boxes = boxes_same position (length (b.ports start)) _ stands.handled (inbox_in old.incoming) (inbox_in (at_place port (heard m) old.incoming)) (λ p. same_lists (inbox_in old.incoming) p ∙ subst (λ l. (q : ℕ) → with_port port (inbox_in old.incoming port ++ l) (inbox_in old.incoming) q ≡ inbox_in (at_place port (heard m) old.incoming) q) none_waits inbox_then p) (subst (λ l. AreInboxes position (length (b.ports start)) l stands.handled (inbox_in old.incoming)) inputs_same stands.boxes);
        }
          where
            none_waits : waiting_of m ≡ []
            none_waits = cond-false (is_event m.body) (m ∷ []) [] e

            inputs_same : ◌≡◌ {A = ℕ → List Msg} (λ p. bodies (received p)) (λ p. bodies (with_port port (received port ++ m ∷ []) received p))
            inputs_same = fun_ext (λ p. same_lists (λ q. bodies (received q)) p ∙ subst (λ l. (q : ℕ) → with_port port (bodies (received port) ++ l) (λ q. bodies (received q)) q ≡ bodies (with_port port (received port ++ m ∷ []) received q)) none_waits inputs_are p)

    -- the port at which it came in
    begun : (xs : List Msg) → true ≡ has_begun (xs ++ m ∷ [])
    begun [] = refl
    begun (x ∷ xs) = refl

    bound_then : (xs : List Msg) → m.at ≡ bound_of (xs ++ m ∷ [])
    unfolding bound_from
    bound_then xs = sym (bound-append 0 xs (m ∷ []))

    first_then : (i.introduced ≡ false → m ≡ introduction_to i.plan) → (xs : List Msg) → i.introduced ≡ has_begun xs → ((x : Msg) (more : List Msg) → xs ≡ x ∷ more → x ≡ introduction_to i.plan) → (x : Msg) (more : List Msg) → xs ++ m ∷ [] ≡ x ∷ more → x ≡ introduction_to i.plan
    first_then told [] none first x more e = subst (λ y. y ≡ introduction_to i.plan) (same_Some m x (ap (λ l. slice_get l 0) e)) (told none)
    first_then told (y ∷ ys) some first x more e = subst (λ z. z ≡ introduction_to i.plan) (same_Some y x (ap (λ l. slice_get l 0) e)) (first y ys refl)

    still_missed : i.inbox ++ waiting_of m ≡ [] → is_reached position (message_key m.at port (length (bodies (received port ++ m ∷ [])))) ≡ false
    still_missed none = subst (λ n. is_reached position (message_key m.at port n) ≡ false) (sym (ap length bodies_more ∙ length-append (bodies (received port)) (waiting_of m) ∙ ap (λ n. length (bodies (received port)) + n) no_more ∙ (let same : length (bodies (received port)) + 0 ≡ length (bodies (received port)) = omega arith in same))) ahead_then
      where
        no_more : length (waiting_of m) ≡ 0
        no_more = let both : length i.inbox + length (waiting_of m) ≡ 0 = sym (length-append i.inbox (waiting_of m)) ∙ ap length none in omega arith

    heard_then : (i.introduced ≡ false → m ≡ introduction_to i.plan) → HasReceived position port (with_port port (received port ++ m ∷ []) received port) (heard m i)
    heard_then told = subst (λ l. HasReceived position port l (heard m i)) (sym (port_same port (received port ++ m ∷ []) received)) (record {
      bound = bound_then (received port);
      stream = inr stream;
      introduced = begun (received port);
      first = first_then told (received port) (stands.heard port i there).introduced (stands.heard port i there).first;
      not_missed = λ none. subst (λ n. is_reached position (message_key n port (length (bodies (received port ++ m ∷ [])))) ≡ false) (bound_then (received port)) (still_missed none);
    })

    pub heard_stands : (i.introduced ≡ false → m ≡ introduction_to i.plan) → Stands b settled start position (with_port port (received port ++ m ∷ []) received) sent (record old { incoming = at_place port (heard m) old.incoming })
    heard_stands told = record {
      fitted = record {
        short = stands.fitted.short;
        few = subst (λ n. n ≤ 32) (sym (length-at_place port (heard m) old.incoming)) stands.fitted.few;
        kinds = map_changed (λ (i : In). i.plan.kind) port (heard m) old.incoming (λ i. refl) ∙ stands.fitted.kinds;
        same_ports = stands.fitted.same_ports;
        same_plans = stands.fitted.same_plans ∙ sym (map_changed (λ (i : In). i.plan) port (heard m) old.incoming (λ i. refl));
        planned = stands.fitted.planned;
        no_sends = stands.fitted.no_sends;
        no_lines = stands.fitted.no_lines;
      };
      device = stands.device ∙ sym (ap (λ (r : Run V). r.state) waits.run_same);
      log = stands.log ∙ sym (ap (λ (r : Run V). r.log) waits.run_same);
      handled = stands.handled;
      boxes = waits.boxes;
      heard = each_place (λ p x. slice_get old.incoming p ≡ Some x) (λ p x. HasReceived position p (with_port port (received port ++ m ∷ []) received p) x) port (heard m) old.incoming (λ p x is. is) (λ x is _. subst (λ y. HasReceived position port (with_port port (received port ++ m ∷ []) received port) (heard m y)) (same_Some i x (sym there ∙ is)) (heard_then told)) (λ p x differ is _. subst (λ l. HasReceived position p l x) (sym (port_other port p (received port ++ m ∷ []) received differ)) (stands.heard p x is));
      made = λ p o is. subst (λ r. HasMade position r old.end p (sent p) o) (sym waits.run_same) (stands.made p o is);
      tick_ahead = stands.tick_ahead;
      settled_now = stands.settled_now;
      in_run = stands.in_run;
    }

  pub receipt_stands : (pops : Msg → Type 0) (new : Runner V) (port : ℕ) (i : In) (receipt : Receives pops old new port) → slice_get old.incoming port ≡ Some i → IsStream i.plan.kind (received port ++ receipt.m ∷ []) → Stands b settled start position (with_port port (received port ++ receipt.m ∷ []) received) sent new
  receipt_stands pops new port i receipt there stream = subst (Stands b settled start position (with_port port (received port ++ receipt.m ∷ []) received) sent) (sym receipt.is) (heard_stands port i there receipt.m stream (λ none. let is : IsIntroduction old port receipt.m = receipt.first (ap introduced_at there ∙ none) in is.introduction ∙ ap (λ (x : In). introduction_to x.plan) (same_Some is.is i (sym is.there ∙ there))))
