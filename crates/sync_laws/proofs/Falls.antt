-- Each event, each send and each receipt lowers what is left by one.
use Rattle.std.proofs.Common.{◌≡◌, ℕ, zero, suc, ◌+◌, ◌-◌, ◌≤◌, Bool, true, false, cond, eqb, List, [], ◌∷◌, ◌++◌, length, map, Option, Some, refl, sym, ap, ap₂, ◌∙◌, subst, arith, append_assoc, length-append}
use Rattle.std.specs.Prelude.{slice_get, slice_set}
use Rattle.std.proofs.lemmas.Bool.{cond-true, cond-false, eqb-true, eqb-false, eq-eqb, ne_eqb, false≢true}
use Rattle.std.proofs.lemmas.List.Elements.{recursion_from_All}
use Rattle.std.proofs.lemmas.Option.{same_Some}
use Rattle.cs_base.specs.Plan.{End, same_end}
use Rattle.sb_message.specs.declared.message.Msg.{Msg}
use Rattle.device_api.specs.Behaviour.{IsLawful}
use Rattle.device_api.specs.Channels.{Channel, channels}
use Rattle.device_api.specs.GlobalCounts.{messages_of}
use Rattle.device_api.specs.Position.{Position}
use Rattle.device_api.specs.World.{Network}
use Rattle.run_laws.specs.NextEvent.{with_port}
use Rattle.run_laws.specs.Wired.{IsWired}
use Rattle.run_laws.proofs.Channels.{IsPort, same_from_test, port_there, test_same, test_differs}
use Rattle.run_laws.proofs.Lists.{slice_get-set_same, slice_get-set_other}
use Rattle.sync_rule.specs.declared.next.Next.{Next}
use Rattle.sync_rule.specs.declared.next.Next.TheVariants.{Sync, Take, Tick}
use Rattle.sync_rule.specs.declared.port_plan.PortPlan.{PortPlan}
use Rattle.sync_rule.specs.declared.runner.Runner.{Runner}
use Rattle.sync_rule.specs.Ports.{In, Out, synced, passed_on, heard, rest_of, at_place}
use Rattle.sync_rule.specs.ManyPorts.{outbox_in}
use Rattle.sync_rule.specs.Next.{IsEnabled}
use Rattle.sync_rule.specs.Steps.{IsAfter, Processed, Passes}
use Rattle.sync_laws.specs.Stands.{Stands, place_of, run_upto}
use Rattle.sync_laws.specs.Whole.{IsWhole, made_by, outbox_of, of_component, with_end, with_position}
use Rattle.sync_laws.specs.ToCome.{tallied, total, events_in_run, events_upto, events_to_come, syncs_among, syncs_to_come, as_many_to_come, messages_to_come, left}
use Rattle.sync_laws.proofs.Changed.{get_mapped, map_mapped}
use Rattle.sync_laws.proofs.Counted.{weight, tallies, receipt_tallies}
use Rattle.sync_laws.proofs.Ends.{HasPort, receiver, start_of, comes_in_stream, comes_introduced}
use Rattle.sync_laws.proofs.Fronts.{only, syncs_append, events_most, made_most, sent_most, received_most}
use Rattle.sync_laws.proofs.Out.{GoesOut, goes_out, one_sender, one_receiver}
use Rattle.sync_laws.proofs.Outboxes.{posts_at_port, synced_at_port, other_port, passed_at_port}
use Rattle.sync_laws.proofs.Steps.{other_at, here_at, end_same, end_other, event_whole, send_whole, heard_whole}
use Rattle.sync_laws.proofs.Totals.{total_same, total_less}

-- one of what is to come was done
one_done : (all before after : ℕ) → after ≡ before + 1 → after ≤ all → all - before ≡ (all - after) + 1
one_done all before after is most = omega arith

none_done : (n : ℕ) → n ≡ n + 0
none_done n = omega arith

less_syncs : (a a' b c : ℕ) → a ≡ a' + 1 → a + b + c ≡ (a' + b + c) + 1
less_syncs a a' b c is = omega arith

less_sent : (a b b' c : ℕ) → b ≡ b' + 1 → a + b + c ≡ (a + b' + c) + 1
less_sent a b b' c is = omega arith

less_received : (a b c c' : ℕ) → c ≡ c' + 1 → a + b + c ≡ (a + b + c') + 1
less_received a b c c' is = omega arith

events_less : (a a' b b' : ℕ) → a ≡ a' + 1 → b ≡ b' → a + b ≡ (a' + b') + 1
events_less a a' b b' first others = omega arith

messages_less : (a a' b b' : ℕ) → a ≡ a' → b ≡ b' + 1 → a + b ≡ (a' + b') + 1
messages_less a a' b b' first others = omega arith

one_longer : (xs : List Msg) (m : Msg) → length (xs ++ m ∷ []) ≡ length xs + 1
one_longer xs m = length-append xs (m ∷ [])

-- a port by its component and its number
same_port : (x y : End) → x.component ≡ y.component → x.port ≡ y.port → x ≡ y
same_port x y component port = ap₂ (λ c p. record { component = c; port = p }) component port

module _ {V : Type 0} (net : Network V) (settled : V → ℕ → Type 0) (end : ℕ) (positions : ℕ → Position) (received sent held : End → List Msg) (runners : List (Runner V)) (whole : IsWhole net settled end positions received sent held runners) (wired : IsWired net end) (lawful : IsLawful net.behaviour settled) where
  -- WHAT PORTS HAVE MADE AFTER ONE RUNNER CHANGED

  module _ (c : ℕ) (old new : Runner V) (there : slice_get runners c ≡ Some old) where
    abbrev runners' : List (Runner V)
    runners' = slice_set runners c new

    made_of_others : (lists : End → List Msg) (e : End) → (e.component ≡ c → ⊥) → made_by lists runners' e ≡ made_by lists runners e
    made_of_others lists e differ = ap (λ o. lists e ++ outbox_of o e.port) (slice_get-set_other runners c e.component new (λ same. differ (sym same)))

    made_then : (lists : End → List Msg) (e : End) → e.component ≡ c → made_by lists runners' e ≡ lists e ++ outbox_in new.outgoing e.port
    made_then lists e same = ap (λ o. lists e ++ outbox_of o e.port) (ap (slice_get runners') same ∙ slice_get-set_same runners c old new there)

    made_before : (lists : End → List Msg) (e : End) → e.component ≡ c → made_by lists runners e ≡ lists e ++ outbox_in old.outgoing e.port
    made_before lists e same = ap (λ o. lists e ++ outbox_of o e.port) (ap (slice_get runners) same ∙ there)

    -- as many null messages where as many wait
    made_as_many : (e : End) → (e.component ≡ c → syncs_among (outbox_in new.outgoing e.port) ≡ syncs_among (outbox_in old.outgoing e.port)) → syncs_among (made_by sent runners' e) ≡ syncs_among (made_by sent runners e)
    made_as_many e same = at (eqb e.component c) refl
      where
        at : (b : Bool) → eqb e.component c ≡ b → syncs_among (made_by sent runners' e) ≡ syncs_among (made_by sent runners e)
        at false unlike = ap syncs_among (made_of_others sent e (eqb-false e.component c unlike))
        at true alike = ap syncs_among (made_then sent e here) ∙ syncs_append (sent e) (outbox_in new.outgoing e.port) ∙ ap (λ n. syncs_among (sent e) + n) (same here) ∙ sym (syncs_append (sent e) (outbox_in old.outgoing e.port)) ∙ sym (ap syncs_among (made_before sent e here))
          where
            here : e.component ≡ c
            here = eqb-true e.component c alike

    made_one_more : (e : End) → e.component ≡ c → syncs_among (outbox_in new.outgoing e.port) ≡ syncs_among (outbox_in old.outgoing e.port) + 1 → syncs_among (made_by sent runners' e) ≡ syncs_among (made_by sent runners e) + 1
    made_one_more e here more = ap syncs_among (made_then sent e here) ∙ (let then : syncs_among (sent e ++ outbox_in new.outgoing e.port) ≡ syncs_among (sent e) + syncs_among (outbox_in new.outgoing e.port) = syncs_append (sent e) (outbox_in new.outgoing e.port) in let before : syncs_among (sent e ++ outbox_in old.outgoing e.port) ≡ syncs_among (sent e) + syncs_among (outbox_in old.outgoing e.port) = syncs_append (sent e) (outbox_in old.outgoing e.port) in let was : syncs_among (made_by sent runners e) ≡ syncs_among (sent e ++ outbox_in old.outgoing e.port) = ap syncs_among (made_before sent e here) in omega arith)

  -- AN EVENT

  module _ (c : ℕ) (old new : Runner V) (there : slice_get runners c ≡ Some old) where
    abbrev place : Next → Position
    place next = Some (place_of (of_component c received) old next)

    abbrev then : Next → ℕ → Position
    then next = with_position c (place next) positions

    -- the component that it is of
    start : (s : V) × (slice_get net.starts c ≡ Some s)
    start = start_of net settled end positions received sent held runners whole c old there

    stands : Stands net.behaviour settled start.0 (positions c) (of_component c received) (of_component c sent) old
    stands = whole.standing c start.0 old start.1 there

    module _ (next : Next) (en : IsEnabled net.behaviour old next) (after : IsAfter net.behaviour old next new) where
      whole_then : IsWhole net settled end (then next) received sent held (slice_set runners c new)
      whole_then = event_whole net settled end positions received sent held runners whole lawful c old new there (record { next = next; enabled = en; after = after })

      then_here : then next c ≡ place next
      then_here = cond-true (eqb c c) (place next) (positions c) (eq-eqb c c refl)

      then_other : (i : ℕ) → (i ≡ c → ⊥) → then next i ≡ positions i
      then_other i differ = cond-false (eqb i c) (place next) (positions i) (ne_eqb i c differ)

      counted : events_upto net received c start.0 (place next) end ≡ events_upto net received c start.0 (positions c) end + weight next
      counted = subst (λ e. length (run_upto (tallied net.behaviour) start.0 (place next) (of_component c received) e).log ≡ length (run_upto (tallied net.behaviour) start.0 (positions c) (of_component c received) e).log + weight next) (whole.ends c old there) (tallies net.behaviour settled lawful start.0 (positions c) (of_component c received) (of_component c sent) old stands new next en after)

      events_other : (i : ℕ) (s : V) → (i ≡ c → ⊥) → events_to_come net end positions received i s ≡ events_to_come net end (then next) received i s
      events_other i s differ = ap (λ p. events_in_run net end i - events_upto net received i s p end) (sym (then_other i differ))

      most_then : events_upto net received c start.0 (then next c) end ≤ events_in_run net end c
      most_then = events_most net settled end (then next) received sent held (slice_set runners c new) whole_then wired lawful c start.0 start.1

      -- a take and a tick
      events_fall : weight next ≡ 1 → total (events_to_come net end positions received) net.starts ≡ total (events_to_come net end (then next) received) net.starts + 1
      events_fall one = total_less (events_to_come net end positions received) (events_to_come net end (then next) received) net.starts c start.0 start.1 (one_done (events_in_run net end c) (events_upto net received c start.0 (positions c) end) (events_upto net received c start.0 (then next c) end) (ap (λ p. events_upto net received c start.0 p end) then_here ∙ counted ∙ ap (λ n. events_upto net received c start.0 (positions c) end + n) one) most_then) (λ i s differ is. events_other i s differ)

      -- a null message
      events_stay : weight next ≡ 0 → total (events_to_come net end positions received) net.starts ≡ total (events_to_come net end (then next) received) net.starts
      events_stay none = total_same (events_to_come net end positions received) (events_to_come net end (then next) received) net.starts (λ i s is. at i s is (eqb i c) refl)
        where
          at : (i : ℕ) (s : V) → slice_get net.starts i ≡ Some s → (b : Bool) → eqb i c ≡ b → events_to_come net end positions received i s ≡ events_to_come net end (then next) received i s
          at i s is false unlike = events_other i s (eqb-false i c unlike)
          at i s is true alike = ap (λ j. events_to_come net end positions received j s) (eqb-true i c alike) ∙ ap (events_to_come net end positions received c) start_same ∙ ap (λ n. events_in_run net end c - n) (none_done (events_upto net received c start.0 (positions c) end) ∙ ap (λ n. events_upto net received c start.0 (positions c) end + n) (sym none) ∙ sym counted ∙ ap (λ p. events_upto net received c start.0 p end) (sym then_here)) ∙ ap (events_to_come net end (then next) received c) (sym start_same) ∙ ap (λ j. events_to_come net end (then next) received j s) (sym (eqb-true i c alike))
            where
              start_same : s ≡ start.0
              start_same = same_Some s start.0 (sym is ∙ ap (slice_get net.starts) (eqb-true i c alike) ∙ start.1)

      messages_stay : ((p : ℕ) → syncs_among (outbox_in new.outgoing p) ≡ syncs_among (outbox_in old.outgoing p)) → total (λ _ x. messages_to_come net end received sent runners x) (channels net.links) ≡ total (λ _ x. messages_to_come net end received sent (slice_set runners c new) x) (channels net.links)
      messages_stay same = total_same (λ _ x. messages_to_come net end received sent runners x) (λ _ x. messages_to_come net end received sent (slice_set runners c new) x) (channels net.links) (λ k ch is. ap (λ n. (syncs_among (messages_of net end ch) - n) + as_many_to_come (messages_of net end ch) (sent ch.from) + as_many_to_come (messages_of net end ch) (received ch.to)) (sym (made_as_many c old new there ch.from (λ here. same ch.from.port))))

    -- the channel out of a port of the component
    goes : (p : ℕ) (o : Out) → slice_get old.outgoing p ≡ Some o → GoesOut net wired (record { component = c; port = p })
    goes p o is = goes_out net wired (record { component = c; port = p }) (port_there net c p start.0 o.plan.kind start.1 (ap (λ kinds. slice_get kinds p) (sym kinds) ∙ get_mapped (λ (x : Out). x.plan.kind) old.outgoing p o is))
      where
        kinds : map (λ (x : Out). x.plan.kind) old.outgoing ≡ net.behaviour.ports start.0
        kinds = sym (map_mapped (λ (plan : PortPlan). plan.kind) (λ (x : Out). x.plan) (λ (x : Out). x.plan.kind) old.outgoing (λ x. refl)) ∙ ap (map (λ (plan : PortPlan). plan.kind)) stands.fitted.same_plans ∙ map_mapped (λ (plan : PortPlan). plan.kind) (λ (x : In). x.plan) (λ (x : In). x.plan.kind) old.incoming (λ x. refl) ∙ stands.fitted.kinds

    -- where the event is a null message, its channel has one less to be made
    syncs_fall : (port u : ℕ) (o : Out) → slice_get old.outgoing port ≡ Some o → (en : IsEnabled net.behaviour old (Sync port u)) → (after : IsAfter net.behaviour old (Sync port u) new) → total (λ _ x. messages_to_come net end received sent runners x) (channels net.links) ≡ total (λ _ x. messages_to_come net end received sent (slice_set runners c new) x) (channels net.links) + 1
    syncs_fall port u o is en after = total_less (λ _ x. messages_to_come net end received sent runners x) (λ _ x. messages_to_come net end received sent (slice_set runners c new) x) (channels net.links) out.number ch out.at_number here others
      where
        out : GoesOut net wired (record { component = c; port = port })
        out = goes port o is

        ch : Channel
        ch = out.channel

        component_is : ch.from.component ≡ c
        component_is = ap (λ (e : End). e.component) out.comes_from

        port_is : ch.from.port ≡ port
        port_is = ap (λ (e : End). e.port) out.comes_from

        outs_are : (p : ℕ) → outbox_in new.outgoing p ≡ outbox_in (at_place port (synced u) old.outgoing) p
        outs_are p = ap (λ (r : Runner V). outbox_in r.outgoing p) after

        one_more : syncs_among (outbox_in new.outgoing ch.from.port) ≡ syncs_among (outbox_in old.outgoing ch.from.port) + 1
        one_more = ap (λ p. syncs_among (outbox_in new.outgoing p)) port_is ∙ ap syncs_among (outs_are port) ∙ synced_at_port u port old.outgoing o is ∙ ap (λ p. syncs_among (outbox_in old.outgoing p) + 1) (sym port_is)

        here : messages_to_come net end received sent runners ch ≡ messages_to_come net end received sent (slice_set runners c new) ch + 1
        here = less_syncs (syncs_to_come (messages_of net end ch) (made_by sent runners ch.from)) (syncs_to_come (messages_of net end ch) (made_by sent (slice_set runners c new) ch.from)) (as_many_to_come (messages_of net end ch) (sent ch.from)) (as_many_to_come (messages_of net end ch) (received ch.to)) (one_done (syncs_among (messages_of net end ch)) (syncs_among (made_by sent runners ch.from)) (syncs_among (made_by sent (slice_set runners c new) ch.from)) (made_one_more c old new there ch.from component_is one_more) (made_most net settled end (then (Sync port u)) received sent held (slice_set runners c new) (whole_then (Sync port u) en after) wired lawful out.number ch out.at_number))

        others : (i : ℕ) (other : Channel) → (i ≡ out.number → ⊥) → slice_get (channels net.links) i ≡ Some other → messages_to_come net end received sent runners other ≡ messages_to_come net end received sent (slice_set runners c new) other
        others i other differ other_is = ap (λ n. (syncs_among (messages_of net end other) - n) + as_many_to_come (messages_of net end other) (sent other.from) + as_many_to_come (messages_of net end other) (received other.to)) (sym (made_as_many c old new there other.from (λ same. ap syncs_among (outs_are other.from.port ∙ other_port (synced u) port other.from.port old.outgoing (λ same_too. differ (one_sender net wired out.number i ch other out.at_number other_is (same_port other.from ch.from (same ∙ sym component_is) (same_too ∙ sym port_is))))))))

    pub event_falls : (next : Next) → IsEnabled net.behaviour old next → IsAfter net.behaviour old next new → left net end positions received sent runners ≡ left net end (with_position c (Some (place_of (of_component c received) old next)) positions) received sent (slice_set runners c new) + 1
    event_falls (Sync port u) en after = messages_less _ _ _ _ (events_stay (Sync port u) en after refl) (syncs_fall port u en.is_next.pending.is en.is_next.pending.there en after)
    event_falls (Tick t) en after = events_less _ _ _ _ (events_fall (Tick t) en after refl) (messages_stay (Tick t) en after (λ p. ap (λ (r : Runner V). syncs_among (outbox_in r.outgoing p)) after ∙ posts_at_port t (net.behaviour.tick old.device t).sends (recursion_from_All _ _ ((only net settled end positions received sent held runners whole wired lawful).tick_sends_events old.device t)) old.outgoing p))
    event_falls (Take port t) en after = events_less _ _ _ _ (events_fall (Take port t) en after refl) (messages_stay (Take port t) en after (λ p. ap (λ (r : Runner V). syncs_among (outbox_in r.outgoing p)) after.is ∙ posts_at_port after.m.at (net.behaviour.take old.device after.m.at port after.m.body).sends (recursion_from_All _ _ ((only net settled end positions received sent held runners whole wired lawful).take_sends_events old.device after.m.at port after.m.body)) old.outgoing p))

  -- A SEND

  -- a message that leaves its outbox was made all the same
  made_after_send : (pushes : Msg → Type 0) (at : End) (old new : Runner V) → slice_get runners at.component ≡ Some old → (passes : Passes pushes old new at.port) → (e : End) → made_by (with_end at (sent at ++ passes.m ∷ []) sent) (slice_set runners at.component new) e ≡ made_by sent runners e
  made_after_send pushes at old new there passes e = by (same_end e at) refl
    where
      m : Msg
      m = passes.m

      outs_are : (p : ℕ) → outbox_in new.outgoing p ≡ outbox_in (at_place at.port passed_on old.outgoing) p
      outs_are p = ap (λ (r : Runner V). outbox_in r.outgoing p) passes.is

      sent' : End → List Msg
      sent' = with_end at (sent at ++ m ∷ []) sent

      -- at another port
      others : (e ≡ at → ⊥) → (b : Bool) → eqb e.component at.component ≡ b → made_by sent (slice_set runners at.component new) e ≡ made_by sent runners e
      others differ false unlike = made_of_others at.component old new there sent e (eqb-false e.component at.component unlike)
      others differ true alike = made_then at.component old new there sent e (eqb-true e.component at.component alike) ∙ ap (λ l. sent e ++ l) (outs_are e.port ∙ other_port passed_on at.port e.port old.outgoing (λ same. differ (same_port e at (eqb-true e.component at.component alike) same))) ∙ sym (made_before at.component old new there sent e (eqb-true e.component at.component alike))

      by : (b : Bool) → same_end e at ≡ b → made_by sent' (slice_set runners at.component new) e ≡ made_by sent runners e
      by false unlike = ap (λ l. l ++ outbox_of (slice_get (slice_set runners at.component new) e.component) e.port) (end_other at e (sent at ++ m ∷ []) sent unlike) ∙ others (λ same. differs (ap (λ x. same_end x at) same)) (eqb e.component at.component) refl
        where
          differs : same_end e at ≡ same_end at at → ⊥
          differs same = false≢true (sym unlike ∙ same ∙ test_same at)
      by true alike = made_then at.component old new there sent' e (ap (λ (x : End). x.component) here) ∙ ap (λ x. sent' x ++ outbox_in new.outgoing x.port) here ∙ ap₂ ◌++◌ (end_same at at (sent at ++ m ∷ []) sent (test_same at)) (outs_are at.port ∙ passed_at_port at.port old.outgoing ∙ ap rest_of passes.waited) ∙ append_assoc (sent at) (m ∷ []) passes.more ∙ ap (λ l. sent at ++ l) (sym passes.waited) ∙ sym (made_before at.component old new there sent at refl) ∙ ap (made_by sent runners) (sym here)
        where
          here : e ≡ at
          here = same_from_test e at alike

  module _ (k : ℕ) (ch : Channel) (is : slice_get (channels net.links) k ≡ Some ch) where
    differs_from : (i : ℕ) (other : Channel) → (i ≡ k → ⊥) → slice_get (channels net.links) i ≡ Some other → same_end other.from ch.from ≡ false
    differs_from i other differ other_is = test_differs other.from ch.from (λ same. differ (one_sender net wired k i ch other is other_is same))

    differs_to : (i : ℕ) (other : Channel) → (i ≡ k → ⊥) → slice_get (channels net.links) i ≡ Some other → same_end other.to ch.to ≡ false
    differs_to i other differ other_is = test_differs other.to ch.to (λ same. differ (one_receiver net wired k i ch other is other_is same))

    pub send_falls : (pushes : Msg → Type 0) (old new : Runner V) → slice_get runners ch.from.component ≡ Some old → (passes : Passes pushes old new ch.from.port) → left net end positions received sent runners ≡ left net end positions received (with_end ch.from (sent ch.from ++ passes.m ∷ []) sent) (slice_set runners ch.from.component new) + 1
    send_falls pushes old new there passes = messages_less (total (events_to_come net end positions received) net.starts) (total (events_to_come net end positions received) net.starts) _ _ refl (total_less (λ _ x. messages_to_come net end received sent runners x) (λ _ x. messages_to_come net end received sent' (slice_set runners ch.from.component new) x) (channels net.links) k ch is here others)
      where
        sent' : End → List Msg
        sent' = with_end ch.from (sent ch.from ++ passes.m ∷ []) sent

        same_syncs : (other : Channel) → syncs_to_come (messages_of net end other) (made_by sent runners other.from) ≡ syncs_to_come (messages_of net end other) (made_by sent' (slice_set runners ch.from.component new) other.from)
        same_syncs other = ap (λ l. syncs_to_come (messages_of net end other) l) (sym (made_after_send pushes ch.from old new there passes other.from))

        longer : length (sent' ch.from) ≡ length (sent ch.from) + 1
        longer = ap length (end_same ch.from ch.from (sent ch.from ++ passes.m ∷ []) sent (test_same ch.from)) ∙ one_longer (sent ch.from) passes.m

        most : length (sent' ch.from) ≤ length (messages_of net end ch)
        most = sent_most net settled end positions received sent' (with_end ch.from (held ch.from ++ passes.m ∷ []) held) (slice_set runners ch.from.component new) (send_whole net settled end positions received sent held runners whole lawful pushes ch.from old new there passes) wired lawful k ch is

        here : messages_to_come net end received sent runners ch ≡ messages_to_come net end received sent' (slice_set runners ch.from.component new) ch + 1
        here = ap (λ n. n + as_many_to_come (messages_of net end ch) (sent ch.from) + as_many_to_come (messages_of net end ch) (received ch.to)) (same_syncs ch) ∙ less_sent (syncs_to_come (messages_of net end ch) (made_by sent' (slice_set runners ch.from.component new) ch.from)) (as_many_to_come (messages_of net end ch) (sent ch.from)) (as_many_to_come (messages_of net end ch) (sent' ch.from)) (as_many_to_come (messages_of net end ch) (received ch.to)) (one_done (length (messages_of net end ch)) (length (sent ch.from)) (length (sent' ch.from)) longer most)

        others : (i : ℕ) (other : Channel) → (i ≡ k → ⊥) → slice_get (channels net.links) i ≡ Some other → messages_to_come net end received sent runners other ≡ messages_to_come net end received sent' (slice_set runners ch.from.component new) other
        others i other differ other_is = ap₂ (λ a l. a + as_many_to_come (messages_of net end other) l + as_many_to_come (messages_of net end other) (received other.to)) (same_syncs other) (sym (end_other ch.from other.from (sent ch.from ++ passes.m ∷ []) sent (differs_from i other differ other_is)))

    -- A RECEIPT

    pub receipt_falls : (old : Runner V) → slice_get runners ch.to.component ≡ Some old → (m : Msg) (more : List Msg) → held ch.from ≡ m ∷ more → left net end positions received sent runners ≡ left net end positions (with_end ch.to (received ch.to ++ m ∷ []) received) sent (slice_set runners ch.to.component (record old { incoming = at_place ch.to.port (heard m) old.incoming })) + 1
    receipt_falls old there m more first = messages_less _ _ _ _ (total_same (events_to_come net end positions received) (events_to_come net end positions received') net.starts (λ c s starts. ap (λ n. events_in_run net end c - n) (same_events c s starts (eqb c ch.to.component) refl))) (total_less (λ _ x. messages_to_come net end received sent runners x) (λ _ x. messages_to_come net end received' sent runners' x) (channels net.links) k ch is here others)
      where
        received' : End → List Msg
        received' = with_end ch.to (received ch.to ++ m ∷ []) received

        new : Runner V
        new = record old { incoming = at_place ch.to.port (heard m) old.incoming }

        runners' : List (Runner V)
        runners' = slice_set runners ch.to.component new

        to : HasPort net settled positions received sent runners ch.to
        to = receiver net settled end positions received sent held runners whole wired k ch is

        there_too : slice_get old.incoming ch.to.port ≡ Some to.incoming
        there_too = ap (λ (r : Runner V). slice_get r.incoming ch.to.port) (same_Some old to.runner (sym there ∙ to.there)) ∙ to.in_at

        -- what comes in is no event yet
        here_events : (s : V) → slice_get net.starts ch.to.component ≡ Some s → events_upto net received ch.to.component s (positions ch.to.component) end ≡ events_upto net received' ch.to.component s (positions ch.to.component) end
        here_events s starts = sym (subst (λ e. length (run_upto (tallied net.behaviour) s (positions ch.to.component) (of_component ch.to.component received') e).log ≡ length (run_upto (tallied net.behaviour) s (positions ch.to.component) (of_component ch.to.component received) e).log) (whole.ends ch.to.component old there) (subst (λ l. length (run_upto (tallied net.behaviour) s (positions ch.to.component) l old.end).log ≡ length (run_upto (tallied net.behaviour) s (positions ch.to.component) (of_component ch.to.component received) old.end).log) (here_at ch.to (received ch.to ++ m ∷ []) received) (ap length (receipt_tallies net.behaviour settled lawful s (positions ch.to.component) (of_component ch.to.component received) (of_component ch.to.component sent) old (whole.standing ch.to.component s old starts there) ch.to.port to.incoming there_too m (comes_in_stream net settled end positions received sent held runners whole wired k ch is m more first) (comes_introduced net settled end positions received sent held runners whole wired k ch is m more first)))))

        same_events : (c : ℕ) (s : V) → slice_get net.starts c ≡ Some s → (b : Bool) → eqb c ch.to.component ≡ b → events_upto net received c s (positions c) end ≡ events_upto net received' c s (positions c) end
        same_events c s starts false unlike = ap (λ l. length (run_upto (tallied net.behaviour) s (positions c) l end).log) (other_at ch.to (received ch.to ++ m ∷ []) received c (eqb-false c ch.to.component unlike))
        same_events c s starts true alike = subst (λ (i : ℕ). slice_get net.starts i ≡ Some s → events_upto net received i s (positions i) end ≡ events_upto net received' i s (positions i) end) (sym (eqb-true c ch.to.component alike)) (here_events s) starts

        same_made : (e : End) → made_by sent runners e ≡ made_by sent runners' e
        same_made e = at (eqb e.component ch.to.component) refl
          where
            at : (b : Bool) → eqb e.component ch.to.component ≡ b → made_by sent runners e ≡ made_by sent runners' e
            at false unlike = sym (made_of_others ch.to.component old new there sent e (eqb-false e.component ch.to.component unlike))
            at true alike = made_before ch.to.component old new there sent e (eqb-true e.component ch.to.component alike) ∙ sym (made_then ch.to.component old new there sent e (eqb-true e.component ch.to.component alike))

        same_syncs : (other : Channel) → syncs_to_come (messages_of net end other) (made_by sent runners other.from) ≡ syncs_to_come (messages_of net end other) (made_by sent runners' other.from)
        same_syncs other = ap (λ l. syncs_to_come (messages_of net end other) l) (same_made other.from)

        longer : length (received' ch.to) ≡ length (received ch.to) + 1
        longer = ap length (end_same ch.to ch.to (received ch.to ++ m ∷ []) received (test_same ch.to)) ∙ one_longer (received ch.to) m

        most : length (received' ch.to) ≤ length (messages_of net end ch)
        most = received_most net settled end positions received' sent (with_end ch.from more held) runners' (heard_whole net settled end positions received sent held runners whole lawful wired k ch is old there m more first) wired lawful k ch is

        here : messages_to_come net end received sent runners ch ≡ messages_to_come net end received' sent runners' ch + 1
        here = ap (λ n. n + as_many_to_come (messages_of net end ch) (sent ch.from) + as_many_to_come (messages_of net end ch) (received ch.to)) (same_syncs ch) ∙ less_received (syncs_to_come (messages_of net end ch) (made_by sent runners' ch.from)) (as_many_to_come (messages_of net end ch) (sent ch.from)) (as_many_to_come (messages_of net end ch) (received ch.to)) (as_many_to_come (messages_of net end ch) (received' ch.to)) (one_done (length (messages_of net end ch)) (length (received ch.to)) (length (received' ch.to)) longer most)

        others : (i : ℕ) (other : Channel) → (i ≡ k → ⊥) → slice_get (channels net.links) i ≡ Some other → messages_to_come net end received sent runners other ≡ messages_to_come net end received' sent runners' other
        others i other differ other_is = ap₂ (λ a l. a + as_many_to_come (messages_of net end other) (sent other.from) + as_many_to_come (messages_of net end other) l) (same_syncs other) (sym (end_other ch.to other.to (received ch.to ++ m ∷ []) received (differs_to i other differ other_is)))
