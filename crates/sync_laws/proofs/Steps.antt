-- Each step keeps a network standing as a whole.
use Rattle.std.proofs.Common.{◌≡◌, ℕ, Bool, true, false, cond, eqb, ◌&&◌, List, [], ◌∷◌, ◌++◌, map, Some, refl, sym, ap, ap₂, ◌∙◌, subst, append_assoc}
use Rattle.std.specs.Prelude.{slice_get, slice_set}
use Rattle.std.proofs.Math.Path.{fun_ext}
use Rattle.std.proofs.lemmas.Bool.{cond-true, cond-false, eq-eqb, ne_eqb, false≢true}
use Rattle.std.proofs.lemmas.Option.{same_Some}
use Rattle.cs_base.specs.Plan.{End, same_end}
use Rattle.sb_message.specs.declared.message.Msg.{Msg}
use Rattle.device_api.specs.Behaviour.{Behaviour, IsLawful}
use Rattle.device_api.specs.Channels.{Channel, channels}
use Rattle.device_api.specs.Position.{Position}
use Rattle.device_api.specs.World.{Network, out_of}
use Rattle.run_laws.specs.NextEvent.{with_port}
use Rattle.run_laws.specs.Wired.{IsWired}
use Rattle.run_laws.proofs.Channels.{same_from_test, test_same, test_differs, out_is, only_in}
use Rattle.sync_rule.specs.declared.next.Next.{Next}
use Rattle.sync_rule.specs.declared.next.Next.TheVariants.{Sync, Take, Tick}
use Rattle.sync_rule.specs.declared.runner.Runner.{Runner}
use Rattle.sync_rule.specs.Ports.{In, Out, synced, taken, passed_on, heard, at_place}
use Rattle.sync_rule.specs.Steps.{after_sync, after_take, after_tick, IsAfter, Processed, Passes}
use Rattle.sync_laws.specs.Stands.{Stands, place_of}
use Rattle.sync_laws.specs.Whole.{IsWhole, IsJoined, IsPlannedBy, of_component, with_end, with_position}
use Rattle.sync_laws.proofs.Changed.{each_replaced, length_replaced, map_changed, mapped_at, get_mapped}
use Rattle.sync_laws.proofs.Ends.{HasPort, receiver, comes_in_stream, comes_introduced}
use Rattle.sync_laws.proofs.Events.{event_stands}
use Rattle.sync_laws.proofs.Passed.{send_stands, heard_stands}
use Rattle.sync_laws.proofs.Reacted.{plans_posted}

-- LISTS BY PORT

-- a list of one port of a component is another
pub here_at : (at : End) (messages : List Msg) (lists : End → List Msg) → with_port at.port messages (of_component at.component lists) ≡ of_component at.component (with_end at messages lists)
here_at at messages lists = fun_ext (λ p. ap (λ b. cond (b && eqb p at.port) messages (lists (record { component = at.component; port = p }))) (sym (eq-eqb at.component at.component refl)))

-- those of the other components stay
pub other_at : (at : End) (messages : List Msg) (lists : End → List Msg) (c : ℕ) → (c ≡ at.component → ⊥) → of_component c lists ≡ of_component c (with_end at messages lists)
other_at at messages lists c differ = fun_ext (λ p. ap (λ b. cond (b && eqb p at.port) messages (lists (record { component = c; port = p }))) (sym (ne_eqb c at.component differ)))

pub end_same : (at other : End) (messages : List Msg) (lists : End → List Msg) → same_end other at ≡ true → with_end at messages lists other ≡ messages
end_same at other messages lists e = cond-true (same_end other at) messages (lists other) e

pub end_other : (at other : End) (messages : List Msg) (lists : End → List Msg) → same_end other at ≡ false → with_end at messages lists other ≡ lists other
end_other at other messages lists e = cond-false (same_end other at) messages (lists other) e

-- RUNNERS

-- a step changes neither the end of a runner nor the plans of its ports
pub record KeepsPlans {V : Type 0} (old new : Runner V) : Type 0 where
  pub same_end : new.end ≡ old.end
  pub outs : map (λ (o : Out). o.plan) new.outgoing ≡ map (λ (o : Out). o.plan) old.outgoing
  pub ins : map (λ (i : In). i.plan) new.incoming ≡ map (λ (i : In). i.plan) old.incoming

sync_keeps : {V : Type 0} (old : Runner V) (port u : ℕ) → KeepsPlans old (after_sync old port u)
sync_keeps old port u = record { same_end = refl; outs = map_changed (λ (o : Out). o.plan) port (synced u) old.outgoing (λ o. refl); ins = refl }

tick_keeps : {V : Type 0} (b : Behaviour V) (old : Runner V) (t : ℕ) → KeepsPlans old (after_tick b old t)
tick_keeps b old t = record { same_end = refl; outs = plans_posted t (b.tick old.device t).sends old.outgoing; ins = refl }

take_keeps : {V : Type 0} (b : Behaviour V) (old : Runner V) (port : ℕ) (m : Msg) → KeepsPlans old (after_take b old port m)
take_keeps b old port m = record { same_end = refl; outs = plans_posted m.at (b.take old.device m.at port m.body).sends old.outgoing; ins = map_changed (λ (i : In). i.plan) port taken old.incoming (λ i. refl) }

pub event_keeps : {V : Type 0} (b : Behaviour V) (old new : Runner V) (next : Next) → IsAfter b old next new → KeepsPlans old new
event_keeps b old new (Sync port u) is = subst (KeepsPlans old) (sym is) (sync_keeps old port u)
event_keeps b old new (Tick t) is = subst (KeepsPlans old) (sym is) (tick_keeps b old t)
event_keeps b old new (Take port t) take = subst (KeepsPlans old) (sym take.is) (take_keeps b old port take.m)

module _ {V : Type 0} (net : Network V) (settled : V → ℕ → Type 0) (end : ℕ) (positions : ℕ → Position) (received sent held : End → List Msg) (runners : List (Runner V)) (whole : IsWhole net settled end positions received sent held runners) where
  module _ (c : ℕ) (old new : Runner V) (there : slice_get runners c ≡ Some old) (keeps : KeepsPlans old new) where
    sender_planned : (ch : Channel) → IsJoined received sent held runners ch → (r : Runner V) (o : Out) → slice_get (slice_set runners c new) ch.from.component ≡ Some r → slice_get r.outgoing ch.from.port ≡ Some o → IsPlannedBy ch o.plan
    sender_planned ch joined r o is out = each_replaced (λ q (r : Runner V). q ≡ ch.from.component → (o : Out) → slice_get r.outgoing ch.from.port ≡ Some o → IsPlannedBy ch o.plan) runners c old new there here (λ q r _ is same o out. joined.sender r o (ap (slice_get runners) (sym same) ∙ is) out) ch.from.component r is refl o out
      where
        here : c ≡ ch.from.component → (o : Out) → slice_get new.outgoing ch.from.port ≡ Some o → IsPlannedBy ch o.plan
        here same o out = let before : (x : Out) × (slice_get old.outgoing ch.from.port ≡ Some x) × (x.plan ≡ o.plan) = mapped_at (λ (o : Out). o.plan) old.outgoing (map (λ (o : Out). o.plan) new.outgoing) ch.from.port o.plan (sym keeps.outs) (get_mapped (λ (o : Out). o.plan) new.outgoing ch.from.port o out) in subst (IsPlannedBy ch) before.2 (joined.sender old before.0 (ap (slice_get runners) (sym same) ∙ there) before.1)

    receiver_planned : (ch : Channel) → IsJoined received sent held runners ch → (r : Runner V) (i : In) → slice_get (slice_set runners c new) ch.to.component ≡ Some r → slice_get r.incoming ch.to.port ≡ Some i → IsPlannedBy ch i.plan
    receiver_planned ch joined r i is in_at = each_replaced (λ q (r : Runner V). q ≡ ch.to.component → (i : In) → slice_get r.incoming ch.to.port ≡ Some i → IsPlannedBy ch i.plan) runners c old new there here (λ q r _ is same i in_at. joined.receiver r i (ap (slice_get runners) (sym same) ∙ is) in_at) ch.to.component r is refl i in_at
      where
        here : c ≡ ch.to.component → (i : In) → slice_get new.incoming ch.to.port ≡ Some i → IsPlannedBy ch i.plan
        here same i in_at = let before : (x : In) × (slice_get old.incoming ch.to.port ≡ Some x) × (x.plan ≡ i.plan) = mapped_at (λ (i : In). i.plan) old.incoming (map (λ (i : In). i.plan) new.incoming) ch.to.port i.plan (sym keeps.ins) (get_mapped (λ (i : In). i.plan) new.incoming ch.to.port i in_at) in subst (IsPlannedBy ch) before.2 (joined.receiver old before.0 (ap (slice_get runners) (sym same) ∙ there) before.1)

    -- one runner is another, and maybe the position of its component and the lists of its ports are
    replaced : (positions' : ℕ → Position) (received' sent' held' : End → List Msg) → ((start : V) → slice_get net.starts c ≡ Some start → Stands net.behaviour settled start (positions' c) (of_component c received') (of_component c sent') new) → ((other : ℕ) (start : V) (r : Runner V) → (other ≡ c → ⊥) → Stands net.behaviour settled start (positions other) (of_component other received) (of_component other sent) r → Stands net.behaviour settled start (positions' other) (of_component other received') (of_component other sent') r) → ((k : ℕ) (ch : Channel) → slice_get (channels net.links) k ≡ Some ch → sent' ch.from ≡ received' ch.to ++ held' ch.from) → IsWhole net settled end positions' received' sent' held' (slice_set runners c new)
    replaced positions' received' sent' held' here others between = record {
      as_many = length_replaced runners c new ∙ whole.as_many;
      ends = each_replaced (λ q (r : Runner V). r.end ≡ end) runners c old new there (keeps.same_end ∙ whole.ends c old there) (λ q r _ is. whole.ends q r is);
      standing = λ q start r starts is. each_replaced (λ q (r : Runner V). (start : V) → slice_get net.starts q ≡ Some start → Stands net.behaviour settled start (positions' q) (of_component q received') (of_component q sent') r) runners c old new there here (λ q r differ is start starts. others q start r differ (whole.standing q start r starts is)) q r is start starts;
      joined = λ k ch is. record { between = between k ch is; sender = sender_planned ch (whole.joined k ch is); receiver = receiver_planned ch (whole.joined k ch is) };
    }

  module _ (lawful : IsLawful net.behaviour settled) where
    pub event_whole : (c : ℕ) (old new : Runner V) → slice_get runners c ≡ Some old → (event : Processed net.behaviour old new) → IsWhole net settled end (with_position c (Some (place_of (of_component c received) old event.next)) positions) received sent held (slice_set runners c new)
    event_whole c old new there event = replaced c old new there (event_keeps net.behaviour old new event.next event.after) (with_position c (Some (place_of (of_component c received) old event.next)) positions) received sent held (λ start starts. subst (λ p. Stands net.behaviour settled start p (of_component c received) (of_component c sent) new) (sym (cond-true (eqb c c) (Some (place_of (of_component c received) old event.next)) (positions c) (eq-eqb c c refl))) (event_stands net.behaviour settled lawful start (positions c) (of_component c received) (of_component c sent) old (whole.standing c start old starts there) new event.next event.enabled event.after)) (λ other start r differ stands. subst (λ p. Stands net.behaviour settled start p (of_component other received) (of_component other sent) r) (sym (cond-false (eqb other c) (Some (place_of (of_component c received) old event.next)) (positions other) (ne_eqb other c differ))) stands) (λ k ch is. (whole.joined k ch is).between)

    pub send_whole : (pushes : Msg → Type 0) (at : End) (old new : Runner V) → slice_get runners at.component ≡ Some old → (passes : Passes pushes old new at.port) → IsWhole net settled end positions received (with_end at (sent at ++ passes.m ∷ []) sent) (with_end at (held at ++ passes.m ∷ []) held) (slice_set runners at.component new)
    send_whole pushes at old new there passes = replaced at.component old new there (subst (KeepsPlans old) (sym passes.is) (record { same_end = refl; outs = map_changed (λ (o : Out). o.plan) at.port passed_on old.outgoing (λ o. refl); ins = refl })) positions received (with_end at (sent at ++ passes.m ∷ []) sent) (with_end at (held at ++ passes.m ∷ []) held) (λ start starts. subst (λ l. Stands net.behaviour settled start (positions at.component) (of_component at.component received) l new) (here_at at (sent at ++ passes.m ∷ []) sent) (send_stands net.behaviour settled lawful start (positions at.component) (of_component at.component received) (of_component at.component sent) old (whole.standing at.component start old starts there) pushes new at.port passes)) (λ other start r differ stands. subst (λ l. Stands net.behaviour settled start (positions other) (of_component other received) l r) (other_at at (sent at ++ passes.m ∷ []) sent other differ) stands) between
      where
        between : (k : ℕ) (ch : Channel) → slice_get (channels net.links) k ≡ Some ch → with_end at (sent at ++ passes.m ∷ []) sent ch.from ≡ received ch.to ++ with_end at (held at ++ passes.m ∷ []) held ch.from
        between k ch is = by (same_end ch.from at) refl
          where
            by : (b : Bool) → same_end ch.from at ≡ b → with_end at (sent at ++ passes.m ∷ []) sent ch.from ≡ received ch.to ++ with_end at (held at ++ passes.m ∷ []) held ch.from
            by false e = end_other at ch.from (sent at ++ passes.m ∷ []) sent e ∙ (whole.joined k ch is).between ∙ ap (λ l. received ch.to ++ l) (sym (end_other at ch.from (held at ++ passes.m ∷ []) held e))
            by true e = end_same at ch.from (sent at ++ passes.m ∷ []) sent e ∙ ap (λ l. l ++ passes.m ∷ []) (ap sent (sym same) ∙ (whole.joined k ch is).between ∙ ap (λ x. received ch.to ++ held x) same) ∙ append_assoc (received ch.to) (held at) (passes.m ∷ []) ∙ ap (λ l. received ch.to ++ l) (sym (end_same at ch.from (held at ++ passes.m ∷ []) held e))
              where
                same : ch.from ≡ at
                same = same_from_test ch.from at e

    module _ {last : ℕ} (wired : IsWired net last) where
      -- the message that was first between the ends of a channel came in
      pub heard_whole : (k : ℕ) (ch : Channel) → slice_get (channels net.links) k ≡ Some ch → (old : Runner V) → slice_get runners ch.to.component ≡ Some old → (m : Msg) (more : List Msg) → held ch.from ≡ m ∷ more → IsWhole net settled end positions (with_end ch.to (received ch.to ++ m ∷ []) received) sent (with_end ch.from more held) (slice_set runners ch.to.component (record old { incoming = at_place ch.to.port (heard m) old.incoming }))
      heard_whole k ch is old there m more first = replaced ch.to.component old (record old { incoming = at_place ch.to.port (heard m) old.incoming }) there (record { same_end = refl; outs = refl; ins = map_changed (λ (i : In). i.plan) ch.to.port (heard m) old.incoming (λ i. refl) }) positions (with_end ch.to (received ch.to ++ m ∷ []) received) sent (with_end ch.from more held) here (λ other start r differ stands. subst (λ l. Stands net.behaviour settled start (positions other) l (of_component other sent) r) (other_at ch.to (received ch.to ++ m ∷ []) received other differ) stands) between
        where
          to : HasPort net settled positions received sent runners ch.to
          to = receiver net settled end positions received sent held runners whole wired k ch is

          there_too : slice_get old.incoming ch.to.port ≡ Some to.incoming
          there_too = ap (λ (r : Runner V). slice_get r.incoming ch.to.port) (same_Some old to.runner (sym there ∙ to.there)) ∙ to.in_at

          here : (start : V) → slice_get net.starts ch.to.component ≡ Some start → Stands net.behaviour settled start (positions ch.to.component) (of_component ch.to.component (with_end ch.to (received ch.to ++ m ∷ []) received)) (of_component ch.to.component sent) (record old { incoming = at_place ch.to.port (heard m) old.incoming })
          here start starts = subst (λ l. Stands net.behaviour settled start (positions ch.to.component) l (of_component ch.to.component sent) (record old { incoming = at_place ch.to.port (heard m) old.incoming })) (here_at ch.to (received ch.to ++ m ∷ []) received) (heard_stands net.behaviour settled lawful start (positions ch.to.component) (of_component ch.to.component received) (of_component ch.to.component sent) old (whole.standing ch.to.component start old starts there) ch.to.port to.incoming there_too m (comes_in_stream net settled end positions received sent held runners whole wired k ch is m more first) (comes_introduced net settled end positions received sent held runners whole wired k ch is m more first))

          between : (k' : ℕ) (ch' : Channel) → slice_get (channels net.links) k' ≡ Some ch' → sent ch'.from ≡ with_end ch.to (received ch.to ++ m ∷ []) received ch'.to ++ with_end ch.from more held ch'.from
          between k' ch' is' = by (same_end ch'.to ch.to) refl
            where
              by : (b : Bool) → same_end ch'.to ch.to ≡ b → sent ch'.from ≡ with_end ch.to (received ch.to ++ m ∷ []) received ch'.to ++ with_end ch.from more held ch'.from
              by true e = subst (λ (x : Channel). sent x.from ≡ with_end ch.to (received ch.to ++ m ∷ []) received x.to ++ with_end ch.from more held x.from) (sym (only_in net wired k ch is k' ch' is' (same_from_test ch'.to ch.to e))) ((whole.joined k ch is).between ∙ ap (λ l. received ch.to ++ l) first ∙ sym (append_assoc (received ch.to) (m ∷ []) more) ∙ ap₂ ◌++◌ (sym (end_same ch.to ch.to (received ch.to ++ m ∷ []) received (test_same ch.to))) (sym (end_same ch.from ch.from more held (test_same ch.from))))
              by false e = (whole.joined k' ch' is').between ∙ ap₂ ◌++◌ (sym (end_other ch.to ch'.to (received ch.to ++ m ∷ []) received e)) (sym (end_other ch.from ch'.from more held (test_differs ch'.from ch.from (λ same. false≢true (sym e ∙ ap (λ (x : Channel). same_end x.to ch.to) (same_Some ch' ch (sym (out_is net wired k' ch' is') ∙ ap (out_of (channels net.links)) same ∙ out_is net wired k ch is)) ∙ test_same ch.to)))))
