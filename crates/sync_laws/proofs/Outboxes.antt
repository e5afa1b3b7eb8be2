-- The null messages among what waits at one port, after an event and after a send.
use Rattle.std.proofs.Common.{◌≡◌, ℕ, zero, suc, ◌+◌, List, [], ◌∷◌, ◌++◌, length, Some, refl, sym, ap, ◌∙◌, arith}
use Rattle.std.specs.Prelude.{slice_get, true}
use Rattle.std.specs.List.{AllByRecursion}
use Rattle.sb_message.specs.Receivable.{is_event}
use Rattle.sb_message.specs.declared.message.Body.{Body}
use Rattle.sb_message.specs.declared.message.Body.TheVariants as body
use Rattle.sb_message.specs.declared.message.Msg.{Msg}
use Rattle.sync_rule.specs.Ports.{Out, posted, synced, passed_on, rest_of, at_place, post_all}
use Rattle.sync_rule.specs.ManyPorts.{outbox_at, outbox_in}
use Rattle.sync_laws.specs.ToCome.{syncs_among}
use Rattle.sync_laws.proofs.Changed.{get_changed, get_other}
use Rattle.sync_laws.proofs.Fronts.{syncs_append}
use Rattle.sync_laws.proofs.Posts.{not_sync, no_sync}
use Rattle.run_laws.proofs.Runs.{SendEvents}

-- an event more is no null message more
event_more : (outbox : List Msg) (m : Msg) → is_event m.body ≡ true → syncs_among (outbox ++ m ∷ []) ≡ syncs_among outbox
event_more outbox m event = syncs_append outbox (m ∷ []) ∙ (let none : syncs_among (m ∷ []) ≡ 0 = no_sync m (not_sync m.body event) in omega arith)

posted_at : (t q : ℕ) (b : Body) → is_event b ≡ true → (outs : List Out) (p : ℕ) → syncs_among (outbox_in (at_place q (posted t b) outs) p) ≡ syncs_among (outbox_in outs p)
unfolding at_place
posted_at t q b event [] p = refl
posted_at t zero b event (o ∷ outs) zero = event_more o.outbox (record { at = t + o.plan.latency; body = b }) event
posted_at t zero b event (o ∷ outs) (suc p) = refl
posted_at t (suc q) b event (o ∷ outs) zero = refl
posted_at t (suc q) b event (o ∷ outs) (suc p) = posted_at t q b event outs p

pub posts_at_port : (t : ℕ) (sends : List (ℕ × Body)) → SendEvents sends → (outs : List Out) (p : ℕ) → syncs_among (outbox_in (post_all t sends outs) p) ≡ syncs_among (outbox_in outs p)
unfolding post_all
posts_at_port t [] events outs p = refl
posts_at_port t (x ∷ more) events outs p = posts_at_port t more events.1 (at_place x.0 (posted t x.1) outs) p ∙ posted_at t x.0 x.1 events.0 outs p

pub synced_at_port : (u port : ℕ) (outs : List Out) (o : Out) → slice_get outs port ≡ Some o → syncs_among (outbox_in (at_place port (synced u) outs) port) ≡ syncs_among (outbox_in outs port) + 1
synced_at_port u port outs o is = ap (λ x. syncs_among (outbox_at x)) (get_changed port (synced u) outs o is) ∙ syncs_append o.outbox (record { at = u + o.plan.latency; body = body.Sync } ∷ []) ∙ ap (λ x. syncs_among (outbox_at x) + 1) (sym is)

pub other_port : (f : Out → Out) (port p : ℕ) (outs : List Out) → (p ≡ port → ⊥) → outbox_in (at_place port f outs) p ≡ outbox_in outs p
other_port f port p outs differ = ap outbox_at (get_other port p f outs differ)

pub passed_at_port : (port : ℕ) (outs : List Out) → outbox_in (at_place port passed_on outs) port ≡ rest_of (outbox_in outs port)
unfolding at_place
passed_at_port port [] = refl
passed_at_port zero (o ∷ outs) = refl
passed_at_port (suc port) (o ∷ outs) = passed_at_port port outs
