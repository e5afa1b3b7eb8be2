-- What was sent on a channel is nothing or a stream of the kind of the port at its end.
use Rattle.std.proofs.Common.{◌≡◌, ℕ, List, [], ◌∷◌, ◌++◌, map, Some, slice_get, refl, sym, ◌∙◌, subst, inl, inr}
use Rattle.std.proofs.lemmas.Option.{same_Some}
use Rattle.cs_base.specs.declared.port_kind.PortKind.{PortKind}
use Rattle.cs_base.specs.Plan.{End, kind_at, partner}
use Rattle.sb_message.specs.declared.message.Msg.{Msg}
use Rattle.sb_message.specs.Stream.{IsStream}
use Rattle.device_api.specs.Channels.{Channel, channels}
use Rattle.device_api.specs.Position.{Position}
use Rattle.device_api.specs.World.{Network}
use Rattle.port_queue.specs.Plain.{IsSent}
use Rattle.port_queue.specs.Streams.{front-from}
use Rattle.run_laws.specs.Wired.{IsWired}
use Rattle.sync_rule.specs.declared.runner.Runner.{Runner}
use Rattle.sync_laws.specs.Whole.{IsWhole}
use Rattle.sync_laws.proofs.Ends.{HasPort, sender, receiver, kind_of, partners, made}

-- the first messages of a stream are nothing or a stream
sent_of : (kind : PortKind) (xs ys : List Msg) → IsStream kind (xs ++ ys) → IsSent kind xs
sent_of kind [] ys stream = inl refl
sent_of kind (x ∷ xs) ys stream = inr (front-from kind x xs ys stream)

module _ {V : Type 0} (net : Network V) (settled : V → ℕ → Type 0) (end : ℕ) (positions : ℕ → Position) (received sent held : End → List Msg) (runners : List (Runner V)) (whole : IsWhole net settled end positions received sent held runners) (wired : IsWired net end) (k : ℕ) (ch : Channel) (is : slice_get (channels net.links) k ≡ Some ch) where
  abbrev from : HasPort net settled positions received sent runners ch.from
  from = sender net settled end positions received sent held runners whole wired k ch is

  abbrev to : HasPort net settled positions received sent runners ch.to
  to = receiver net settled end positions received sent held runners whole wired k ch is

  pub sent_streams : (kind : PortKind) → kind_at (map net.behaviour.ports net.starts) ch.to ≡ Some kind → IsSent kind (sent ch.from)
  sent_streams kind there = subst (λ x. IsSent x (sent ch.from)) (partners net settled end positions received sent held runners whole wired k ch is ∙ to.in_kind ∙ sym (same_Some kind to.kind (sym there ∙ kind_of net settled end positions received sent held runners whole wired k ch is ch.to to))) (sent_of (partner from.outgoing.plan.kind) (sent ch.from) from.outgoing.outbox (made net settled end positions received sent held runners whole wired k ch is).stream)
