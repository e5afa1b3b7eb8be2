-- The two ends of a channel of a network that stands as a whole.
use Rattle.std.proofs.Common.{◌≡◌, ℕ, zero, suc, ◌<◌, false, List, [], ◌∷◌, ◌++◌, map, Option, Some, None, option_map, option_and_then, refl, sym, ap, ap₂, ◌∙◌, subst, append_assoc}
use Rattle.std.specs.Prelude.{slice_get}
use Rattle.std.specs.List.{AllByRecursion}
use Rattle.std.proofs.lemmas.List.Elements.{recursion_from_All}
use Rattle.std.proofs.lemmas.Option.{none-some, same_Some, slice_get-map, slice_get_within}
use Rattle.cs_base.specs.declared.link.Link.{Link}
use Rattle.cs_base.specs.declared.port_kind.PortKind.{PortKind}
use Rattle.cs_base.specs.declared.port_kind.PortKind.TheVariants.{Eth, PcieDev, PcieHost, MemDev, MemHost}
use Rattle.cs_base.specs.Plan.{End, Joins, kind_at, partner}
use Rattle.sb_intro.specs.Expected.{expected}
use Rattle.sb_message.specs.Stream.{IsStream}
use Rattle.sb_message.specs.declared.message.Body.TheVariants as body
use Rattle.sb_message.specs.declared.message.Msg.{Msg}
use Rattle.device_api.specs.Channels.{Channel, channels}
use Rattle.device_api.specs.Position.{Position, script_upto}
use Rattle.device_api.specs.Transcript.{Script, introduction}
use Rattle.device_api.specs.World.{Network, Sent}
use Rattle.port_queue.specs.Streams.{stream_so_far}
use Rattle.run_laws.specs.Wired.{IsWired}
use Rattle.run_laws.proofs.Channels.{IsOwned, owned, channel_joined}
use Rattle.run_laws.proofs.Lists.{there_below}
use Rattle.sync_rule.specs.declared.port_plan.PortPlan.{PortPlan}
use Rattle.sync_rule.specs.declared.runner.Runner.{Runner}
use Rattle.sync_rule.specs.Ports.{In, Out, introduction_to}
use Rattle.sync_laws.specs.Stands.{Stands, HasMade, HasReceived, LeadsOut, has_begun, run_upto}
use Rattle.sync_laws.specs.Whole.{IsWhole, IsPlannedBy, of_component}
use Rattle.sync_laws.proofs.Changed.{mapped_at}

partner_back : (kind : PortKind) → partner (partner kind) ≡ kind
partner_back Eth = refl
partner_back PcieDev = refl
partner_back PcieHost = refl
partner_back MemDev = refl
partner_back MemHost = refl

both_partners : (kind : Option PortKind) → option_map partner (option_map partner kind) ≡ kind
both_partners None = refl
both_partners (Some kind) = ap Some (partner_back kind)

-- a channel leads to a port of the partner's kind
kinds_join : (kinds : List (List PortKind)) (links : List Link) → AllByRecursion (Joins kinds) links → (k : ℕ) (ch : Channel) → slice_get (channels links) k ≡ Some ch → kind_at kinds ch.to ≡ option_map partner (kind_at kinds ch.from)
kinds_join kinds [] joined k ch is = absurd (none-some ch is)
kinds_join kinds (link ∷ more) joined zero ch is = subst (λ (c : Channel). kind_at kinds c.to ≡ option_map partner (kind_at kinds c.from)) (same_Some _ ch is) joined.0.ports.to_partner
kinds_join kinds (link ∷ more) joined (suc zero) ch is = subst (λ (c : Channel). kind_at kinds c.to ≡ option_map partner (kind_at kinds c.from)) (same_Some _ ch is) (sym (ap (option_map partner) joined.0.ports.to_partner ∙ both_partners _))
kinds_join kinds (link ∷ more) joined (suc (suc k)) ch is = kinds_join kinds more joined.1 k ch is

-- a transcript begins with the introduction
record BeginsWith (m : Msg) (messages : List Msg) : Type 0 where
  more : List Msg
  is : messages ≡ m ∷ more

longer : (m : Msg) (xs ys : List Msg) → BeginsWith m xs → BeginsWith m (xs ++ ys)
longer m xs ys begins = record { more = begins.more ++ ys; is = ap (λ l. l ++ ys) begins.is }

script_begins : (kind : PortKind) (ch : Channel) (sends : List Sent) (position : Position) (u : ℕ) → BeginsWith (introduction kind ch) (script_upto kind ch sends position u).messages
unfolding script_upto
script_begins kind ch sends position zero = record { more = []; is = refl }
script_begins kind ch sends position (suc u) = longer (introduction kind ch) _ _ (script_begins kind ch sends position u)

first_is : (m x : Msg) (xs : List Msg) (l : List Msg) → BeginsWith m l → l ≡ x ∷ xs → x ≡ m
first_is m x xs l begins e = same_Some x m (ap (λ y. slice_get y 0) (sym e ∙ begins.is))

none_begun : (l : List Msg) → has_begun l ≡ false → l ≡ []
none_begun [] e = refl
none_begun (m ∷ more) e = absurd cc

-- a port of a network, with the runner of its component
pub record HasPort {V : Type 0} (net : Network V) (settled : V → ℕ → Type 0) (positions : ℕ → Position) (received sent : End → List Msg) (runners : List (Runner V)) (at : End) : Type 0 where
  pub start : V
  pub starts_so : slice_get net.starts at.component ≡ Some start
  pub runner : Runner V
  pub there : slice_get runners at.component ≡ Some runner
  pub stands : Stands net.behaviour settled start (positions at.component) (of_component at.component received) (of_component at.component sent) runner
  pub kind : PortKind
  pub has_kind : slice_get (net.behaviour.ports start) at.port ≡ Some kind
  pub incoming : In
  pub in_at : slice_get runner.incoming at.port ≡ Some incoming
  pub in_kind : incoming.plan.kind ≡ kind
  pub outgoing : Out
  pub out_at : slice_get runner.outgoing at.port ≡ Some outgoing
  pub out_kind : outgoing.plan.kind ≡ kind

module _ {V : Type 0} (net : Network V) (settled : V → ℕ → Type 0) (end : ℕ) (positions : ℕ → Position) (received sent held : End → List Msg) (runners : List (Runner V)) (whole : IsWhole net settled end positions received sent held runners) where
  -- each component has a runner
  pub runner_of : (c : ℕ) (start : V) → slice_get net.starts c ≡ Some start → (r : Runner V) × (slice_get runners c ≡ Some r)
  runner_of c start is = there_below runners c (subst (λ n. c < n) (sym whole.as_many) (slice_get_within net.starts c start is))

  pub start_of : (c : ℕ) (r : Runner V) → slice_get runners c ≡ Some r → (start : V) × (slice_get net.starts c ≡ Some start)
  start_of c r is = there_below net.starts c (subst (λ n. c < n) whole.as_many (slice_get_within runners c r is))

  pub port_at : (at : End) → IsOwned net at → HasPort net settled positions received sent runners at
  port_at at own = record {
    start = own.start;
    starts_so = own.owner;
    runner = found.0;
    there = found.1;
    stands = stands;
    kind = own.kind;
    has_kind = own.there;
    incoming = in_there.0;
    in_at = in_there.1;
    in_kind = in_there.2;
    outgoing = out_there.0;
    out_at = out_there.1;
    out_kind = ap (λ (plan : PortPlan). plan.kind) out_there.2 ∙ in_there.2;
  }
    where
      found : (r : Runner V) × (slice_get runners at.component ≡ Some r)
      found = runner_of at.component own.start own.owner

      stands : Stands net.behaviour settled own.start (positions at.component) (of_component at.component received) (of_component at.component sent) found.0
      stands = whole.standing at.component own.start found.0 own.owner found.1

      in_there : (i : In) × (slice_get found.0.incoming at.port ≡ Some i) × (i.plan.kind ≡ own.kind)
      in_there = mapped_at (λ (i : In). i.plan.kind) found.0.incoming (net.behaviour.ports own.start) at.port own.kind stands.fitted.kinds own.there

      out_there : (o : Out) × (slice_get found.0.outgoing at.port ≡ Some o) × (o.plan ≡ in_there.0.plan)
      out_there = mapped_at (λ (o : Out). o.plan) found.0.outgoing (map (λ (i : In). i.plan) found.0.incoming) at.port in_there.0.plan stands.fitted.same_plans (slice_get-map (λ (i : In). i.plan) found.0.incoming at.port ∙ ap (option_map (λ (i : In). i.plan)) in_there.1)

  module _ {last : ℕ} (wired : IsWired net last) (k : ℕ) (ch : Channel) (is : slice_get (channels net.links) k ≡ Some ch) where
    pub sender : HasPort net settled positions received sent runners ch.from
    sender = port_at ch.from (owned net ch.from (channel_joined net wired k ch is).at_sender)

    pub receiver : HasPort net settled positions received sent runners ch.to
    receiver = port_at ch.to (owned net ch.to (channel_joined net wired k ch is).at_receiver)

    pub kind_of : (at : End) (port : HasPort net settled positions received sent runners at) → kind_at (map net.behaviour.ports net.starts) at ≡ Some port.kind
    kind_of at port = ap (λ (o : Option (List PortKind)). option_and_then (λ ports. slice_get ports at.port) o) (slice_get-map net.behaviour.ports net.starts at.component ∙ ap (option_map net.behaviour.ports) port.starts_so) ∙ port.has_kind

    -- the receiving port's kind is the partner of the sending port's
    pub partners : partner sender.outgoing.plan.kind ≡ receiver.incoming.plan.kind
    partners = ap partner sender.out_kind ∙ sym (same_Some receiver.kind (partner sender.kind) (sym (kind_of ch.to receiver) ∙ kinds_join (map net.behaviour.ports net.starts) net.links (recursion_from_All _ _ wired.links_join) k ch is ∙ ap (option_map partner) (kind_of ch.from sender))) ∙ sym receiver.in_kind

    pub leads : LeadsOut ch ch.from.port sender.outgoing.plan
    leads = record { from_port = refl; latency = planned.latency; interval = planned.interval }
      where
        planned : IsPlannedBy ch sender.outgoing.plan
        planned = (whole.joined k ch is).sender sender.runner sender.outgoing sender.there sender.out_at

    pub made : HasMade (positions ch.from.component) (run_upto net.behaviour sender.start (positions ch.from.component) (of_component ch.from.component received) sender.runner.end) sender.runner.end ch.from.port (sent ch.from) sender.outgoing
    made = sender.stands.made ch.from.port sender.outgoing sender.out_at

    pub heard : HasReceived (positions ch.to.component) ch.to.port (received ch.to) receiver.incoming
    heard = receiver.stands.heard ch.to.port receiver.incoming receiver.in_at

    -- what is between the ends comes in as a stream, which begins with the introduction
    module _ (m : Msg) (more : List Msg) (first : held ch.from ≡ m ∷ more) where
      made_is : sent ch.from ++ sender.outgoing.outbox ≡ (received ch.to ++ m ∷ []) ++ (more ++ sender.outgoing.outbox)
      made_is = ap (λ l. l ++ sender.outgoing.outbox) ((whole.joined k ch is).between ∙ ap (λ l. received ch.to ++ l) first) ∙ append_assoc (received ch.to) (m ∷ more) sender.outgoing.outbox ∙ sym (append_assoc (received ch.to) (m ∷ []) (more ++ sender.outgoing.outbox))

      pub comes_in_stream : IsStream receiver.incoming.plan.kind (received ch.to ++ m ∷ [])
      comes_in_stream = stream_so_far receiver.incoming.plan.kind (received ch.to) m (more ++ sender.outgoing.outbox) (subst (λ kind. IsStream kind ((received ch.to ++ m ∷ []) ++ (more ++ sender.outgoing.outbox))) partners (subst (IsStream (partner sender.outgoing.plan.kind)) made_is made.stream))

      pub comes_introduced : receiver.incoming.introduced ≡ false → m ≡ introduction_to receiver.incoming.plan
      comes_introduced none = first_is (introduction sender.outgoing.plan.kind ch) m (more ++ sender.outgoing.outbox) _ (script_begins sender.outgoing.plan.kind ch _ _ _) (ap (λ (s : Script). s.messages) (made.script ch leads) ∙ made_is ∙ ap (λ l. (l ++ m ∷ []) ++ (more ++ sender.outgoing.outbox)) nothing) ∙ ap₂ (λ kind (times : ℕ × ℕ). record { at = 0; body = body.Intro (expected kind times.0 times.1) }) (sym (partner_back sender.outgoing.plan.kind) ∙ ap partner partners) (ap₂ (λ latency interval. (latency, interval)) planned.latency planned.interval)
        where
          nothing : received ch.to ≡ []
          nothing = none_begun (received ch.to) (sym heard.introduced ∙ none)

          planned : IsPlannedBy ch receiver.incoming.plan
          planned = (whole.joined k ch is).receiver receiver.runner receiver.incoming receiver.there receiver.in_at
