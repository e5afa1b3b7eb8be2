-- The two ends of a channel of a mesh, and what carries it between them.
use Rattle.std.proofs.Common.{◌≡◌, ℕ, zero, suc, ◌<◌, false, List, [], ◌∷◌, ◌++◌, length, map, Option, Some, None, option_map, slice_get, refl, sym, ap, ap₂, ◌∙◌, subst, arith, append_assoc}
use Rattle.std.proofs.lemmas.Option.{none-some, same_Some, slice_get-map, slice_get_within}
use Rattle.cs_base.specs.declared.link.Link.{Link}
use Rattle.cs_base.specs.declared.port_kind.PortKind.{PortKind}
use Rattle.cs_base.specs.declared.port_kind.PortKind.TheVariants.{Eth, PcieDev, PcieHost, MemDev, MemHost}
use Rattle.cs_base.specs.Plan.{End, kind_at, partner}
use Rattle.sb_message.specs.declared.message.Msg.{Msg}
use Rattle.sb_intro.specs.Expected.{expected}
use Rattle.sb_message.specs.declared.message.Body.TheVariants.{Intro}
use Rattle.sb_message.specs.Stream.{IsStream}
use Rattle.device_api.specs.Behaviour.{Behaviour, IsLawful}
use Rattle.device_api.specs.Channels.{Channel, channels}
use Rattle.device_api.specs.Position.{Position, script_upto}
use Rattle.device_api.specs.Transcript.{Script, introduction}
use Rattle.device_api.specs.World.{Sent, Network}
use Rattle.global_model.specs.Step.{network}
use Rattle.global_model.proofs.Ways.{IsWay, way_out}
use Rattle.port_queue.specs.Streams.{stream_so_far}
use Rattle.run_laws.proofs.Channels.{IsOwned, owned, channel_joined, out_is}
use Rattle.run_laws.proofs.Lists.{there_below}
use Rattle.sync_rule.specs.declared.port_plan.PortPlan.{PortPlan}
use Rattle.sync_rule.specs.declared.runner.Runner.{Runner}
use Rattle.sync_rule.specs.Ports.{In, Out, introduction_to}
use Rattle.sync_rule.specs.Steps.{introduced_at, IsIntroduction, MaySendNext}
use Rattle.sync_rule.specs.ManyPorts.{outbox_at, outbox_in}
use Rattle.sync_rule.specs.Next.{IsReady}
use Rattle.sync_laws.specs.Stands.{Stands, HasMade, HasReceived, LeadsOut, run_upto, has_begun}
use Rattle.sync_laws.specs.Whole.{IsPlannedBy, of_component}
use Rattle.sync_laws.proofs.Ahead.{is_ready}
use Rattle.mesh_channel.specs.declared.carrier.Carrier.{Carrier}
use Rattle.mesh_channel.specs.Carrier.{kind_sent, Pops}
use Rattle.mesh_channel.specs.Standing.{StandsSent, IsCarrying}
use Rattle.mesh_channel.specs.Laws.{IsNext}
use Rattle.mesh_channel.proofs.Kept.{ends, in_order}
use Rattle.mesh_core.specs.declared.way.Way.{Way}
use Rattle.mesh_core.specs.State.{State, way_of}
use Rattle.mesh_core.specs.MeshOf.{HasCarrier, IsMeshOf, IsMesh}

partner_back : (kind : PortKind) → partner (partner kind) ≡ kind
partner_back Eth = refl
partner_back PcieDev = refl
partner_back PcieHost = refl
partner_back MemDev = refl
partner_back MemHost = refl

pub some_mapped : {A B : Type 0} (f : A → B) (x : Option A) (y : B) → option_map f x ≡ Some y → (a : A) × (x ≡ Some a) × (f a ≡ y)
some_mapped f None y e = absurd (none-some y e)
some_mapped f (Some a) y e = (a, refl, same_Some (f a) y e)

-- the element of a list whose image is at a place
pub mapped_at : {A B : Type 0} (f : A → B) (xs : List A) (ys : List B) (i : ℕ) (y : B) → map f xs ≡ ys → slice_get ys i ≡ Some y → (a : A) × (slice_get xs i ≡ Some a) × (f a ≡ y)
mapped_at f xs ys i y e is = some_mapped f (slice_get xs i) y (sym (slice_get-map f xs i) ∙ ap (λ l. slice_get l i) e ∙ is)

-- each transcript begins with the introduction
pub record BeginsWith (m : Msg) (messages : List Msg) : Type 0 where
  pub more : List Msg
  pub is : messages ≡ m ∷ more

script_begins : (kind : PortKind) (ch : Channel) (sends : List Sent) (position : Position) (u : ℕ) → BeginsWith (introduction kind ch) (script_upto kind ch sends position u).messages
unfolding script_upto
script_begins kind ch sends position zero = record { more = []; is = refl }
script_begins kind ch sends position (suc u) = longer _ _ (script_begins kind ch sends position u)
  where
    longer : (xs ys : List Msg) → BeginsWith (introduction kind ch) xs → BeginsWith (introduction kind ch) (xs ++ ys)
    longer xs ys begins = record { more = begins.more ++ ys; is = ap (λ l. l ++ ys) begins.is }

first_of : (m : Msg) (xs ys : List Msg) (x : Msg) (more : List Msg) → BeginsWith m (xs ++ ys) → xs ≡ x ∷ more → x ≡ m
first_of m xs ys x more begins e = (let same : x ∷ (more ++ ys) ≡ m ∷ begins.more = ap (λ l. l ++ ys) (sym e) ∙ begins.is in cc)

-- what a port says first is what the port at the other end must hear first
introductions : (ch : Channel) (kind : PortKind) (plan : PortPlan) → kind ≡ partner plan.kind → IsPlannedBy ch plan → introduction kind ch ≡ introduction_to plan
introductions ch kind plan kinds planned = ap₂ (λ k (times : ℕ × ℕ). record { at = 0; body = Intro (expected k times.0 times.1) }) kinds (ap₂ (λ latency interval. (latency, interval)) planned.latency planned.interval)

none_begun : (l : List Msg) → has_begun l ≡ false → l ≡ []
none_begun [] e = refl
none_begun (m ∷ more) e = absurd cc

module _ {V : Type 0} (b : Behaviour V) (settled : V → ℕ → Type 0) (starts : List V) (links : List Link) (end : ℕ) (mesh : State V) (of : IsMeshOf b settled starts links end mesh) where
  abbrev net : Network V
  net = network b starts links

  -- each runner stands
  pub record IsStanding (c : ℕ) (r : Runner V) : Type 0 where
    pub start : V
    pub starts_so : slice_get starts c ≡ Some start
    pub stands : Stands b settled start (of.positions c) (of_component c of.received) (of_component c of.sent) r

  pub standing : (c : ℕ) (r : Runner V) → slice_get mesh.runners c ≡ Some r → IsStanding c r
  standing c r is = (let there : (s : V) × (slice_get starts c ≡ Some s) = there_below starts c (let within : c < length mesh.runners = slice_get_within mesh.runners c r is in let same : length mesh.runners ≡ length starts = of.whole.as_many in omega arith) in record { start = there.0; starts_so = there.1; stands = of.whole.standing c there.0 r there.1 is })

  -- a channel by its number
  pub record IsChannelAt (k : ℕ) (way : Way) : Type 0 where
    pub ch : Channel
    pub at : slice_get (channels links) k ≡ Some ch
    pub is : way_of ch ≡ way

  pub channel_at : (k : ℕ) (way : Way) → slice_get mesh.ways k ≡ Some way → IsChannelAt k way
  channel_at k way is = (let there : (ch : Channel) × (slice_get (channels links) k ≡ Some ch) × (way_of ch ≡ way) = mapped_at way_of (channels links) mesh.ways k way (sym of.ways) is in record { ch = there.0; at = there.1; is = there.2 })

  -- the runner of a component that has a port
  pub record HasPort (at : End) : Type 0 where
    pub runner : Runner V
    pub there : slice_get mesh.runners at.component ≡ Some runner
    pub start : V
    pub starts_so : slice_get starts at.component ≡ Some start
    pub stands : Stands b settled start (of.positions at.component) (of_component at.component of.received) (of_component at.component of.sent) runner
    pub kind : PortKind
    pub port_is : slice_get (b.ports start) at.port ≡ Some kind
    pub kind_is : kind_at (map b.ports starts) at ≡ Some kind
    pub incoming : In
    pub in_at : slice_get runner.incoming at.port ≡ Some incoming
    pub in_kind : incoming.plan.kind ≡ kind
    pub outgoing : Out
    pub out_at : slice_get runner.outgoing at.port ≡ Some outgoing
    pub out_kind : outgoing.plan.kind ≡ kind

  has_port : (at : End) → IsOwned net at → HasPort at
  has_port at own = record {
    runner = runner_there.0;
    there = runner_there.1;
    start = own.start;
    starts_so = own.owner;
    stands = stands;
    kind = own.kind;
    port_is = own.there;
    kind_is = ap (λ o. option_kind o) (slice_get-map b.ports starts at.component ∙ ap (option_map b.ports) own.owner) ∙ own.there;
    incoming = in_there.0;
    in_at = in_there.1;
    in_kind = in_there.2;
    outgoing = out_there.0;
    out_at = out_there.1;
    out_kind = ap (λ (p : PortPlan). p.kind) out_there.2 ∙ in_there.2;
  }
    where
      option_kind : Option (List PortKind) → Option PortKind
      option_kind None = None
      option_kind (Some ports) = slice_get ports at.port

      runner_there : (r : Runner V) × (slice_get mesh.runners at.component ≡ Some r)
      runner_there = there_below mesh.runners at.component (let within : at.component < length starts = slice_get_within starts at.component own.start own.owner in let same : length mesh.runners ≡ length starts = of.whole.as_many in omega arith)

      stands : Stands b settled own.start (of.positions at.component) (of_component at.component of.received) (of_component at.component of.sent) runner_there.0
      stands = of.whole.standing at.component own.start runner_there.0 own.owner runner_there.1

      in_there : (i : In) × (slice_get runner_there.0.incoming at.port ≡ Some i) × (i.plan.kind ≡ own.kind)
      in_there = mapped_at (λ (i : In). i.plan.kind) runner_there.0.incoming (b.ports own.start) at.port own.kind stands.fitted.kinds own.there

      out_there : (o : Out) × (slice_get runner_there.0.outgoing at.port ≡ Some o) × (o.plan ≡ in_there.0.plan)
      out_there = mapped_at (λ (o : Out). o.plan) runner_there.0.outgoing (map (λ (i : In). i.plan) runner_there.0.incoming) at.port in_there.0.plan stands.fitted.same_plans (slice_get-map (λ (i : In). i.plan) runner_there.0.incoming at.port ∙ ap (option_map (λ (i : In). i.plan)) in_there.1)

  module _ (k : ℕ) (ch : Channel) (is : slice_get (channels links) k ≡ Some ch) where
    pub sender : HasPort ch.from
    sender = has_port ch.from (owned net ch.from (channel_joined net of.wired k ch is).at_sender)

    pub receiver : HasPort ch.to
    receiver = has_port ch.to (owned net ch.to (channel_joined net of.wired k ch is).at_receiver)

    pub between : HasCarrier (map b.ports starts) ch k (of.sent ch.from) (of.received ch.to) mesh.carriers
    between = of.carriers k ch is

    way_there : IsWay (map b.ports starts) ch.from ch
    way_there = way_out (map b.ports starts) links ch.from ch of.wired.links_join (out_is net of.wired k ch is)

    pub sent_kind : kind_sent between.carrier ≡ partner sender.outgoing.plan.kind
    sent_kind = same_Some _ _ (sym between.kind ∙ way_there.to_partner ∙ ap (option_map partner) sender.kind_is) ∙ ap partner (sym sender.out_kind)

    pub receiver_kind : kind_sent between.carrier ≡ receiver.incoming.plan.kind
    receiver_kind = same_Some _ _ (sym between.kind ∙ receiver.kind_is) ∙ sym receiver.in_kind

    made : HasMade (of.positions ch.from.component) (run_upto b sender.start (of.positions ch.from.component) (of_component ch.from.component of.received) sender.runner.end) sender.runner.end ch.from.port (of.sent ch.from) sender.outgoing
    made = sender.stands.made ch.from.port sender.outgoing sender.out_at

    -- what carries the channel stands for what was sent
    pub for_sent : StandsSent between.carrier (of.sent ch.from)
    for_sent = (ends between.carrier (of.sent ch.from) (of.received ch.to) between.carries).sends

    -- and the message that waits at its sender is next
    pub next_streams : (m : Msg) (more : List Msg) → outbox_in sender.runner.outgoing ch.from.port ≡ m ∷ more → IsStream (kind_sent between.carrier) (of.sent ch.from ++ m ∷ [])
    next_streams m more waits = subst (λ kind. IsStream kind (of.sent ch.from ++ m ∷ [])) (sym sent_kind) (stream_so_far (partner sender.outgoing.plan.kind) (of.sent ch.from) m more (subst (IsStream (partner sender.outgoing.plan.kind)) (ap (λ l. of.sent ch.from ++ l) (sym (ap outbox_at sender.out_at) ∙ waits) ∙ sym (append_assoc (of.sent ch.from) (m ∷ []) more)) made.stream))

    -- the first message of a channel is its introduction
    pub first_is : introduced_at (slice_get receiver.runner.incoming ch.to.port) ≡ false → (m : Msg) (after : Carrier) → Pops between.carrier m after → IsIntroduction receiver.runner ch.to.port m
    first_is none m after pops = record { is = receiver.incoming; there = receiver.in_at; introduction = first_of (introduction sender.outgoing.plan.kind ch) (of.sent ch.from) sender.outgoing.outbox m next.rest begins sent_is ∙ same }
      where
        next : IsNext m (of.sent ch.from) (of.received ch.to)
        next = in_order between.carrier after m (of.sent ch.from) (of.received ch.to) between.carries pops

        heard : HasReceived (of.positions ch.to.component) ch.to.port (of.received ch.to) receiver.incoming
        heard = receiver.stands.heard ch.to.port receiver.incoming receiver.in_at

        nothing : of.received ch.to ≡ []
        nothing = none_begun (of.received ch.to) (sym heard.introduced ∙ sym (ap introduced_at receiver.in_at) ∙ none)

        sent_is : of.sent ch.from ≡ m ∷ next.rest
        sent_is = next.parts ∙ ap (λ l. l ++ m ∷ next.rest) nothing

        leads : LeadsOut ch ch.from.port sender.outgoing.plan
        leads = (let planned : IsPlannedBy ch sender.outgoing.plan = (of.whole.joined k ch is).sender sender.runner sender.outgoing sender.there sender.out_at in record { from_port = refl; latency = planned.latency; interval = planned.interval })

        begins : BeginsWith (introduction sender.outgoing.plan.kind ch) (of.sent ch.from ++ sender.outgoing.outbox)
        begins = subst (BeginsWith (introduction sender.outgoing.plan.kind ch)) (ap (λ (s : Script). s.messages) (made.script ch leads)) (script_begins sender.outgoing.plan.kind ch _ _ _)

        same : introduction sender.outgoing.plan.kind ch ≡ introduction_to receiver.incoming.plan
        same = introductions ch sender.outgoing.plan.kind receiver.incoming.plan (sym (partner_back sender.outgoing.plan.kind) ∙ ap partner (sym sent_kind ∙ receiver_kind)) ((of.whole.joined k ch is).receiver receiver.runner receiver.incoming receiver.there receiver.in_at)

pub ready_in : {V : Type 0} (b : Behaviour V) (settled : V → ℕ → Type 0) → IsLawful b settled → (mesh : State V) → IsMesh b settled mesh → (c : ℕ) (r : Runner V) → slice_get mesh.runners c ≡ Some r → IsReady b settled r
ready_in b settled lawful mesh (starts, links, end, of) c r is = (let at : IsStanding b settled starts links end mesh of c r = standing b settled starts links end mesh of c r is in is_ready b settled lawful at.start _ _ _ r at.stands)

-- the runner at the end of a channel that sends, and what carries the channel
pub record HasSender {V : Type 0} (mesh : State V) (k : ℕ) (way : Way) : Type 0 where
  pub runner : Runner V
  pub there : slice_get mesh.runners way.from.component ≡ Some runner
  pub outgoing : Out
  pub out_at : slice_get runner.outgoing way.from.port ≡ Some outgoing
  pub carrier : Carrier
  pub between : slice_get mesh.carriers k ≡ Some carrier
  pub may_send : MaySendNext runner way.from.port (kind_sent carrier) (StandsSent carrier)

pub sender_in : {V : Type 0} (b : Behaviour V) (settled : V → ℕ → Type 0) (mesh : State V) → IsMesh b settled mesh → (k : ℕ) (way : Way) → slice_get mesh.ways k ≡ Some way → HasSender mesh k way
sender_in {V} b settled mesh (starts, links, end, of) k way leads = subst (HasSender mesh k) at.is (sent_from at.ch at.at)
  where
    at : IsChannelAt b settled starts links end mesh of k way
    at = channel_at b settled starts links end mesh of k way leads

    sent_from : (ch : Channel) → slice_get (channels links) k ≡ Some ch → HasSender mesh k (way_of ch)
    sent_from ch is = record {
      runner = port.runner;
      there = port.there;
      outgoing = port.outgoing;
      out_at = port.out_at;
      carrier = own.carrier;
      between = own.there;
      may_send = λ m more waits. record {
        sent = of.sent ch.from;
        is_sent = for_sent b settled starts links end mesh of k ch is;
        streams = next_streams b settled starts links end mesh of k ch is m more waits;
      };
    }
      where
        port : HasPort b settled starts links end mesh of ch.from
        port = sender b settled starts links end mesh of k ch is

        own : HasCarrier (map b.ports starts) ch k (of.sent ch.from) (of.received ch.to) mesh.carriers
        own = between b settled starts links end mesh of k ch is

-- the runner at the end that receives
pub record HasReceiver {V : Type 0} (mesh : State V) (k : ℕ) (way : Way) : Type 0 where
  pub runner : Runner V
  pub there : slice_get mesh.runners way.to.component ≡ Some runner
  pub incoming : In
  pub in_at : slice_get runner.incoming way.to.port ≡ Some incoming
  pub carrier : Carrier
  pub between : slice_get mesh.carriers k ≡ Some carrier
  pub first_is : introduced_at (slice_get runner.incoming way.to.port) ≡ false → (m : Msg) (after : Carrier) → Pops carrier m after → IsIntroduction runner way.to.port m

pub receiver_in : {V : Type 0} (b : Behaviour V) (settled : V → ℕ → Type 0) (mesh : State V) → IsMesh b settled mesh → (k : ℕ) (way : Way) → slice_get mesh.ways k ≡ Some way → HasReceiver mesh k way
receiver_in {V} b settled mesh (starts, links, end, of) k way leads = subst (HasReceiver mesh k) at.is (received_at at.ch at.at)
  where
    at : IsChannelAt b settled starts links end mesh of k way
    at = channel_at b settled starts links end mesh of k way leads

    received_at : (ch : Channel) → slice_get (channels links) k ≡ Some ch → HasReceiver mesh k (way_of ch)
    received_at ch is = record {
      runner = port.runner;
      there = port.there;
      incoming = port.incoming;
      in_at = port.in_at;
      carrier = own.carrier;
      between = own.there;
      first_is = first_is b settled starts links end mesh of k ch is;
    }
      where
        port : HasPort b settled starts links end mesh of ch.to
        port = receiver b settled starts links end mesh of k ch is

        own : HasCarrier (map b.ports starts) ch k (of.sent ch.from) (of.received ch.to) mesh.carriers
        own = between b settled starts links end mesh of k ch is

-- what carries a channel carries some lists
pub carrying_in : {V : Type 0} (b : Behaviour V) (settled : V → ℕ → Type 0) (mesh : State V) → IsMesh b settled mesh → (k : ℕ) (way : Way) (carrier : Carrier) → slice_get mesh.ways k ≡ Some way → slice_get mesh.carriers k ≡ Some carrier → IsCarrying carrier
carrying_in {V} b settled mesh (starts, links, end, of) k way carrier leads there =
    let at : IsChannelAt b settled starts links end mesh of k way = channel_at b settled starts links end mesh of k way leads in
    let own : HasCarrier (map b.ports starts) at.ch k (of.sent at.ch.from) (of.received at.ch.to) mesh.carriers = of.carriers k at.ch at.at in
    subst IsCarrying (same_Some own.carrier carrier (sym own.there ∙ there)) (record { sent = of.sent at.ch.from; received = of.received at.ch.to; both = own.carries })

pub carrier_there : {V : Type 0} (b : Behaviour V) (settled : V → ℕ → Type 0) (mesh : State V) → IsMesh b settled mesh → (k : ℕ) (way : Way) → slice_get mesh.ways k ≡ Some way → k < length mesh.carriers
carrier_there {V} b settled mesh (starts, links, end, of) k way leads =
    let at : IsChannelAt b settled starts links end mesh of k way = channel_at b settled starts links end mesh of k way leads in
    let own : HasCarrier (map b.ports starts) at.ch k (of.sent at.ch.from) (of.received at.ch.to) mesh.carriers = of.carriers k at.ch at.at in
    slice_get_within mesh.carriers k own.carrier own.there
