-- What a part of a crew has sent and received after turns of which the last may have failed.
use Rattle.std.proofs.Common.{◌≡◌, ℕ, zero, suc, ◌<◌, List, [], ◌∷◌, ◌++◌, length, map, Some, option_map, refl, sym, ap, ap₂, ◌∙◌, arith}
use Rattle.std.specs.Prelude.{slice_get, option_and_then, ⊤}
use Rattle.std.proofs.lemmas.Option.{same_Some, slice_get_within}
use Rattle.atomic_table.specs.Seated.{TableId}
use Rattle.cs_base.specs.declared.link.Link.{Link}
use Rattle.cs_base.specs.declared.port_kind.PortKind.{PortKind}
use Rattle.cs_base.specs.declared.port_kind.PortKind.TheVariants.{Eth, PcieDev, PcieHost, MemDev, MemHost}
use Rattle.cs_base.specs.Plan.{IsPlan, kind_at, partner}
use Rattle.sb_intro.specs.Expected.{expected}
use Rattle.sb_message.specs.declared.message.Body.TheVariants as body
use Rattle.sb_message.specs.declared.message.Msg.{Msg}
use Rattle.device_api.specs.Behaviour.{Behaviour, IsLawful}
use Rattle.device_api.specs.Channels.{Channel, channels}
use Rattle.device_api.specs.Position.{Position, script_upto}
use Rattle.device_api.specs.Transcript.{Script, introduction}
use Rattle.device_api.specs.World.{Sent, sends_by}
use Rattle.global_model.specs.Step.{network}
use Rattle.global_model.proofs.Ways.{way_out}
use Rattle.mesh_core.specs.Start.{plan_at, plans_of}
use Rattle.mesh_core.proofs.Runners.{plan_is, plan_back}
use Rattle.mesh_core.proofs.Started.{IsMadeOf, made_of}
use Rattle.run_laws.specs.NextEvent.{with_port}
use Rattle.run_laws.specs.Wired.{IsChannel}
use Rattle.run_laws.proofs.Channels.{out_is}
use Rattle.run_laws.proofs.Lists.{there_below}
use Rattle.slot_queue.specs.declared.ends.TxEnd.{TxEnd}
use Rattle.slot_queue.specs.declared.ends.RxEnd.{RxEnd}
use Rattle.slot_queue.specs.EndLaws.{push_adds, push_kind, refusal_keeps, refusal_kind, pop_adds, pop_streams, pop_kind, empty_keeps, empty_kind}
use Rattle.sync_laws.specs.Stands.{Stands, HasMade, LeadsOut, run_upto}
use Rattle.sync_laws.proofs.Changed.{get_mapped, mapped_at, port_same}
use Rattle.sync_rule.specs.declared.port_plan.PortPlan.{PortPlan}
use Rattle.sync_rule.specs.declared.run_bad.RunBad.{RunBad}
use Rattle.sync_rule.specs.declared.run_bad.RunBad.TheVariants.{WrongIntro, NoMemory}
use Rattle.sync_rule.specs.declared.runner.Runner.{Runner}
use Rattle.sync_rule.specs.Ports.{In, Out}
use Rattle.sync_rule.specs.Steps.{IsIntroduction}
use Rattle.sync_drive.specs.Standing.{SentOn, TxsStand, RxsStand, IntoFailed, FailedFrom}
use Rattle.sync_drive.specs.Standing.IntoFailed.{as_received, wrongly_introduced}
use Rattle.sync_drive.specs.Tries.{SendsRan, PollsFailed}
use Rattle.sync_drive.specs.Turns.{Failed}
use Rattle.sync_drive.specs.Turns.Failed.{in_polls, in_events}
use Rattle.sync_drive.proofs.Failures.{failure_stands}
use Rattle.sync_drive.proofs.Kept.{sends_stand, polls_length}
use Rattle.sync_drive.proofs.Plans.{sends_keep}
use Rattle.run_threads.specs.declared.part.Part.{Part}
use Rattle.run_threads.specs.Parts.{tx_kind, tx_stands, tx_pushes, tx_refuses, rx_kind, rx_stands, rx_pops, rx_empties, PartBroke, number_or}
use Rattle.run_threads.specs.CrewOf.{IsPartOf}
use Rattle.run_threads.specs.Seating.{HasChannel}
use Rattle.run_threads.proofs.SeatedCrew.{channel_of}
use Rattle.run_threads.proofs.Wires.{have_tos}

partner_back : (kind : PortKind) → partner (partner kind) ≡ kind
partner_back Eth = refl
partner_back PcieDev = refl
partner_back PcieHost = refl
partner_back MemDev = refl
partner_back MemHost = refl

-- A TRANSCRIPT BEGINS WITH THE INTRODUCTION

record BeginsWith (m : Msg) (messages : List Msg) : Type 0 where
  more : List Msg
  is : messages ≡ m ∷ more

longer : (m : Msg) (xs ys : List Msg) → BeginsWith m xs → BeginsWith m (xs ++ ys)
longer m xs ys begins = record { more = begins.more ++ ys; is = ap (λ l. l ++ ys) begins.is }

script_begins : (kind : PortKind) (ch : Channel) (sends : List Sent) (position : Position) (u : ℕ) → BeginsWith (introduction kind ch) (script_upto kind ch sends position u).messages
unfolding script_upto
script_begins kind ch sends position zero = record { more = []; is = refl }
script_begins kind ch sends position (suc u) = longer (introduction kind ch) _ _ (script_begins kind ch sends position u)

begins_so : (m x : Msg) (l xs ys : List Msg) → BeginsWith m l → l ≡ xs ++ ys → (more : List Msg) → xs ≡ x ∷ more → x ≡ m
begins_so m x l xs ys begins is more first = same_Some x m (ap (λ y. slice_get y 0) (sym (is ∙ ap (λ z. z ++ ys) first) ∙ begins.is))

-- A TURN THAT FAILED

-- the sends of a turn that failed
record SentIn {V : Type 0} (old : Runner V) (txs txs' : List TxEnd) : Type 0 where
  sends : ℕ
  mid : Runner V
  ran : SendsRan tx_pushes tx_refuses old txs (length txs) sends mid txs'

sent_in : {V : Type 0} (old : Runner V) (txs : List TxEnd) (rxs : List RxEnd) (new : Runner V) (txs' : List TxEnd) (rxs' : List RxEnd) (bad : RunBad) → Failed tx_pushes tx_refuses rx_pops rx_empties old txs rxs new txs' rxs' bad → SentIn old txs txs'
sent_in old txs rxs new txs' rxs' _ (in_polls sends mid bad ran failed) = record { sends = sends; mid = mid; ran = ran }
sent_in old txs rxs new txs' rxs' _ (in_events sends receipts mid late ran polled) = record { sends = sends; mid = mid; ran = ran }

-- a wrong introduction came in at a port that is there
abbrev IsThereFor : ℕ → RunBad → Type 0
IsThereFor ports NoMemory = ⊤
IsThereFor ports (WrongIntro port found) = port < ports

polled_there : {V : Type 0} (old : Runner V) (rxs : List RxEnd) (new : Runner V) (rxs' : List RxEnd) (bad : RunBad) → PollsFailed rx_pops rx_empties old rxs new rxs' bad → IsThereFor (length rxs) bad
polled_there old rxs new rxs' NoMemory failed = tt
polled_there old rxs new rxs' (WrongIntro port found) failed = (let at : port ≡ failed.port = failed.failed.polled in let within : failed.port < length failed.ends = slice_get_within failed.ends failed.port failed.before failed.there in let many : length failed.ends ≡ length rxs = polls_length rx_pops rx_empties old rxs failed.port failed.receipts failed.mid failed.ends failed.so_far in omega arith)

port_there : {V : Type 0} (old : Runner V) (txs : List TxEnd) (rxs : List RxEnd) (new : Runner V) (txs' : List TxEnd) (rxs' : List RxEnd) (bad : RunBad) → Failed tx_pushes tx_refuses rx_pops rx_empties old txs rxs new txs' rxs' bad → IsThereFor (length rxs) bad
port_there old txs rxs new txs' rxs' _ (in_polls sends mid bad ran failed) = polled_there mid rxs new rxs' bad failed
port_there old txs rxs new txs' rxs' _ (in_events sends receipts mid late ran polled) = tt

-- what its receiving ends then stand for
record IsWrongInto {V : Type 0} (ports : List PortKind) (r : Runner V) (received : ℕ → List Msg) (rxs : List RxEnd) (port : ℕ) (found : Msg) : Type 0 where
  wrong : IsIntroduction r port found → ⊥
  ends : RxsStand rx_kind rx_stands ports (with_port port (found ∷ []) received) rxs

abbrev IntoBy : {V : Type 0} → List PortKind → Runner V → (ℕ → List Msg) → List RxEnd → RunBad → Type 0
IntoBy ports r received rxs NoMemory = ⊤
IntoBy ports r received rxs (WrongIntro port found) = IsWrongInto ports r received rxs port found

into_by : {V : Type 0} (ports : List PortKind) (r : Runner V) (received : ℕ → List Msg) (rxs : List RxEnd) (bad : RunBad) → IntoFailed rx_kind rx_stands ports r received rxs bad → IntoBy ports r received rxs bad
into_by ports r received rxs _ (as_received ends) = tt
into_by ports r received rxs _ (wrongly_introduced port found none wrong ends) = record { wrong = wrong; ends = ends }

module _ {V : Type 0} (b : Behaviour V) (settled : V → ℕ → Type 0) (lawful : IsLawful b settled) (starts : List V) (links : List Link) (end : ℕ) (near far : List TableId) (wired : IsPlan end (map b.ports starts) links) where
  -- WHAT WAS SENT

  -- a runner stands that has sent what the sending ends have
  pub record HasSent (c : ℕ) (start : V) (txs : List TxEnd) : Type 0 where
    pub runner : Runner V
    pub position : Position
    pub received : ℕ → List Msg
    pub sent : ℕ → List Msg
    pub stands : Stands b settled start position received sent runner
    pub plans : map (λ (o : Out). o.plan) runner.outgoing ≡ plans_of links c (b.ports start)
    pub out : TxsStand tx_kind tx_stands (b.ports start) sent txs

  pub still_sent : (c : ℕ) (start : V) (part : Part V) → IsPartOf b settled links end near far c start part → HasSent c start part.driver.txs.items
  still_sent c start part is = record {
    runner = part.driver.runner;
    position = is.stands.position;
    received = is.stands.received;
    sent = is.stands.sent;
    stands = is.stands.runner;
    plans = is.plans;
    out = is.stands.out;
  }

  pub broken_sent : (c : ℕ) (start : V) (old new : Part V) (bad : RunBad) → IsPartOf b settled links end near far c start old → PartBroke old new bad → HasSent c start new.driver.txs.items
  broken_sent c start old new bad is broke =
      let made : SentIn old.driver.runner old.driver.txs.items new.driver.txs.items = sent_in old.driver.runner old.driver.txs.items old.driver.rxs.items new.driver.runner new.driver.txs.items new.driver.rxs.items bad broke.failed in
      let now : SentOn b settled tx_kind tx_stands start is.stands.position is.stands.received made.mid new.driver.txs.items = sends_stand b settled lawful tx_kind tx_stands start is.stands.position is.stands.received tx_pushes tx_refuses (λ x y m sent pushed of stream. push_adds x.seat y.seat m sent pushed of) (λ x y m pushed. push_kind x.seat y.seat m pushed) (λ x y sent refused of. refusal_keeps x.seat y.seat sent refused of) (λ x y refused. refusal_kind x.seat y.seat refused) old.driver.runner old.driver.txs.items (record { sent = is.stands.sent; runner = is.stands.runner; ends = is.stands.out }) (length old.driver.txs.items) made.sends made.mid new.driver.txs.items made.ran in
      record {
        runner = made.mid;
        position = is.stands.position;
        received = is.stands.received;
        sent = now.sent;
        stands = now.runner;
        plans = (sends_keep tx_pushes tx_refuses old.driver.runner old.driver.txs.items (length old.driver.txs.items) made.sends made.mid new.driver.txs.items made.ran).outs ∙ is.plans;
        out = now.ends;
      }

  module _ (k : ℕ) (ch : Channel) (at : slice_get (channels links) k ≡ Some ch) (start : V) (kind : PortKind) (is_channel : IsChannel (network b starts links) ch start kind) (txs : List TxEnd) (has : HasSent ch.from.component start txs) where
    abbrev p : ℕ
    p = ch.from.port

    in_at : (i : In) × (slice_get has.runner.incoming p ≡ Some i) × (i.plan.kind ≡ kind)
    in_at = mapped_at (λ (i : In). i.plan.kind) has.runner.incoming (b.ports start) p kind has.stands.fitted.kinds is_channel.sending_port

    out_at : (o : Out) × (slice_get has.runner.outgoing p ≡ Some o) × (o.plan ≡ in_at.0.plan)
    out_at = mapped_at (λ (o : Out). o.plan) has.runner.outgoing (map (λ (i : In). i.plan) has.runner.incoming) p in_at.0.plan has.stands.fitted.same_plans (get_mapped (λ (i : In). i.plan) has.runner.incoming p in_at.0 in_at.1)

    abbrev o : Out
    o = out_at.0

    planned : (x : PortKind) × (o.plan ≡ record { kind = x; latency = ch.latency; interval = ch.interval })
    planned =
        let at_plan : slice_get (plans_of links ch.from.component (b.ports start)) p ≡ Some o.plan = sym (ap (λ l. slice_get l p) has.plans) ∙ get_mapped (λ (x : Out). x.plan) has.runner.outgoing p o out_at.1 in
        let made : IsMadeOf (plan_at links ch.from.component) p (b.ports start) o.plan = made_of (plan_at links ch.from.component) p (b.ports start) o.plan at_plan in
        (made.x, made.is ∙ plan_is b starts links end wired k ch at made.x)

    leads : LeadsOut ch p o.plan
    leads = record { from_port = refl; latency = sym (ap (λ (x : PortPlan). x.latency) planned.1); interval = sym (ap (λ (x : PortPlan). x.interval) planned.1) }

    made : HasMade has.position (run_upto b start has.position has.received has.runner.end) has.runner.end p (has.sent p) o
    made = has.stands.made p o out_at.1

    pub begins_well : (one : TxEnd) → slice_get txs p ≡ Some one → (first : Msg) (more : List Msg) → one.seat.sent ≡ first ∷ more → first ≡ introduction kind ch
    begins_well one there first more is =
        begins_so (introduction o.plan.kind ch) first _ (has.sent p) o.outbox (script_begins o.plan.kind ch (sends_by ch.from.port (run_upto b start has.position has.received has.runner.end).sent) has.position has.runner.end) (ap (λ (s : Script). s.messages) (made.script ch leads)) more (sym (has.out.each p one there) ∙ is) ∙ ap (λ x. introduction x ch) (ap (λ (x : PortPlan). x.kind) out_at.2 ∙ in_at.2)

  -- WHAT WAS WRONGLY RECEIVED

  pub record IsWrongAt (c : ℕ) (part : Part V) (arrivals : List ℕ) (port : ℕ) : Type 0 where
    pub number : ℕ
    pub channel : Channel
    pub at_number : slice_get (channels links) number ≡ Some channel
    pub component_is : channel.to.component ≡ c
    pub port_is : channel.to.port ≡ port
    pub numbered : number_or (slice_get arrivals port) ≡ number
    pub one : RxEnd
    pub there : slice_get part.driver.rxs.items port ≡ Some one
    pub found : Msg
    pub received : one.seat.received ≡ found ∷ []
    pub wrong : (from : V) (kind : PortKind) → IsChannel (network b starts links) channel from kind → found ≡ introduction kind channel → ⊥

  module _ (c : ℕ) (start : V) (here : slice_get starts c ≡ Some start) (old new : Part V) (port : ℕ) (found : Msg) (is : IsPartOf b settled links end near far c start old) (broke : PartBroke old new (WrongIntro port found)) where
    failed : FailedFrom b settled tx_kind tx_stands rx_kind rx_stands start old.driver.runner new.driver.txs.items new.driver.rxs.items (WrongIntro port found)
    failed = failure_stands b settled lawful tx_kind tx_stands rx_kind rx_stands rx_pops rx_empties (λ x y m received popped of. pop_adds x.seat y.seat m received popped of) (λ x y m received popped of. pop_streams x.seat y.seat m received popped of) (λ x y m popped. pop_kind x.seat y.seat m popped) (λ x y received emptied of. empty_keeps x.seat y.seat received emptied of) (λ x y emptied. empty_kind x.seat y.seat emptied) tx_pushes tx_refuses (λ x y m sent pushed of stream. push_adds x.seat y.seat m sent pushed of) (λ x y m pushed. push_kind x.seat y.seat m pushed) (λ x y sent refused of. refusal_keeps x.seat y.seat sent refused of) (λ x y refused. refusal_kind x.seat y.seat refused) start old.driver.runner old.driver.txs.items old.driver.rxs.items is.stands new.driver.runner new.driver.txs.items new.driver.rxs.items (WrongIntro port found) broke.failed

    into : IsWrongInto (b.ports start) old.driver.runner failed.received new.driver.rxs.items port found
    into = into_by (b.ports start) old.driver.runner failed.received new.driver.rxs.items (WrongIntro port found) failed.into

    within : port < length (b.ports start)
    within = (let below : port < length old.driver.rxs.items = port_there old.driver.runner old.driver.txs.items old.driver.rxs.items new.driver.runner new.driver.txs.items new.driver.rxs.items (WrongIntro port found) broke.failed in let many : length old.driver.rxs.items ≡ length (b.ports start) = is.stands.into.as_many in omega arith)

    end_there : (x : RxEnd) × (slice_get new.driver.rxs.items port ≡ Some x)
    end_there = there_below new.driver.rxs.items port (let many : length new.driver.rxs.items ≡ length (b.ports start) = into.ends.as_many in let below : port < length (b.ports start) = within in omega arith)

    way : HasChannel (λ (ch : Channel). ch.to) links c port
    way = channel_of (λ (ch : Channel). ch.to) links c port ((have_tos b starts links end wired c start here).each port within)

    abbrev ch : Channel
    ch = way.channel

    arrives : slice_get old.arrivals port ≡ Some way.number
    arrives = ap (slice_get old.arrivals) (sym way.port_is) ∙ is.arrives way.number way.channel way.at_number way.component_is

    kind_there : (kind : PortKind) × (slice_get (b.ports start) port ≡ Some kind)
    kind_there = there_below (b.ports start) port within

    heard_at : (i : In) × (slice_get old.driver.runner.incoming port ≡ Some i) × (i.plan.kind ≡ kind_there.0)
    heard_at = mapped_at (λ (i : In). i.plan.kind) old.driver.runner.incoming (b.ports start) port kind_there.0 is.stands.runner.fitted.kinds kind_there.1

    abbrev i : In
    i = heard_at.0

    heard_plan : (x : PortKind) × (i.plan ≡ record { kind = x; latency = ch.latency; interval = ch.interval })
    heard_plan =
        let plans : map (λ (x : In). x.plan) old.driver.runner.incoming ≡ plans_of links c (b.ports start) = sym is.stands.runner.fitted.same_plans ∙ is.plans in
        let at_plan : slice_get (plans_of links c (b.ports start)) port ≡ Some i.plan = sym (ap (λ l. slice_get l port) plans) ∙ get_mapped (λ (x : In). x.plan) old.driver.runner.incoming port i heard_at.1 in
        let made : IsMadeOf (plan_at links c) port (b.ports start) i.plan = made_of (plan_at links c) port (b.ports start) i.plan at_plan in
        (made.x, made.is ∙ ap₂ (λ d q. plan_at links d q made.x) (sym way.component_is) (sym way.port_is) ∙ plan_back b starts links end wired way.number way.channel way.at_number made.x)

    kind_to : kind_at (map b.ports starts) ch.to ≡ Some kind_there.0
    kind_to = ap (λ o. option_and_then (λ ports. slice_get ports ch.to.port) o) (ap (slice_get (map b.ports starts)) way.component_is ∙ get_mapped b.ports starts c start here) ∙ ap (slice_get (b.ports start)) way.port_is ∙ kind_there.1

    partners : (from : V) (kind : PortKind) → IsChannel (network b starts links) ch from kind → partner i.plan.kind ≡ kind
    partners from kind channel =
        let kind_from : kind_at (map b.ports starts) ch.from ≡ Some kind = ap (λ o. option_and_then (λ ports. slice_get ports ch.from.port) o) (get_mapped b.ports starts ch.from.component from channel.sender) ∙ channel.sending_port in
        let joined : kind_at (map b.ports starts) ch.to ≡ option_map partner (kind_at (map b.ports starts) ch.from) = (way_out (map b.ports starts) links ch.from ch wired.links_join (out_is (network b starts links) wired way.number ch way.at_number)).to_partner in
        let same : kind_there.0 ≡ partner kind = same_Some kind_there.0 (partner kind) (sym kind_to ∙ joined ∙ ap (option_map partner) kind_from) in
        ap partner (heard_at.2 ∙ same) ∙ partner_back kind

    introduced : (from : V) (kind : PortKind) → IsChannel (network b starts links) ch from kind → found ≡ introduction kind ch → IsIntroduction old.driver.runner port found
    introduced from kind channel same = record {
      is = i;
      there = heard_at.1;
      introduction = same ∙ ap₂ (λ (x : PortKind) (times : ℕ × ℕ). record { at = 0; body = body.Intro (expected x times.0 times.1) }) (sym (partners from kind channel)) (ap₂ (λ latency interval. (latency, interval)) (sym (ap (λ (x : PortPlan). x.latency) heard_plan.1)) (sym (ap (λ (x : PortPlan). x.interval) heard_plan.1)));
    }

    pub wrong_at : IsWrongAt c new old.arrivals port
    wrong_at = record {
      number = way.number;
      channel = way.channel;
      at_number = way.at_number;
      component_is = way.component_is;
      port_is = way.port_is;
      numbered = ap number_or arrives;
      one = end_there.0;
      there = end_there.1;
      found = found;
      received = into.ends.each port end_there.0 end_there.1 ∙ port_same port (found ∷ []) failed.received;
      wrong = λ from kind channel same. into.wrong (introduced from kind channel same);
    }
