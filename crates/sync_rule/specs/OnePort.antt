-- What one port meets when it sends or receives.
use Rattle.std.specs.Prelude.{ℕ, ◌≡◌, ◌<◌, Bool, true, false, List, [], ◌∷◌, ◌⊎◌}
use Rattle.std.specs.declared.result.Result.{Result}
use Rattle.std.specs.declared.result.Result.TheVariants.{Ok, Err}
use Rattle.cs_base.specs.declared.no_memory.NoMemory.{NoMemory}
use Rattle.cs_base.specs.declared.port_kind.PortKind.{PortKind}
use Rattle.sb_intro.specs.declared.intro.Intro.{Intro}
use Rattle.sb_message.specs.declared.message.Msg.{Msg}
use Rattle.port_queue.specs.Port.{IsNextSent}
use Rattle.sync_rule.specs.declared.port_plan.PortPlan.{PortPlan}
use Rattle.sync_rule.specs.declared.incoming.Got.{Got}
use Rattle.sync_rule.specs.declared.incoming.Got.TheVariants.{Nothing, Received, Wrong}
use Rattle.sync_rule.specs.Ports.{In, Out, introduction_to, heard, passed_on}
use Rattle.sync_rule.specs.ManyPorts.{AtPort}

-- the first message of a port isn't its introduction
pub record IsWrong (introduced : Bool) (plan : PortPlan) (m : Msg) : Type 0 where
  pub first : introduced ≡ false
  pub wrong : m ≡ introduction_to plan → ⊥

-- what was found of a message: it is wrong, or it is the introduction if it is the first
abbrev pub Judged : Bool → PortPlan → Msg → Bool → Type 0
Judged introduced plan m true = IsWrong introduced plan m
Judged introduced plan m false = introduced ≡ false → m ≡ introduction_to plan

-- two introductions have the same fields
pub record SameFields (a b : Intro) : Type 0 where
  pub version : a.version ≡ b.version
  pub kind : a.kind ≡ b.kind
  pub latency : a.latency ≡ b.latency
  pub interval : a.interval ≡ b.interval
  pub bar_len : a.bar_len ≡ b.bar_len

-- a message was received, which is the introduction if it is the first
pub record HearsOne (pops : Msg → Type 0) (old new : In) : Type 0 where
  pub m : Msg
  pub popped : pops m
  pub first : old.introduced ≡ false → m ≡ introduction_to old.plan
  pub is : new ≡ heard m old

pub record HearsWrong (pops : Msg → Type 0) (old : In) (m : Msg) : Type 0 where
  pub popped : pops m
  pub wrong : IsWrong old.introduced old.plan m

abbrev pub Hears : (Msg → Type 0) → Type 0 → Type 0 → In → In → Result Got NoMemory → Type 0
Hears pops empties untouched old new (Ok Received) = HearsOne pops old new
Hears pops empties untouched old new (Ok Nothing) = empties × (new ≡ old)
Hears pops empties untouched old new (Ok (Wrong m)) = HearsWrong pops old m
Hears pops empties untouched old new (Err e) = untouched

-- nothing waits, and it has not heard far enough
pub record BarsHere (i : In) (needed : ℕ) : Type 0 where
  pub quiet : i.inbox ≡ []
  pub short : i.bound < needed

-- what waited first was pushed
pub record PassesOne (pushes : Msg → Type 0) (old new : Out) : Type 0 where
  pub m : Msg
  pub more : List Msg
  pub waited : old.outbox ≡ m ∷ more
  pub pushed : pushes m
  pub is : new ≡ passed_on old

-- nothing was sent
pub record KeepsAll (refuses untouched : Type 0) (old new : Out) : Type 0 where
  pub cause : ((old.outbox ≡ []) × untouched) ⊎ refuses
  pub unchanged : new ≡ old

abbrev pub PassesOn : (Msg → Type 0) → Type 0 → Type 0 → Out → Out → Bool → Type 0
PassesOn pushes refuses untouched old new true = PassesOne pushes old new
PassesOn pushes refuses untouched old new false = KeepsAll refuses untouched old new

-- the same by an end of a channel, with its relations, as it was and as it is; and at one port of many
abbrev pub HearsBy : {R : Type 0} → (R → Msg → R → Type 0) → (R → R → Type 0) → R → R → In → In → Result Got NoMemory → Type 0
HearsBy pops empties rx rx' old new got = Hears (λ m. pops rx m rx') (empties rx rx') (rx' ≡ rx) old new got

abbrev pub HearsAt : {R : Type 0} → (R → Msg → R → Type 0) → (R → R → Type 0) → R → R → List In → List In → ℕ → Result Got NoMemory → Type 0
HearsAt pops empties rx rx' old new port got = AtPort old new port (λ a b. HearsBy pops empties rx rx' a b got)

abbrev pub PassesOnBy : {T : Type 0} → (T → Msg → T → Type 0) → (T → T → Type 0) → T → T → Out → Out → Bool → Type 0
PassesOnBy pushes refuses tx tx' old new sent = PassesOn (λ m. pushes tx m tx') (refuses tx tx') (tx' ≡ tx) old new sent

abbrev pub PassesOnAt : {T : Type 0} → (T → Msg → T → Type 0) → (T → T → Type 0) → T → T → List Out → List Out → ℕ → Bool → Type 0
PassesOnAt pushes refuses tx tx' old new port sent = AtPort old new port (λ a b. PassesOnBy pushes refuses tx tx' a b sent)

-- the end of a channel may be given what waits first in an outbox
abbrev pub MayPass : List Msg → PortKind → (List Msg → Type 0) → Type 0
MayPass outbox kind stands = (m : Msg) (more : List Msg) → outbox ≡ m ∷ more → IsNextSent kind stands m
