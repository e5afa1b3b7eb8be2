-- The steps of a runner: one event, one message sent, one message received.
use Rattle.std.specs.Prelude.{ℕ, ◌≡◌, Bool, true, false, ◌∷◌, ◌++◌, List, [], map, slice_get, Option, Some, None, ◌⊎◌}
use Rattle.std.specs.declared.result.Result.{Result}
use Rattle.std.specs.declared.result.Result.TheVariants.{Ok, Err}
use Rattle.cs_base.specs.declared.port_kind.PortKind.{PortKind}
use Rattle.sb_message.specs.declared.message.Msg.{Msg}
use Rattle.device_api.specs.Behaviour.{Behaviour, Reaction}
use Rattle.device_api.specs.World.{logged_at}
use Rattle.port_queue.specs.Port.{IsNextSent}
use Rattle.sync_rule.specs.declared.next.Next.{Next}
use Rattle.sync_rule.specs.declared.next.Next.TheVariants.{Sync, Take, Tick}
use Rattle.sync_rule.specs.declared.port_plan.PortPlan.{PortPlan}
use Rattle.sync_rule.specs.declared.run_bad.RunBad.{RunBad}
use Rattle.sync_rule.specs.declared.run_bad.RunBad.TheVariants.{WrongIntro, NoMemory}
use Rattle.sync_rule.specs.declared.runner.Runner.{Runner}
use Rattle.sync_rule.specs.Ports.{In, first_in, first_out, introduction_to, synced, passed_on, taken, heard, at_place, post_all}
use Rattle.sync_rule.specs.ManyPorts.{IsHead, outbox_in}
use Rattle.sync_rule.specs.Next.{IsEnabled}

-- a runner at its start
abbrev pub started : {V : Type 0} → V → List PortPlan → ℕ → Runner V
started device plans end = record { device = device; log = []; incoming = map first_in plans; outgoing = map first_out plans; end = end; done = record { sends = []; lines = [] } }

-- a runner after its device reacted at t: what it logs is logged, and what it sends waits to be sent
abbrev pub after_reaction : {V : Type 0} → Runner V → ℕ → Reaction V → Runner V
after_reaction r t x = record r { device = x.state; log = r.log ++ logged_at t x.lines; outgoing = post_all t x.sends r.outgoing }

-- the three events
abbrev pub after_sync : {V : Type 0} → Runner V → ℕ → ℕ → Runner V
after_sync r port u = record r { outgoing = at_place port (synced u) r.outgoing }

abbrev pub after_take : {V : Type 0} → Behaviour V → Runner V → ℕ → Msg → Runner V
after_take b r port m = after_reaction (record r { incoming = at_place port taken r.incoming }) m.at (b.take r.device m.at port m.body)

abbrev pub after_tick : {V : Type 0} → Behaviour V → Runner V → ℕ → Runner V
after_tick b r t = after_reaction r t (b.tick r.device t)

-- what the take of a message leaves
pub record IsAfterTake {V : Type 0} (b : Behaviour V) (old new : Runner V) (port t : ℕ) : Type 0 where
  pub m : Msg
  pub head : IsHead old.incoming port m
  pub at_time : m.at ≡ t
  pub is : new ≡ after_take b old port m

-- a runner whose device's effects at a time were carried out
abbrev pub after_done : {V : Type 0} → Runner V → ℕ → Runner V
after_done r t = record r { log = r.log ++ logged_at t r.done.lines; outgoing = post_all t r.done.sends r.outgoing; done = record { sends = []; lines = [] } }

-- what an event leaves
abbrev pub IsAfter : {V : Type 0} → Behaviour V → Runner V → Next → Runner V → Type 0
IsAfter b old (Sync port u) new = new ≡ after_sync old port u
IsAfter b old (Take port t) new = IsAfterTake b old new port t
IsAfter b old (Tick t) new = new ≡ after_tick b old t

-- one event was processed, or none may be and nothing changed
pub record Processed {V : Type 0} (b : Behaviour V) (old new : Runner V) : Type 0 where
  pub next : Next
  pub enabled : IsEnabled b old next
  pub after : IsAfter b old next new

pub record IsIdle {V : Type 0} (b : Behaviour V) (old new : Runner V) : Type 0 where
  pub none : (next : Next) → IsEnabled b old next → ⊥
  pub unchanged : new ≡ old

abbrev pub Processes : {V : Type 0} → Behaviour V → Runner V → Runner V → Bool → Type 0
Processes b old new true = Processed b old new
Processes b old new false = IsIdle b old new

-- the end of a channel may be given what waits first: what it stands for, with that at its end, is a stream
abbrev pub MaySendNext : {V : Type 0} → Runner V → ℕ → PortKind → (List Msg → Type 0) → Type 0
MaySendNext r port kind stands = (m : Msg) (more : List Msg) → outbox_in r.outgoing port ≡ m ∷ more → IsNextSent kind stands m

-- what a send leaves where its push was answered Ok: the first message of the outbox was pushed
pub record Passes {V : Type 0} (pushes : Msg → Type 0) (old new : Runner V) (port : ℕ) : Type 0 where
  pub m : Msg
  pub more : List Msg
  pub waited : outbox_in old.outgoing port ≡ m ∷ more
  pub pushed : pushes m
  pub is : new ≡ record old { outgoing = at_place port passed_on old.outgoing }

-- and where nothing was sent: the push met a full channel, or the outbox is empty and there was no push
pub record Keeps {V : Type 0} (refuses untouched : Type 0) (old new : Runner V) (port : ℕ) : Type 0 where
  pub cause : ((outbox_in old.outgoing port ≡ []) × untouched) ⊎ refuses
  pub unchanged : new ≡ old

-- what a send leaves; `pushes`, `refuses` and `untouched` say what the channel's end met
abbrev pub Sends : {V : Type 0} → (Msg → Type 0) → Type 0 → Type 0 → Runner V → Runner V → ℕ → Bool → Type 0
Sends pushes refuses untouched old new port true = Passes pushes old new port
Sends pushes refuses untouched old new port false = Keeps refuses untouched old new port

-- whether the introduction of a port has come
abbrev pub introduced_at : Option In → Bool
introduced_at None = false
introduced_at (Some i) = i.introduced

-- a message is the introduction that a port must hear first
pub record IsIntroduction {V : Type 0} (r : Runner V) (port : ℕ) (m : Msg) : Type 0 where
  pub is : In
  pub there : slice_get r.incoming port ≡ Some is
  pub introduction : m ≡ introduction_to is.plan

-- a message was received, which is the port's introduction if it is the first
pub record Receives {V : Type 0} (pops : Msg → Type 0) (old new : Runner V) (port : ℕ) : Type 0 where
  pub m : Msg
  pub popped : pops m
  pub first : introduced_at (slice_get old.incoming port) ≡ false → IsIntroduction old port m
  pub is : new ≡ record old { incoming = at_place port (heard m) old.incoming }

-- the first message that came in at the port that was polled isn't its introduction
pub record IsWrongIntro {V : Type 0} (pops : Msg → Type 0) (old : Runner V) (port at : ℕ) (found : Msg) : Type 0 where
  pub polled : at ≡ port
  pub popped : pops found
  pub first : introduced_at (slice_get old.incoming port) ≡ false
  pub wrong : IsIntroduction old port found → ⊥

-- what a poll leaves: a message was received; none was there, and nothing changed; the first message is wrong; or there
-- was no memory, and nothing was popped
abbrev pub Polls : {V : Type 0} → (Msg → Type 0) → Type 0 → Type 0 → Runner V → Runner V → ℕ → Result Bool RunBad → Type 0
Polls pops empties untouched old new port (Ok true) = Receives pops old new port
Polls pops empties untouched old new port (Ok false) = empties × (new ≡ old)
Polls pops empties untouched old new port (Err (WrongIntro at found)) = IsWrongIntro pops old port at found
Polls pops empties untouched old new port (Err NoMemory) = untouched

-- the same by an end of a channel, with its relations, as it was and as it is
abbrev pub SendsBy : {V T : Type 0} → (T → Msg → T → Type 0) → (T → T → Type 0) → T → T → Runner V → Runner V → ℕ → Bool → Type 0
SendsBy pushes refuses tx tx' old new port sent = Sends (λ m. pushes tx m tx') (refuses tx tx') (tx' ≡ tx) old new port sent

abbrev pub PollsBy : {V R : Type 0} → (R → Msg → R → Type 0) → (R → R → Type 0) → R → R → Runner V → Runner V → ℕ → Result Bool RunBad → Type 0
PollsBy pops empties rx rx' old new port got = Polls (λ m. pops rx m rx') (empties rx rx') (rx' ≡ rx) old new port got
