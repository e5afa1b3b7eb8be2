-- A device that logs one line at each event does else what it did.
use Rattle.std.proofs.Common.{◌≡◌, ℕ, zero, suc, Bool, true, false, cond, List, [], ◌∷◌, ◌++◌, refl, ap, ap₂, ◌∙◌}
use Rattle.sb_message.specs.declared.message.Body.{Body}
use Rattle.sb_message.specs.declared.message.Msg.{Msg}
use Rattle.device_api.specs.Behaviour.{Behaviour, Reaction, IsLawful, IsOrderly}
use Rattle.device_api.specs.Position.{Position, is_reached, tick_key, arrivals_upto, tick_upto, react_upto, local_upto}
use Rattle.device_api.specs.World.{Arrival, Run, Sent, take_all, tick_if_due, is_at, arrivals, rest, sent_at, after}
use Rattle.run_laws.specs.Wired.{SendsEvents}
use Rattle.sync_laws.specs.ToCome.{tallied, with_one_line}

-- two reactions that differ in their lines alone, and two runs
record AreAlike {S : Type 0} (r x : Reaction S) : Type 0 where
  state : r.state ≡ x.state
  sends : r.sends ≡ x.sends

pub record RunAlike {S : Type 0} (run x : Run S) : Type 0 where
  pub state : run.state ≡ x.state
  pub sent : run.sent ≡ x.sent

module _ {S : Type 0} (b : Behaviour S) where
  takes_alike : (t : ℕ) (arrived : List Arrival) (s : S) → AreAlike (take_all (tallied b) t arrived s) (take_all b t arrived s)
  unfolding take_all
  takes_alike t [] s = record { state = refl; sends = refl }
  takes_alike t (a ∷ more) s = record { state = (takes_alike t more (b.take s t a.port a.body).state).state; sends = ap (λ l. (b.take s t a.port a.body).sends ++ l) (takes_alike t more (b.take s t a.port a.body).state).sends }

  due_alike : (t : ℕ) (s : S) → AreAlike (tick_if_due (tallied b) t s) (tick_if_due b t s)
  due_alike t s = at (is_at (b.due s) t)
    where
      at : (due : Bool) → AreAlike (cond due (with_one_line (b.tick s t)) (rest s)) (cond due (b.tick s t) (rest s))
      at true = record { state = refl; sends = refl }
      at false = record { state = refl; sends = refl }

  tick_alike : (position : Position) (t : ℕ) (s : S) → AreAlike (tick_upto (tallied b) position t s) (tick_upto b position t s)
  tick_alike position t s = at (is_reached position (tick_key t))
    where
      at : (reached : Bool) → AreAlike (cond reached (tick_if_due (tallied b) t s) (rest s)) (cond reached (tick_if_due b t s) (rest s))
      at true = due_alike t s
      at false = record { state = refl; sends = refl }

  react_alike : (position : Position) (t : ℕ) (arrived : List Arrival) (s : S) → AreAlike (react_upto (tallied b) position t arrived s) (react_upto b position t arrived s)
  react_alike position t arrived s = record {
    state = ticks.state ∙ ap (λ x. (tick_upto b position t x).state) takes.state;
    sends = ap₂ ◌++◌ takes.sends (ticks.sends ∙ ap (λ x. (tick_upto b position t x).sends) takes.state);
  }
    where
      takes : AreAlike (take_all (tallied b) t (arrivals_upto position t arrived) s) (take_all b t (arrivals_upto position t arrived) s)
      takes = takes_alike t (arrivals_upto position t arrived) s

      ticks : AreAlike (tick_upto (tallied b) position t (take_all (tallied b) t (arrivals_upto position t arrived) s).state) (tick_upto b position t (take_all (tallied b) t (arrivals_upto position t arrived) s).state)
      ticks = tick_alike position t (take_all (tallied b) t (arrivals_upto position t arrived) s).state

  -- one moment more
  moment_alike : (ports : ℕ) (inputs : ℕ → List Msg) (position : Position) (t : ℕ) (run x : Run S) → RunAlike run x → RunAlike (after t run (react_upto (tallied b) position t (arrivals t inputs ports) run.state)) (after t x (react_upto b position t (arrivals t inputs ports) x.state))
  moment_alike ports inputs position t run x before = record {
    state = now.state ∙ ap (λ s. (react_upto b position t (arrivals t inputs ports) s).state) before.state;
    sent = ap₂ (λ l sends. l ++ sent_at t sends) before.sent (now.sends ∙ ap (λ s. (react_upto b position t (arrivals t inputs ports) s).sends) before.state);
  }
    where
      now : AreAlike (react_upto (tallied b) position t (arrivals t inputs ports) run.state) (react_upto b position t (arrivals t inputs ports) run.state)
      now = react_alike position t (arrivals t inputs ports) run.state

  pub run_alike : (ports : ℕ) (inputs : ℕ → List Msg) (s : S) (position : Position) (t : ℕ) → RunAlike (local_upto (tallied b) ports inputs s position t) (local_upto b ports inputs s position t)
  unfolding local_upto
  run_alike ports inputs s position zero = record { state = refl; sent = refl }
  run_alike ports inputs s position (suc t) = moment_alike ports inputs position t (local_upto (tallied b) ports inputs s position t) (local_upto b ports inputs s position t) (run_alike ports inputs s position t)

  pub tallied_events : SendsEvents b → SendsEvents (tallied b)
  tallied_events only = record { take_sends_events = λ s t port body. only.take_sends_events s t port body; tick_sends_events = λ s t. only.tick_sends_events s t }

  one_line_orderly : (settled : S → ℕ → Type 0) (s : S) (t : ℕ) (r : Reaction S) → IsOrderly b settled s t r → IsOrderly (tallied b) settled s t (with_one_line r)
  one_line_orderly settled s t r orderly = record { same_ports = orderly.same_ports; settled_after = orderly.settled_after; sendable = orderly.sendable }

  pub tallied_lawful : (settled : S → ℕ → Type 0) → IsLawful b settled → IsLawful (tallied b) settled
  tallied_lawful settled lawful = record {
    at = λ s. record {
      few_ports = (lawful.at s).few_ports;
      take_sends_events = (lawful.at s).take_sends_events;
      tick_sends_events = (lawful.at s).tick_sends_events;
      settled_later = (lawful.at s).settled_later;
      take_orderly = λ t port body may past short then. one_line_orderly settled s t (b.take s t port body) ((lawful.at s).take_orderly t port body may past short then);
      due_after_take = (lawful.at s).due_after_take;
      tick_orderly = λ t due short then. one_line_orderly settled s t (b.tick s t) ((lawful.at s).tick_orderly t due short then);
      due_after_tick = (lawful.at s).due_after_tick;
    };
  }
