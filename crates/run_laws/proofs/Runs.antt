-- Runs that grow by one reaction a moment: what they send, they send in order, and it is events alone.
use Rattle.std.proofs.Common.{◌≡◌, ℕ, suc, Bool, true, false, cond, eqb, List, [], ◌∷◌, ◌++◌, refl, ap, ◌∙◌}
use Rattle.std.proofs.lemmas.List.Elements.{filter-append, recursion_from_All}
use Rattle.std.specs.List.{AllByRecursion}
use Rattle.sb_message.specs.declared.message.Body.{Body}
use Rattle.sb_message.specs.Receivable.{is_event}
use Rattle.sb_message.specs.declared.message.Msg.{Msg}
use Rattle.device_api.specs.Behaviour.{Behaviour, Reaction}
use Rattle.device_api.specs.World.{Arrival, Run, react, take_all, tick_if_due, is_at, sent_at, arrivals, sends_by}
use Rattle.device_api.specs.Local.{local_until}
use Rattle.run_laws.specs.Wired.{SendsEvents}
use Rattle.run_laws.proofs.Lists.{each-append, each-map, each-filter}
use Rattle.run_laws.proofs.Growth.{Grows}

-- sends of a reaction that are events
abbrev pub SendEvents : List (ℕ × Body) → Type 0
SendEvents sends = AllByRecursion (λ (sent : ℕ × Body). is_event sent.1 ≡ true) sends

-- takes and ticks send events alone, so a reaction does
pub take_all-events : {S : Type 0} (b : Behaviour S) → SendsEvents b → (t : ℕ) (arrived : List Arrival) (s : S) → SendEvents (take_all b t arrived s).sends
unfolding take_all
take_all-events b only t [] s = tt
take_all-events b only t (a ∷ more) s = each-append (λ (sent : ℕ × Body). is_event sent.1 ≡ true) (b.take s t a.port a.body).sends _ (recursion_from_All _ _ (only.take_sends_events s t a.port a.body)) (take_all-events b only t more (b.take s t a.port a.body).state)

pub tick-events : {S : Type 0} (b : Behaviour S) → SendsEvents b → (t : ℕ) (s : S) → SendEvents (tick_if_due b t s).sends
tick-events b only t s = at (is_at (b.due s) t)
  where
    at : (due : Bool) → SendEvents (cond due (b.tick s t) (record { state = s; sends = []; lines = [] })).sends
    at true = recursion_from_All _ _ (only.tick_sends_events s t)
    at false = tt

pub react-events : {S : Type 0} (b : Behaviour S) → SendsEvents b → (t : ℕ) (arrived : List Arrival) (s : S) → SendEvents (react b t arrived s).sends
react-events b only t arrived s = each-append (λ (sent : ℕ × Body). is_event sent.1 ≡ true) (take_all b t arrived s).sends _ (take_all-events b only t arrived s) (tick-events b only t (take_all b t arrived s).state)

-- a run until each time, that grows by a reaction a moment
pub record IsRunning {S : Type 0} (run : ℕ → Run S) : Type 0 where
  pub reaction : ℕ → Reaction S
  pub starts : (run 0).sent ≡ []
  pub adds : (t : ℕ) → (run (suc t)).sent ≡ (run t).sent ++ sent_at t (reaction t).sends
  pub events : (t : ℕ) → SendEvents (reaction t).sends

-- what it sends by one port grows
pub sends_grow : {S : Type 0} (run : ℕ → Run S) (port : ℕ) → IsRunning run → Grows (λ t. sends_by port (run t).sent)
sends_grow run port running = record {
  made = λ t. sends_by port (sent_at t (running.reaction t).sends);
  starts = ap (sends_by port) running.starts;
  adds = λ t. ap (sends_by port) (running.adds t) ∙ filter-append (λ s. eqb s.port port) (run t).sent (sent_at t (running.reaction t).sends);
  timed = λ t. each-filter (λ s. s.time ≡ t) (λ s. eqb s.port port) (sent_at t (running.reaction t).sends) (each-map (λ s. s.time ≡ t) _ (running.reaction t).sends (all_refl t (running.reaction t).sends));
  events = λ t. each-filter (λ s. is_event s.body ≡ true) (λ s. eqb s.port port) (sent_at t (running.reaction t).sends) (each-map (λ s. is_event s.body ≡ true) _ (running.reaction t).sends (running.events t));
}
  where
    all_refl : (t : ℕ) (sends : List (ℕ × Body)) → AllByRecursion (λ (sent : ℕ × Body). t ≡ t) sends
    all_refl t [] = tt
    all_refl t (x ∷ more) = (refl, all_refl t more)

-- a local run is one
pub local_is_running : {S : Type 0} (b : Behaviour S) → SendsEvents b → (ports : ℕ) (inputs : ℕ → List Msg) (s : S) → IsRunning (local_until b ports inputs s)
unfolding local_until
local_is_running b only ports inputs s = record {
  reaction = λ t. react b t (arrivals t inputs ports) (local_until b ports inputs s t).state;
  starts = refl;
  adds = λ t. refl;
  events = λ t. react-events b only t (arrivals t inputs ports) (local_until b ports inputs s t).state;
}
