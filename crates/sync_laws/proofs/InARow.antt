-- What stands keeps standing by events in a row, and so is ready for each of them.
use Rattle.std.proofs.Common.{ℕ, List, Some}
use Rattle.sb_message.specs.declared.message.Msg.{Msg}
use Rattle.device_api.specs.Behaviour.{Behaviour, IsLawful}
use Rattle.device_api.specs.Position.{Position}
use Rattle.sync_rule.specs.declared.runner.Runner.{Runner}
use Rattle.sync_rule.specs.Steps.{Processed}
use Rattle.sync_rule.specs.Events.{EventsRan, IsReadyThroughout}
use Rattle.sync_rule.specs.Events.EventsRan.{none_ran, one_more}
use Rattle.sync_rule.proofs.Ran.{throughout}
use Rattle.sync_laws.specs.Stands.{Stands, place_of}
use Rattle.sync_laws.specs.InARow.{StandsSomewhere}
use Rattle.sync_laws.proofs.Ahead.{is_ready}
use Rattle.sync_laws.proofs.Events.{event_stands}

module _ {V : Type 0} (b : Behaviour V) (settled : V → ℕ → Type 0) (lawful : IsLawful b settled) (start : V) (received sent : ℕ → List Msg) where
  one_stands : (old new : Runner V) → StandsSomewhere b settled start received sent old → Processed b old new → StandsSomewhere b settled start received sent new
  one_stands old new some event = record {
    position = Some (place_of received old event.next);
    stands = event_stands b settled lawful start some.position received sent old some.stands new event.next event.enabled event.after;
  }

  pub events_stand : (old new : Runner V) (n : ℕ) → StandsSomewhere b settled start received sent old → EventsRan b old n new → StandsSomewhere b settled start received sent new
  events_stand old new n some ran = at n new ran
    where
      at : (n : ℕ) (new : Runner V) → EventsRan b old n new → StandsSomewhere b settled start received sent new
      at _ _ none_ran = some
      at _ _ (one_more n mid new so_far event) = one_stands mid new (at n mid so_far) event

  pub ready_throughout : (position : Position) (r : Runner V) → Stands b settled start position received sent r → IsReadyThroughout b settled r
  ready_throughout position r stands = throughout b settled (StandsSomewhere b settled start received sent) (λ mid some. is_ready b settled lawful start some.position received sent mid some.stands) one_stands r (record { position = position; stands = stands })
