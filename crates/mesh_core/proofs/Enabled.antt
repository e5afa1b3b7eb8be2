-- A step that leads somewhere is enabled.
use Rattle.std.proofs.Common.{ℕ}
use Rattle.device_api.specs.Behaviour.{Behaviour}
use Rattle.mesh_channel.proofs.Going.{refuses_rightly}
use Rattle.run_steps.specs.declared.step.Step.{Step}
use Rattle.run_steps.specs.declared.step.Step.TheVariants.{Event, Send, Poll, Take, Move, Put}
use Rattle.mesh_core.specs.State.{State}
use Rattle.mesh_core.specs.Steps.{Leads, Enables}

pub leads_enabled : {V : Type 0} (b : Behaviour V) (step : Step) (old new : State V) → Leads b step old new → Enables b step old
leads_enabled b (Event c) old new at = record { next = new; leads = at }
leads_enabled b (Send k) old new at = record { next = new; leads = at }
leads_enabled b (Poll k) old new at = record { next = new; leads = at }
leads_enabled b (Take k) old new at = record { way = at.way; carrier = at.carrier; line = at.line; enabled = (refuses_rightly at.carrier).take at.after at.made }
leads_enabled b (Move k n) old new at = record { way = at.way; carrier = at.carrier; line = at.line; enabled = at.made.enabled }
leads_enabled b (Put k) old new at = record { way = at.way; carrier = at.carrier; line = at.line; enabled = (refuses_rightly at.carrier).put at.after at.made }
