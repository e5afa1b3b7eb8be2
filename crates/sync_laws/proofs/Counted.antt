-- A runner that stands, and the same runner of the device that logs one line at each event: its log has a line more after each
-- take and each tick, and no more after a null message or a receipt.
use Rattle.std.proofs.Common.{◌≡◌, ℕ, ◌+◌, List, [], ◌∷◌, ◌++◌, length, Option, Some, refl, sym, ap, ◌∙◌, subst, arith, length-append}
use Rattle.std.specs.Prelude.{slice_get, false}
use Rattle.sb_message.specs.Stream.{IsStream}
use Rattle.sb_message.specs.declared.message.Msg.{Msg}
use Rattle.device_api.specs.declared.logs.Line.{Line}
use Rattle.device_api.specs.Behaviour.{Behaviour, IsLawful}
use Rattle.device_api.specs.Position.{Position, script_upto, local_upto}
use Rattle.device_api.specs.Transcript.{bodies}
use Rattle.device_api.specs.World.{Run, sends_by}
use Rattle.run_laws.specs.NextEvent.{with_port}
use Rattle.sync_rule.specs.declared.next.Next.{Next}
use Rattle.sync_rule.specs.declared.next.Next.TheVariants.{Sync, Take, Tick}
use Rattle.sync_rule.specs.declared.runner.Runner.{Runner}
use Rattle.sync_rule.specs.Ports.{In, Out, heard, at_place, introduction_to}
use Rattle.sync_rule.specs.Next.{IsPending, IsEnabled}
use Rattle.sync_rule.specs.Steps.{IsAfter, after_sync, after_take, after_tick}
use Rattle.sync_laws.specs.Stands.{Stands, HasMade, run_upto, place_of}
use Rattle.sync_laws.specs.ToCome.{tallied}
use Rattle.sync_laws.proofs.Events.{event_stands}
use Rattle.sync_laws.proofs.Passed.{heard_stands}
use Rattle.sync_laws.proofs.Tallied.{RunAlike, run_alike, tallied_lawful}

-- how many takes and ticks an event is
abbrev pub weight : Next → ℕ
weight (Sync port u) = 0
weight (Take port t) = 1
weight (Tick t) = 1

one_line_more : (log : List Line) (line : Line) → length (log ++ line ∷ []) ≡ length log + 1
one_line_more log line = length-append log (line ∷ [])

module _ {V : Type 0} (b : Behaviour V) (settled : V → ℕ → Type 0) (lawful : IsLawful b settled) (start : V) (position : Position) (received sent : ℕ → List Msg) (old : Runner V) (stands : Stands b settled start position received sent old) where
  abbrev tally : Run V
  tally = run_upto (tallied b) start position received old.end

  alike : RunAlike tally (run_upto b start position received old.end)
  alike = run_alike b (length (b.ports start)) (λ port. bodies (received port)) start position old.end

  abbrev retold : Runner V
  retold = record old { log = tally.log }

  retold_made : (port : ℕ) (o : Out) → slice_get old.outgoing port ≡ Some o → HasMade position tally old.end port (sent port) o
  retold_made port o is = record {
    script = λ ch leads. ap (λ l. script_upto o.plan.kind ch (sends_by ch.from.port l) position old.end) alike.sent ∙ made.script ch leads;
    stream = made.stream;
    count = made.count;
    ahead = made.ahead;
  }
    where
      made : HasMade position (run_upto b start position received old.end) old.end port (sent port) o
      made = stands.made port o is

  retold_stands : Stands (tallied b) settled start position received sent retold
  retold_stands = record {
    fitted = record {
      short = stands.fitted.short;
      few = stands.fitted.few;
      kinds = stands.fitted.kinds;
      same_ports = stands.fitted.same_ports;
      same_plans = stands.fitted.same_plans;
      planned = stands.fitted.planned;
      no_sends = stands.fitted.no_sends;
      no_lines = stands.fitted.no_lines;
    };
    device = stands.device ∙ sym alike.state;
    log = refl;
    handled = stands.handled;
    boxes = stands.boxes;
    heard = stands.heard;
    made = retold_made;
    tick_ahead = stands.tick_ahead;
    settled_now = stands.settled_now;
    in_run = stands.in_run;
  }

  pending_too : (next : Next) → IsPending b old next → IsPending (tallied b) retold next
  pending_too (Sync port u) pending = pending
  pending_too (Take port t) pending = pending
  pending_too (Tick t) pending = pending

  pending_before : (next : Next) → IsPending (tallied b) retold next → IsPending b old next
  pending_before (Sync port u) pending = pending
  pending_before (Take port t) pending = pending
  pending_before (Tick t) pending = pending

  enabled_too : (next : Next) → IsEnabled b old next → IsEnabled (tallied b) retold next
  enabled_too next en = record {
    is_next = record { pending = pending_too next en.is_next.pending; least = λ other pending. en.is_next.least other (pending_before other pending) };
    in_run = en.in_run;
    all_sent = en.all_sent;
    heard = en.heard;
  }

  then_stands : (new : Runner V) (next : Next) → IsEnabled b old next → IsAfter (tallied b) retold next new → Stands (tallied b) settled start (Some (place_of received retold next)) received sent new
  then_stands new next en after = event_stands (tallied b) settled (tallied_lawful b settled lawful) start position received sent retold retold_stands new next (enabled_too next en) after

  pub tallies : (new : Runner V) (next : Next) → IsEnabled b old next → IsAfter b old next new → length (run_upto (tallied b) start (Some (place_of received old next)) received old.end).log ≡ length tally.log + weight next
  tallies new (Sync port u) en after = sym (ap length (then_stands (after_sync retold port u) (Sync port u) en refl).log) ∙ (let same : length tally.log ≡ length tally.log + 0 = omega arith in same)
  tallies new (Tick t) en after = sym (ap length (then_stands (after_tick (tallied b) retold t) (Tick t) en refl).log) ∙ one_line_more tally.log (record { at = t; text = [] })
  tallies new (Take port t) en after = sym (ap length (then_stands (after_take (tallied b) retold port after.m) (Take port t) en (record { m = after.m; head = after.head; at_time = after.at_time; is = refl })).log) ∙ one_line_more tally.log (record { at = after.m.at; text = [] })

  pub receipt_tallies : (port : ℕ) (i : In) → slice_get old.incoming port ≡ Some i → (m : Msg) → IsStream i.plan.kind (received port ++ m ∷ []) → (i.introduced ≡ false → m ≡ introduction_to i.plan) → (run_upto (tallied b) start position (with_port port (received port ++ m ∷ []) received) old.end).log ≡ tally.log
  receipt_tallies port i there m streams introduced = sym (heard_stands (tallied b) settled (tallied_lawful b settled lawful) start position received sent retold retold_stands port i there m streams introduced).log
