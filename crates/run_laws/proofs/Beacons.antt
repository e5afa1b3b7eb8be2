-- Two beacons and their link are a wiring, and what they log by themselves.
use Rattle.std.proofs.Common.{◌≡◌, ℕ, zero, suc, ◌≤◌, List, [], ◌∷◌, length, Some, true, refl, sym, ap, ◌∙◌, arith, option_map, slice_get}
use Rattle.std.specs.Prelude.{is_some}
use Rattle.std.proofs.lemmas.Bool.{false≢true}
use Rattle.std.proofs.lemmas.List.Elements.{All-nil, All-cons}
use Rattle.std.proofs.lemmas.Option.{slice_get-map, same_Some}
use Rattle.cs_base.specs.declared.port_kind.PortKind.{PortKind}
use Rattle.cs_base.specs.declared.port_kind.PortKind.TheVariants.{Eth}
use Rattle.cs_base.specs.Plan.{Joins, kind_at, uses_of}
use Rattle.device_api.specs.declared.logs.Line.{Line}
use Rattle.device_api.specs.Beacon.{BeaconState, beacon}
use Rattle.device_api.specs.BeaconLaws.{beacon_lawful}
use Rattle.device_api.specs.World.{Run, global_until, logs_of}
use Rattle.run_laws.specs.Wired.{IsWired, SendsEvents}
use Rattle.run_laws.specs.TwoBeacons.{link_of, broadcasts}

kinds : List (List PortKind)
kinds = (Eth ∷ []) ∷ ((Eth ∷ []) ∷ [])

in_one_link : (component port : ℕ) → is_some (kind_at kinds (record { component = component; port = port })) ≡ true → uses_of (link_of 500 500 ∷ []) (record { component = component; port = port }) ≡ 1
unfolding kinds
in_one_link zero zero there = refl
in_one_link zero (suc port) there = absurd (false≢true there)
in_one_link (suc zero) zero there = refl
in_one_link (suc zero) (suc port) there = absurd (false≢true there)
in_one_link (suc (suc component)) port there = absurd (false≢true there)

pub are_wired : IsWired (broadcasts 500 500) 2600
unfolding kinds
are_wired = record {
  sized = record { some_time = omega arith; short_time = omega arith; some_component = omega arith; few_components = omega arith; few_ports = All-cons (λ (ports : List PortKind). length ports ≤ 32) (Eth ∷ []) ((Eth ∷ []) ∷ []) (omega arith) (All-cons (λ (ports : List PortKind). length ports ≤ 32) (Eth ∷ []) [] (omega arith) (All-nil (λ (ports : List PortKind). length ports ≤ 32))); few_links = omega arith };
  links_join = All-cons (Joins kinds) (link_of 500 500) [] (record { limits = record { short_latency = omega arith; some_interval = omega arith; interval_in_latency = omega arith; some_slot = omega arith; few_slots = omega arith }; ports = record { from_port = refl; to_partner = refl } }) (All-nil (Joins kinds));
  in_one_link = λ end there. in_one_link end.component end.port there;
}

pub beacons_send_events : SendsEvents beacon
beacons_send_events = record { take_sends_events = λ s. (beacon_lawful.at s).take_sends_events; tick_sends_events = λ s. (beacon_lawful.at s).tick_sends_events }

-- the log of a beacon, from the logs of both
pub its_log : (c : ℕ) (run : Run BeaconState) (logs : List (List Line)) (log : List Line) → slice_get (global_until (broadcasts 500 500) 2600).runs c ≡ Some run → logs_of (global_until (broadcasts 500 500) 2600) ≡ logs → slice_get logs c ≡ Some log → run.log ≡ log
its_log c run logs log its all here = same_Some run.log log (sym (slice_get-map (λ run. run.log) (global_until (broadcasts 500 500) 2600).runs c ∙ ap (option_map (λ run. run.log)) its) ∙ ap (λ l. slice_get l c) all ∙ here)
