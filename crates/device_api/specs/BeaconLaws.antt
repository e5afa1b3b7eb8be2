-- The beacon keeps what every device keeps.
use Rattle.std.specs.Prelude.{ℕ, ◌≡◌, ◌+◌, ◌≤◌, ◌<◌, nat_lt, [], ◌∷◌, Some, None, true, false, Bool, if◌then◌else◌, refl}
use Rattle.std.proofs.Common.{arith, below_more}
use Rattle.std.proofs.lemmas.List.Elements.{All-nil, All-cons}
use Rattle.cs_base.specs.declared.port_kind.PortKind.TheVariants.{Eth}
use Rattle.sb_message.specs.declared.message.Body.{Body}
use Rattle.sb_message.specs.declared.message.Body.TheVariants as body
use Rattle.sb_message.specs.Receivable.{MaySend, is_event}
use Rattle.device_api.specs.Behaviour.{IsLawful, IsOrderly, IsNotPast, IsLater, AreEvents}
use Rattle.device_api.specs.Beacon.{BeaconState, time_of, frame_of, beacon, beacon_take, beacon_tick, beacon_due, IsSettledBeacon}

pub take_events : (s : BeaconState) (arrived : Body) → AreEvents (beacon_take s arrived).sends
take_events s (body.Eth frame) = λ k d lt. absurd (omega arith)
take_events s other = λ k d lt. absurd (omega arith)

pub tick_events : (s : BeaconState) → AreEvents (beacon_tick s).sends
tick_events s = All-cons (λ (sent : ℕ × Body). is_event sent.1 ≡ true) (0, body.Eth (frame_of s s.sent)) [] refl (All-nil (λ (sent : ℕ × Body). is_event sent.1 ≡ true))

pub take_orderly : (s : BeaconState) (t port : ℕ) (arrived : Body) → IsSettledBeacon s (t + 1) → IsOrderly beacon IsSettledBeacon s t (beacon_take s arrived)
take_orderly s t port (body.Eth frame) settled = record { same_ports = refl; settled_after = settled; sendable = λ k d lt. absurd (omega arith) }
take_orderly s t port other settled = record { same_ports = refl; settled_after = settled; sendable = λ k d lt. absurd (omega arith) }

pub due_after_take : (s : BeaconState) (t : ℕ) (arrived : Body) → IsNotPast t (beacon_due s) → IsNotPast t (beacon_due (beacon_take s arrived).state)
due_after_take s t (body.Eth frame) due = due
due_after_take s t other due = due

-- the time at which a beacon is due is that of its next frame
pub due_is : (s : BeaconState) (t : ℕ) → beacon_due s ≡ Some t → time_of s s.sent ≡ t
due_is s t due = at (nat_lt s.sent s.count) due
  where
    at : (b : Bool) → (if b then Some (time_of s s.sent) else None) ≡ Some t → time_of s s.sent ≡ t
    at true e = cc
    at false e = cc

pub tick_orderly : (s : BeaconState) (t : ℕ) → beacon_due s ≡ Some t → IsSettledBeacon s (t + 1) → IsOrderly beacon IsSettledBeacon s t (beacon_tick s)
tick_orderly s t due settled = record {
  same_ports = refl;
  settled_after = record { apart = settled.apart; before = below_more (λ k. time_of s k < t + 1) s.sent settled.before (let is : time_of s s.sent ≡ t = due_is s t due in omega arith) };
  sendable = All-cons (λ (sent : ℕ × Body). MaySend (Eth ∷ []) sent.0 sent.1) (0, body.Eth (frame_of s s.sent)) [] (record { kind = Eth; at_port = refl; fits = refl; event = refl }) (All-nil (λ (sent : ℕ × Body). MaySend (Eth ∷ []) sent.0 sent.1));
}

pub due_after_tick : (s : BeaconState) (t : ℕ) → beacon_due s ≡ Some t → IsSettledBeacon s (t + 1) → IsLater t (beacon_due (beacon_tick s).state)
due_after_tick s t due settled = later (nat_lt (s.sent + 1) s.count) (let is : time_of s s.sent ≡ t = due_is s t due in let apart : 1 ≤ s.period = settled.apart in omega arith)
  where
    later : (b : Bool) → t < time_of s (s.sent + 1) → IsLater t (if b then Some (time_of s (s.sent + 1)) else None)
    later true lt = lt
    later false lt = tt

pub beacon_lawful : IsLawful beacon IsSettledBeacon
beacon_lawful = record {
  at = λ s. record {
    few_ports = λ x settled. omega arith;
    take_sends_events = λ t port arrived. take_events s arrived;
    tick_sends_events = λ t. tick_events s;
    settled_later = λ x y settled le. record { apart = settled.apart; before = λ k lt. (let before : time_of s k < x = settled.before k lt in omega arith) };
    take_orderly = λ t port arrived may due in_run settled. take_orderly s t port arrived settled;
    due_after_take = λ t port arrived may due in_run settled. due_after_take s t arrived due;
    tick_orderly = λ t due in_run settled. tick_orderly s t due settled;
    due_after_tick = λ t due in_run settled. due_after_tick s t due settled;
  };
}

-- at its start a beacon has sent nothing
pub settled_at_start : (s : BeaconState) → 1 ≤ s.period → s.sent ≡ 0 → IsSettledBeacon s 0
settled_at_start s apart none = record { apart = apart; before = λ k lt. absurd (omega arith) }
