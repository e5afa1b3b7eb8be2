-- It keeps what every device keeps.
use Rattle.std.specs.Prelude.{ℕ, ◌≡◌, ◌≤◌, ◌+◌, true, length, Option, Some, None, refl}
use Rattle.std.specs.Option.{option_to_list}
use Rattle.std.proofs.Common.{arith, ap}
use Rattle.std.proofs.lemmas.List.Elements.{All-nil}
use Rattle.cs_base.specs.declared.port_kind.PortKind.{PortKind}
use Rattle.sb_message.specs.declared.message.Body.{Body}
use Rattle.sb_message.specs.Receivable.{MaySend, is_event}
use Rattle.device_api.specs.Behaviour.{IsLawful, IsOrderly}
use Rattle.device_api.specs.World.{rest}
use Rattle.runner_bench.specs.declared.ticker.Ticker.{Ticker}
use Rattle.runner_bench.specs.Ticker.{ticker, IsSettledTicker}

one_at_most : (port : Option PortKind) → length (option_to_list port) ≤ 32
one_at_most None = omega arith
one_at_most (Some kind) = omega arith

rests_orderly : (s after : Ticker) (t : ℕ) → after.port ≡ s.port → IsOrderly ticker IsSettledTicker s t (rest after)
rests_orderly s after t same = record { same_ports = ap option_to_list same; settled_after = tt; sendable = All-nil (λ (sent : ℕ × Body). MaySend (ticker.ports s) sent.0 sent.1) }

pub ticker_lawful : IsLawful ticker IsSettledTicker
ticker_lawful = record {
  at = λ s. record {
    few_ports = λ x settled. one_at_most s.port;
    take_sends_events = λ t port arrived. All-nil (λ (sent : ℕ × Body). is_event sent.1 ≡ true);
    tick_sends_events = λ t. All-nil (λ (sent : ℕ × Body). is_event sent.1 ≡ true);
    settled_later = λ x y settled le. tt;
    take_orderly = λ t port arrived may due in_run settled. rests_orderly s s t refl;
    due_after_take = λ t port arrived may due in_run settled. due;
    tick_orderly = λ t due in_run settled. rests_orderly s (record s { next = t + 1000 }) t refl;
    due_after_tick = λ t due in_run settled. omega arith;
  };
}
