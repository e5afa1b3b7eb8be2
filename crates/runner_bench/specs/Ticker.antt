-- A device of one port or none that is due again and again.
use Rattle.std.specs.Prelude.{ℕ, ◌+◌, Some, ⊤}
use Rattle.std.specs.Option.{option_to_list}
use Rattle.device_api.specs.Behaviour.{Behaviour}
use Rattle.device_api.specs.World.{rest}
use Rattle.runner_bench.specs.declared.ticker.Ticker.{Ticker}

abbrev pub ticker : Behaviour Ticker
ticker = record { ports = λ s. option_to_list s.port; due = λ s. Some s.next; take = λ s t port body. rest s; tick = λ s t. rest (record s { next = t + 1000 }) }

-- nothing in it depends on time
abbrev pub IsSettledTicker : Ticker → ℕ → Type 0
IsSettledTicker s x = ⊤
