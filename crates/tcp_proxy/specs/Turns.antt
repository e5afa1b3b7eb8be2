-- What all turns of proxies have in common.
use Rattle.std.specs.Prelude.{ℕ, ◌≡◌, ◌≢◌, ◌<◌, ◌+◌, ◌⊎◌, Bool, false, min, Result, Ok, Err}
use Rattle.tcp_proxy.specs.declared.hop.Hop.{Hop}
use Rattle.tcp_proxy.specs.declared.hop.Hop.TheVariants.{Moved, Idle}
use Rattle.tcp_proxy.specs.declared.hop.ProxyBad.{ProxyBad}
use Rattle.tcp_proxy.specs.declared.hop.ProxyBad.TheVariants as bad

-- how many of the latest turns in a row moved nothing, 64 at most
abbrev pub still_after : Hop → ℕ → ℕ
still_after Moved still = 0
still_after Idle still = min (still + 1) 64

-- no try fails
abbrev pub Never : {P : Type 0} → P → P → Type 0
Never a b = ⊥

-- whether so many messages and bytes moved
abbrev pub MovesBy : Hop → ℕ → ℕ → Type 0
MovesBy Moved messages bytes = 0 < messages + bytes
MovesBy Idle messages bytes = (messages ≡ 0) × (bytes ≡ 0)

-- an answer of the wire that may be that of the turn: nothing was pushed, or it can't wait for a later turn
abbrev pub CanNotWait : ℕ → Bool → Result Hop ProxyBad → Type 0
CanNotWait pushed stays (Ok Moved) = Unit {0}
CanNotWait pushed stays (Ok Idle) = pushed ≡ 0
CanNotWait pushed stays (Err bad.Lost) = (pushed ≡ 0) ⊎ (stays ≡ false)
CanNotWait pushed stays (Err (bad.Frame b)) = (pushed ≡ 0) ⊎ (stays ≡ false)
CanNotWait pushed stays (Err bad.NoMemory) = Unit {0}

-- a turn that pushed messages has moved, and else it answers what the wire did
abbrev pub Answers : ℕ → Result Hop ProxyBad → Bool → Result Hop ProxyBad → Type 0
Answers pushed asked stays r = ((r ≡ Ok Moved) × (0 < pushed) × (asked ≢ Err bad.NoMemory)) ⊎ ((r ≡ asked) × CanNotWait pushed stays asked)
