-- What dialers and wires tell, and what their calls add to it.
use Rattle.std.specs.Prelude.{ℕ, ◌≡◌, ◌≤◌, Bool, false, List, [], ◌∷◌, ◌++◌, take, Option, IfSome, Result, Ok, Err}
use Rattle.cs_base.specs.declared.dialer.DialBad.{DialBad}
use Rattle.cs_base.specs.declared.dialer.DialBad.TheVariants as bad
use Rattle.cs_base.specs.declared.wires.Sent.{Sent}
use Rattle.cs_base.specs.declared.wires.Sent.TheVariants as sent
use Rattle.cs_base.specs.declared.wires.Got.{Got}
use Rattle.cs_base.specs.declared.wires.Got.TheVariants as got
use Rattle.cs_base.specs.declared.no_memory.Failed.{Failed}

-- what a dialer tells of itself: the channels dialed so far, where they are told, and the count of failed dials, which
-- is always known
pub record DialerSeen : Type 0 where
  pub dialed : Option (List ℕ)
  pub faults : ℕ

-- what the sending end of a wire tells of itself: the bytes taken so far, where they are told, and the counts of failed
-- sends and of sends that could take nothing yet, which are always known
pub record OutSeen : Type 0 where
  pub taken : Option (List ℕ)
  pub faults : ℕ
  pub idles : ℕ

-- what the receiving end of a wire tells of itself: the bytes given so far, where they are told; the counts of failed
-- receipts and of receipts that had nothing to give yet, and whether the stream has ended, which are always known
pub record InSeen : Type 0 where
  pub given : Option (List ℕ)
  pub faults : ℕ
  pub idles : ℕ
  pub ended : Bool

-- the channels dialed after a dial of one more: it is told unless memory was wanting
abbrev pub dialed_after : {T : Type 0} → Result T DialBad → ℕ → List ℕ → List ℕ
dialed_after (Ok wires) channel channels = channels ++ channel ∷ []
dialed_after (Err bad.Failed) channel channels = channels ++ channel ∷ []
dialed_after (Err bad.NoMemory) channel channels = channels

-- a sending end has no faults and has taken nothing
pub record IsFreshOut (out : OutSeen) : Type 0 where
  pub no_faults : out.faults ≡ 0
  pub none_taken : IfSome out.taken (λ bytes. bytes ≡ [])

-- a receiving end has no faults, has given nothing and hasn't ended
pub record IsFreshIn (wire : InSeen) : Type 0 where
  pub no_faults : wire.faults ≡ 0
  pub none_given : IfSome wire.given (λ bytes. bytes ≡ [])
  pub not_ended : wire.ended ≡ false

-- where bytes were taken, at least one was, and no more than were there
abbrev pub TookSome : Sent → ℕ → Type 0
TookSome (sent.Took n) most = (1 ≤ n) × (n ≤ most)
TookSome sent.NotYet most = Unit {0}

-- the bytes taken after a send
abbrev pub taken_after : Result Sent Failed → List ℕ → List ℕ → List ℕ
taken_after (Ok (sent.Took n)) bytes taken = taken ++ take n bytes
taken_after (Ok sent.NotYet) bytes taken = taken
taken_after (Err failed) bytes taken = taken

-- where bytes were given, at least one was, and no more than there was room for
abbrev pub GaveSome : Got → ℕ → Type 0
GaveSome (got.Took n) most = (1 ≤ n) × (n ≤ most)
GaveSome got.NotYet most = Unit {0}
GaveSome got.End most = Unit {0}

-- the bytes given after a receipt that left these bytes in the buffer
abbrev pub given_after : Result Got Failed → List ℕ → List ℕ → List ℕ
given_after (Ok (got.Took n)) buffer given = given ++ take n buffer
given_after (Ok got.NotYet) buffer given = given
given_after (Ok got.End) buffer given = given
given_after (Err failed) buffer given = given
