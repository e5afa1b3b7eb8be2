-- What a try leaves of a seat, whichever way it went.
use Rattle.std.proofs.Common.{◌≡◌, ℕ, ap, sym, ◌∙◌, subst}
use Rattle.std.specs.Prelude.{Option, Some, None, Result, Ok, Err, MatchOption, MatchResult}
use Rattle.atomic_table.specs.Seated.{TableId}
use Rattle.sb_message.specs.declared.message.Body.TheVariants.{Sync}
use Rattle.sb_message.specs.declared.message.Msg.{Msg}
use Rattle.slot_queue.specs.Ends.{Sender, Receiver, Pushed, Refused, Popped, Emptied}
use Rattle.slot_queue.specs.Rising.{IsRising}
use Rattle.slot_queue.proofs.Rising.{rising_sync}

-- the name of the queue and the stream, after a try with a null message
pub offered : {U E : Type 0} (P : E → Type 0) (r : Result U E) (name : TableId) (old new : Sender) (at : ℕ)
    → MatchResult r (λ _. Pushed old (record { at = at; body = Sync }) new) (λ e. P e × Refused old new) → old.queue ≡ name → IsRising old.kind old.sent at
    → (new.queue ≡ name) × IsRising new.kind new.sent at
offered P (Ok u) name old new at told is rising =
    subst (λ (s : Sender). (s.queue ≡ name) × IsRising s.kind s.sent at) (sym told) (is, rising_sync old.kind old.sent at rising)
offered P (Err e) name old new at told is rising =
    subst (λ (s : Sender). (s.queue ≡ name) × IsRising s.kind s.sent at) (sym told.1.after) (is, rising)

pub tried : (r : Option Msg) (name : TableId) (old new : Receiver) → MatchOption r (Emptied old new) (λ m. Popped old m new) → old.queue ≡ name → new.queue ≡ name
tried (Some m) name old new told is = ap (λ (s : Receiver). s.queue) told.after ∙ is
tried None name old new told is = ap (λ (s : Receiver). s.queue) told ∙ is
