-- There is no register from 2^32 on.
use Rattle.std.proofs.Common.{◌≡◌, ℕ, ◌^◌, ◌≤◌, ◌<◌, Bool, true, false, refl, sym, ◌∙◌, arith}
use Rattle.std.specs.Prelude.{◌==◌, if◌then◌else◌, Option, None}
use Rattle.std.proofs.lemmas.Bool.{ne_eqb, false≢true}
use Rattle.nic_regs.specs.Table.{address_register, register_at}

unless : {X : Type 0} (test : Bool) (here more : Option X) → test ≡ false → more ≡ None → (if test then here else more) ≡ None
unless false here more is none = none
unless true here more is none = absurd (false≢true (sym is))

past : {X : Type 0} (at offset : ℕ) (here more : Option X) → at < offset → more ≡ None → (if offset == at then here else more) ≡ None
past at offset here more less none = unless (offset == at) here more (ne_eqb offset at (λ e. omega arith)) none

no_address : (offset : ℕ) → 2 ^ 32 ≤ offset → address_register offset ≡ None
no_address offset far = grind arith

none_beyond : (offset : ℕ) → 2 ^ 32 ≤ offset → register_at offset ≡ None
unfolding register_at
none_beyond offset far =
    past 0x0000 offset _ _ (omega arith)
    (past 0x0008 offset _ _ (omega arith)
    (past 0x00c0 offset _ _ (omega arith)
    (past 0x00c8 offset _ _ (omega arith)
    (past 0x00d0 offset _ _ (omega arith)
    (past 0x00d8 offset _ _ (omega arith)
    (past 0x0100 offset _ _ (omega arith)
    (past 0x0400 offset _ _ (omega arith)
    (past 0x2800 offset _ _ (omega arith)
    (past 0x2804 offset _ _ (omega arith)
    (past 0x2808 offset _ _ (omega arith)
    (past 0x2810 offset _ _ (omega arith)
    (past 0x2818 offset _ _ (omega arith)
    (past 0x3800 offset _ _ (omega arith)
    (past 0x3804 offset _ _ (omega arith)
    (past 0x3808 offset _ _ (omega arith)
    (past 0x3810 offset _ _ (omega arith)
    (past 0x3818 offset _ _ (omega arith)
    (past 0x5000 offset _ _ (omega arith)
    (no_address offset far)))))))))))))))))))

none_at_one : register_at 1 ≡ None
unfolding register_at
none_at_one = refl

pub beyond : (offset : ℕ) → 2 ^ 32 ≤ offset → register_at 1 ≡ register_at offset
beyond offset far = none_at_one ∙ sym (none_beyond offset far)
