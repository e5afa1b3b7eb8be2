-- What is stored has no other bits than those that the register stores.
use Rattle.std.proofs.Common.{◌≡◌, ℕ, ◌+◌, ◌*◌, ◌^◌, ◌<◌, ◌≤◌, ◌-◌, Bool, true, List, [], ◌∷◌, refl, ap, sym, ◌∙◌, arith, bit_and, bit_or}
use Rattle.std.specs.Prelude.{◌==◌, slice_set}
use Rattle.std.specs.Int.Bits.{and_self}
use Rattle.std.specs.List.{list_all}
use Rattle.std.proofs.lemmas.Nat.{and_assoc, and_comm, and_block, and_mask}
use Rattle.std.proofs.lemmas.Bool.{eq-eqb, and_parts, and_from}
use Prim.Native.Nat.{zero, suc}
use Rattle.nic_regs.specs.declared.parts.RegsParts.{RegsParts}
use Rattle.nic_regs.specs.declared.register.Register.{Register}
use Rattle.nic_regs.specs.declared.register.Register.TheVariants.{Ctrl, Status, Icr, Ics, Ims, Imc, Rctl, Tctl, Rdbal, Rdbah, Rdlen, Rdh, Rdt, Tdbal, Tdbah, Tdlen, Tdh, Tdt, Rxcsum, Ral, Rah}
use Rattle.nic_regs.specs.Parts.{HasOnly, IsValid, rah_stored, causes_kept}
use Rattle.nic_regs.specs.Table.{stored_by}

pub kept : (value stored : ℕ) → HasOnly stored (bit_and value stored)
kept value stored = and_assoc stored value stored ∙ ap (bit_and value) (and_self stored)

cleared : (value bits stored : ℕ) → HasOnly stored value → HasOnly stored (bit_and value bits)
cleared value bits stored only =
    and_assoc stored value bits ∙ ap (bit_and value) (and_comm bits stored) ∙ sym (and_assoc bits value stored) ∙ ap (λ n. bit_and n bits) only

all_set : (p : ℕ → Bool) (xs : List ℕ) (n v : ℕ) → list_all p xs ≡ true → p v ≡ true → list_all p (slice_set xs n v) ≡ true
all_set p [] n v all passes = refl
all_set p (x ∷ xs) zero v all passes = and_from _ _ passes (and_parts _ _ all).1
all_set p (x ∷ xs) (suc n) v all passes = and_from _ _ (and_parts _ _ all).0 (all_set p xs n v (and_parts _ _ all).1 passes)

pub stored_valid : (s : RegsParts) (register : Register) (value : ℕ) → IsValid s → IsValid (stored_by s register value)
stored_valid s Ctrl value valid = record { ctrl = kept value _; causes = valid.causes; mask = valid.mask; rdbal = valid.rdbal; rdlen = valid.rdlen; rdh = valid.rdh; rdt = valid.rdt; tdbal = valid.tdbal; tdlen = valid.tdlen; tdh = valid.tdh; tdt = valid.tdt; pcss = valid.pcss; rah = valid.rah }
stored_valid s Status value valid = valid
stored_valid s Icr value valid = record { ctrl = valid.ctrl; causes = cleared s.causes _ _ valid.causes; mask = valid.mask; rdbal = valid.rdbal; rdlen = valid.rdlen; rdh = valid.rdh; rdt = valid.rdt; tdbal = valid.tdbal; tdlen = valid.tdlen; tdh = valid.tdh; tdt = valid.tdt; pcss = valid.pcss; rah = valid.rah }
stored_valid s Ics value valid = record { ctrl = valid.ctrl; causes = kept (bit_or s.causes value) _; mask = valid.mask; rdbal = valid.rdbal; rdlen = valid.rdlen; rdh = valid.rdh; rdt = valid.rdt; tdbal = valid.tdbal; tdlen = valid.tdlen; tdh = valid.tdh; tdt = valid.tdt; pcss = valid.pcss; rah = valid.rah }
stored_valid s Ims value valid = record { ctrl = valid.ctrl; causes = valid.causes; mask = kept (bit_or s.mask value) _; rdbal = valid.rdbal; rdlen = valid.rdlen; rdh = valid.rdh; rdt = valid.rdt; tdbal = valid.tdbal; tdlen = valid.tdlen; tdh = valid.tdh; tdt = valid.tdt; pcss = valid.pcss; rah = valid.rah }
stored_valid s Imc value valid = record { ctrl = valid.ctrl; causes = valid.causes; mask = cleared s.mask _ _ valid.mask; rdbal = valid.rdbal; rdlen = valid.rdlen; rdh = valid.rdh; rdt = valid.rdt; tdbal = valid.tdbal; tdlen = valid.tdlen; tdh = valid.tdh; tdt = valid.tdt; pcss = valid.pcss; rah = valid.rah }
stored_valid s Rctl value valid = record { ctrl = valid.ctrl; causes = valid.causes; mask = valid.mask; rdbal = valid.rdbal; rdlen = valid.rdlen; rdh = valid.rdh; rdt = valid.rdt; tdbal = valid.tdbal; tdlen = valid.tdlen; tdh = valid.tdh; tdt = valid.tdt; pcss = valid.pcss; rah = valid.rah }
stored_valid s Tctl value valid = record { ctrl = valid.ctrl; causes = valid.causes; mask = valid.mask; rdbal = valid.rdbal; rdlen = valid.rdlen; rdh = valid.rdh; rdt = valid.rdt; tdbal = valid.tdbal; tdlen = valid.tdlen; tdh = valid.tdh; tdt = valid.tdt; pcss = valid.pcss; rah = valid.rah }
stored_valid s Rdbal value valid = record { ctrl = valid.ctrl; causes = valid.causes; mask = valid.mask; rdbal = kept value _; rdlen = valid.rdlen; rdh = valid.rdh; rdt = valid.rdt; tdbal = valid.tdbal; tdlen = valid.tdlen; tdh = valid.tdh; tdt = valid.tdt; pcss = valid.pcss; rah = valid.rah }
stored_valid s Rdbah value valid = record { ctrl = valid.ctrl; causes = valid.causes; mask = valid.mask; rdbal = valid.rdbal; rdlen = valid.rdlen; rdh = valid.rdh; rdt = valid.rdt; tdbal = valid.tdbal; tdlen = valid.tdlen; tdh = valid.tdh; tdt = valid.tdt; pcss = valid.pcss; rah = valid.rah }
stored_valid s Rdlen value valid = record { ctrl = valid.ctrl; causes = valid.causes; mask = valid.mask; rdbal = valid.rdbal; rdlen = kept value _; rdh = valid.rdh; rdt = valid.rdt; tdbal = valid.tdbal; tdlen = valid.tdlen; tdh = valid.tdh; tdt = valid.tdt; pcss = valid.pcss; rah = valid.rah }
stored_valid s Rdh value valid = record { ctrl = valid.ctrl; causes = valid.causes; mask = valid.mask; rdbal = valid.rdbal; rdlen = valid.rdlen; rdh = kept value _; rdt = valid.rdt; tdbal = valid.tdbal; tdlen = valid.tdlen; tdh = valid.tdh; tdt = valid.tdt; pcss = valid.pcss; rah = valid.rah }
stored_valid s Rdt value valid = record { ctrl = valid.ctrl; causes = valid.causes; mask = valid.mask; rdbal = valid.rdbal; rdlen = valid.rdlen; rdh = valid.rdh; rdt = kept value _; tdbal = valid.tdbal; tdlen = valid.tdlen; tdh = valid.tdh; tdt = valid.tdt; pcss = valid.pcss; rah = valid.rah }
stored_valid s Tdbal value valid = record { ctrl = valid.ctrl; causes = valid.causes; mask = valid.mask; rdbal = valid.rdbal; rdlen = valid.rdlen; rdh = valid.rdh; rdt = valid.rdt; tdbal = kept value _; tdlen = valid.tdlen; tdh = valid.tdh; tdt = valid.tdt; pcss = valid.pcss; rah = valid.rah }
stored_valid s Tdbah value valid = record { ctrl = valid.ctrl; causes = valid.causes; mask = valid.mask; rdbal = valid.rdbal; rdlen = valid.rdlen; rdh = valid.rdh; rdt = valid.rdt; tdbal = valid.tdbal; tdlen = valid.tdlen; tdh = valid.tdh; tdt = valid.tdt; pcss = valid.pcss; rah = valid.rah }
stored_valid s Tdlen value valid = record { ctrl = valid.ctrl; causes = valid.causes; mask = valid.mask; rdbal = valid.rdbal; rdlen = valid.rdlen; rdh = valid.rdh; rdt = valid.rdt; tdbal = valid.tdbal; tdlen = kept value _; tdh = valid.tdh; tdt = valid.tdt; pcss = valid.pcss; rah = valid.rah }
stored_valid s Tdh value valid = record { ctrl = valid.ctrl; causes = valid.causes; mask = valid.mask; rdbal = valid.rdbal; rdlen = valid.rdlen; rdh = valid.rdh; rdt = valid.rdt; tdbal = valid.tdbal; tdlen = valid.tdlen; tdh = kept value _; tdt = valid.tdt; pcss = valid.pcss; rah = valid.rah }
stored_valid s Tdt value valid = record { ctrl = valid.ctrl; causes = valid.causes; mask = valid.mask; rdbal = valid.rdbal; rdlen = valid.rdlen; rdh = valid.rdh; rdt = valid.rdt; tdbal = valid.tdbal; tdlen = valid.tdlen; tdh = valid.tdh; tdt = kept value _; pcss = valid.pcss; rah = valid.rah }
stored_valid s Rxcsum value valid = record { ctrl = valid.ctrl; causes = valid.causes; mask = valid.mask; rdbal = valid.rdbal; rdlen = valid.rdlen; rdh = valid.rdh; rdt = valid.rdt; tdbal = valid.tdbal; tdlen = valid.tdlen; tdh = valid.tdh; tdt = valid.tdt; pcss = kept value _; rah = valid.rah }
stored_valid s (Ral n) value valid = record { ctrl = valid.ctrl; causes = valid.causes; mask = valid.mask; rdbal = valid.rdbal; rdlen = valid.rdlen; rdh = valid.rdh; rdt = valid.rdt; tdbal = valid.tdbal; tdlen = valid.tdlen; tdh = valid.tdh; tdt = valid.tdt; pcss = valid.pcss; rah = valid.rah }
stored_valid s (Rah n) value valid =
    record { ctrl = valid.ctrl; causes = valid.causes; mask = valid.mask; rdbal = valid.rdbal; rdlen = valid.rdlen; rdh = valid.rdh; rdt = valid.rdt; tdbal = valid.tdbal; tdlen = valid.tdlen; tdh = valid.tdh; tdt = valid.tdt; pcss = valid.pcss; rah = all_set (λ high. bit_and high rah_stored == high) s.rah n (bit_and value rah_stored) valid.rah (eq-eqb _ _ (kept value rah_stored)) }

pub raised_valid : (s : RegsParts) (bits : ℕ) → IsValid s → IsValid (record s { causes = bit_and (bit_or s.causes bits) causes_kept })
raised_valid s bits valid = record { ctrl = valid.ctrl; causes = kept (bit_or s.causes bits) _; mask = valid.mask; rdbal = valid.rdbal; rdlen = valid.rdlen; rdh = valid.rdh; rdt = valid.rdt; tdbal = valid.tdbal; tdlen = valid.tdlen; tdh = valid.tdh; tdt = valid.tdt; pcss = valid.pcss; rah = valid.rah }

-- an address with AV
low_kept : (low : ℕ) → low < 2 ^ 16 → HasOnly rah_stored (0x8000_0000 + low)
low_kept low fits =
    ap (λ n. bit_and n rah_stored) (omega arith)
    ∙ and_block 16 32768 32768 low 65535 fits (omega arith)
    ∙ ap (λ n. 32768 * 2 ^ 16 + n) (and_mask low 16)
    ∙ omega arith

pub address_kept : (high : ℕ) → 0x8000_0000 ≤ high → high < 0x8001_0000 → HasOnly rah_stored high
address_kept high least less = ap (λ n. bit_and n rah_stored) (sym whole) ∙ low_kept (high - 0x8000_0000) (omega arith) ∙ whole
  where
    whole : 0x8000_0000 + (high - 0x8000_0000) ≡ high
    whole = omega arith

pub first_valid : (high : ℕ) → 0x8000_0000 ≤ high → high < 0x8001_0000 → (rest : List ℕ) → list_all (λ high. bit_and high rah_stored == high) rest ≡ true →
    list_all (λ high. bit_and high rah_stored == high) (high ∷ rest) ≡ true
first_valid high least less rest valid = and_from _ _ (eq-eqb _ _ (address_kept high least less)) valid
