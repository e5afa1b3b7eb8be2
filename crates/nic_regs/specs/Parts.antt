-- The bits that registers store.
use Rattle.std.specs.Prelude.{ℕ, ◌≡◌, ◌==◌, IsTrue, bit_and}
use Rattle.std.specs.List.{list_all}
use Rattle.nic_regs.specs.declared.parts.RegsParts.{RegsParts}

-- the causes of interrupts that are kept: TXDW 0, TXQE 1, LSC 2, RXDMT0 4, RXO 6, RXT0 7
abbrev pub causes_kept : ℕ
causes_kept = 0xd7

-- all bits of CTRL but RST, 26
abbrev pub ctrl_stored : ℕ
ctrl_stored = 0xfbff_ffff

-- bits 31 to 4 of the lower halves of base addresses
abbrev pub base_stored : ℕ
base_stored = 0xffff_fff0

-- bits 19 to 7 of lengths
abbrev pub length_stored : ℕ
length_stored = 0x000f_ff80

-- bits 15 to 0 of heads and tails
abbrev pub place_stored : ℕ
place_stored = 0xffff

-- bits 7 to 0 of RXCSUM, PCSS
abbrev pub pcss_stored : ℕ
pcss_stored = 0xff

-- AV, bit 31, and bits 15 to 0 of RAH
abbrev pub rah_stored : ℕ
rah_stored = 0x8000_ffff

-- no other bit is set
abbrev pub HasOnly : (stored value : ℕ) → Type 0
HasOnly stored value = bit_and value stored ≡ value

pub record IsValid (parts : RegsParts) : Type 0 where
  pub ctrl : HasOnly ctrl_stored parts.ctrl
  pub causes : HasOnly causes_kept parts.causes
  pub mask : HasOnly causes_kept parts.mask
  pub rdbal : HasOnly base_stored parts.rdbal
  pub rdlen : HasOnly length_stored parts.rdlen
  pub rdh : HasOnly place_stored parts.rdh
  pub rdt : HasOnly place_stored parts.rdt
  pub tdbal : HasOnly base_stored parts.tdbal
  pub tdlen : HasOnly length_stored parts.tdlen
  pub tdh : HasOnly place_stored parts.tdh
  pub tdt : HasOnly place_stored parts.tdt
  pub pcss : HasOnly pcss_stored parts.pcss
  pub rah : IsTrue (list_all (λ (high : ℕ). bit_and high rah_stored == high) parts.rah)
