-- Legacy descriptors of the Intel 8254x family and their 16 bytes, little-endian.
use Rattle.std.specs.Prelude.{ℕ, ◌<◌, ◌^◌, List, ◌∷◌, ◌++◌}
use Rattle.std.specs.Int.{w16, w64, to_le_bytes}
use Rattle.field_layout.specs.Layout.{field_at, number_in}
use Rattle.nic_rings.specs.declared.rx_desc.RxDesc.{RxDesc}
use Rattle.nic_rings.specs.declared.tx_desc.TxDesc.{TxDesc}

abbrev pub rx_desc_of : List ℕ → RxDesc
rx_desc_of b = record {
  addr = number_in b (field_at 0 8);
  length = number_in b (field_at 8 2);
  checksum = number_in b (field_at 10 2);
  status = number_in b (field_at 12 1);
  errors = number_in b (field_at 13 1);
  special = number_in b (field_at 14 2);
}

abbrev pub rx_bytes : RxDesc → List ℕ
rx_bytes d =
    to_le_bytes w64 d.addr ++ (to_le_bytes w16 d.length ++ (to_le_bytes w16 d.checksum
    ++ (d.status ∷ d.errors ∷ to_le_bytes w16 d.special)))

abbrev pub tx_desc_of : List ℕ → TxDesc
tx_desc_of b = record {
  addr = number_in b (field_at 0 8);
  length = number_in b (field_at 8 2);
  cso = number_in b (field_at 10 1);
  cmd = number_in b (field_at 11 1);
  status = number_in b (field_at 12 1);
  css = number_in b (field_at 13 1);
  special = number_in b (field_at 14 2);
}

abbrev pub tx_bytes : TxDesc → List ℕ
tx_bytes d =
    to_le_bytes w64 d.addr ++ (to_le_bytes w16 d.length
    ++ (d.cso ∷ d.cmd ∷ d.status ∷ d.css ∷ to_le_bytes w16 d.special))

-- the fields fit their bytes
pub record RxFits (d : RxDesc) : Type 0 where
  pub addr : d.addr < 2 ^ 64
  pub length : d.length < 2 ^ 16
  pub checksum : d.checksum < 2 ^ 16
  pub status : d.status < 2 ^ 8
  pub errors : d.errors < 2 ^ 8
  pub special : d.special < 2 ^ 16

pub record TxFits (d : TxDesc) : Type 0 where
  pub addr : d.addr < 2 ^ 64
  pub length : d.length < 2 ^ 16
  pub cso : d.cso < 2 ^ 8
  pub cmd : d.cmd < 2 ^ 8
  pub status : d.status < 2 ^ 8
  pub css : d.css < 2 ^ 8
  pub special : d.special < 2 ^ 16
