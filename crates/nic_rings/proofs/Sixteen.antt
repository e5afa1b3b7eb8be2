-- The sixteen bytes of a descriptor, field after field.
use Rattle.std.proofs.Common.{◌≡◌, ℕ, ◌+◌, ◌%◌, ◌^◌, ◌<◌, List, [], ◌∷◌, ◌++◌, length, take, drop, refl, ap, sym, ◌∙◌, arith}
use Rattle.std.proofs.lemmas.Simd.{chunk-drop}
use Rattle.std.proofs.lemmas.List.{drop_all}
use Rattle.std.specs.Int.{w16, w64, to_le_bytes}
use Rattle.field_layout.specs.Layout.{entry, Holds}
use Rattle.field_layout.proofs.Layouts.{number_in-1, number_in-2, number_in-8}
use Rattle.nic_rings.specs.declared.rx_desc.RxDesc.{RxDesc}
use Rattle.nic_rings.specs.declared.tx_desc.TxDesc.{TxDesc}
use Rattle.nic_rings.specs.Descriptors.{RxFits, rx_desc_of, rx_bytes, TxFits, tx_desc_of, tx_bytes}

step : (b : List ℕ) (i n j : ℕ) (x rest : List ℕ) → i + n ≡ j → take n (drop i b) ≡ x → drop j b ≡ rest → drop i b ≡ x ++ rest
step b i n j x rest sum taken after = chunk-drop i n b ∙ ap (λ p. p ++ drop (i + n) b) taken ∙ ap (λ k. x ++ drop k b) sum ∙ ap (λ q. x ++ q) after

byte : (b : List ℕ) (i j v : ℕ) (rest : List ℕ) → i + 1 ≡ j → v < 256 → take 1 (drop i b) ≡ (v % 256) ∷ [] → drop j b ≡ rest → drop i b ≡ v ∷ rest
byte b i j v rest sum fits taken after = step b i 1 j (v ∷ []) rest sum (taken ∙ ap (λ n. n ∷ []) (omega arith)) after

pub tx_joined : (b : List ℕ) (d : TxDesc) → length b ≡ 16 → Holds b (entry 0 8 d.addr) → Holds b (entry 8 2 d.length) → Holds b (entry 10 1 d.cso) →
    Holds b (entry 11 1 d.cmd) → Holds b (entry 12 1 d.status) → Holds b (entry 13 1 d.css) → Holds b (entry 14 2 d.special) → tx_bytes d ≡ b
tx_joined b d whole addr len cso cmd status css special =
    sym (step b 0 8 8 (to_le_bytes w64 d.addr) _ refl addr.written
    (step b 8 2 10 (to_le_bytes w16 d.length) _ refl len.written
    (byte b 10 11 d.cso _ refl cso.fits cso.written
    (byte b 11 12 d.cmd _ refl cmd.fits cmd.written
    (byte b 12 13 d.status _ refl status.fits status.written
    (byte b 13 14 d.css _ refl css.fits css.written
    (step b 14 2 16 (to_le_bytes w16 d.special) [] refl special.written (drop_all 16 b (omega arith)))))))))

one_byte : (n : ℕ) → n < 2 ^ 8 → n ∷ [] ≡ (n % 256) ∷ []
one_byte n fits = ap (λ k. k ∷ []) (omega arith)

pub rx_back : (d : RxDesc) → RxFits d → rx_desc_of (rx_bytes d) ≡ d
rx_back d fit =
    let b : List ℕ = rx_bytes d in
    let addr = number_in-8 b 0 d.addr (record { fits = fit.addr; written = refl }) in
    let len = number_in-2 b 8 d.length (record { fits = fit.length; written = refl }) in
    let checksum = number_in-2 b 10 d.checksum (record { fits = fit.checksum; written = refl }) in
    let status = number_in-1 b 12 d.status (record { fits = fit.status; written = one_byte d.status fit.status }) in
    let errors = number_in-1 b 13 d.errors (record { fits = fit.errors; written = one_byte d.errors fit.errors }) in
    let special = number_in-2 b 14 d.special (record { fits = fit.special; written = refl }) in
    λ i. record { addr = addr i; length = len i; checksum = checksum i; status = status i; errors = errors i; special = special i }

pub tx_back : (d : TxDesc) → TxFits d → tx_desc_of (tx_bytes d) ≡ d
tx_back d fit =
    let b : List ℕ = tx_bytes d in
    let addr = number_in-8 b 0 d.addr (record { fits = fit.addr; written = refl }) in
    let len = number_in-2 b 8 d.length (record { fits = fit.length; written = refl }) in
    let cso = number_in-1 b 10 d.cso (record { fits = fit.cso; written = one_byte d.cso fit.cso }) in
    let cmd = number_in-1 b 11 d.cmd (record { fits = fit.cmd; written = one_byte d.cmd fit.cmd }) in
    let status = number_in-1 b 12 d.status (record { fits = fit.status; written = one_byte d.status fit.status }) in
    let css = number_in-1 b 13 d.css (record { fits = fit.css; written = one_byte d.css fit.css }) in
    let special = number_in-2 b 14 d.special (record { fits = fit.special; written = refl }) in
    λ i. record { addr = addr i; length = len i; cso = cso i; cmd = cmd i; status = status i; css = css i; special = special i }
