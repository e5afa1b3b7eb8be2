-- Messages as bytes: what is appended is the message, and bytes are one message.
use Rattle.std.proofs.Common.{◌≡◌, ℕ, ◌+◌, ◌-◌, ◌%◌, ◌^◌, ◌<◌, ◌≤◌, Bool, true, false, not, ◌||◌, cond, ltb, eqb, List, [], ◌∷◌, ◌++◌, length, take, drop, replicate, None, Some, Result, Ok, Err, IfOk, refl, ap, sym, subst, ◌∙◌, append_assoc, length-take, length-drop, arith}
use Rattle.std.specs.Prelude.{option_map}
use Rattle.std.specs.Option.{option_or}
use Rattle.std.specs.Int.{w64, to_le_bytes, bytes_low_first}
use Rattle.std.specs.List.{slice_range}
use Rattle.std.proofs.lemmas.Bool.{le-ltb, eq-eqb, and_parts}
use Rattle.std.proofs.lemmas.List.{take_at, drop_at, drop-drop, take-append-drop}
use Rattle.cs_base.specs.declared.port_kind.PortKind.{PortKind}
use Rattle.field_layout.specs.Layout.{Holds, entry, is_zero_elsewhere, fault_named}
use Rattle.field_layout.proofs.Layouts.{number_in-1, number_in-8, same_bytes, blank_of, not_zero_elsewhere}
use Rattle.eth_proto.specs.Spelling as eth
use Rattle.eth_proto.proofs.Spellings.{no_fault as eth_fault}
use Rattle.mem_proto.specs.declared.message.MemMsg.TheVariants as mem
use Rattle.mem_proto.specs.Spelling as on_mem
use Rattle.mem_proto.proofs.Spellings.{one_message as one_mem, no_fault as mem_fault}
use Rattle.pcie_proto.specs.declared.from_device.DevMsg.TheVariants as dev
use Rattle.pcie_proto.specs.declared.from_host.HostMsg.TheVariants as host
use Rattle.pcie_proto.specs.FromDevice as from_dev
use Rattle.pcie_proto.specs.FromHost as from_host
use Rattle.pcie_proto.proofs.FromDevice.{one_message as one_dev, no_fault as dev_fault}
use Rattle.pcie_proto.proofs.FromHost.{one_message as one_host, no_fault as host_fault}
use Rattle.sb_intro.specs.Spelling as intro
use Rattle.sb_intro.proofs.Spellings.{one_intro, no_fault as intro_fault}
use Rattle.sb_message.specs.declared.message.Body.{Body}
use Rattle.sb_message.specs.declared.message.Body.TheVariants as body
use Rattle.sb_message.specs.declared.message.Msg.{Msg}
use Rattle.sb_message.specs.declared.msg_bad.MsgBad.{MsgBad}
use Rattle.sb_message.specs.declared.msg_bad.MsgBad.TheVariants as msg_bad
use Rattle.sb_message.specs.declared.msg_bad.UpperBad.TheVariants as upper
use Rattle.sb_message.specs.Receivable.{receivable}
use Rattle.sb_message.specs.Spelling.{SpellsBody, IsSpelled, Spells, AppendsMessage, ReadsSpelled, last_of, type_of, body_refusal, refusal, fault_of}
use Rattle.sb_message.specs.Types.{is_type_of, is_known_type, is_dev_type, is_host_type, is_mem_type}

-- ---- what is appended

regrouped : (a b c d e : List ℕ) → (((a ++ b) ++ c) ++ d) ++ e ≡ a ++ (b ++ (c ++ (d ++ e)))
regrouped a b c d e = simp append_assoc

length-fields : (b : Body) (ty : ℕ) (fields payload : List ℕ) → SpellsBody b ty fields payload → length fields ≡ 48
length-fields body.Sync ty fields payload row = row.laid_out.whole
length-fields (body.Intro intro) ty fields payload row = row.laid_out.whole
length-fields (body.Dev message) ty fields payload row = row.laid_out.whole
length-fields (body.Host message) ty fields payload row = row.laid_out.whole
length-fields (body.Mem message) ty fields payload row = row.access.laid_out.whole
length-fields (body.Eth frame) ty fields payload row = row.laid_out.whole

-- what follows the fields
abbrev rest_of : (at ty : ℕ) → List ℕ → List ℕ
rest_of at ty payload = to_le_bytes w64 at ++ (0 ∷ 0 ∷ 0 ∷ 0 ∷ 0 ∷ 0 ∷ 0 ∷ (128 + ty) ∷ payload)

spelled : (m : Msg) (ty : ℕ) (fields payload : List ℕ) → SpellsBody m.body ty fields payload → ty < 128 → m.at < 2 ^ 64 → IsSpelled m (fields ++ rest_of m.at ty payload)
spelled m ty fields payload row small fits = record { ty = ty; row = whole_row; timestamp = record { fits = fits; written = ap (take 8) (from 48 0 refl) }; reserved = ap (take 7) (from 56 8 refl); owned = record { fits = omega arith; written = ap (take 1) (from 63 15 refl) ∙ ap (λ n. n ∷ []) byte } } where
  bytes : List ℕ
  bytes = fields ++ rest_of m.at ty payload

  long : length fields ≡ 48
  long = length-fields m.body ty fields payload row

  from : (n k : ℕ) → 48 + k ≡ n → drop n bytes ≡ drop k (rest_of m.at ty payload)
  from n k is = ap (λ i. drop i bytes) (sym is) ∙ sym (drop-drop k 48 bytes) ∙ ap (drop k) (drop_at fields (rest_of m.at ty payload) 48 long)

  byte : 128 + ty ≡ (128 + ty) % 256
  byte = omega arith

  whole_row : SpellsBody m.body ty (take 48 bytes) (drop 64 bytes)
  whole_row =
      let front : fields ≡ take 48 bytes = sym (take_at fields (rest_of m.at ty payload) 48 long) in
      let back : payload ≡ drop 64 bytes = sym (from 64 16 refl) in
      subst (SpellsBody m.body ty (take 48 bytes)) back (subst (λ front. SpellsBody m.body ty front payload) front row)

pub appends : (m : Msg) (ty : ℕ) (fields payload old a b d new : List ℕ) → SpellsBody m.body ty fields payload → ty < 128 → m.at < 2 ^ 64
    → a ≡ old ++ fields → b ≡ a ++ to_le_bytes w64 m.at → d ≡ b ++ 0 ∷ 0 ∷ 0 ∷ 0 ∷ 0 ∷ 0 ∷ 0 ∷ (128 + ty) ∷ [] → new ≡ d ++ payload → AppendsMessage m old new
appends m ty fields payload old a b d new row small fits first second third last = record { bytes = fields ++ rest_of m.at ty payload; spelled = spelled m ty fields payload row small fits; appended = joined } where
  end : List ℕ
  end = 0 ∷ 0 ∷ 0 ∷ 0 ∷ 0 ∷ 0 ∷ 0 ∷ (128 + ty) ∷ []

  joined : new ≡ old ++ (fields ++ rest_of m.at ty payload)
  joined = last ∙ ap (λ l. l ++ payload) (third ∙ ap (λ l. l ++ end) (second ∙ ap (λ l. l ++ to_le_bytes w64 m.at) first)) ∙ regrouped old fields (to_le_bytes w64 m.at) end payload

-- ---- bytes are one message

-- the variant of a body by its type
variant_at : ℕ → ℕ
variant_at ty = cond (eqb ty 0x00) 0 (cond (eqb ty 0x01) 1 (cond (is_dev_type ty) 2 (cond (is_host_type ty) 3 (cond (is_mem_type ty) 4 5))))

variant_of : Body → ℕ
variant_of body.Sync = 0
variant_of (body.Intro intro) = 1
variant_of (body.Dev message) = 2
variant_of (body.Host message) = 3
variant_of (body.Mem message) = 4
variant_of (body.Eth frame) = 5

variant-row : (b : Body) (ty : ℕ) (fields payload : List ℕ) → SpellsBody b ty fields payload → variant_at ty ≡ variant_of b
unfolding variant_at variant_of
variant-row body.Sync ty fields payload x = ap variant_at x.is_type
variant-row (body.Intro intro) ty fields payload x = ap variant_at x.is_type
variant-row (body.Dev (dev.Read id addr len)) ty fields payload x = ap variant_at x.is_type
variant-row (body.Dev (dev.Write id addr bytes)) ty fields payload x = ap variant_at x.is_type
variant-row (body.Dev (dev.Level high)) ty fields payload x = ap variant_at x.is_type
variant-row (body.Dev (dev.ReadDone id bytes)) ty fields payload x = ap variant_at x.is_type
variant-row (body.Dev (dev.WriteDone id)) ty fields payload x = ap variant_at x.is_type
variant-row (body.Host (host.Read id bar offset len)) ty fields payload x = ap variant_at x.is_type
variant-row (body.Host (host.Write id bar offset bytes)) ty fields payload x = ap variant_at x.is_type
variant-row (body.Host (host.ReadDone id bytes)) ty fields payload x = ap variant_at x.is_type
variant-row (body.Host (host.WriteDone id)) ty fields payload x = ap variant_at x.is_type
variant-row (body.Mem (mem.Read id addr len)) ty fields payload x = ap variant_at x.is_type
variant-row (body.Mem (mem.Write id addr bytes)) ty fields payload x = ap variant_at x.is_type
variant-row (body.Mem (mem.ReadDone id bytes)) ty fields payload x = ap variant_at x.is_type
variant-row (body.Mem (mem.WriteDone id)) ty fields payload x = ap variant_at x.is_type
variant-row (body.Eth frame) ty fields payload x = ap variant_at x.is_type

same_variant : (a b : Body) (ty : ℕ) (fields payload : List ℕ) → SpellsBody a ty fields payload → SpellsBody b ty fields payload → variant_of a ≡ variant_of b
same_variant a b ty fields payload x y = sym (variant-row a ty fields payload x) ∙ variant-row b ty fields payload y

one_body : (a b : Body) (ty : ℕ) (fields payload : List ℕ) → variant_of a ≡ variant_of b → SpellsBody a ty fields payload → SpellsBody b ty fields payload → a ≡ b
unfolding variant_of
one_body body.Sync body.Sync ty fields payload same x y = refl
one_body body.Sync (body.Intro g) ty fields payload same x y = absurd (omega (arith, same))
one_body body.Sync (body.Dev g) ty fields payload same x y = absurd (omega (arith, same))
one_body body.Sync (body.Host g) ty fields payload same x y = absurd (omega (arith, same))
one_body body.Sync (body.Mem g) ty fields payload same x y = absurd (omega (arith, same))
one_body body.Sync (body.Eth g) ty fields payload same x y = absurd (omega (arith, same))
one_body (body.Intro f) body.Sync ty fields payload same x y = absurd (omega (arith, same))
one_body (body.Intro f) (body.Intro g) ty fields payload same x y = ap body.Intro (one_intro f g ty fields payload x y)
one_body (body.Intro f) (body.Dev g) ty fields payload same x y = absurd (omega (arith, same))
one_body (body.Intro f) (body.Host g) ty fields payload same x y = absurd (omega (arith, same))
one_body (body.Intro f) (body.Mem g) ty fields payload same x y = absurd (omega (arith, same))
one_body (body.Intro f) (body.Eth g) ty fields payload same x y = absurd (omega (arith, same))
one_body (body.Dev f) body.Sync ty fields payload same x y = absurd (omega (arith, same))
one_body (body.Dev f) (body.Intro g) ty fields payload same x y = absurd (omega (arith, same))
one_body (body.Dev f) (body.Dev g) ty fields payload same x y = ap body.Dev (one_dev f g ty fields payload x y)
one_body (body.Dev f) (body.Host g) ty fields payload same x y = absurd (omega (arith, same))
one_body (body.Dev f) (body.Mem g) ty fields payload same x y = absurd (omega (arith, same))
one_body (body.Dev f) (body.Eth g) ty fields payload same x y = absurd (omega (arith, same))
one_body (body.Host f) body.Sync ty fields payload same x y = absurd (omega (arith, same))
one_body (body.Host f) (body.Intro g) ty fields payload same x y = absurd (omega (arith, same))
one_body (body.Host f) (body.Dev g) ty fields payload same x y = absurd (omega (arith, same))
one_body (body.Host f) (body.Host g) ty fields payload same x y = ap body.Host (one_host f g ty fields payload x y)
one_body (body.Host f) (body.Mem g) ty fields payload same x y = absurd (omega (arith, same))
one_body (body.Host f) (body.Eth g) ty fields payload same x y = absurd (omega (arith, same))
one_body (body.Mem f) body.Sync ty fields payload same x y = absurd (omega (arith, same))
one_body (body.Mem f) (body.Intro g) ty fields payload same x y = absurd (omega (arith, same))
one_body (body.Mem f) (body.Dev g) ty fields payload same x y = absurd (omega (arith, same))
one_body (body.Mem f) (body.Host g) ty fields payload same x y = absurd (omega (arith, same))
one_body (body.Mem f) (body.Mem g) ty fields payload same x y = ap body.Mem (one_mem f g ty fields payload x y)
one_body (body.Mem f) (body.Eth g) ty fields payload same x y = absurd (omega (arith, same))
one_body (body.Eth f) body.Sync ty fields payload same x y = absurd (omega (arith, same))
one_body (body.Eth f) (body.Intro g) ty fields payload same x y = absurd (omega (arith, same))
one_body (body.Eth f) (body.Dev g) ty fields payload same x y = absurd (omega (arith, same))
one_body (body.Eth f) (body.Host g) ty fields payload same x y = absurd (omega (arith, same))
one_body (body.Eth f) (body.Mem g) ty fields payload same x y = absurd (omega (arith, same))
one_body (body.Eth f) (body.Eth g) ty fields payload same x y = ap body.Eth (sym x.whole ∙ y.whole)

type_is : (m : Msg) (bytes : List ℕ) (x : IsSpelled m bytes) → last_of bytes ≡ 128 + x.ty
type_is m bytes x = number_in-1 bytes 63 (128 + x.ty) x.owned

row_at : (m : Msg) (bytes : List ℕ) (x : IsSpelled m bytes) → SpellsBody m.body (type_of bytes) (take 48 bytes) (drop 64 bytes)
row_at m bytes x =
    let same : x.ty ≡ type_of bytes = omega (arith, type_is m bytes x) in
    subst (λ ty. SpellsBody m.body ty (take 48 bytes) (drop 64 bytes)) same x.row

pub one_message : (a b : Msg) (bytes : List ℕ) → IsSpelled a bytes → IsSpelled b bytes → a ≡ b
one_message a b bytes x y = λ i. record { at = at i; body = same i } where
  at : a.at ≡ b.at
  at = sym (number_in-8 bytes 48 a.at x.timestamp) ∙ number_in-8 bytes 48 b.at y.timestamp

  same : a.body ≡ b.body
  same = one_body a.body b.body (type_of bytes) (take 48 bytes) (drop 64 bytes) (same_variant a.body b.body (type_of bytes) (take 48 bytes) (drop 64 bytes) (row_at a bytes x) (row_at b bytes y)) (row_at a bytes x) (row_at b bytes y)

-- ---- a message has one spelling

-- the bytes by their places
split : (bytes : List ℕ) → take 48 bytes ++ (slice_range bytes 48 56 ++ (slice_range bytes 56 63 ++ (slice_range bytes 63 64 ++ drop 64 bytes))) ≡ bytes
split bytes =
    ap (λ l. take 48 bytes ++ l)
    (ap (λ l. slice_range bytes 48 56 ++ l) (ap (λ l. slice_range bytes 56 63 ++ l) (next 63 1) ∙ next 56 7) ∙ next 48 8)
    ∙ take-append-drop 48 bytes where
      next : (n k : ℕ) → take k (drop n bytes) ++ drop (n + k) bytes ≡ drop n bytes
      next n k = ap (λ l. take k (drop n bytes) ++ l) (sym (drop-drop k n bytes)) ∙ take-append-drop k (drop n bytes)

record SameRow (ty ty' : ℕ) (fields fields' payload payload' : List ℕ) : Type 0 where
  same_type : ty ≡ ty'
  same_fields : fields ≡ fields'
  same_payload : payload ≡ payload'

one_row : (b : Body) (ty ty' : ℕ) (fields fields' payload payload' : List ℕ) → SpellsBody b ty fields payload → SpellsBody b ty' fields' payload' → SameRow ty ty' fields fields' payload payload'
one_row body.Sync ty ty' fields fields' payload payload' x y = record { same_type = x.is_type ∙ sym y.is_type; same_fields = same_bytes x.laid_out y.laid_out; same_payload = x.no_payload ∙ sym y.no_payload }
one_row (body.Intro i) ty ty' fields fields' payload payload' x y = record { same_type = x.is_type ∙ sym y.is_type; same_fields = same_bytes x.laid_out y.laid_out; same_payload = x.no_payload ∙ sym y.no_payload }
one_row (body.Dev f) ty ty' fields fields' payload payload' x y = record { same_type = x.is_type ∙ sym y.is_type; same_fields = same_bytes x.laid_out y.laid_out; same_payload = x.whole ∙ sym y.whole }
one_row (body.Host f) ty ty' fields fields' payload payload' x y = record { same_type = x.is_type ∙ sym y.is_type; same_fields = same_bytes x.laid_out y.laid_out; same_payload = x.whole ∙ sym y.whole }
one_row (body.Mem f) ty ty' fields fields' payload payload' x y = record { same_type = x.is_type ∙ sym y.is_type; same_fields = same_bytes x.access.laid_out y.access.laid_out; same_payload = x.access.whole ∙ sym y.access.whole }
one_row (body.Eth f) ty ty' fields fields' payload payload' x y = record { same_type = x.is_type ∙ sym y.is_type; same_fields = same_bytes x.laid_out y.laid_out; same_payload = x.whole ∙ sym y.whole }

pub one_spelling : (m : Msg) (a b : List ℕ) → IsSpelled m a → IsSpelled m b → a ≡ b
one_spelling m a b x y =
    let row = one_row m.body x.ty y.ty (take 48 a) (take 48 b) (drop 64 a) (drop 64 b) x.row y.row in
    let timestamp : slice_range a 48 56 ≡ slice_range b 48 56 = x.timestamp.written ∙ sym y.timestamp.written in
    let reserved : slice_range a 56 63 ≡ slice_range b 56 63 = x.reserved ∙ sym y.reserved in
    let owned : slice_range a 63 64 ≡ slice_range b 63 64 = x.owned.written ∙ ap (λ ty. bytes_low_first 0 1 (128 + ty)) row.same_type ∙ sym y.owned.written in
    sym (split a) ∙ (λ i. row.same_fields i ++ (timestamp i ++ (reserved i ++ (owned i ++ row.same_payload i)))) ∙ split b

-- ---- what is spelled has no fault

is_type_of-row : (kind : PortKind) (b : Body) (ty : ℕ) (fields payload : List ℕ) → SpellsBody b ty fields payload → is_type_of kind ty ≡ receivable kind b
is_type_of-row kind body.Sync ty fields payload x = ap (is_type_of kind) x.is_type
is_type_of-row kind (body.Intro i) ty fields payload x = ap (is_type_of kind) x.is_type
is_type_of-row kind (body.Dev (dev.Read id addr len)) ty fields payload x = ap (is_type_of kind) x.is_type
is_type_of-row kind (body.Dev (dev.Write id addr bytes)) ty fields payload x = ap (is_type_of kind) x.is_type
is_type_of-row kind (body.Dev (dev.Level high)) ty fields payload x = ap (is_type_of kind) x.is_type
is_type_of-row kind (body.Dev (dev.ReadDone id bytes)) ty fields payload x = ap (is_type_of kind) x.is_type
is_type_of-row kind (body.Dev (dev.WriteDone id)) ty fields payload x = ap (is_type_of kind) x.is_type
is_type_of-row kind (body.Host (host.Read id bar offset len)) ty fields payload x = ap (is_type_of kind) x.is_type
is_type_of-row kind (body.Host (host.Write id bar offset bytes)) ty fields payload x = ap (is_type_of kind) x.is_type
is_type_of-row kind (body.Host (host.ReadDone id bytes)) ty fields payload x = ap (is_type_of kind) x.is_type
is_type_of-row kind (body.Host (host.WriteDone id)) ty fields payload x = ap (is_type_of kind) x.is_type
is_type_of-row kind (body.Mem (mem.Read id addr len)) ty fields payload x = ap (is_type_of kind) x.is_type
is_type_of-row kind (body.Mem (mem.Write id addr bytes)) ty fields payload x = ap (is_type_of kind) x.is_type
is_type_of-row kind (body.Mem (mem.ReadDone id bytes)) ty fields payload x = ap (is_type_of kind) x.is_type
is_type_of-row kind (body.Mem (mem.WriteDone id)) ty fields payload x = ap (is_type_of kind) x.is_type
is_type_of-row kind (body.Eth frame) ty fields payload x = ap (is_type_of kind) x.is_type

body_refusal-row : (b : Body) (ty : ℕ) (fields payload : List ℕ) → SpellsBody b ty fields payload → body_refusal ty fields payload ≡ None
body_refusal-row body.Sync ty fields payload x =
    let zeros : is_zero_elsewhere [] fields ≡ true = x.laid_out.others in
    let empty : eqb (length payload) 0 ≡ true = eq-eqb _ 0 (ap length x.no_payload) in
    ap (λ ty. body_refusal ty fields payload) x.is_type ∙ rw (zeros, empty) refl
body_refusal-row (body.Intro i) ty fields payload x =
    ap (λ ty. body_refusal ty fields payload) x.is_type ∙ ap (option_map upper.Intro) (ap (λ ty. intro.refusal ty fields payload) (sym x.is_type) ∙ intro_fault i ty fields payload x)
body_refusal-row (body.Dev (dev.Read id addr len)) ty fields payload x =
    ap (λ ty. body_refusal ty fields payload) x.is_type ∙ ap (option_map upper.Pcie) (ap (λ ty. from_dev.refusal ty fields payload) (sym x.is_type) ∙ dev_fault (dev.Read id addr len) ty fields payload x)
body_refusal-row (body.Dev (dev.Write id addr bytes)) ty fields payload x =
    ap (λ ty. body_refusal ty fields payload) x.is_type ∙ ap (option_map upper.Pcie) (ap (λ ty. from_dev.refusal ty fields payload) (sym x.is_type) ∙ dev_fault (dev.Write id addr bytes) ty fields payload x)
body_refusal-row (body.Dev (dev.Level high)) ty fields payload x =
    ap (λ ty. body_refusal ty fields payload) x.is_type ∙ ap (option_map upper.Pcie) (ap (λ ty. from_dev.refusal ty fields payload) (sym x.is_type) ∙ dev_fault (dev.Level high) ty fields payload x)
body_refusal-row (body.Dev (dev.ReadDone id bytes)) ty fields payload x =
    ap (λ ty. body_refusal ty fields payload) x.is_type ∙ ap (option_map upper.Pcie) (ap (λ ty. from_dev.refusal ty fields payload) (sym x.is_type) ∙ dev_fault (dev.ReadDone id bytes) ty fields payload x)
body_refusal-row (body.Dev (dev.WriteDone id)) ty fields payload x =
    ap (λ ty. body_refusal ty fields payload) x.is_type ∙ ap (option_map upper.Pcie) (ap (λ ty. from_dev.refusal ty fields payload) (sym x.is_type) ∙ dev_fault (dev.WriteDone id) ty fields payload x)
body_refusal-row (body.Host (host.Read id bar offset len)) ty fields payload x =
    ap (λ ty. body_refusal ty fields payload) x.is_type ∙ ap (option_map upper.Pcie) (ap (λ ty. from_host.refusal ty fields payload) (sym x.is_type) ∙ host_fault (host.Read id bar offset len) ty fields payload x)
body_refusal-row (body.Host (host.Write id bar offset bytes)) ty fields payload x =
    ap (λ ty. body_refusal ty fields payload) x.is_type ∙ ap (option_map upper.Pcie) (ap (λ ty. from_host.refusal ty fields payload) (sym x.is_type) ∙ host_fault (host.Write id bar offset bytes) ty fields payload x)
body_refusal-row (body.Host (host.ReadDone id bytes)) ty fields payload x =
    ap (λ ty. body_refusal ty fields payload) x.is_type ∙ ap (option_map upper.Pcie) (ap (λ ty. from_host.refusal ty fields payload) (sym x.is_type) ∙ host_fault (host.ReadDone id bytes) ty fields payload x)
body_refusal-row (body.Host (host.WriteDone id)) ty fields payload x =
    ap (λ ty. body_refusal ty fields payload) x.is_type ∙ ap (option_map upper.Pcie) (ap (λ ty. from_host.refusal ty fields payload) (sym x.is_type) ∙ host_fault (host.WriteDone id) ty fields payload x)
body_refusal-row (body.Mem (mem.Read id addr len)) ty fields payload x =
    ap (λ ty. body_refusal ty fields payload) x.is_type ∙ ap (option_map upper.Mem) (ap (λ ty. on_mem.refusal ty fields payload) (sym x.is_type) ∙ mem_fault (mem.Read id addr len) ty fields payload x)
body_refusal-row (body.Mem (mem.Write id addr bytes)) ty fields payload x =
    ap (λ ty. body_refusal ty fields payload) x.is_type ∙ ap (option_map upper.Mem) (ap (λ ty. on_mem.refusal ty fields payload) (sym x.is_type) ∙ mem_fault (mem.Write id addr bytes) ty fields payload x)
body_refusal-row (body.Mem (mem.ReadDone id bytes)) ty fields payload x =
    ap (λ ty. body_refusal ty fields payload) x.is_type ∙ ap (option_map upper.Mem) (ap (λ ty. on_mem.refusal ty fields payload) (sym x.is_type) ∙ mem_fault (mem.ReadDone id bytes) ty fields payload x)
body_refusal-row (body.Mem (mem.WriteDone id)) ty fields payload x =
    ap (λ ty. body_refusal ty fields payload) x.is_type ∙ ap (option_map upper.Mem) (ap (λ ty. on_mem.refusal ty fields payload) (sym x.is_type) ∙ mem_fault (mem.WriteDone id) ty fields payload x)
body_refusal-row (body.Eth frame) ty fields payload x =
    ap (λ ty. body_refusal ty fields payload) x.is_type ∙ ap (option_map upper.Eth) (ap (λ ty. eth.refusal ty fields payload) (sym x.is_type) ∙ eth_fault frame ty fields payload x)

pub no_fault : (kind : PortKind) (m : Msg) (bytes : List ℕ) → Spells kind m bytes → refusal kind bytes ≡ None
no_fault kind m bytes x =
    let last : last_of bytes ≡ 128 + x.spelled.ty = type_is m bytes x.spelled in
    let row = row_at m bytes x.spelled in
    let one : length (slice_range bytes 63 64) ≡ 1 = ap length x.spelled.owned.written in
    let long : ltb (length bytes) 64 ≡ false = le-ltb _ 64 (omega (arith, one, length-take 1 (drop 63 bytes), length-drop 63 bytes)) in
    let owned : ltb (last_of bytes) 128 ≡ false = le-ltb _ 128 (omega (arith, last)) in
    let fits : is_type_of kind (type_of bytes) ≡ true = is_type_of-row kind m.body (type_of bytes) (take 48 bytes) (drop 64 bytes) row ∙ x.receivable in
    let zeros : is_zero_elsewhere [] (slice_range bytes 56 63) ≡ true = ap (is_zero_elsewhere []) x.spelled.reserved ∙ (blank_of 7).others in
    let none : body_refusal (type_of bytes) (take 48 bytes) (drop 64 bytes) ≡ None = body_refusal-row m.body (type_of bytes) (take 48 bytes) (drop 64 bytes) row in
    rw (long, owned, fits, zeros, none) refl

no_memory : (bad : MsgBad) → fault_of bad ≡ None → bad ≡ msg_bad.NoMemory
no_memory msg_bad.NoMemory none = refl
no_memory msg_bad.Short none = absurd cc
no_memory msg_bad.OwnerClear none = absurd cc
no_memory msg_bad.TypeNotOfKind none = absurd cc
no_memory msg_bad.ReservedNotZero none = absurd cc
no_memory (msg_bad.Upper bad) none = absurd cc

-- what is decoded so and refused so is what the bytes are, unless memory runs out
pub only_from : (r : Result Msg MsgBad) (kind : PortKind) (bytes : List ℕ) → IfOk r (λ message. Spells kind message bytes) → fault_named fault_of r ≡ refusal kind bytes → ReadsSpelled r kind bytes
only_from (Ok found) kind bytes is refused m x = one_message found m bytes is.spelled x.spelled
only_from (Err bad) kind bytes is refused m x = no_memory bad (refused ∙ no_fault kind m bytes x)

-- ---- the steps of decoding

pub parsed : (kind : PortKind) (at last : ℕ) (b : Body) (bytes : List ℕ) → Holds bytes (entry 63 1 last) → 128 ≤ last → is_type_of kind (last - 128) ≡ true → slice_range bytes 56 63 ≡ replicate 7 0 → Holds bytes (entry 48 8 at) → SpellsBody b (last - 128) (take 48 bytes) (drop 64 bytes) → Spells kind (record { at = at; body = b }) bytes
parsed kind at last b bytes holds owned typed reserved timestamp row = record {
  receivable = sym (is_type_of-row kind b (last - 128) (take 48 bytes) (drop 64 bytes) row) ∙ typed;
  spelled = record { ty = last - 128; row = row; timestamp = timestamp; reserved = reserved; owned = subst (λ n. Holds bytes (entry 63 1 n)) whole holds };
} where
  whole : last ≡ 128 + (last - 128)
  whole = omega (arith, owned)

refusal-header : (kind : PortKind) (bytes : List ℕ) (last : ℕ) → 64 ≤ length bytes → last ≡ last_of bytes → 128 ≤ last → is_type_of kind (last - 128) ≡ true → (zero : Bool) → is_zero_elsewhere [] (slice_range bytes 56 63) ≡ zero → refusal kind bytes ≡ option_or (cond zero None (Some msg_bad.ReservedNotZero)) (option_map msg_bad.Upper (body_refusal (last - 128) (take 48 bytes) (drop 64 bytes)))
refusal-header kind bytes last len is owned typed zero zeros =
    let long : ltb (length bytes) 64 ≡ false = le-ltb _ 64 len in
    let bit : ltb (last_of bytes) 128 ≡ false = le-ltb _ 128 (omega (arith, is)) in
    let same : last_of bytes - 128 ≡ last - 128 = ap (λ n. n - 128) (sym is) in
    let fits : is_type_of kind (last_of bytes - 128) ≡ true = ap (is_type_of kind) same ∙ typed in
    rw (long, bit, fits, zeros, same) (by_zero zero) where
      by_zero : (zero : Bool) → option_or (cond (not zero) (Some msg_bad.ReservedNotZero) None) (option_map msg_bad.Upper (body_refusal (last - 128) (take 48 bytes) (drop 64 bytes))) ≡ option_or (cond zero None (Some msg_bad.ReservedNotZero)) (option_map msg_bad.Upper (body_refusal (last - 128) (take 48 bytes) (drop 64 bytes)))
      by_zero true = refl
      by_zero false = refl

pub refusal-reserved : (kind : PortKind) (bytes : List ℕ) (last : ℕ) → 64 ≤ length bytes → last ≡ last_of bytes → 128 ≤ last → is_type_of kind (last - 128) ≡ true → (slice_range bytes 56 63 ≡ replicate 7 0 → ⊥) → refusal kind bytes ≡ Some msg_bad.ReservedNotZero
refusal-reserved kind bytes last len is owned typed differs = refusal-header kind bytes last len is owned typed false unzero where
  seven : length (slice_range bytes 56 63) ≡ 7
  seven = omega (arith, length-take 7 (drop 56 bytes), length-drop 56 bytes, len)

  unzero : is_zero_elsewhere [] (slice_range bytes 56 63) ≡ false
  unzero = not_zero_elsewhere (blank_of 7) seven tt (λ same. differs (sym same))

pub refusal-body : (kind : PortKind) (bytes : List ℕ) (last : ℕ) → 64 ≤ length bytes → last ≡ last_of bytes → 128 ≤ last → is_type_of kind (last - 128) ≡ true → slice_range bytes 56 63 ≡ replicate 7 0 → refusal kind bytes ≡ option_map msg_bad.Upper (body_refusal (last - 128) (take 48 bytes) (drop 64 bytes))
refusal-body kind bytes last len is owned typed zeros = refusal-header kind bytes last len is owned typed true (ap (is_zero_elsewhere []) zeros ∙ (blank_of 7).others)

-- ---- what can be received is known

known-cond : (test : Bool) (x r s : Bool) → (r ≡ true → s ≡ true) → cond test x r ≡ true → cond test true s ≡ true
known-cond true x r s more is = refl
known-cond false x r s more is = more is

known-or : (a b c : Bool) → (b ≡ true → c ≡ true) → (a || b) ≡ true → (a || c) ≡ true
known-or true b c more is = refl
known-or false b c more is = more is

pub known : (kind : PortKind) (ty : ℕ) → is_type_of kind ty ≡ true → is_known_type ty ≡ true
known kind ty = known-or (eqb ty 0x00) _ _ (known-or (eqb ty 0x01) _ _ (known-cond (is_dev_type ty) _ _ _ (known-cond (is_host_type ty) _ _ _ (known-cond (is_mem_type ty) _ _ _ (λ is. (and_parts _ _ is).0)))))
