-- A length that is written before a message makes a frame of it.
use Rattle.std.specs.Prelude.{true}
use Rattle.std.proofs.lemmas.Bool.Decides.{nat_tests}
use Rattle.std.specs.Int.{w64, to_le_bytes, bytes_low_first}
use Rattle.std.proofs.Common.{◌≡◌, ℕ, ◌+◌, ◌-◌, ◌<◌, ◌≤◌, ◌^◌, List, [], ◌∷◌, ◌++◌, length, drop, ap, sym, refl, subst, arith, ◌∙◌, append_assoc, length-append}
use Rattle.std.proofs.lemmas.List.{take_at, drop_at}
use Rattle.field_layout.specs.Layout.{Holds, entry}
use Rattle.field_layout.proofs.Layouts.{number_in-4}
use Rattle.sb_message.specs.declared.message.Msg.{Msg}
use Rattle.sb_message.specs.Spelling.{SpellsBody, IsSpelled, AppendsMessage}
use Rattle.sb_message.proofs.Spellings.{appends}
use Rattle.sb_frame.specs.Frames.{stated, is_length, IsWhole}
use Rattle.sb_frame.specs.Framing.{AppendsFrame}
use Rattle.sb_frame.proofs.Lengths.{spelled_length}

states : (size : ℕ) (bytes : List ℕ) → size ≤ 2112 → stated (bytes_low_first 0 4 size ++ bytes) ≡ size
states size bytes small = number_in-4 (bytes_low_first 0 4 size ++ bytes) 0 size (record { fits = omega arith; written = take_at (bytes_low_first 0 4 size) bytes 4 refl })

in_range : (size : ℕ) → 64 ≤ size → size ≤ 2112 → is_length size ≡ true
in_range size least most = grind (arith, nat_tests)

headed : (m : Msg) (old new : List ℕ) (size : ℕ) → (a : AppendsMessage m (old ++ bytes_low_first 0 4 size) new) → size ≡ length a.bytes → AppendsFrame m old new
headed m old new size a size_is =
    let bounds = spelled_length m a.bytes a.spelled in
    let least : 64 ≤ length a.bytes = bounds.0 in
    let most : length a.bytes ≤ 2112 = bounds.1 in
    let head = bytes_low_first 0 4 size in
    let small : size ≤ 2112 = omega arith in
    let stated_is : stated (head ++ a.bytes) ≡ size = states size a.bytes small in
    let whole : length (head ++ a.bytes) ≡ 4 + length a.bytes = length-append head a.bytes in
    let behind : size ≡ length (head ++ a.bytes) - 4 = omega arith in
    record {
      frame = head ++ a.bytes;
      whole = record {
        in_range = ap is_length stated_is ∙ in_range size (omega arith) small;
        measured = length-append head a.bytes ∙ ap (λ n. 4 + n) (sym size_is ∙ sym stated_is);
      };
      header = take_at head a.bytes 4 refl ∙ ap (bytes_low_first 0 4) behind;
      spelled = subst (IsSpelled m) (sym (drop_at head a.bytes 4 refl)) a.spelled;
      appended = a.appended ∙ append_assoc old head a.bytes;
    }

-- a length, and then the parts of the message
pub framed : (m : Msg) (ty size : ℕ) (fields payload old h a b d new : List ℕ) → SpellsBody m.body ty fields payload → ty < 128 → m.at < 2 ^ 64 → length fields ≡ 48
    → size ≡ 64 + length payload → h ≡ old ++ bytes_low_first 0 4 size → a ≡ h ++ fields → b ≡ a ++ to_le_bytes w64 m.at → d ≡ b ++ 0 ∷ 0 ∷ 0 ∷ 0 ∷ 0 ∷ 0 ∷ 0 ∷ (128 + ty) ∷ [] → new ≡ d ++ payload → AppendsFrame m old new
framed m ty size fields payload old h a b d new row small fits wide size_is head first second third last =
    let m_is : AppendsMessage m h new = appends m ty fields payload h a b d new row small fits first second third last in
    let la : length a ≡ length h + 48 = ap length first ∙ length-append h fields ∙ ap (λ n. length h + n) wide in
    let lb : length b ≡ length a + 8 = ap length second ∙ length-append a (to_le_bytes w64 m.at) in
    let ld : length d ≡ length b + 8 = ap length third ∙ length-append b (0 ∷ 0 ∷ 0 ∷ 0 ∷ 0 ∷ 0 ∷ 0 ∷ (128 + ty) ∷ []) in
    let ln : length new ≡ length d + length payload = ap length last ∙ length-append d payload in
    let lm : length new ≡ length h + length m_is.bytes = ap length m_is.appended ∙ length-append h m_is.bytes in
    let size_of : size ≡ length m_is.bytes = omega arith in
    headed m old new size (record { bytes = m_is.bytes; spelled = m_is.spelled; appended = m_is.appended ∙ ap (λ l. l ++ m_is.bytes) head }) size_of
