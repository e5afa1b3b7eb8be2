-- Channels one after another, of which on each what came is a beginning of what was sent, up to the first of which it isn't.
use Rattle.std.specs.Prelude.{slice_get, IsNone, ◌↔◌}
use Rattle.std.proofs.Common.{◌≡◌, ℕ, ◌+◌, ◌<◌, ◌≤◌, Bool, true, false, leb, List, length, get_or, Option, Some, None, ap, sym, refl, subst, arith, ◌∙◌}
use Rattle.std.proofs.lemmas.Bool.{leb-true, leb-false}
use Rattle.std.proofs.lemmas.Option.{same_Some, slice_get-get_or, slice_get_within}
use mathlib.Core.List.{IsPrefix}
use Rattle.cs_base.specs.declared.wire_end.WireEnd.{WireEnd}
use Rattle.lane_kernels.specs.declared.differ.Differ.{Differ}
use Rattle.tcp_proxy.specs.Comparing.{IsFirstDiffer}
use Rattle.proxy_members.specs.Differing.{AreInOrder, AllAgree, AgreeBelow, IsFirstToDiffer}

is_none : {X : Type 0} (o : Option X) → ((x : X) → o ≡ Some x → ⊥) → IsNone o
is_none None never = refl
is_none (Some x) never = absurd (never x refl)

module _ {O I : Type 0} (ends : List (WireEnd O I)) where
  -- so it is on those before a place
  abbrev Before : ℕ → Type 0
  Before n = (k : ℕ) (end : WireEnd O I) → k < n → slice_get ends k ≡ Some end → IsPrefix end.got end.sent

  there_at : (n : ℕ) (end : WireEnd O I) → n < length ends → end ≡ get_or ends n end → slice_get ends n ≡ Some end
  there_at n end within is = slice_get-get_or ends n end within ∙ ap Some (sym is)

  pub found : (n : ℕ) (end : WireEnd O I) (sent got : List ℕ) (differ : Differ) → n < length ends → end ≡ get_or ends n end → sent ≡ end.sent → got ≡ end.got → IsFirstDiffer sent got differ → Before n → IsFirstToDiffer ends end.channel differ
  found n end sent got differ within is went came differs before = record {
    place = n;
    end = end;
    there = there_at n end within is;
    its_channel = refl;
    differs = subst (λ l. IsFirstDiffer end.sent l differ) came (subst (λ l. IsFirstDiffer l got differ) went differs);
    first = before;
  }

  same_end : (n k : ℕ) (end other : WireEnd O I) → k ≡ n → slice_get ends n ≡ Some end → slice_get ends k ≡ Some other → other ≡ end
  same_end n k end other e there its = same_Some other end (sym its ∙ ap (slice_get ends) e ∙ there)

  pub below : (n : ℕ) (end : WireEnd O I) → n < length ends → end ≡ get_or ends n end → Before n → AreInOrder ends → AgreeBelow ends end.channel
  below n end within is before order = record { each = each }
    where
      each : (k : ℕ) (other : WireEnd O I) → slice_get ends k ≡ Some other → other.channel < end.channel → IsPrefix other.got other.sent
      each k other its less = at (leb n k) refl (leb k n) refl
        where
          at : (far : Bool) → leb n k ≡ far → (near : Bool) → leb k n ≡ near → IsPrefix other.got other.sent
          at false e near f = before k other (leb-false n k e) its
          at true e true f =
              let up : n ≤ k = leb-true n k e in
              let down : k ≤ n = leb-true k n f in
              let same : k ≡ n = omega arith in
              let channels : other.channel ≡ end.channel = ap (λ (x : WireEnd O I). x.channel) (same_end n k end other same (there_at n end within is) its) in
              absurd (omega arith)
          at true e false f =
              let rising : end.channel < other.channel = order.rising n k end other (leb-false k n f) (there_at n end within is) its in
              absurd (omega arith)

  pub more : (n : ℕ) (end : WireEnd O I) (sent got : List ℕ) (o : Option Differ) → n < length ends → end ≡ get_or ends n end → sent ≡ end.sent → got ≡ end.got → (IsNone o ↔ IsPrefix got sent) → ((d : Differ) → o ≡ Some d → ⊥) → Before n → Before (n + 1)
  more n end sent got o within is went came told never before k other less its = at (leb n k) refl
    where
      here : IsPrefix end.got end.sent
      here = subst (λ l. IsPrefix end.got l) went (subst (λ l. IsPrefix l sent) came (told.0 (is_none o never)))

      at : (far : Bool) → leb n k ≡ far → IsPrefix other.got other.sent
      at false e = before k other (leb-false n k e) its
      at true e =
          let up : n ≤ k = leb-true n k e in
          let same : k ≡ n = omega arith in
          subst (λ (x : WireEnd O I). IsPrefix x.got x.sent) (sym (same_end n k end other same (there_at n end within is) its)) here

  pub all : (n : ℕ) → length ends ≤ n → Before n → AllAgree ends
  all n past before = record { each = λ k end there. before k end (let within : k < length ends = slice_get_within ends k end there in omega arith) there }
