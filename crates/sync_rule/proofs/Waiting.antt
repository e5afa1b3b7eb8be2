-- Whether messages wait to be sent, one port after another; and which port bars its component.
use Rattle.std.proofs.Common.{◌≡◌, ℕ, ◌+◌, ◌<◌, ◌≤◌, ◌⊎◌, inl, inr, Bool, true, false, ◌||◌, List, [], ◌∷◌, length, Some, refl, sym, ap, ◌∙◌, subst, arith, eq-or-lt_of_le}
use Rattle.std.specs.Prelude.{slice_get}
use Rattle.std.proofs.lemmas.Bool.{false≢true}
use Rattle.std.proofs.lemmas.Option.{none-some, same_Some}
use Rattle.sb_message.specs.declared.message.Msg.{Msg}
use Rattle.sync_rule.specs.Ports.{In, Out, waits_of}
use Rattle.sync_rule.specs.Times.{quiet_bound}
use Rattle.sync_rule.specs.OnePort.{BarsHere}
use Rattle.sync_rule.specs.ManyPorts.{Bars, SentBelow, WaitBelow}

module _ (outs : List Out) (n : ℕ) (o : Out) (there : slice_get outs n ≡ Some o) where
  pub sent_more : SentBelow outs n → o.outbox ≡ [] → SentBelow outs (n + 1)
  sent_more below here p x lt is = from (eq-or-lt_of_le (let le : p ≤ n = omega arith in le))
    where
      from : (p ≡ n) ⊎ (p < n) → x.outbox ≡ []
      from (inl same) = ap (λ (y : Out). y.outbox) (same_Some x o (sym is ∙ ap (slice_get outs) same ∙ there)) ∙ here
      from (inr less) = below p x less is

  sent_fewer : SentBelow outs (n + 1) → SentBelow outs n
  sent_fewer all p x lt is = all p x (omega arith) is

  pub wait_more : (w : Bool) → WaitBelow outs n w → WaitBelow outs (n + 1) (w || waits_of o.outbox)
  wait_more true below = record { none = λ no. absurd (false≢true (sym no)); some = λ _ all. below.some refl (sent_fewer all) }
  wait_more false below = at o.outbox refl
    where
      at : (box : List Msg) → o.outbox ≡ box → WaitBelow outs (n + 1) (waits_of box)
      at [] e = record { none = λ _. sent_more (below.none refl) e; some = λ no. absurd (false≢true no) }
      at (m ∷ more) e = record { none = λ no. absurd (false≢true (sym no)); some = λ _ all. absurd (empty_is m more (sym e ∙ all n o (omega arith) there)) }
        where
          empty_is : (m : Msg) (more : List Msg) → m ∷ more ≡ [] → ⊥
          empty_is m more none = absurd (let lengths : length (m ∷ more) ≡ 0 = ap length none in omega arith)

pub waits_then : (outbox : List Msg) → waits_of outbox ≡ true → outbox ≡ [] → ⊥
waits_then [] e none = false≢true e
waits_then (m ∷ more) e none = let lengths : length (m ∷ more) ≡ 0 = ap length none in omega arith

pub sent_then : (outbox : List Msg) → waits_of outbox ≡ false → outbox ≡ []
sent_then [] e = refl
sent_then (m ∷ more) e = absurd (false≢true (sym e))

quiet_is : (inbox : List Msg) (bound b : ℕ) → quiet_bound inbox bound ≡ Some b → (inbox ≡ []) × (bound ≡ b)
quiet_is [] bound b e = (refl, same_Some bound b e)
quiet_is (m ∷ more) bound b e = absurd (none-some b e)

pub bars_at : (ins : List In) (n needed : ℕ) (i : In) → slice_get ins n ≡ Some i → BarsHere i needed → Bars ins needed n
bars_at ins n needed i there here = record { bound = i.bound; quiet = record { is = i; there = there; at_time = ap (λ l. quiet_bound l i.bound) here.quiet }; short = here.short }

pub bars_here : (ins : List In) (n needed : ℕ) (i : In) → slice_get ins n ≡ Some i → Bars ins needed n → BarsHere i needed
bars_here ins n needed i there bars = subst (λ x. BarsHere x needed) (same_Some bars.quiet.is i (sym bars.quiet.there ∙ there)) (let parts = quiet_is bars.quiet.is.inbox bars.quiet.is.bound bars.bound bars.quiet.at_time in record { quiet = parts.0; short = subst (λ x. x < needed) (sym parts.1) bars.short })

pub no_more_bars : (ins : List In) (n needed : ℕ) (i : In) → slice_get ins n ≡ Some i → (BarsHere i needed → ⊥) → ((p : ℕ) → p < n → Bars ins needed p → ⊥) → (p : ℕ) → p < n + 1 → Bars ins needed p → ⊥
no_more_bars ins n needed i there free below p lt bars = from (eq-or-lt_of_le (let le : p ≤ n = omega arith in le))
  where
    from : (p ≡ n) ⊎ (p < n) → ⊥
    from (inl same) = free (bars_here ins n needed i there (subst (Bars ins needed) same bars))
    from (inr less) = below p less bars
