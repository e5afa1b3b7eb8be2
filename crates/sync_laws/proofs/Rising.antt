-- Timestamps that never fall, said in two ways.
use Rattle.std.proofs.Common.{◌≡◌, ℕ, zero, suc, ◌<◌, ◌≤◌, inl, inr, true, false, List, [], ◌∷◌, ◌++◌, length, map, refl, sym, ap, subst, arith, le_refl}
use Rattle.std.specs.Prelude.{slice_index_or}
use Rattle.std.specs.List.{AllByRecursion}
use Rattle.std.specs.List.Sorted.{IsNonDecreasing}
use Rattle.cs_base.specs.declared.port_kind.PortKind.{PortKind}
use Rattle.sb_message.specs.Receivable.{receivable}
use Rattle.sb_message.specs.Stream.{IsStream, is_intro}
use Rattle.sb_message.specs.declared.message.Msg.{Msg}
use Rattle.device_api.specs.Transcript.{RisesFrom}
use Rattle.port_queue.specs.Plain.{IsSent}
use Rattle.run_laws.proofs.Lists.{each-append}
use Rattle.run_laws.proofs.Times.{rises_above}

tail_in_order : (x : ℕ) (xs : List ℕ) → IsNonDecreasing (x ∷ xs) → IsNonDecreasing xs
tail_in_order x xs order i j d le lt = order (suc i) (suc j) d (omega arith) (omega arith)

pub rises_from_order : (low : ℕ) (xs : List Msg) → IsNonDecreasing (map (λ (m : Msg). m.at) xs) → ((m : Msg) (more : List Msg) → xs ≡ m ∷ more → low ≤ m.at) → RisesFrom low xs
unfolding RisesFrom
rises_from_order low [] order first = tt
rises_from_order low (m ∷ more) order first = (first m more refl, rises_from_order m.at more (tail_in_order m.at (map (λ (m : Msg). m.at) more) order) (λ x rest e. next x rest e))
  where
    next : (x : Msg) (rest : List Msg) → more ≡ x ∷ rest → m.at ≤ x.at
    next x rest e = subst (λ l. IsNonDecreasing (m.at ∷ map (λ (m : Msg). m.at) l)) e order 0 1 0 (omega arith) (omega arith)

below : (low : ℕ) (xs : List Msg) (d j : ℕ) → AllByRecursion (λ (m : Msg). low ≤ m.at) xs → j < length (map (λ (m : Msg). m.at) xs) → low ≤ slice_index_or (map (λ (m : Msg). m.at) xs) j d
below low [] d j all lt = absurd (omega arith)
below low (x ∷ xs) d zero all lt = all.0
below low (x ∷ xs) d (suc j) all lt = below low xs d j all.1 (omega arith)

pub order_from_rises : (low : ℕ) (xs : List Msg) → RisesFrom low xs → IsNonDecreasing (map (λ (m : Msg). m.at) xs)
unfolding RisesFrom
order_from_rises low [] rises i j d le lt = absurd (omega arith)
order_from_rises low (x ∷ xs) rises zero zero d le lt = le_refl x.at
order_from_rises low (x ∷ xs) rises zero (suc j) d le lt = below x.at xs d j (rises_above x.at xs rises.1) (omega arith)
order_from_rises low (x ∷ xs) rises (suc i) zero d le lt = absurd (omega arith)
order_from_rises low (x ∷ xs) rises (suc i) (suc j) d le lt = order_from_rises x.at xs rises.1 i j d (omega arith) (omega arith)

pub stream_rises : (kind : PortKind) (xs : List Msg) → IsStream kind xs → RisesFrom 0 xs
stream_rises kind xs stream = rises_from_order 0 xs stream.in_order (λ m more e. omega arith)

pub sent_rises : (kind : PortKind) (xs : List Msg) → IsSent kind xs → RisesFrom 0 xs
unfolding RisesFrom
sent_rises kind xs (inl none) = subst (RisesFrom 0) (sym none) tt
sent_rises kind xs (inr stream) = stream_rises kind xs stream

-- what may come later in a stream to a port of a kind
abbrev pub IsLater : PortKind → Msg → Type 0
IsLater kind m = (receivable kind m.body ≡ true) × (is_intro m.body ≡ false)

pub stream_more : (kind : PortKind) (xs ys : List Msg) → IsStream kind xs → AllByRecursion (IsLater kind) ys → RisesFrom 0 (xs ++ ys) → IsStream kind (xs ++ ys)
stream_more kind xs ys stream all rises = record {
  first = stream.first;
  later = stream.later ++ ys;
  parts = ap (λ l. l ++ ys) stream.parts;
  introduced = stream.introduced;
  once = each-append (λ (m : Msg). is_intro m.body ≡ false) stream.later ys stream.once (weaker ys all);
  receivable = each-append (λ (m : Msg). receivable kind m.body ≡ true) xs ys stream.receivable (fits ys all);
  in_order = order_from_rises 0 (xs ++ ys) rises;
}
  where
    weaker : (l : List Msg) → AllByRecursion (IsLater kind) l → AllByRecursion (λ (m : Msg). is_intro m.body ≡ false) l
    weaker [] all = tt
    weaker (m ∷ more) all = (all.0.1, weaker more all.1)

    fits : (l : List Msg) → AllByRecursion (IsLater kind) l → AllByRecursion (λ (m : Msg). receivable kind m.body ≡ true) l
    fits [] all = tt
    fits (m ∷ more) all = (all.0.0, fits more all.1)
