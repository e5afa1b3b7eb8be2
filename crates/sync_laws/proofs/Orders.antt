-- Which places come after an event.
use Rattle.std.proofs.Common.{◌≡◌, ℕ, ◌<◌, ◌≤◌, ◌⊎◌, inl, inr, Bool, true, false, nat_le, Some, refl, sym, ◌∙◌, arith}
use Rattle.std.proofs.lemmas.Bool.{leb-true, leb-false, false≢true}
use Rattle.device_api.specs.Position.{Key, by_part, is_at_most, is_reached}
use Rattle.run_laws.proofs.Keys.{earlier}
use Rattle.sync_rule.proofs.Keys.{part_cases}

-- the same phase and the same port
abbrev pub AreAlike : Key → Key → Type 0
AreAlike j k = (j.phase ≡ k.phase) × (j.port ≡ k.port)

both_ways : (f p f' p' : ℕ) (a b : Bool) → by_part f f' (by_part p p' a) ≡ true → by_part f' f (by_part p' p b) ≡ true → (f ≡ f') × (p ≡ p')
both_ways f p f' p' a b there back = phase (part_cases f f' (by_part p p' a) there) (part_cases f' f (by_part p' p b) back)
  where
    port : (f ≡ f') → ((p < p') ⊎ ((p ≡ p') × (a ≡ true))) → ((p' < p) ⊎ ((p' ≡ p) × (b ≡ true))) → (f ≡ f') × (p ≡ p')
    port same (inl less) (inl more) = absurd (omega arith)
    port same (inl less) (inr e) = (same, sym e.0)
    port same (inr e) back = (same, e.0)

    phase : ((f < f') ⊎ ((f ≡ f') × (by_part p p' a ≡ true))) → ((f' < f) ⊎ ((f' ≡ f) × (by_part p' p b ≡ true))) → (f ≡ f') × (p ≡ p')
    phase (inl less) (inl more) = absurd (omega arith)
    phase (inl less) (inr e) = absurd (let same : f' ≡ f = e.0 in omega arith)
    phase (inr e) (inl more) = absurd (let same : f ≡ f' = e.0 in omega arith)
    phase (inr e) (inr e') = port e.0 (part_cases p p' a e.1) (part_cases p' p b e'.1)

-- a key is at most another of another phase or port: then the other comes after it, whichever numbers they have
pub after_it : (j k : Key) (n m : ℕ) → is_at_most j k ≡ true → (AreAlike j k → ⊥) → is_reached (Some (record j { number = n })) (record k { number = m }) ≡ false
after_it j k n m le differ = at (is_at_most (record k { number = m }) (record j { number = n })) refl
  where
    alike : ((j.time < k.time) ⊎ ((j.time ≡ k.time) × (by_part j.phase k.phase (by_part j.port k.port (nat_le j.number k.number)) ≡ true))) → ((k.time < j.time) ⊎ ((k.time ≡ j.time) × (by_part k.phase j.phase (by_part k.port j.port (nat_le m n)) ≡ true))) → AreAlike j k
    alike (inl less) (inl more) = absurd (omega arith)
    alike (inl less) (inr e) = absurd (let same : k.time ≡ j.time = e.0 in omega arith)
    alike (inr e) (inl more) = absurd (let same : j.time ≡ k.time = e.0 in omega arith)
    alike (inr e) (inr e') = both_ways j.phase j.port k.phase k.port (nat_le j.number k.number) (nat_le m n) e.1 e'.1

    at : (b : Bool) → is_at_most (record k { number = m }) (record j { number = n }) ≡ b → b ≡ false
    at false e = refl
    at true e = absurd (differ (alike (part_cases j.time k.time _ le) (part_cases k.time j.time _ e)))

-- a key at most one of a lower phase is earlier
pub earlier_than : (j k : Key) → is_at_most j k ≡ true → k.phase < j.phase → j.time < k.time
earlier_than j k le lower = at (part_cases j.time k.time _ le)
  where
    phase : ((j.phase < k.phase) ⊎ ((j.phase ≡ k.phase) × (by_part j.port k.port (nat_le j.number k.number) ≡ true))) → j.time < k.time
    phase (inl less) = absurd (omega arith)
    phase (inr e) = absurd (let same : j.phase ≡ k.phase = e.0 in omega arith)

    at : ((j.time < k.time) ⊎ ((j.time ≡ k.time) × (by_part j.phase k.phase (by_part j.port k.port (nat_le j.number k.number)) ≡ true))) → j.time < k.time
    at (inl less) = less
    at (inr e) = phase (part_cases j.phase k.phase _ e.1)

-- what a position hasn't reached is not before its event
pub not_before : (last k : Key) → is_reached (Some last) k ≡ false → last.time ≤ k.time
not_before last k missed = at (nat_le last.time k.time) refl
  where
    at : (b : Bool) → nat_le last.time k.time ≡ b → last.time ≤ k.time
    at true e = leb-true last.time k.time e
    at false e = absurd (false≢true (sym missed ∙ earlier k last (leb-false last.time k.time e)))
