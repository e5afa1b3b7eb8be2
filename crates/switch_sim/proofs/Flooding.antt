-- The last port of a flood.
use Rattle.std.proofs.Common.{ℕ, ◌≡◌, ◌≤◌, ◌-◌, zero, suc, List, [], ◌∷◌, ◌++◌, Bool, true, false, ◌==◌, refl, sym, ◌∙◌, arith, append-nil}
use Rattle.std.proofs.lemmas.Bool.Decides.{nat_tests}
use Rattle.sb_message.specs.declared.message.Body.TheVariants.{Eth}
use Rattle.switch_sim.specs.Switch.{flood, flood_by}

-- there is no port
pub flood_none : (frame : List ℕ) (arrival : ℕ) → flood frame arrival 0 ≡ []
unfolding flood
flood_none frame arrival = refl

by_last : (frame : List ℕ) (arrival last : ℕ) → flood frame arrival (suc last) ≡ flood frame arrival last ++ flood_by frame arrival last
unfolding flood
by_last frame arrival last = refl

-- there is none but that of the arrival
pub flood_alone : (frame : List ℕ) → flood frame 0 1 ≡ []
unfolding flood
flood_alone frame = refl

-- it is another one than the port of arrival
pub flood_other : (frame : List ℕ) (arrival ports : ℕ) → 1 ≤ ports → (arrival ≡ ports - 1 → ⊥) → flood frame arrival ports ≡ flood frame arrival (ports - 1) ++ (ports - 1, Eth frame) ∷ []
flood_other frame arrival zero some apart = absurd (omega (arith, some))
flood_other frame arrival (suc last) some apart = go (last == arrival) refl
  where
    at_last : suc last - 1 ≡ last
    at_last = omega arith

    go : (same : Bool) → (last == arrival) ≡ same → flood frame arrival (suc last) ≡ flood frame arrival (suc last - 1) ++ (suc last - 1, Eth frame) ∷ []
    go true is = let same : last ≡ arrival = grind (arith, is, nat_tests) in absurd (apart (sym same ∙ sym at_last))
    go false is = rw (at_last, by_last, is) refl

-- the last one is the port of arrival
pub flood_arrival : (frame : List ℕ) (arrival ports : ℕ) → 2 ≤ ports → arrival ≡ ports - 1 → flood frame arrival ports ≡ flood frame arrival (ports - 2) ++ (ports - 2, Eth frame) ∷ []
flood_arrival frame arrival zero some is = absurd (omega (arith, some))
flood_arrival frame arrival (suc last) some is =
    let here : arrival ≡ last = omega (arith, is) in
    let before : suc last - 2 ≡ last - 1 = omega arith in
    let same : (last == arrival) ≡ true = grind (arith, here, nat_tests) in
    rw (by_last, before, same) (append-nil (flood frame arrival last) ∙ flood_other frame arrival last (omega (arith, some)) (λ e. absurd (omega (arith, e, here, some))))
