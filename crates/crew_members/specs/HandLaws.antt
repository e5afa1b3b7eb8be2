-- A turn keeps a member of any sort fit, and is counted.
use Rattle.std.specs.Prelude.{ℕ, ◌≡◌, ◌+◌, ◌%◌, ◌^◌}
use Rattle.crew_members.specs.declared.hand.Hand.{Hand}
use Rattle.crew_members.specs.Hands.{HandIs, HandDid, hand_number}
use Rattle.crew_members.specs.Hands.HandDid.{component_did, sending_did, receiving_did}

pub hand_keeps : {C O I : Type 0} (fc : C → Type 0) (fo : O → Type 0) (fi : I → Type 0) (c : C → C → Type 0) (o : O → O → Type 0) (i : I → I → Type 0) → ((a b : C) → c a b → fc a → fc b) → ((a b : O) → o a b → fo a → fo b) → ((a b : I) → i a b → fi a → fi b) → (old new : Hand C O I) → HandDid c o i old new → HandIs fc fo fi old → HandIs fc fo fi new
hand_keeps fc fo fi c o i kc ko ki _ _ (component_did old new did) fit = kc old new did fit
hand_keeps fc fo fi c o i kc ko ki _ _ (sending_did old new did) fit = ko old new did fit
hand_keeps fc fo fi c o i kc ko ki _ _ (receiving_did old new did) fit = ki old new did fit

pub hand_counts : {C O I : Type 0} (tc : C → ℕ) (to : O → ℕ) (ti : I → ℕ) (c : C → C → Type 0) (o : O → O → Type 0) (i : I → I → Type 0) → ((a b : C) → c a b → tc b ≡ (tc a + 1) % 2 ^ 64) → ((a b : O) → o a b → to b ≡ (to a + 1) % 2 ^ 64) → ((a b : I) → i a b → ti b ≡ (ti a + 1) % 2 ^ 64) → (old new : Hand C O I) → HandDid c o i old new → hand_number tc to ti new ≡ (hand_number tc to ti old + 1) % 2 ^ 64
hand_counts tc to ti c o i cc co ci _ _ (component_did old new did) = cc old new did
hand_counts tc to ti c o i cc co ci _ _ (sending_did old new did) = co old new did
hand_counts tc to ti c o i cc co ci _ _ (receiving_did old new did) = ci old new did
