-- Rounds for each of the three sorts.
use Rattle.std.proofs.Common.{◌≡◌, ℕ, List, get_or, Some, refl}
use Rattle.std.specs.Prelude.{slice_get}
use Rattle.worker_rounds.specs.declared.mesh_bad.MeshBad.{MeshBad}
use Rattle.worker_rounds.specs.Passes.{Went}
use Rattle.worker_rounds.specs.Rounds.{Work}
use Rattle.worker_rounds.specs.Crew.{AllWorked}
use Rattle.crew_members.specs.declared.hand.Hand.{Hand}
use Rattle.crew_members.specs.declared.hand.Hand.TheVariants.{Component, Sending, Receiving}
use Rattle.crew_members.specs.Hands.{HandIs, HandDid, HandFailed, component_of, sending_of, receiving_of}
use Rattle.crew_members.specs.Hands.HandDid.{component_did, sending_did, receiving_did}
use Rattle.crew_members.specs.Hands.HandFailed.{component_failed, sending_failed, receiving_failed}
use Rattle.crew_members.specs.Faring.{EachFared, OneFailed}
use Rattle.crew_members.specs.Sorts.{RoundsAre, MetBy, FaultsAreMet}
use Rattle.crew_members.specs.Sorts.MetBy.{by_component, by_sending, by_receiving}
use Rattle.crew_members.proofs.Fared.{members_fared, member_failed}
use Rattle.crew_members.proofs.Sorted.{Both, If}
use Rattle.crew_members.proofs.OfWorkers.{one_failed, rounds_are}

module _ {C O I : Type 0} (c : C → Type 0) (o : O → Type 0) (i : I → Type 0) where
  is_component : (h : Hand C O I) → HandIs c o i h → If c (component_of h)
  is_component (Component part) is = is
  is_component (Sending end) is = tt
  is_component (Receiving end) is = tt

  is_sending : (h : Hand C O I) → HandIs c o i h → If o (sending_of h)
  is_sending (Component part) is = tt
  is_sending (Sending end) is = is
  is_sending (Receiving end) is = tt

  is_receiving : (h : Hand C O I) → HandIs c o i h → If i (receiving_of h)
  is_receiving (Component part) is = tt
  is_receiving (Sending end) is = tt
  is_receiving (Receiving end) is = is

module _ {C O I : Type 0} (c : C → C → Type 0) (o : O → O → Type 0) (i : I → I → Type 0) (fc : C → MeshBad → C → Type 0) (fo : O → MeshBad → O → Type 0) (fi : I → MeshBad → I → Type 0) where
  component_does : (a b : Hand C O I) → HandDid c o i a b → Both c (component_of a) (component_of b)
  component_does _ _ (component_did old new did) = did
  component_does _ _ (sending_did old new did) = tt
  component_does _ _ (receiving_did old new did) = tt

  sending_does : (a b : Hand C O I) → HandDid c o i a b → Both o (sending_of a) (sending_of b)
  sending_does _ _ (component_did old new did) = tt
  sending_does _ _ (sending_did old new did) = did
  sending_does _ _ (receiving_did old new did) = tt

  receiving_does : (a b : Hand C O I) → HandDid c o i a b → Both i (receiving_of a) (receiving_of b)
  receiving_does _ _ (component_did old new did) = tt
  receiving_does _ _ (sending_did old new did) = tt
  receiving_does _ _ (receiving_did old new did) = did

  component_fails : (a b : Hand C O I) (fault : MeshBad) → HandFailed fc fo fi a fault b → Both (λ x y. fc x fault y) (component_of a) (component_of b)
  component_fails _ _ _ (component_failed old fault new failed) = failed
  component_fails _ _ _ (sending_failed old fault new failed) = tt
  component_fails _ _ _ (receiving_failed old fault new failed) = tt

  sending_fails : (a b : Hand C O I) (fault : MeshBad) → HandFailed fc fo fi a fault b → Both (λ x y. fo x fault y) (sending_of a) (sending_of b)
  sending_fails _ _ _ (component_failed old fault new failed) = tt
  sending_fails _ _ _ (sending_failed old fault new failed) = failed
  sending_fails _ _ _ (receiving_failed old fault new failed) = tt

  receiving_fails : (a b : Hand C O I) (fault : MeshBad) → HandFailed fc fo fi a fault b → Both (λ x y. fi x fault y) (receiving_of a) (receiving_of b)
  receiving_fails _ _ _ (component_failed old fault new failed) = tt
  receiving_fails _ _ _ (sending_failed old fault new failed) = tt
  receiving_fails _ _ _ (receiving_failed old fault new failed) = failed

  module _ (ic : C → Type 0) (io : O → Type 0) (ii : I → Type 0) (ec : C → Type 0) (eo : O → Type 0) (ei : I → Type 0) where
    pub component_rounds : RoundsAre component_of c fc ic ec (HandDid c o i) (HandFailed fc fo fi) (HandIs ic io ii) (HandIs ec eo ei)
    component_rounds = rounds_are component_of (HandDid c o i) (HandFailed fc fo fi) c fc component_does component_fails (HandIs ic io ii) (HandIs ec eo ei) ic ec (is_component ic io ii) (is_component ec eo ei)

    pub sending_rounds : RoundsAre sending_of o fo io eo (HandDid c o i) (HandFailed fc fo fi) (HandIs ic io ii) (HandIs ec eo ei)
    sending_rounds = rounds_are sending_of (HandDid c o i) (HandFailed fc fo fi) o fo sending_does sending_fails (HandIs ic io ii) (HandIs ec eo ei) io eo (is_sending ic io ii) (is_sending ec eo ei)

    pub receiving_rounds : RoundsAre receiving_of i fi ii ei (HandDid c o i) (HandFailed fc fo fi) (HandIs ic io ii) (HandIs ec eo ei)
    receiving_rounds = rounds_are receiving_of (HandDid c o i) (HandFailed fc fo fi) i fi receiving_does receiving_fails (HandIs ic io ii) (HandIs ec eo ei) ii ei (is_receiving ic io ii) (is_receiving ec eo ei)

  -- WHO MET A FAULT

  module _ (old new : List (Hand C O I)) (fared : EachFared (HandDid c o i) (HandFailed fc fo fi) old new) where
    met : (place : ℕ) (x mid y : Hand C O I) (fault : MeshBad) → slice_get old place ≡ Some x → slice_get new place ≡ Some y → (n : ℕ) → Went (HandDid c o i) x n mid → HandFailed fc fo fi mid fault y → MetBy c o i fc fo fi old new fault
    met place x _ _ _ there there' n went (component_failed mid fault y failed) = by_component (one_failed component_of (HandDid c o i) (HandFailed fc fo fi) c fc component_does component_fails old new fared fault place x (Component mid) (Component y) there there' n went mid y refl refl failed)
    met place x _ _ _ there there' n went (sending_failed mid fault y failed) = by_sending (one_failed sending_of (HandDid c o i) (HandFailed fc fo fi) o fo sending_does sending_fails old new fared fault place x (Sending mid) (Sending y) there there' n went mid y refl refl failed)
    met place x _ _ _ there there' n went (receiving_failed mid fault y failed) = by_receiving (one_failed receiving_of (HandDid c o i) (HandFailed fc fo fi) i fi receiving_does receiving_fails old new fared fault place x (Receiving mid) (Receiving y) there there' n went mid y refl refl failed)

    met_one : (fault : MeshBad) → OneFailed (HandDid c o i) (HandFailed fc fo fi) old new fault → MetBy c o i fc fo fi old new fault
    met_one fault one = met one.place one.before one.mid one.after fault one.at_before one.at_after one.turns one.went one.failed

  pub faults_met : (fits : Hand C O I → Type 0) (old new : List (Work (Hand C O I))) → AllWorked (HandDid c o i) (HandFailed fc fo fi) fits old new → FaultsAreMet c o i fc fo fi old new
  faults_met fits old new worked = record { each = λ w d fault within kept. met_one (get_or old w d).members (get_or new w d).members (members_fared (HandDid c o i) (HandFailed fc fo fi) (get_or old w d) (get_or new w d) (worked.each w d within).went) fault (member_failed (HandDid c o i) (HandFailed fc fo fi) (get_or old w d) (get_or new w d) (worked.each w d within).went fault kept) }
