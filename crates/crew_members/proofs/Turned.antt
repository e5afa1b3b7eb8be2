-- A turn of a member is one of its own sort.
use Rattle.std.proofs.Common.{◌≡◌, sym, subst}
use Rattle.std.specs.Prelude.{IfOk, IfErr}
use Rattle.std.specs.declared.result.Result.{Result}
use Rattle.std.specs.declared.result.Result.TheVariants.{Ok, Err}
use Rattle.worker_rounds.specs.declared.mesh_bad.MeshBad.{MeshBad}
use Rattle.crew_members.specs.declared.hand.Hand.{Hand}
use Rattle.crew_members.specs.declared.hand.Hand.TheVariants.{Component, Sending, Receiving}
use Rattle.crew_members.specs.Hands.{HandDid, HandFailed}
use Rattle.crew_members.specs.Hands.HandDid.{component_did, sending_did, receiving_did}
use Rattle.crew_members.specs.Hands.HandFailed.{component_failed, sending_failed, receiving_failed}

if_ok : {A E : Type 0} (result : Result A E) (P Q : Type 0) → (P → Q) → IfOk result (λ _. P) → IfOk result (λ _. Q)
if_ok (Ok x) P Q follows holds = follows holds
if_ok (Err e) P Q follows holds = holds

if_err : {A E : Type 0} (result : Result A E) (P Q : E → Type 0) → ((e : E) → P e → Q e) → IfErr result P → IfErr result Q
if_err (Ok x) P Q follows holds = holds
if_err (Err e) P Q follows holds = follows e holds

module _ {C O I A : Type 0} (c : C → C → Type 0) (o : O → O → Type 0) (i : I → I → Type 0) (old : Hand C O I) (result : Result A MeshBad) where
  pub component_turned : (x y : C) → old ≡ Component x → IfOk result (λ _. c x y) → IfOk result (λ _. HandDid c o i old (Component y))
  component_turned x y is turned = if_ok result (c x y) (HandDid c o i old (Component y)) (λ did. subst (λ h. HandDid c o i h (Component y)) (sym is) (component_did x y did)) turned

  pub sending_turned : (x y : O) → old ≡ Sending x → IfOk result (λ _. o x y) → IfOk result (λ _. HandDid c o i old (Sending y))
  sending_turned x y is turned = if_ok result (o x y) (HandDid c o i old (Sending y)) (λ did. subst (λ h. HandDid c o i h (Sending y)) (sym is) (sending_did x y did)) turned

  pub receiving_turned : (x y : I) → old ≡ Receiving x → IfOk result (λ _. i x y) → IfOk result (λ _. HandDid c o i old (Receiving y))
  receiving_turned x y is turned = if_ok result (i x y) (HandDid c o i old (Receiving y)) (λ did. subst (λ h. HandDid c o i h (Receiving y)) (sym is) (receiving_did x y did)) turned

module _ {C O I A : Type 0} (c : C → MeshBad → C → Type 0) (o : O → MeshBad → O → Type 0) (i : I → MeshBad → I → Type 0) (old : Hand C O I) (result : Result A MeshBad) where
  pub component_broke : (x y : C) → old ≡ Component x → IfErr result (λ fault. c x fault y) → IfErr result (λ fault. HandFailed c o i old fault (Component y))
  component_broke x y is failed = if_err result (λ fault. c x fault y) (λ fault. HandFailed c o i old fault (Component y)) (λ fault its. subst (λ h. HandFailed c o i h fault (Component y)) (sym is) (component_failed x fault y its)) failed

  pub sending_broke : (x y : O) → old ≡ Sending x → IfErr result (λ fault. o x fault y) → IfErr result (λ fault. HandFailed c o i old fault (Sending y))
  sending_broke x y is failed = if_err result (λ fault. o x fault y) (λ fault. HandFailed c o i old fault (Sending y)) (λ fault its. subst (λ h. HandFailed c o i h fault (Sending y)) (sym is) (sending_failed x fault y its)) failed

  pub receiving_broke : (x y : I) → old ≡ Receiving x → IfErr result (λ fault. i x fault y) → IfErr result (λ fault. HandFailed c o i old fault (Receiving y))
  receiving_broke x y is failed = if_err result (λ fault. i x fault y) (λ fault. HandFailed c o i old fault (Receiving y)) (λ fault its. subst (λ h. HandFailed c o i h fault (Receiving y)) (sym is) (receiving_failed x fault y its)) failed
