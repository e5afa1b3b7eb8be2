-- A round that moves something leaves fewer steps to come, and where no round can, all is over.
use Rattle.std.proofs.Common.{◌≡◌, ℕ, ◌+◌, ◌<◌, ◌⊎◌, inl, inr, Bool, true, false, List, sym, subst, arith}
use Rattle.cs_base.specs.declared.link.Link.{Link}
use Rattle.device_api.specs.Behaviour.{Behaviour, IsLawful}
use Rattle.mesh_core.specs.Laws.{CanStep}
use Rattle.mesh_core.specs.State.{State}
use Rattle.mesh_core.specs.MeshOf.{IsMesh, IsMeshOf}
use Rattle.mesh_core.specs.ToCome.{steps_to_come, IsOver}
use Rattle.mesh_core.specs.Walk.{Walk, IsLessBy, Went, WentToTheEnd, Rounds, is_everyone}
use Rattle.mesh_core.specs.declared.serial.Awake.{Awake}
use Rattle.mesh_core.proofs.Going.{step_or_over}
use Rattle.mesh_core.proofs.Numbered.{number_of, number_is}
use Rattle.mesh_core.proofs.Walked.{walk_falls, walk_mesh}

-- a number less, whatever stands beside it
pub then_those : (n n' w : ℕ) → n' < n → n' + n' + 1 < n + n + w
then_those n n' w less = omega arith

module _ {V : Type 0} (b : Behaviour V) (settled : V → ℕ → Type 0) (lawful : IsLawful b settled) where
  number_at : (seen now : State V) (known : ∥ IsMesh b settled seen ∥₁) → seen ≡ now → (starts : List V) (links : List Link) (end : ℕ) (of : IsMeshOf b settled starts links end now) → number_of b settled lawful seen known ≡ steps_to_come of
  number_at seen now known same starts links end of = subst (λ (m : State V). (of : IsMeshOf b settled starts links end m) → number_of b settled lawful seen known ≡ steps_to_come of) same (number_is b settled lawful seen known starts links end) of

  pub fewer : (seen old seen' new : State V) (known : ∥ IsMesh b settled seen ∥₁) (known' : ∥ IsMesh b settled seen' ∥₁) → seen ≡ old → seen' ≡ new → IsMesh b settled old → (moved : Bool) → Went b old new moved → moved ≡ true → number_of b settled lawful seen' known' < number_of b settled lawful seen known
  fewer seen old seen' new known known' same same' (starts, links, end, of) moved went e = (let less : IsLessBy b settled starts links end (steps_to_come of) went.steps new = walk_falls b settled lawful starts links end old of went.steps new went.walk in let before : number_of b settled lawful seen known ≡ steps_to_come of = number_at seen old known same starts links end of in let after : number_of b settled lawful seen' known' ≡ steps_to_come less.of = number_at seen' new known' same' starts links end less.of in let fall : steps_to_come of ≡ steps_to_come less.of + went.steps = less.less in let some : 0 < went.steps = went.some e in omega (arith, before, after, fall, some))

  pub ends_there : (start old new : State V) (steps : ℕ) → IsMesh b settled start → Walk b start steps old → (awake : Awake) (moved : Bool) → Rounds b awake old new moved → moved ≡ false → is_everyone awake ≡ true → WentToTheEnd b start new
  ends_there start old new steps mesh walked awake moved round unmoved everyone = record { steps = steps; walk = subst (Walk b start steps) (sym (round.went.none unmoved)) walked; over = subst (IsOver b) (sym (round.went.none unmoved)) (over (walk_mesh b settled lawful start old steps mesh walked)) }
    where
      at : CanStep b old ⊎ IsOver b old → IsOver b old
      at (inr done) = done
      at (inl can) = absurd (round.at_rest unmoved everyone can.step can.enabled)

      over : IsMesh b settled old → IsOver b old
      over (starts, links, end, of) = at (step_or_over b settled starts links end old of)
