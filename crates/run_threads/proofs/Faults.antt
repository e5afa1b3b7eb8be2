-- The fault that a turn of a part met.
use Rattle.std.proofs.Common.{◌≡◌, ℕ, sym, subst}
use Rattle.std.specs.Prelude.{slice_get}
use Rattle.cs_base.specs.declared.peer_reason.PeerReason.TheVariants.{Intro}
use Rattle.sb_message.specs.declared.message.Msg.{Msg}
use Rattle.sync_rule.specs.declared.run_bad.RunBad.{RunBad}
use Rattle.sync_rule.specs.declared.run_bad.RunBad.TheVariants.{WrongIntro, NoMemory}
use Rattle.worker_rounds.specs.declared.mesh_bad.MeshBad.TheVariants as mesh_bad
use Rattle.run_threads.specs.declared.part.Part.{Part}
use Rattle.run_threads.specs.Parts.{PartBroke, PartFailed, number_or}
use Rattle.run_threads.specs.Parts.PartFailed.{was_memory, was_introduction}

module _ {V : Type 0} (old new : Part V) (bad : RunBad) (broke : PartBroke old new bad) where
  pub wrong_introduction : (port : ℕ) (found : Msg) (channel : ℕ) → bad ≡ WrongIntro port found → channel ≡ number_or (slice_get old.arrivals port) → PartFailed old (mesh_bad.Peer channel 0 Intro) new
  wrong_introduction port found channel is same = subst (λ (n : ℕ). PartFailed old (mesh_bad.Peer n 0 Intro) new) (sym same) (was_introduction new port found (subst (PartBroke old new) is broke))

  pub no_memory : bad ≡ NoMemory → PartFailed old mesh_bad.NoMemory new
  no_memory is = was_memory new (subst (PartBroke old new) is broke)
