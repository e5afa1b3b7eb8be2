-- A schedule whose first lines have been taken.
use Rattle.std.proofs.Common.{◌≡◌, ℕ, ◌+◌, List, [], ◌∷◌, ◌++◌, length, true, refl, sym, ap, ◌∙◌, subst, append_assoc, append-nil, length-append, arith}
use Rattle.cs_base.specs.Lines.{lines_of}
use Rattle.device_api.specs.Behaviour.{Behaviour}
use Rattle.mesh_core.specs.State.{State}
use Rattle.mesh_core.specs.MeshOf.{IsMesh}
use Rattle.mesh_core.specs.Laws.{StepsKeepIt}
use Rattle.replay_run.specs.Replayed.{IsMade, IsAtFault, LeadOn, IsReplayed, IsFirstAtFault}

-- the lines before the rest have been taken, so many
pub record AreTaken {V : Type 0} (b : Behaviour V) (schedule : List ℕ) (old now : State V) (rest : List ℕ) (number : ℕ) : Type 0 where
  pub before : List (List ℕ)
  pub lines : lines_of schedule ≡ before ++ lines_of rest
  pub is : number ≡ length before
  pub lead : LeadOn b before old now

module _ {V : Type 0} (b : Behaviour V) where
  pub one_more : (before : List (List ℕ)) (line : List ℕ) (old mid new : State V) → LeadOn b before old mid → IsMade b line mid new → LeadOn b (before ++ line ∷ []) old new
  one_more [] line old mid new lead made = (new, subst (λ s. IsMade b line s new) lead made, refl)
  one_more (x ∷ xs) line old mid new lead made = (lead.0, lead.1, one_more xs line lead.0 mid new lead.2 made)

  pub none_taken : (schedule : List ℕ) (old : State V) → AreTaken b schedule old old schedule 0
  none_taken schedule old = record { before = []; lines = refl; is = refl; lead = refl }

  pub one_taken : (schedule : List ℕ) (old now new : State V) (rest line behind : List ℕ) (number : ℕ) → AreTaken b schedule old now rest number → lines_of rest ≡ line ∷ lines_of behind → IsMade b line now new → AreTaken b schedule old new behind (number + 1)
  one_taken schedule old now new rest line behind number so_far split made = record {
    before = so_far.before ++ line ∷ [];
    lines = so_far.lines ∙ ap (λ l. so_far.before ++ l) split ∙ sym (append_assoc so_far.before (line ∷ []) (lines_of behind));
    is = ap (λ n. n + 1) so_far.is ∙ sym (length-append so_far.before (line ∷ []));
    lead = one_more so_far.before line old now new so_far.lead made;
  }

  pub all_taken : (schedule : List ℕ) (old now : State V) (rest : List ℕ) (number : ℕ) → length rest ≡ 0 → AreTaken b schedule old now rest number → IsReplayed b schedule old now
  unfolding lines_of
  all_taken schedule old now [] number none so_far = subst (λ lines. LeadOn b lines old now) (sym (so_far.lines ∙ append-nil so_far.before)) so_far.lead
  all_taken schedule old now (byte ∷ more) number none so_far = absurd (omega arith)

  pub stopped : (schedule : List ℕ) (old now : State V) (rest line behind : List ℕ) (number : ℕ) → AreTaken b schedule old now rest number → lines_of rest ≡ line ∷ lines_of behind → IsAtFault b line now → IsFirstAtFault b schedule old (number + 1)
  stopped schedule old now rest line behind number so_far split fault = record {
    before = so_far.before;
    line = line;
    behind = lines_of behind;
    lines = so_far.lines ∙ ap (λ l. so_far.before ++ l) split;
    is = ap (λ n. n + 1) so_far.is;
    reached = now;
    lead = so_far.lead;
    at_fault = fault;
  }

  pub made_keeps : (settled : V → ℕ → Type 0) → StepsKeepIt b settled → (line : List ℕ) (old new : State V) → IsMade b line old new → IsMesh b settled old → IsMesh b settled new
  made_keeps settled keep line old new made mesh = (mesh.0, mesh.1, mesh.2, keep mesh.0 mesh.1 mesh.2 old new made.step true mesh.3 made.leads)
