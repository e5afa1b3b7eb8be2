-- What became of the members of a worker in its rounds.
use Rattle.std.proofs.Common.{◌≡◌, ℕ, ◌+◌, ◌<◌, Bool, true, false, eqb, ltb, List, length, get_or, Some, refl, sym, ap, ◌∙◌, subst, arith}
use Rattle.std.proofs.lemmas.Bool.{eqb-true, eqb-false, ltb-true, ltb-false}
use Rattle.std.proofs.lemmas.List.{length-set, get_or-set_same, get_or-set_other}
use Rattle.std.proofs.lemmas.Option.{same_Some, slice_get-get_or}
use Rattle.worker_rounds.specs.declared.mesh_bad.MeshBad.{MeshBad}
use Rattle.worker_rounds.specs.Passes.{Went, PassFailed}
use Rattle.worker_rounds.specs.Passes.Went.{turned}
use Rattle.worker_rounds.specs.Rounds.{Work, Failed}
use Rattle.worker_rounds.specs.Rounds as rounds
use Rattle.worker_rounds.specs.Rounds.Went.{went_well, went_wrong}
use Rattle.worker_rounds.proofs.Working.{some_none}
use Rattle.worker_rounds.specs.Crew.{AllWorked}
use Rattle.crew_members.specs.Faring.{Fared, EachFared, OneFailed, AllFared}
use Rattle.crew_members.specs.Faring.Fared.{fared_well, fared_badly}

module _ {M : Type 0} (does : M → M → Type 0) (fails : M → MeshBad → M → Type 0) where
  module _ (old new : List M) (fault : MeshBad) (failed : Failed does fails old new fault) where
    abbrev last : PassFailed does fails failed.mid new fault
    last = failed.last

    many_mid : length failed.mid ≡ length old
    many_mid = failed.before.as_many

    many_last : length last.mid ≡ length failed.mid
    many_last = last.so_far.as_many

    within_last : last.place < length last.mid
    within_last = (let below : last.place < length failed.mid = last.within in omega (arith, many_last))

    within_old : last.place < length old
    within_old = (let below : last.place < length failed.mid = last.within in omega (arith, many_mid))

    many_new : length new ≡ length last.mid
    many_new = ap length last.left ∙ length-set last.mid last.place last.after

    within_new : last.place < length new
    within_new = omega (arith, many_new, within_last)

    -- the member whose turn failed, before that
    was : (d : M) → get_or failed.mid last.place d ≡ last.before
    was d = sym (last.so_far.same last.place d (omega arith) last.within) ∙ last.there d

    is : (d : M) → get_or new last.place d ≡ last.after
    is d = ap (λ l. get_or l last.place d) last.left ∙ get_or-set_same last.mid last.place last.after d within_last

    went_before : (d : M) → Went does (get_or old last.place d) failed.passes last.before
    went_before d = subst (Went does (get_or old last.place d) failed.passes) (was d) (failed.before.each last.place d within_old)

    one_failed : OneFailed does fails old new fault
    one_failed = record {
      place = last.place;
      before = get_or old last.place last.before;
      at_before = slice_get-get_or old last.place last.before within_old;
      turns = failed.passes;
      mid = last.before;
      went = went_before last.before;
      after = last.after;
      at_after = slice_get-get_or new last.place last.before within_new ∙ ap Some (is last.before);
      failed = last.failed;
    }

    other : (k : ℕ) (d : M) → (k ≡ last.place → ⊥) → get_or new k d ≡ get_or last.mid k d
    other k d differ = ap (λ l. get_or l k d) last.left ∙ get_or-set_other last.mid last.place k last.after d differ

    fared_at : (k : ℕ) (d : M) → k < length old → (same before : Bool) → eqb k last.place ≡ same → ltb k last.place ≡ before → Fared does fails (get_or old k d) (get_or new k d)
    fared_at k d within true before e e' = subst (λ j. Fared does fails (get_or old j d) (get_or new j d)) (sym (eqb-true k last.place e)) (fared_badly failed.passes last.before fault (went_before d) (subst (fails last.before fault) (sym (is d)) last.failed))
    fared_at k d within false true e e' = fared_well (failed.passes + 1) (subst (Went does (get_or old k d) (failed.passes + 1)) (sym (other k d (eqb-false k last.place e))) (turned failed.passes (get_or failed.mid k d) (get_or last.mid k d) (failed.before.each k d within) (last.so_far.done k d (ltb-true k last.place e') (omega (arith, within, many_mid)))))
    fared_at k d within false false e e' = fared_well failed.passes (subst (Went does (get_or old k d) failed.passes) (sym (other k d (eqb-false k last.place e) ∙ last.so_far.same k d (ltb-false k last.place e') (omega (arith, within, many_mid)))) (failed.before.each k d within))

    each_fared : EachFared does fails old new
    each_fared = record { as_many = many_new ∙ many_last ∙ many_mid; each = λ k d within. fared_at k d within (eqb k last.place) (ltb k last.place) refl refl }

  pub members_fared : (old new : Work M) → rounds.Went does fails old new → EachFared does fails old.members new.members
  members_fared old new (went_well n each none) = record { as_many = each.as_many; each = λ k d within. fared_well n (each.each k d within) }
  members_fared old new (went_wrong fault failed kept) = each_fared old.members new.members fault failed

  pub member_failed : (old new : Work M) → rounds.Went does fails old new → (fault : MeshBad) → new.fault ≡ Some fault → OneFailed does fails old.members new.members fault
  member_failed old new (went_well n each none) fault keeps = absurd (some_none fault new.fault keeps none)
  member_failed old new (went_wrong other_fault failed kept) fault keeps = subst (OneFailed does fails old.members new.members) (same_Some other_fault fault (sym kept ∙ keeps)) (one_failed old.members new.members other_fault failed)

  -- the members of all workers
  pub all_fared : (fits : M → Type 0) (old new : List (Work M)) → AllWorked does fails fits old new → AllFared does fails old new
  all_fared fits old new worked = record {
    as_many = worked.as_many;
    number = λ w d within. (worked.each w d within).number;
    each = λ w d within. members_fared (get_or old w d) (get_or new w d) (worked.each w d within).went;
  }
