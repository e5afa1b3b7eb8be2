-- What rounds of all members are for those of one sort.
use Rattle.std.proofs.Common.{◌≡◌, ℕ, ◌+◌, ◌<◌, List, [], length, get_or, Option, Some, None, refl, sym, ◌∙◌, subst, arith}
use Rattle.std.specs.Prelude.{slice_get}
use Rattle.std.specs.List.{filter_map}
use Rattle.std.proofs.lemmas.List.{get_or-map, length-map}
use Rattle.worker_rounds.specs.declared.mesh_bad.MeshBad.{MeshBad}
use Rattle.worker_rounds.specs.Passes.{Went, EachWent, HaveEnded}
use Rattle.worker_rounds.specs.Passes.Went.{stood, turned}
use Rattle.worker_rounds.specs.Rounds.{Work, Worked, IsSound}
use Rattle.worker_rounds.specs.Rounds as rounds
use Rattle.worker_rounds.specs.Rounds.Went.{went_well, went_wrong}
use Rattle.worker_rounds.specs.Crew.{AreSound, AllWorked, AllEnded}
use Rattle.worker_rounds.proofs.Working.{all_in, all_of, some_none}
use Rattle.crew_members.specs.Faring.{Fared, EachFared, OneFailed, AllFared}
use Rattle.crew_members.specs.Faring.Fared.{fared_well, fared_badly}
use Rattle.crew_members.specs.Sorts.{of_sort, among, RoundsAre}
use Rattle.crew_members.proofs.Fared.{members_fared}
use Rattle.crew_members.proofs.Sorted.{Both, If, EachOf, AllOf, AreBoth, AtSome, all_sorted, each_sorted, one_sorted}

module _ {H M : Type 0} (sort : H → Option M) (all_does : H → H → Type 0) (all_fails : H → MeshBad → H → Type 0) (does : M → M → Type 0) (fails : M → MeshBad → M → Type 0) (did : (a b : H) → all_does a b → Both does (sort a) (sort b)) (did_fail : (a b : H) (fault : MeshBad) → all_fails a fault b → Both (λ x y. fails x fault y) (sort a) (sort b)) where
  -- A MEMBER

  none_made : (o : Option M) → Both (λ x y. Went does x 0 y) o o
  none_made None = tt
  none_made (Some x) = stood

  one_more : (n : ℕ) (o p q : Option M) → Both (λ x y. Went does x n y) o p → Both does p q → Both (λ x y. Went does x (n + 1) y) o q
  one_more n None None None went last = tt
  one_more n None None (Some z) went last = absurd last
  one_more n None (Some y) q went last = absurd went
  one_more n (Some x) None q went last = absurd went
  one_more n (Some x) (Some y) None went last = absurd last
  one_more n (Some x) (Some y) (Some z) went last = turned n y z went last

  pub went_too : (a : H) (n : ℕ) (b : H) → Went all_does a n b → Both (λ x y. Went does x n y) (sort a) (sort b)
  went_too a _ _ stood = none_made (sort a)
  went_too a _ _ (turned n b c before last) = one_more n (sort a) (sort b) (sort c) (went_too a n b before) (did b c last)

  well : (n : ℕ) (o p : Option M) → Both (λ x y. Went does x n y) o p → Both (Fared does fails) o p
  well n None None went = tt
  well n None (Some y) went = absurd went
  well n (Some x) None went = absurd went
  well n (Some x) (Some y) went = fared_well n went

  badly : (n : ℕ) (fault : MeshBad) (o p q : Option M) → Both (λ x y. Went does x n y) o p → Both (λ x y. fails x fault y) p q → Both (Fared does fails) o q
  badly n fault None None None went last = tt
  badly n fault None None (Some z) went last = absurd last
  badly n fault None (Some y) q went last = absurd went
  badly n fault (Some x) None q went last = absurd went
  badly n fault (Some x) (Some y) None went last = absurd last
  badly n fault (Some x) (Some y) (Some z) went last = fared_badly n y fault went last

  fared_too : (a b : H) → Fared all_does all_fails a b → Both (Fared does fails) (sort a) (sort b)
  fared_too a b (fared_well n went) = well n (sort a) (sort b) (went_too a n b went)
  fared_too a b (fared_badly n mid fault went failed) = badly n fault (sort a) (sort mid) (sort b) (went_too a n mid went) (did_fail mid b fault failed)

  -- THE MEMBERS OF A WORKER

  each_went : (old new : List H) (n : ℕ) → EachWent all_does n old new → EachWent does n (filter_map sort old) (filter_map sort new)
  each_went old new n went = (let of : EachOf (λ x y. Went does x n y) (filter_map sort old) (filter_map sort new) = each_sorted sort (λ a b. Went all_does a n b) (λ x y. Went does x n y) (λ a b. went_too a n b) old new went.as_many went.each in record { as_many = of.as_many; each = of.each })

  each_fared : (old new : List H) → EachFared all_does all_fails old new → EachFared does fails (filter_map sort old) (filter_map sort new)
  each_fared old new fared = (let of : EachOf (Fared does fails) (filter_map sort old) (filter_map sort new) = each_sorted sort (Fared all_does all_fails) (Fared does fails) fared_too old new fared.as_many fared.each in record { as_many = of.as_many; each = of.each })

  -- a member that made some turns before this fault
  record Failing (fault : MeshBad) (x y : M) : Type 0 where
    turns : ℕ
    mid : M
    went : Went does x turns mid
    failed : fails mid fault y

  failing : (fault : MeshBad) (n : ℕ) (o : Option M) (mid y : M) → Both (λ a b. Went does a n b) o (Some mid) → fails mid fault y → AreBoth (Failing fault) o (Some y)
  failing fault n None mid y went failed = absurd went
  failing fault n (Some x) mid y went failed = record { before = x; after = y; is_before = refl; is_after = refl; related = record { turns = n; mid = mid; went = went; failed = failed } }

  -- of the fault of a member of this sort
  pub one_failed : (old new : List H) → EachFared all_does all_fails old new → (fault : MeshBad) (place : ℕ) (x mid y : H) → slice_get old place ≡ Some x → slice_get new place ≡ Some y → (n : ℕ) → Went all_does x n mid → (m z : M) → sort mid ≡ Some m → sort y ≡ Some z → fails m fault z → OneFailed does fails (filter_map sort old) (filter_map sort new) fault
  one_failed old new fared fault place x mid y there there' n went m z is_mid is_after failed =
      let both : AreBoth (Failing fault) (sort x) (sort y) = subst (AreBoth (Failing fault) (sort x)) (sym is_after) (failing fault n (sort x) m z (subst (Both (λ a b. Went does a n b) (sort x)) is_mid (went_too x n mid went)) failed) in
      let at : AtSome (Failing fault) (filter_map sort old) (filter_map sort new) = one_sorted sort (Fared all_does all_fails) (Fared does fails) (Failing fault) fared_too old new fared.as_many fared.each place x y there there' both in
      record {
        place = at.place;
        before = at.before;
        at_before = at.at_before;
        turns = at.related.turns;
        mid = at.related.mid;
        went = at.related.went;
        after = at.after;
        at_after = at.at_after;
        failed = at.related.failed;
      }

  module _ (all_fit all_ended : H → Type 0) (fits ended : M → Type 0) (fits_too : (h : H) → all_fit h → If fits (sort h)) (ends_too : (h : H) → all_ended h → If ended (sort h)) where
    sound_worker : (worker : Work H) → IsSound all_fit worker → IsSound fits (of_sort sort worker)
    sound_worker worker sound = (let all : AllOf fits (filter_map sort worker.members) = all_sorted sort all_fit fits fits_too worker.members sound.fit.each in record { fit = record { each = all.each }; no_fault = sound.no_fault })

    ended_worker : (members : List H) → HaveEnded all_ended members → HaveEnded ended (filter_map sort members)
    ended_worker members have = (let all : AllOf ended (filter_map sort members) = all_sorted sort all_ended ended ends_too members have.each in record { each = all.each })

    went_worker : (old new : Work H) → rounds.Went all_does all_fails old new → new.fault ≡ None → rounds.Went does fails (of_sort sort old) (of_sort sort new)
    went_worker old new (went_well n each none) no_fault = went_well n (each_went old.members new.members n each) none
    went_worker old new (went_wrong fault failed kept) no_fault = absurd (some_none fault new.fault kept no_fault)

    worked_worker : (old new : Work H) → Worked all_does all_fails all_fit old new → IsSound all_fit new → Worked does fails fits (of_sort sort old) (of_sort sort new)
    worked_worker old new did sound = record { number = did.number; went = went_worker old new did.went sound.no_fault; sound = λ none. sound_worker new sound }

    -- ALL WORKERS

    abbrev nobody : Work H
    nobody = record { number = 0; members = []; fault = None }

    -- what holds of a worker at its place
    at_place : (P : Work M → Type 0) (workers : List (Work H)) (w : ℕ) (d : Work M) → w < length workers → P (of_sort sort (get_or workers w nobody)) → P (get_or (among sort workers) w d)
    at_place P workers w d within holds = subst P (sym (get_or-map (of_sort sort) workers w nobody d within)) holds

    below : (workers : List (Work H)) (w : ℕ) → w < length (among sort workers) → w < length workers
    below workers w within = (let many : length (among sort workers) ≡ length workers = length-map workers (of_sort sort) in omega arith)

    sound_all : (workers : List (Work H)) → AreSound all_fit workers → AreSound fits (among sort workers)
    sound_all workers sound = all_of does fails fits (IsSound fits) (among sort workers) (λ w d within. at_place (IsSound fits) workers w d (below workers w within) (sound_worker (get_or workers w nobody) (all_in all_does all_fails all_fit (IsSound all_fit) workers sound w nobody (below workers w within))))

    ended_all : (workers : List (Work H)) → AllEnded all_ended workers → AllEnded ended (among sort workers)
    ended_all workers have = record { each = λ w d within. at_place (λ (x : Work M). HaveEnded ended x.members) workers w d (below workers w within) (ended_worker (get_or workers w nobody).members (have.each w nobody (below workers w within))) }

    many_new : (old new : List (Work H)) → length new ≡ length old → length (among sort new) ≡ length (among sort old)
    many_new old new many = length-map new (of_sort sort) ∙ many ∙ sym (length-map old (of_sort sort))

    worked_all : (old new : List (Work H)) → AllWorked all_does all_fails all_fit old new → AreSound all_fit new → AllWorked does fails fits (among sort old) (among sort new)
    worked_all old new worked sound = record {
      as_many = many_new old new worked.as_many;
      each = λ w d within. (let in_old : w < length old = below old w within in let in_new : w < length new = (let many : length new ≡ length old = worked.as_many in omega (arith, in_old)) in at_place (λ x. Worked does fails fits x (get_or (among sort new) w d)) old w d in_old (at_place (Worked does fails fits (of_sort sort (get_or old w nobody))) new w d in_new (worked_worker (get_or old w nobody) (get_or new w nobody) (worked.each w nobody in_old) (all_in all_does all_fails all_fit (IsSound all_fit) new sound w nobody in_new))));
    }

    fared_all : (old new : List (Work H)) → AllWorked all_does all_fails all_fit old new → AllFared does fails (among sort old) (among sort new)
    fared_all old new worked = record {
      as_many = many_new old new worked.as_many;
      number = λ w d within. (let in_old : w < length old = below old w within in let in_new : w < length new = (let many : length new ≡ length old = worked.as_many in omega (arith, in_old)) in at_place (λ x. (get_or (among sort new) w d).number ≡ x.number) old w d in_old (at_place (λ x. x.number ≡ (get_or old w nobody).number) new w d in_new (worked.each w nobody in_old).number));
      each = λ w d within. (let in_old : w < length old = below old w within in let in_new : w < length new = (let many : length new ≡ length old = worked.as_many in omega (arith, in_old)) in at_place (λ x. EachFared does fails x.members (get_or (among sort new) w d).members) old w d in_old (at_place (λ x. EachFared does fails (filter_map sort (get_or old w nobody).members) x.members) new w d in_new (each_fared (get_or old w nobody).members (get_or new w nobody).members (members_fared all_does all_fails (get_or old w nobody) (get_or new w nobody) (worked.each w nobody in_old).went))));
    }

    pub rounds_are : RoundsAre sort does fails fits ended all_does all_fails all_fit all_ended
    rounds_are = record { sound = sound_all; ended_too = ended_all; worked = worked_all; fared = fared_all }
