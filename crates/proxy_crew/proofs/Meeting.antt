-- Which end of a channel met a fault in rounds.
use Rattle.std.proofs.Common.{◌≡◌, ℕ, zero, suc, ◌<◌, List, [], ◌∷◌, length, get_or, Option, Some, None, refl, sym, ap, subst, arith}
use Rattle.std.specs.Prelude.{All, slice_get}
use Rattle.std.specs.List.{filter_map, cons_option}
use Rattle.std.proofs.lemmas.List.{get_or-map}
use Rattle.std.proofs.lemmas.List.Elements.{All-nil, All-cons, All-head, All-tail, All-get_or}
use Rattle.std.proofs.lemmas.Option.{same_Some, none-some}
use Rattle.cs_base.specs.Wires.{OutSeen, InSeen}
use Rattle.worker_rounds.specs.declared.mesh_bad.MeshBad.{MeshBad}
use Rattle.worker_rounds.specs.Rounds.{Work}
use Rattle.crew_members.specs.declared.hand.Hand.{Hand}
use Rattle.crew_members.specs.declared.hand.Hand.TheVariants.{Component, Sending, Receiving}
use Rattle.crew_members.specs.Faring.{OneFailed}
use Rattle.crew_members.specs.Hands.{HandIs, component_of, sending_of, receiving_of}
use Rattle.crew_members.specs.Sorts.{of_sort, among, MetBy}
use Rattle.crew_members.specs.Sorts.MetBy.{by_component as component_met, by_sending as sending_met, by_receiving as receiving_met}
use Rattle.crew_members.proofs.ThreeSorts.{faults_met}
use Rattle.proxy_members.specs.declared.in_member.InMember.{InMember}
use Rattle.proxy_members.specs.declared.out_member.OutMember.{OutMember}
use Rattle.proxy_members.specs.Inward.{InFits, InDid, InFailed, InSays}
use Rattle.proxy_members.specs.Outward.{OutFits, OutDid, OutFailed, OutSays}
use Rattle.proxy_members.proofs.Incoming as incoming
use Rattle.proxy_members.proofs.Outgoing as outgoing
use Rattle.proxy_crew.specs.declared.proxied.Proxied.{Proxied}
use Rattle.proxy_crew.specs.Engaging.{Workers, AreEngaged, EndsFit, IsMetBy, RoundsKeepEnds}
use Rattle.proxy_crew.specs.Engaging.IsMetBy.{by_component, by_sending, by_receiving}
use Rattle.proxy_crew.proofs.Standing.{AreAll, BothAre, hands_are, ends_fit}
use Rattle.proxy_crew.proofs.Keeping.{Kept, kept_ends, to_matched, engaged_still, have_fared}

pub all_there : {X : Type 0} (P : X → Type 0) (xs : List X) → ((k : ℕ) (x : X) → slice_get xs k ≡ Some x → P x) → All P xs
all_there P [] each = All-nil P
all_there P (x ∷ xs) each = All-cons P x xs (each 0 x refl) (all_there P xs (λ k y there. each (suc k) y there))

-- ONE OF A SORT

module _ {H M : Type 0} (sort : H → Option M) (Q : H → Type 0) (P : M → Type 0) (its : (h : H) (m : M) → sort h ≡ Some m → Q h → P m) where
  behind : (o : Option M) (rest : List M) → ((m : M) → o ≡ Some m → P m) → ((k : ℕ) (m : M) → slice_get rest k ≡ Some m → P m) → (k : ℕ) (m : M) → slice_get (cons_option o rest) k ≡ Some m → P m
  behind None rest first others k m there = others k m there
  behind (Some x) rest first others zero m there = subst P (same_Some x m there) (first x refl)
  behind (Some x) rest first others (suc k) m there = others k m there

  pub of_its_sort : (members : List H) → All Q members → (k : ℕ) (m : M) → slice_get (filter_map sort members) k ≡ Some m → P m
  of_its_sort [] all k m there = absurd (none-some m there)
  of_its_sort (x ∷ members) all k m there = behind (sort x) (filter_map sort members) (λ m is. its x m is (All-head Q x members all)) (of_its_sort members (All-tail Q x members all)) k m there

module _ {C O I : Type 0} (c : C → Type 0) (o : O → Type 0) (i : I → Type 0) where
  is_sending : (h : Hand C O I) (m : O) → sending_of h ≡ Some m → HandIs c o i h → o m
  is_sending (Component x) m is its = absurd (none-some m is)
  is_sending (Sending x) m is its = subst o (same_Some x m is) its
  is_sending (Receiving x) m is its = absurd (none-some m is)

  is_receiving : (h : Hand C O I) (m : I) → receiving_of h ≡ Some m → HandIs c o i h → i m
  is_receiving (Component x) m is its = absurd (none-some m is)
  is_receiving (Sending x) m is its = absurd (none-some m is)
  is_receiving (Receiving x) m is its = subst i (same_Some x m is) its

  module _ (workers : List (Work (Hand C O I))) (all : AreAll (HandIs c o i) workers) (w : ℕ) (d : Work (Hand C O I)) (inside : w < length workers) where
    its_members : All (HandIs c o i) (get_or workers w d).members
    its_members = All-get_or (λ (worker : Work (Hand C O I)). All (HandIs c o i) worker.members) workers w d inside all.each

    pub sending_is : (k : ℕ) (m : O) → slice_get (filter_map sending_of (get_or workers w d).members) k ≡ Some m → o m
    sending_is = of_its_sort sending_of (HandIs c o i) o is_sending (get_or workers w d).members its_members

    pub receiving_is : (k : ℕ) (m : I) → slice_get (filter_map receiving_of (get_or workers w d).members) k ≡ Some m → i m
    receiving_is = of_its_sort receiving_of (HandIs c o i) i is_receiving (get_or workers w d).members its_members

-- AN END AMONG ALL

-- it is the end of one of these channels
pub record IsEndOf {X E : Type 0} (end : X → E) (ends : List X) (member : E) : Type 0 where
  pub place : ℕ
  pub one : X
  pub there : slice_get ends place ≡ Some one
  pub is : end one ≡ member

abbrev sending_end : {O I : Type 0} → Proxied O I → OutMember O
sending_end one = one.sending

abbrev receiving_end : {O I : Type 0} → Proxied O I → InMember I
receiving_end one = one.receiving

module _ {C O I : Type 0} (parts : List (Work C)) (ends : List (Proxied O I)) (workers : Workers C O I) (engaged : AreEngaged parts ends workers) where
  abbrev anything : C → Type 0
  anything part = Unit {0}

  anyhow : All (λ (worker : Work C). All anything worker.members) parts
  anyhow = all_there (λ (worker : Work C). All anything worker.members) parts (λ k worker there. all_there anything worker.members (λ j part its. tt))

  -- each end that stands on a worker is that of a channel
  pub are_ends : AreAll (HandIs anything (IsEndOf sending_end ends) (IsEndOf receiving_end ends)) workers
  are_ends = hands_are anything (IsEndOf sending_end ends) (IsEndOf receiving_end ends) parts ends workers engaged anyhow (all_there (BothAre (IsEndOf sending_end ends) (IsEndOf receiving_end ends)) ends (λ k one there. record { sending = record { place = k; one = one; there = there; is = refl }; receiving = record { place = k; one = one; there = there; is = refl } }))

  pub fit_ends : (out : O → OutSeen) (wire : I → InSeen) → All (EndsFit out wire) ends → AreAll (HandIs anything (OutFits out) (InFits wire)) workers
  fit_ends out wire all = hands_are anything (OutFits out) (InFits wire) parts ends workers engaged anyhow (ends_fit anything out wire ends all)

-- WHO MET IT

module _ {C O I : Type 0} (does : C → C → Type 0) (fails : C → MeshBad → C → Type 0) (fits : C → Type 0) (out : O → OutSeen) (wire : I → InSeen) where
  module _ (parts parts' : List (Work C)) (before ends : List (Proxied O I)) (old new : Workers C O I) (engaged : AreEngaged parts before old) (still : AreEngaged parts' ends new) (all : All (EndsFit out wire) before) (w : ℕ) (d : Work C) (e : Work (Hand C (OutMember O) (InMember I))) (fault : MeshBad) (inside : w < length old) (inside' : w < length new) where
    abbrev components : List (Work (Hand C (OutMember O) (InMember I))) → List C
    components workers = (get_or (among component_of workers) w d).members

    its_components : (workers : Workers C O I) → w < length workers → filter_map component_of (get_or workers w e).members ≡ components workers
    its_components workers there = sym (ap (λ (x : Work C). x.members) (get_or-map (of_sort component_of) workers w e d there))

    abbrev Met : Type 0
    Met = IsMetBy does fails out wire (components old) (components new) ends fault

    by_an_out : (failed : OneFailed (OutDid out) (OutFailed out) (filter_map sending_of (get_or old w e).members) (filter_map sending_of (get_or new w e).members) fault) → Met
    by_an_out failed =
        let end : IsEndOf sending_end ends failed.after = sending_is (anything parts' ends new still) (IsEndOf sending_end ends) (IsEndOf receiving_end ends) new (are_ends parts' ends new still) w e inside' failed.place failed.after failed.at_after in
        by_sending end.place end.one end.there (subst (λ m. OutSays out m fault) (sym end.is) (outgoing.failed_says out failed.mid failed.after fault failed.failed))

    by_an_in : (failed : OneFailed (InDid wire) (InFailed wire) (filter_map receiving_of (get_or old w e).members) (filter_map receiving_of (get_or new w e).members) fault) → Met
    by_an_in failed =
        let end : IsEndOf receiving_end ends failed.after = receiving_is (anything parts' ends new still) (IsEndOf sending_end ends) (IsEndOf receiving_end ends) new (are_ends parts' ends new still) w e inside' failed.place failed.after failed.at_after in
        let fit : InFits wire failed.before = receiving_is (anything parts before old engaged) (OutFits out) (InFits wire) old (fit_ends parts before old engaged out wire all) w e inside failed.place failed.before failed.at_before in
        by_receiving end.place end.one end.there (subst (λ m. InSays wire m fault) (sym end.is) (incoming.failed_says wire failed.mid failed.after fault failed.failed (incoming.turns_fit wire failed.before failed.turns failed.mid failed.went fit)))

    pub who : MetBy does (OutDid out) (InDid wire) fails (OutFailed out) (InFailed wire) (get_or old w e).members (get_or new w e).members fault → Met
    who (component_met failed) = by_component (subst (λ l. OneFailed does fails l (components new) fault) (its_components old inside) (subst (λ l. OneFailed does fails (filter_map component_of (get_or old w e).members) l fault) (its_components new inside') failed))
    who (sending_met failed) = by_an_out failed
    who (receiving_met failed) = by_an_in failed

  pub rounds_keep_ends : RoundsKeepEnds does fails fits out wire
  rounds_keep_ends parts ends old new engaged worked =
      let is_fit : Hand C (OutMember O) (InMember I) → Type 0 = HandIs fits (OutFits out) (InFits wire) in
      let kept : Kept does fails out wire (length parts) ends new = kept_ends does fails out wire parts ends old engaged new (to_matched does fails out wire is_fit old new worked) in
      record {
        ends = kept.ends;
        engaged = engaged_still does fails out wire parts ends new kept;
        fared = have_fared out wire ends kept.ends kept.fared;
        met = λ all w d e fault inside keeps. who parts kept.parts ends kept.ends old new engaged kept.engaged all w d e fault inside (let many : length new ≡ length old = worked.as_many in omega (arith, inside)) ((faults_met does (OutDid out) (InDid wire) fails (OutFailed out) (InFailed wire) is_fit old new worked).each w e fault inside keeps);
      }
