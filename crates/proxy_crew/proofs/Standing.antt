-- The members of workers behind whose components the ends of channels stand.
use Rattle.std.proofs.Common.{◌≡◌, ℕ, zero, suc, ◌<◌, ◌%◌, List, [], ◌∷◌, ◌++◌, length, get_or, map, Option, Some, refl, sym, ap, ap₂, ◌∙◌, subst, arith}
use Rattle.std.specs.Prelude.{All, slice_get, slice_set}
use Rattle.std.specs.List.{filter_map}
use Rattle.std.proofs.lemmas.List.Elements.{All-nil, All-cons, All-head, All-tail, All-get_or, All-weaker, All-push}
use Rattle.std.proofs.lemmas.Option.{same_Some, none-some}
use Rattle.cs_base.specs.Wires.{OutSeen, InSeen}
use Rattle.worker_rounds.specs.declared.mesh_bad.MeshBad.{MeshBad}
use Rattle.worker_rounds.specs.Crew.{AreSound}
use Rattle.worker_rounds.specs.Rounds.{Work, IsSound}
use Rattle.crew_members.specs.declared.hand.Hand.{Hand}
use Rattle.crew_members.specs.declared.hand.Hand.TheVariants.{Component, Sending, Receiving}
use Rattle.crew_members.specs.Hands.{HandIs, component_of}
use Rattle.crew_members.specs.Sorts.{of_sort, among}
use Rattle.crew_members.specs.Staffing.{as_hands, OneMore}
use Rattle.crew_members.proofs.InStaff.{joined}
use Rattle.proxy_members.specs.declared.in_member.InMember.{InMember}
use Rattle.proxy_members.specs.declared.out_member.OutMember.{OutMember}
use Rattle.proxy_members.specs.Inward.{InFits}
use Rattle.proxy_members.specs.Outward.{OutFits}
use Rattle.proxy_crew.specs.declared.proxied.Proxied.{Proxied}
use Rattle.proxy_crew.specs.Engaging.{Workers, AreEngaged, EndsFit, EngagedKeepComponents, EngagedAreSound}
use Rattle.proxy_crew.specs.Engaging.AreEngaged.{none_came, one_came}
use Rattle.proxy_crew.proofs.Engaged.{after}

-- a worker by its parts
abbrev pub worker_of : {M : Type 0} → ℕ → List M → Option MeshBad → Work M
worker_of number members fault = record { number = number; members = members; fault = fault }

-- COMPONENTS

only_components : (C O I : Type 0) (parts : List C) → (let hands : List (Hand C O I) = map Component parts in filter_map component_of hands ≡ parts)
only_components C O I [] = refl
only_components C O I (x ∷ parts) = ap (λ l. x ∷ l) (only_components C O I parts)

their_components : (C O I : Type 0) (parts : List (Work C)) → (let workers : List (Work (Hand C O I)) = map as_hands parts in among component_of workers ≡ parts)
their_components C O I [] = refl
their_components C O I (x ∷ parts) = ap₂ (λ members rest. worker_of x.number members x.fault ∷ rest) (only_components C O I x.members) (their_components C O I parts)

pub keep_components : {C O I : Type 0} → EngagedKeepComponents C O I
keep_components {C} {O} {I} parts _ _ (none_came workers is) = ap (among component_of) is ∙ their_components C (OutMember O) (InMember I) parts
keep_components parts _ _ (one_came before one old mid new so_far sent received) = joined component_of (one.route.receiver % length parts) (Receiving one.receiving) mid new received ∙ joined component_of (one.route.sender % length parts) (Sending one.sending) old mid sent ∙ keep_components parts before old so_far

-- WHAT HOLDS OF ALL MEMBERS

module _ {M : Type 0} (P : M → Type 0) where
  -- so it is with the members of all workers
  pub record AreAll (workers : List (Work M)) : Type 0 where
    pub each : All (λ (worker : Work M). All P worker.members) workers

  pub more_all : (place : ℕ) (member : M) (old new : List (Work M)) → OneMore place member old new → P member → AreAll old → AreAll new
  more_all place member old new more holds all = record { each = subst (All (λ (worker : Work M). All P worker.members)) (sym more.is) (at old place all.each more.there) }
    where
      at : (workers : List (Work M)) (k : ℕ) → All (λ (worker : Work M). All P worker.members) workers → slice_get workers k ≡ Some more.before → All (λ (worker : Work M). All P worker.members) (slice_set workers k (after place member old new more))
      at [] k each there = absurd (none-some more.before there)
      at (x ∷ workers) zero each there = All-cons (λ (worker : Work M). All P worker.members) (after place member old new more) workers (All-push P more.before.members member (subst (λ (w : Work M). All P w.members) (same_Some x more.before there) (All-head (λ (worker : Work M). All P worker.members) x workers each)) holds) (All-tail (λ (worker : Work M). All P worker.members) x workers each)
      at (x ∷ workers) (suc k) each there = All-cons (λ (worker : Work M). All P worker.members) x (slice_set workers k (after place member old new more)) (All-head (λ (worker : Work M). All P worker.members) x workers each) (at workers k (All-tail (λ (worker : Work M). All P worker.members) x workers each) there)

-- both ends of a channel have what is said of each
pub record BothAre {O I : Type 0} (o : OutMember O → Type 0) (i : InMember I → Type 0) (one : Proxied O I) : Type 0 where
  pub sending : o one.sending
  pub receiving : i one.receiving

module _ {C O I : Type 0} (c : C → Type 0) (o : OutMember O → Type 0) (i : InMember I → Type 0) where
  abbrev is_so : Hand C (OutMember O) (InMember I) → Type 0
  is_so = HandIs c o i

  all_components : (parts : List C) → All c parts → All is_so (map Component parts)
  all_components [] all = All-nil is_so
  all_components (x ∷ parts) all = All-cons is_so (Component x) (map Component parts) (All-head c x parts all) (all_components parts (All-tail c x parts all))

  all_staff : (parts : List (Work C)) → All (λ (worker : Work C). All c worker.members) parts → All (λ (worker : Work (Hand C (OutMember O) (InMember I))). All is_so worker.members) (map as_hands parts)
  all_staff [] all = All-nil (λ (worker : Work (Hand C (OutMember O) (InMember I))). All is_so worker.members)
  all_staff (x ∷ parts) all = All-cons (λ (worker : Work (Hand C (OutMember O) (InMember I))). All is_so worker.members) (as_hands x) (map as_hands parts) (all_components x.members (All-head (λ (worker : Work C). All c worker.members) x parts all)) (all_staff parts (All-tail (λ (worker : Work C). All c worker.members) x parts all))

  before_all : (before : List (Proxied O I)) (one : Proxied O I) → All (BothAre o i) (before ++ one ∷ []) → All (BothAre o i) before
  before_all [] one all = All-nil (BothAre o i)
  before_all (x ∷ before) one all = All-cons (BothAre o i) x before (All-head (BothAre o i) x (before ++ one ∷ []) all) (before_all before one (All-tail (BothAre o i) x (before ++ one ∷ []) all))

  last_all : (before : List (Proxied O I)) (one : Proxied O I) → All (BothAre o i) (before ++ one ∷ []) → BothAre o i one
  last_all [] one all = All-head (BothAre o i) one [] all
  last_all (x ∷ before) one all = last_all before one (All-tail (BothAre o i) x (before ++ one ∷ []) all)

  -- what holds of all components and of all ends holds of all members
  pub hands_are : (parts : List (Work C)) (ends : List (Proxied O I)) (workers : Workers C O I) → AreEngaged parts ends workers → All (λ (worker : Work C). All c worker.members) parts → All (BothAre o i) ends → AreAll is_so workers
  hands_are parts _ _ (none_came workers is) staff all = record { each = subst (All (λ (worker : Work (Hand C (OutMember O) (InMember I))). All is_so worker.members)) (sym is) (all_staff parts staff) }
  hands_are parts _ _ (one_came before one old mid new so_far sent received) staff all = more_all is_so (one.route.receiver % length parts) (Receiving one.receiving) mid new received (last_all before one all).receiving (more_all is_so (one.route.sender % length parts) (Sending one.sending) old mid sent (last_all before one all).sending (hands_are parts before old so_far staff (before_all before one all)))

-- FIT WORKERS

module _ {C O I : Type 0} (fits : C → Type 0) (out : O → OutSeen) (wire : I → InSeen) where
  abbrev is_fit : Hand C (OutMember O) (InMember I) → Type 0
  is_fit = HandIs fits (OutFits out) (InFits wire)

  fit_parts : (parts : List (Work C)) → AreSound fits parts → All (λ (worker : Work C). All fits worker.members) parts
  fit_parts parts sound = All-weaker (IsSound fits) (λ (worker : Work C). All fits worker.members) (λ worker its. fits_of worker.members its.fit.each) parts sound
    where
      fits_of : (members : List C) → ((k : ℕ) (d : C) → k < length members → fits (get_or members k d)) → All fits members
      fits_of [] each = All-nil fits
      fits_of (x ∷ members) each = All-cons fits x members (each 0 x (omega arith)) (fits_of members (λ k d within. each (suc k) d (omega arith)))

  sound_of : (workers : Workers C O I) → AreAll is_fit workers → AreSound fits (among component_of workers) → AreSound is_fit workers
  sound_of [] all sound = All-nil (IsSound is_fit)
  sound_of (x ∷ workers) all sound = All-cons (IsSound is_fit) x workers (record {
    fit = record { each = λ k d within. All-get_or is_fit x.members k d within (All-head (λ (worker : Work (Hand C (OutMember O) (InMember I))). All is_fit worker.members) x workers all.each) };
    no_fault = (All-head (IsSound fits) (of_sort component_of x) (among component_of workers) sound).no_fault;
  }) (sound_of workers (record { each = All-tail (λ (worker : Work (Hand C (OutMember O) (InMember I))). All is_fit worker.members) x workers all.each }) (All-tail (IsSound fits) (of_sort component_of x) (among component_of workers) sound))

  pub ends_fit : (ends : List (Proxied O I)) → All (EndsFit out wire) ends → All (BothAre (OutFits out) (InFits wire)) ends
  ends_fit ends all = All-weaker (EndsFit out wire) (BothAre (OutFits out) (InFits wire)) (λ one its. record { sending = its.sending; receiving = its.receiving }) ends all

  pub are_sound : EngagedAreSound fits out wire
  are_sound parts ends workers engaged sound all = sound_of workers (hands_are fits (OutFits out) (InFits wire) parts ends workers engaged (fit_parts parts sound) (ends_fit ends all)) (subst (AreSound fits) (sym (keep_components parts ends workers engaged)) sound)
