-- What rounds of all members make of the ends that stand behind components.
use Rattle.std.proofs.Common.{◌≡◌, ℕ, zero, suc, ◌+◌, ◌<◌, ◌%◌, List, [], ◌∷◌, ◌++◌, length, get_or, map, Some, refl, sym, ap, ap₂, ◌∙◌, subst, arith}
use Rattle.std.specs.Prelude.{slice_get, slice_set}
use Rattle.std.specs.List.{filter_map}
use Rattle.std.proofs.lemmas.List.{length-set, length-map, get_or-set_same, set-set, set-get_or}
use Rattle.std.proofs.lemmas.Option.{same_Some, none-some, slice_get-get_or}
use Rattle.cs_base.specs.Wires.{OutSeen, InSeen}
use Rattle.worker_rounds.specs.declared.mesh_bad.MeshBad.{MeshBad}
use Rattle.worker_rounds.specs.Passes.{Went}
use Rattle.worker_rounds.specs.Passes.Went.{stood, turned}
use Rattle.worker_rounds.specs.Crew.{AllWorked}
use Rattle.worker_rounds.specs.Rounds.{Work}
use Rattle.crew_members.specs.declared.hand.Hand.{Hand}
use Rattle.crew_members.specs.declared.hand.Hand.TheVariants.{Component, Sending, Receiving}
use Rattle.crew_members.specs.Faring.{Fared}
use Rattle.crew_members.specs.Faring.Fared.{fared_well, fared_badly}
use Rattle.crew_members.specs.Hands.{HandDid, HandFailed, component_of}
use Rattle.crew_members.specs.Hands.HandDid.{component_did, sending_did, receiving_did}
use Rattle.crew_members.specs.Hands.HandFailed.{component_failed, sending_failed, receiving_failed}
use Rattle.crew_members.specs.Sorts.{of_sort, among}
use Rattle.crew_members.specs.Staffing.{as_hands, OneMore}
use Rattle.crew_members.proofs.Fared.{members_fared}
use Rattle.proxy_members.specs.declared.in_member.InMember.{InMember}
use Rattle.proxy_members.specs.declared.out_member.OutMember.{OutMember}
use Rattle.proxy_members.specs.Inward.{InFits, InHolds, InDid, InFailed, InWent}
use Rattle.proxy_members.specs.Outward.{OutFits, OutDid, OutFailed, OutWent}
use Rattle.proxy_members.proofs.Incoming as incoming
use Rattle.proxy_members.proofs.Outgoing as outgoing
use Rattle.proxy_crew.specs.declared.proxied.Proxied.{Proxied}
use Rattle.proxy_crew.specs.Engaging.{Workers, AreEngaged, HasFared, HaveFared}
use Rattle.proxy_crew.specs.Engaging.AreEngaged.{none_came, one_came}
use Rattle.proxy_crew.proofs.Engaged.{as_many, within, put_back, after}
use Rattle.proxy_crew.proofs.Standing.{worker_of, keep_components}

-- PLACE BY PLACE

-- two lists are as long, and their elements are related place by place
abbrev pub Matched : {X : Type 0} → (X → X → Type 0) → List X → List X → Type 0
Matched R [] [] = Unit {0}
Matched R [] (y ∷ ys) = ⊥
Matched R (x ∷ xs) [] = ⊥
Matched R (x ∷ xs) (y ∷ ys) = R x y × Matched R xs ys

module _ {X : Type 0} (R : X → X → Type 0) where
  pub matched : (xs ys : List X) → length ys ≡ length xs → ((k : ℕ) (d : X) → k < length xs → R (get_or xs k d) (get_or ys k d)) → Matched R xs ys
  matched [] [] many each = tt
  matched [] (y ∷ ys) many each = absurd (omega (arith, many))
  matched (x ∷ xs) [] many each = absurd (omega (arith, many))
  matched (x ∷ xs) (y ∷ ys) many each = (each 0 x (omega arith), matched xs ys (omega (arith, many)) (λ k d within. each (suc k) d (omega arith)))

  pub matched_many : (xs ys : List X) → Matched R xs ys → length ys ≡ length xs
  matched_many [] [] all = refl
  matched_many [] (y ∷ ys) all = absurd all
  matched_many (x ∷ xs) [] all = absurd all
  matched_many (x ∷ xs) (y ∷ ys) all = ap suc (matched_many xs ys all.1)

  pub matched_at : (xs ys : List X) → Matched R xs ys → (k : ℕ) (x y : X) → slice_get xs k ≡ Some x → slice_get ys k ≡ Some y → R x y
  matched_at [] ys all k x y there there' = absurd (none-some x there)
  matched_at (a ∷ xs) [] all k x y there there' = absurd (none-some y there')
  matched_at (a ∷ xs) (b ∷ ys) all zero x y there there' = subst (λ v. R v y) (same_Some a x there) (subst (R a) (same_Some b y there') all.0)
  matched_at (a ∷ xs) (b ∷ ys) all (suc k) x y there there' = matched_at xs ys all.1 k x y there there'

  pub matched_set : (xs ys : List X) → Matched R xs ys → (k : ℕ) (x y : X) → R x y → Matched R (slice_set xs k x) (slice_set ys k y)
  matched_set [] [] all k x y is = tt
  matched_set [] (b ∷ ys) all k x y is = absurd all
  matched_set (a ∷ xs) [] all k x y is = absurd all
  matched_set (a ∷ xs) (b ∷ ys) all zero x y is = (is, all.1)
  matched_set (a ∷ xs) (b ∷ ys) all (suc k) x y is = (all.0, matched_set xs ys all.1 k x y is)

  pub matched_push : (xs ys : List X) → Matched R xs ys → (x y : X) → R x y → Matched R (xs ++ x ∷ []) (ys ++ y ∷ [])
  matched_push [] [] all x y is = (is, tt)
  matched_push [] (b ∷ ys) all x y is = absurd all
  matched_push (a ∷ xs) [] all x y is = absurd all
  matched_push (a ∷ xs) (b ∷ ys) all x y is = (all.0, matched_push xs ys all.1 x y is)

  -- the last element of the second list, behind those before it
  pub record Parted (xs : List X) (x : X) (ys : List X) : Type 0 where
    pub front : List X
    pub last : X
    pub is : ys ≡ front ++ last ∷ []
    pub same : Matched R xs front
    pub its : R x last

  pub parted : (xs : List X) (x : X) (ys : List X) → Matched R (xs ++ x ∷ []) ys → Parted xs x ys
  parted [] x [] all = absurd all
  parted [] x (y ∷ []) all = record { front = []; last = y; is = refl; same = tt; its = all.0 }
  parted [] x (y ∷ z ∷ ys) all = absurd all.1
  parted (a ∷ xs) x [] all = absurd all
  parted (a ∷ xs) x (y ∷ ys) all =
      let rest : Parted xs x ys = parted xs x ys all.1 in
      record { front = y ∷ rest.front; last = rest.last; is = ap (λ l. y ∷ l) rest.is; same = (all.0, rest.same); its = rest.its }

  -- ONE LESS

  abbrev pub OnWork : Work X → Work X → Type 0
  OnWork a b = Matched R a.members b.members

  -- the last member of a worker, and the workers without it
  pub record Undone (place : ℕ) (member : X) (mid new : List (Work X)) : Type 0 where
    pub left : List (Work X)
    pub last : X
    pub more : OneMore place last left new
    pub same : Matched OnWork mid left
    pub its : R member last

module _ {X : Type 0} (R : X → X → Type 0) (place : ℕ) (member : X) (mid old new : List (Work X)) (more : OneMore place member mid old) (all : Matched (OnWork R) old new) where
  in_new : place < length new
  in_new = (let a : length new ≡ length old = matched_many (OnWork R) old new all in let b : length old ≡ length mid = as_many place member mid old more in let c : place < length mid = within place member mid old more in omega arith)

  abbrev here : Work X
  here = get_or new place more.before

  there_old : slice_get old place ≡ Some (after place member mid old more)
  there_old = ap (λ l. slice_get l place) more.is ∙ slice_get-get_or (slice_set mid place (after place member mid old more)) place more.before (subst (λ n. place < n) (sym (length-set mid place (after place member mid old more))) (within place member mid old more)) ∙ ap Some (get_or-set_same mid place (after place member mid old more) more.before (within place member mid old more))

  its_members : Parted R more.before.members member here.members
  its_members = parted R more.before.members member here.members (matched_at (OnWork R) old new all place (after place member mid old more) here there_old (slice_get-get_or new place more.before in_new))

  abbrev without : Work X
  without = worker_of here.number its_members.front here.fault

  pub undone : Undone R place member mid new
  undone = record {
    left = slice_set new place without;
    last = its_members.last;
    more = record {
      before = without;
      there = slice_get-get_or (slice_set new place without) place without (subst (λ n. place < n) (sym (length-set new place without)) in_new) ∙ ap Some (get_or-set_same new place without without in_new);
      is = sym (set-set new place without (worker_of here.number (its_members.front ++ its_members.last ∷ []) here.fault) ∙ ap (λ members. slice_set new place (worker_of here.number members here.fault)) (sym its_members.is) ∙ set-get_or new place more.before);
    };
    same = subst (λ l. Matched (OnWork R) l (slice_set new place without)) (put_back place member mid old more) (matched_set (OnWork R) old new all place more.before without its_members.same);
    its = its_members.its;
  }

-- A MEMBER OF ITS SORT

-- a member that was made of one that did this
pub record Became {X H : Type 0} (make : X → H) (did : X → Type 0) (h : H) : Type 0 where
  pub after : X
  pub is : h ≡ make after
  pub its : did after

abbrev pub HandTo : {C O I : Type 0} → (C → C → Type 0) → (O → O → Type 0) → (I → I → Type 0) → Hand C O I → Hand C O I → Type 0
HandTo c o i (Component x) h = Became Component (c x) h
HandTo c o i (Sending x) h = Became Sending (o x) h
HandTo c o i (Receiving x) h = Became Receiving (i x) h

module _ {C O I : Type 0} (c : C → C → Type 0) (o : O → O → Type 0) (i : I → I → Type 0) where
  did_to : (a b : Hand C O I) → HandDid c o i a b → HandTo c o i a b
  did_to _ _ (component_did x y did) = record { after = y; is = refl; its = did }
  did_to _ _ (sending_did x y did) = record { after = y; is = refl; its = did }
  did_to _ _ (receiving_did x y did) = record { after = y; is = refl; its = did }

  abbrev WentTo : ℕ → Hand C O I → Hand C O I → Type 0
  WentTo n a b = HandTo (λ x y. Went c x n y) (λ x y. Went o x n y) (λ x y. Went i x n y) a b

  then_to : {X : Type 0} (make : X → Hand C O I) (does : X → X → Type 0) → ((x : X) (h : Hand C O I) → HandTo c o i (make x) h → Became make (does x) h) → (x : X) (n : ℕ) (a b : Hand C O I) → Became make (λ y. Went does x n y) a → HandDid c o i a b → Became make (λ y. Went does x (n + 1) y) b
  then_to make does its x n a b went did =
      let last = its went.after b (subst (λ h. HandTo c o i h b) went.is (did_to a b did)) in
      record { after = last.after; is = last.is; its = turned n went.after last.after went.its last.its }

  more_to : (n : ℕ) (a b d : Hand C O I) → WentTo n a b → HandDid c o i b d → WentTo (n + 1) a d
  more_to n (Component x) b d went did = then_to Component c (λ x h to. to) x n b d went did
  more_to n (Sending x) b d went did = then_to Sending o (λ x h to. to) x n b d went did
  more_to n (Receiving x) b d went did = then_to Receiving i (λ x h to. to) x n b d went did

  none_to : (a : Hand C O I) → WentTo 0 a a
  none_to (Component x) = record { after = x; is = refl; its = stood }
  none_to (Sending x) = record { after = x; is = refl; its = stood }
  none_to (Receiving x) = record { after = x; is = refl; its = stood }

  went_to : (a : Hand C O I) (n : ℕ) (b : Hand C O I) → Went (HandDid c o i) a n b → WentTo n a b
  went_to a _ _ stood = none_to a
  went_to a _ _ (turned n b d before did) = more_to n a b d (went_to a n b before) did

  module _ (fc : C → MeshBad → C → Type 0) (fo : O → MeshBad → O → Type 0) (fi : I → MeshBad → I → Type 0) where
    failed_to : (a b : Hand C O I) (fault : MeshBad) → HandFailed fc fo fi a fault b → HandTo (λ x y. fc x fault y) (λ x y. fo x fault y) (λ x y. fi x fault y) a b
    failed_to _ _ _ (component_failed x fault y failed) = record { after = y; is = refl; its = failed }
    failed_to _ _ _ (sending_failed x fault y failed) = record { after = y; is = refl; its = failed }
    failed_to _ _ _ (receiving_failed x fault y failed) = record { after = y; is = refl; its = failed }

    abbrev pub FaredTo : Hand C O I → Hand C O I → Type 0
    FaredTo a b = HandTo (Fared c fc) (Fared o fo) (Fared i fi) a b

    well_to : (n : ℕ) (a b : Hand C O I) → WentTo n a b → FaredTo a b
    well_to n (Component x) b went = record { after = went.after; is = went.is; its = fared_well n went.its }
    well_to n (Sending x) b went = record { after = went.after; is = went.is; its = fared_well n went.its }
    well_to n (Receiving x) b went = record { after = went.after; is = went.is; its = fared_well n went.its }

    abbrev FailedTo : MeshBad → Hand C O I → Hand C O I → Type 0
    FailedTo fault a b = HandTo (λ x y. fc x fault y) (λ x y. fo x fault y) (λ x y. fi x fault y) a b

    badly_to : (n : ℕ) (fault : MeshBad) (a mid b : Hand C O I) → WentTo n a mid → FailedTo fault mid b → FaredTo a b
    badly_to n fault (Component x) mid b went failed = (let last : Became Component (λ y. fc went.after fault y) b = subst (λ h. FailedTo fault h b) went.is failed in record { after = last.after; is = last.is; its = fared_badly n went.after fault went.its last.its })
    badly_to n fault (Sending x) mid b went failed = (let last : Became Sending (λ y. fo went.after fault y) b = subst (λ h. FailedTo fault h b) went.is failed in record { after = last.after; is = last.is; its = fared_badly n went.after fault went.its last.its })
    badly_to n fault (Receiving x) mid b went failed = (let last : Became Receiving (λ y. fi went.after fault y) b = subst (λ h. FailedTo fault h b) went.is failed in record { after = last.after; is = last.is; its = fared_badly n went.after fault went.its last.its })

    pub fared_to : (a b : Hand C O I) → Fared (HandDid c o i) (HandFailed fc fo fi) a b → FaredTo a b
    fared_to a b (fared_well n went) = well_to n a b (went_to a n b went)
    fared_to a b (fared_badly n mid fault went failed) = badly_to n fault a mid b (went_to a n mid went) (failed_to mid b fault failed)

    -- COMPONENTS ALONE

    stay_components : (parts : List C) (hands : List (Hand C O I)) → Matched FaredTo (map Component parts) hands → hands ≡ map Component (filter_map component_of hands)
    stay_components [] [] all = refl
    stay_components [] (y ∷ hands) all = absurd all
    stay_components (x ∷ parts) [] all = absurd all
    stay_components (x ∷ parts) (y ∷ hands) all = subst (λ h. h ∷ hands ≡ map Component (filter_map component_of (h ∷ hands))) (sym all.0.is) (ap (λ l. Component all.0.after ∷ l) (stay_components parts hands all.1))

    pub stay_staff : (parts : List (Work C)) (new : List (Work (Hand C O I))) → Matched (OnWork FaredTo) (map as_hands parts) new → new ≡ map as_hands (among component_of new)
    stay_staff [] [] all = refl
    stay_staff [] (y ∷ new) all = absurd all
    stay_staff (x ∷ parts) [] all = absurd all
    stay_staff (x ∷ parts) (y ∷ new) all = ap₂ (λ members rest. worker_of y.number members y.fault ∷ rest) (stay_components x.members y.members all.0) (stay_staff parts new all.1)

-- ENDS

module _ {O I : Type 0} (out : O → OutSeen) (wire : I → InSeen) where
  sent_went : (a b : OutMember O) → Fared (OutDid out) (OutFailed out) a b → OutWent a b
  sent_went a b (fared_well n went) = outgoing.turns_went out a n b went
  sent_went a b (fared_badly n mid fault went failed) = outgoing.went_on out a mid b (outgoing.turns_went out a n mid went) (outgoing.failed_went out mid b fault failed)

  sent_fits : (a b : OutMember O) → Fared (OutDid out) (OutFailed out) a b → OutFits out a → OutFits out b
  sent_fits a b (fared_well n went) fits = outgoing.turns_fit out a n b went fits
  sent_fits a b (fared_badly n mid fault went failed) fits = outgoing.failed_fits out mid b fault failed (outgoing.turns_fit out a n mid went fits)

  received_went : (a b : InMember I) → Fared (InDid wire) (InFailed wire) a b → InWent a b
  received_went a b (fared_well n went) = incoming.turns_went wire a n b went
  received_went a b (fared_badly n mid fault went failed) = incoming.went_on wire a mid b (incoming.turns_went wire a n mid went) (incoming.failed_went wire mid b fault failed)

  received_holds : (a b : InMember I) → Fared (InDid wire) (InFailed wire) a b → InFits wire a → InHolds wire b
  received_holds a b (fared_well n went) fits = incoming.fit_holds wire b (incoming.turns_fit wire a n b went fits)
  received_holds a b (fared_badly n mid fault went failed) fits = incoming.failed_holds wire mid b fault failed (incoming.turns_fit wire a n mid went fits)

  pub ends_fared : (one : Proxied O I) (sending : OutMember O) (receiving : InMember I) → Fared (OutDid out) (OutFailed out) one.sending sending → Fared (InDid wire) (InFailed wire) one.receiving receiving → HasFared out wire one (record { route = one.route; sending = sending; receiving = receiving })
  ends_fared one sending receiving sent received = record {
    route = refl;
    sending = sent_went one.sending sending sent;
    receiving = received_went one.receiving receiving received;
    frames = sent_fits one.sending sending sent;
    pushed = received_holds one.receiving receiving received;
  }

  pub have_fared : (before now : List (Proxied O I)) → Matched (HasFared out wire) before now → HaveFared out wire before now
  have_fared before now all = record { as_many = matched_many (HasFared out wire) before now all; each = λ k a b there there'. matched_at (HasFared out wire) before now all k a b there there' }

module _ {C O I : Type 0} (does : C → C → Type 0) (fails : C → MeshBad → C → Type 0) (out : O → OutSeen) (wire : I → InSeen) where
  abbrev To : Hand C (OutMember O) (InMember I) → Hand C (OutMember O) (InMember I) → Type 0
  To = FaredTo does (OutDid out) (InDid wire) fails (OutFailed out) (InFailed wire)

  -- the ends that stand on workers after rounds
  pub record Kept (many : ℕ) (before : List (Proxied O I)) (new : Workers C O I) : Type 0 where
    pub parts : List (Work C)
    pub as_many : length parts ≡ many
    pub ends : List (Proxied O I)
    pub engaged : AreEngaged parts ends new
    pub fared : Matched (HasFared out wire) before ends

  one_kept : (many : ℕ) (before : List (Proxied O I)) (one : Proxied O I) (old mid new : Workers C O I) (sending : OutMember O) (receiving : InMember I) → Fared (OutDid out) (OutFailed out) one.sending sending → Fared (InDid wire) (InFailed wire) one.receiving receiving → Kept many before old → OneMore (one.route.sender % many) (Sending sending) old mid → OneMore (one.route.receiver % many) (Receiving receiving) mid new → Kept many (before ++ one ∷ []) new
  one_kept many before one old mid new sending receiving did did' kept sent received =
      let now : Proxied O I = record { route = one.route; sending = sending; receiving = receiving } in
      record {
        parts = kept.parts;
        as_many = kept.as_many;
        ends = kept.ends ++ now ∷ [];
        engaged = one_came kept.ends now old mid new kept.engaged (subst (λ n. OneMore (one.route.sender % n) (Sending sending) old mid) (sym kept.as_many) sent) (subst (λ n. OneMore (one.route.receiver % n) (Receiving receiving) mid new) (sym kept.as_many) received);
        fared = matched_push (HasFared out wire) before kept.ends kept.fared one now (ends_fared out wire one sending receiving did did');
      }

  pub kept_ends : (parts : List (Work C)) (ends : List (Proxied O I)) (old : Workers C O I) → AreEngaged parts ends old → (new : Workers C O I) → Matched (OnWork To) old new → Kept (length parts) ends new
  kept_ends parts _ _ (none_came workers is) new all =
      let from : Matched (OnWork To) (map as_hands parts) new = subst (λ l. Matched (OnWork To) l new) is all in
      record {
        parts = among component_of new;
        as_many = length-map new (of_sort component_of) ∙ matched_many (OnWork To) (map as_hands parts) new from ∙ length-map parts as_hands;
        ends = [];
        engaged = none_came new (stay_staff does (OutDid out) (InDid wire) fails (OutFailed out) (InFailed wire) parts new from);
        fared = tt;
      }
  kept_ends parts _ _ (one_came before one old mid last so_far sent received) new all =
      let second : Undone To (one.route.receiver % length parts) (Receiving one.receiving) mid new = undone To (one.route.receiver % length parts) (Receiving one.receiving) mid last new received all in
      let first : Undone To (one.route.sender % length parts) (Sending one.sending) old second.left = undone To (one.route.sender % length parts) (Sending one.sending) old mid second.left sent second.same in
      one_kept (length parts) before one first.left second.left new first.its.after second.its.after first.its.its second.its.its (kept_ends parts before old so_far first.left first.same) (subst (λ h. OneMore (one.route.sender % length parts) h first.left second.left) first.its.is first.more) (subst (λ h. OneMore (one.route.receiver % length parts) h second.left new) second.its.is second.more)

  -- of rounds of all
  pub to_matched : (fits : Hand C (OutMember O) (InMember I) → Type 0) (old new : Workers C O I) → AllWorked (HandDid does (OutDid out) (InDid wire)) (HandFailed fails (OutFailed out) (InFailed wire)) fits old new → Matched (OnWork To) old new
  to_matched fits old new worked = matched (OnWork To) old new worked.as_many (λ w d inside. (let each = members_fared (HandDid does (OutDid out) (InDid wire)) (HandFailed fails (OutFailed out) (InFailed wire)) (get_or old w d) (get_or new w d) (worked.each w d inside).went in matched To (get_or old w d).members (get_or new w d).members each.as_many (λ k h there. fared_to does (OutDid out) (InDid wire) fails (OutFailed out) (InFailed wire) (get_or (get_or old w d).members k h) (get_or (get_or new w d).members k h) (each.each k h there))))

  pub engaged_still : (parts : List (Work C)) (before : List (Proxied O I)) (new : Workers C O I) → (kept : Kept (length parts) before new) → AreEngaged (among component_of new) kept.ends new
  engaged_still parts before new kept = subst (λ l. AreEngaged l kept.ends new) (sym (keep_components kept.parts kept.ends new kept.engaged)) kept.engaged
