-- Workers behind whose components the ends of channels stand.
use Rattle.std.proofs.Common.{◌≡◌, ◌≢◌, ℕ, ◌<◌, ◌%◌, List, [], ◌∷◌, ◌++◌, length, get_or, map, reverse, take, drop, sym, ap, ◌∙◌, subst, append_assoc, append-nil}
use Rattle.std.specs.Prelude.{slice_set}
use Rattle.std.proofs.lemmas.List.{length-set, length-map, get_or-set_same, get_or-set_other, set-set, set-get_or, reverse-append, reverse-reverse, take_at}
use Rattle.std.proofs.lemmas.Nat.{mod_below}
use Rattle.std.proofs.lemmas.Option.{same_Some, slice_get-get_or, slice_get_within}
use Rattle.worker_rounds.specs.Rounds.{Work}
use Rattle.crew_members.specs.declared.hand.Hand.TheVariants.{Sending, Receiving}
use Rattle.crew_members.specs.Staffing.{as_hands, OneMore}
use Rattle.proxy_crew.specs.declared.proxied.Proxied.{Proxied}
use Rattle.proxy_crew.specs.Engaging.{Workers, AreEngaged}
use Rattle.proxy_crew.specs.Engaging.AreEngaged.{none_came, one_came}

-- ONE MORE

module _ {M : Type 0} (place : ℕ) (member : M) (old new : List (Work M)) (more : OneMore place member old new) where
  pub as_many : length new ≡ length old
  as_many = ap length more.is ∙ length-set old place _

  pub within : place < length old
  within = slice_get_within old place more.before more.there

  pub was : (d : Work M) → get_or old place d ≡ more.before
  was d = same_Some (get_or old place d) more.before (sym (slice_get-get_or old place d within) ∙ more.there)

  abbrev pub after : Work M
  after = record { number = more.before.number; members = more.before.members ++ member ∷ []; fault = more.before.fault }

  pub is_now : (d : Work M) → get_or new place d ≡ after
  is_now d = ap (λ l. get_or l place d) more.is ∙ get_or-set_same old place after d within

  pub another : (k : ℕ) (d : Work M) → k ≢ place → get_or new k d ≡ get_or old k d
  another k d differ = ap (λ l. get_or l k d) more.is ∙ get_or-set_other old place k after d differ

  -- what was there is what is there with its worker put back
  pub put_back : slice_set new place more.before ≡ old
  put_back = ap (λ l. slice_set l place more.before) more.is ∙ set-set old place after more.before ∙ ap (slice_set old place) (sym (was more.before)) ∙ set-get_or old place more.before

-- ENGAGED

pub engaged_many : {C O I : Type 0} (parts : List (Work C)) (ends : List (Proxied O I)) (workers : Workers C O I) → AreEngaged parts ends workers → length workers ≡ length parts
engaged_many parts _ _ (none_came workers is) = ap length is ∙ length-map parts as_hands
engaged_many parts _ _ (one_came before one old mid new so_far sent received) = as_many (one.route.receiver % length parts) (Receiving one.receiving) mid new received ∙ as_many (one.route.sender % length parts) (Sending one.sending) old mid sent ∙ engaged_many parts before old so_far

-- the ends of so many channels came, and the others stand in turned order
pub record AreComing {C O I : Type 0} (parts : List (Work C)) (all left : List (Proxied O I)) (made : Workers C O I) : Type 0 where
  pub front : List (Proxied O I)
  pub whole : front ++ reverse left ≡ all
  pub engaged : AreEngaged parts front made

module _ {C O I : Type 0} (parts : List (Work C)) (all : List (Proxied O I)) where
  pub none_yet : (left : List (Proxied O I)) (made : Workers C O I) → left ≡ reverse all → made ≡ map as_hands parts → AreComing parts all left made
  none_yet left made is none = record { front = []; whole = ap reverse is ∙ reverse-reverse all; engaged = none_came made none }

  pub one_then : (left left' : List (Proxied O I)) (old mid new : Workers C O I) (one : Proxied O I) → AreComing parts all left old → left ≡ left' ++ one ∷ [] → OneMore (one.route.sender % length parts) (Sending one.sending) old mid → OneMore (one.route.receiver % length parts) (Receiving one.receiving) mid new → AreComing parts all left' new
  one_then left left' old mid new one so_far first sent received = record {
    front = so_far.front ++ one ∷ [];
    whole = append_assoc so_far.front (one ∷ []) (reverse left') ∙ ap (λ l. so_far.front ++ l) (sym (ap reverse first ∙ reverse-append left' (one ∷ []))) ∙ so_far.whole;
    engaged = one_came so_far.front one old mid new so_far.engaged sent received;
  }

  pub all_came : (left : List (Proxied O I)) (made : Workers C O I) → AreComing parts all left made → left ≡ [] → AreEngaged parts all made
  all_came left made so_far none = subst (λ l. AreEngaged parts l made) (sym (append-nil so_far.front) ∙ ap (λ l. so_far.front ++ reverse l) (sym none) ∙ so_far.whole) so_far.engaged

  pub came_many : (left : List (Proxied O I)) (made : Workers C O I) → AreComing parts all left made → length made ≡ length parts
  came_many left made so_far = engaged_many parts so_far.front made so_far.engaged

-- IN A VECTOR

-- a slice that was lent for a vector's whole length
pub written : {A : Type 0} (len : ℕ) (items new : List A) → length new ≡ len → take len (new ++ drop (length new) items) ≡ new
written len items new is = take_at new (drop (length new) items) len is

pub place_within : {C : Type 0} {W : Type 0} (parts : List C) (number count : ℕ) → 0 < length parts → count ≡ length parts → (slice workers : List W) → slice ≡ workers → length workers ≡ length parts → number % count < length slice
place_within parts number count some is slice workers same many = subst (λ n. number % count < n) (is ∙ sym many ∙ sym (ap length same)) (mod_below number count (subst (λ n. 0 < n) (sym is) some))

-- by the number of workers
pub at_count : {M : Type 0} (number count others : ℕ) → count ≡ others → (member : M) (old slice new : List (Work M)) → slice ≡ old → OneMore (number % count) member slice new → OneMore (number % others) member old new
at_count number count others same member old slice new is more = subst (λ n. OneMore (number % n) member old new) same (subst (λ l. OneMore (number % count) member l new) is more)
