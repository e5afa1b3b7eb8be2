-- What queues and the agenda have after events were sent.
use Rattle.std.specs.Prelude.{ℕ, ◌≡◌, ◌≤◌, ◌<◌, nat_le, Bool, true, false, List, [], ◌∷◌, ◌++◌, length, map, filter, Option, All, refl}
use Rattle.std.proofs.lemmas.Bool.{false≢true}
use Rattle.std.proofs.lemmas.Bool.Decides.{nat_tests}
use Rattle.std.proofs.lemmas.List.{map-append}
use Rattle.std.proofs.lemmas.List.Elements.{All-nil, All-cons, All-head, All-tail, filter-append}
use Rattle.std.proofs.Common.{sym, ap, ◌∙◌, arith, subst, cond}
use Rattle.cs_base.specs.Plan.{End, same_end}
use Rattle.sb_message.specs.declared.message.Msg.{Msg}
use Rattle.device_api.specs.World.{Event, waiting_at}
use Rattle.global_model.specs.Agenda.{has, note}
use Rattle.global_model.specs.Post.{note_all}
use Rattle.global_model.specs.Turn.{from_time, Rises}
use Rattle.global_model.proofs.AgendaLaws.{has-note, has-noted, AllDue, AllDue-note, length-note}
use Rattle.global_model.proofs.Nested.{same_end_is}

-- QUEUES

test_from : (u x : ℕ) → nat_le u x ≡ true → u ≤ x
test_from u x is = grind (arith, nat_tests)

test_both : (u v x : ℕ) → u ≤ v → nat_le v x ≡ true → nat_le u x ≡ true
test_both u v x le is = grind (arith, nat_tests)

test_le : (u x : ℕ) → u ≤ x → nat_le u x ≡ true
test_le u x le = grind (arith, nat_tests)

pub from_time_later : (u v : ℕ) → u ≤ v → (xs : List Msg) → from_time v (from_time u xs) ≡ from_time v xs
from_time_later u v le [] = refl
from_time_later u v le (m ∷ more) = at (nat_le u m.at) (nat_le v m.at) refl refl (from_time_later u v le more)
  where
    at : (first second : Bool) → nat_le u m.at ≡ first → nat_le v m.at ≡ second → from_time v (from_time u more) ≡ from_time v more → from_time v (cond first (m ∷ from_time u more) (from_time u more)) ≡ cond second (m ∷ from_time v more) (from_time v more)
    at true second is is' same = ap (λ x. cond x (m ∷ from_time v (from_time u more)) (from_time v (from_time u more))) is' ∙ ap (λ xs. cond second (m ∷ xs) xs) same
    at false false is is' same = same
    at false true is is' same = absurd (false≢true (sym is ∙ test_both u v m.at le is'))

pub from_time-append : (v : ℕ) (xs ys : List Msg) → from_time v (xs ++ ys) ≡ from_time v xs ++ from_time v ys
from_time-append v xs ys = filter-append (λ (m : Msg). nat_le v m.at) xs ys

pub from_time_every : (v : ℕ) (xs : List Msg) → All (λ (m : Msg). v ≤ m.at) xs → from_time v xs ≡ xs
from_time_every v [] all = refl
from_time_every v (m ∷ more) all = ap (λ x. cond x (m ∷ from_time v more) (from_time v more)) (test_le v m.at (All-head (λ (x : Msg). v ≤ x.at) m more all)) ∙ ap (λ xs. m ∷ xs) (from_time_every v more (All-tail (λ (x : Msg). v ≤ x.at) m more all))

pub from_time_is : (v : ℕ) (xs : List Msg) → All (λ (m : Msg). v ≤ m.at) (from_time v xs)
from_time_is v [] = All-nil (λ (m : Msg). v ≤ m.at)
from_time_is v (m ∷ more) = at (nat_le v m.at) refl (from_time_is v more)
  where
    at : (now : Bool) → nat_le v m.at ≡ now → All (λ (m : Msg). v ≤ m.at) (from_time v more) → All (λ (m : Msg). v ≤ m.at) (cond now (m ∷ from_time v more) (from_time v more))
    at true is all = All-cons (λ (m : Msg). v ≤ m.at) m (from_time v more) (test_from v m.at is) all
    at false is all = all

rises_lower : (low low' : ℕ) (xs : List Msg) → low' ≤ low → Rises low xs → Rises low' xs
rises_lower low low' [] le rises = tt
rises_lower low low' (m ∷ more) le rises = (let first : low ≤ m.at = rises.0 in omega arith, rises.1)

pub rises_part : (v low : ℕ) (xs : List Msg) → Rises low xs → Rises low (from_time v xs)
rises_part v low [] rises = tt
rises_part v low (m ∷ more) rises = at (nat_le v m.at) (rises_part v m.at more rises.1)
  where
    at : (now : Bool) → Rises m.at (from_time v more) → Rises low (cond now (m ∷ from_time v more) (from_time v more))
    at true part = (rises.0, part)
    at false part = rises_lower m.at low (from_time v more) rises.0 part

-- what all comes at one time, after a queue's times, comes behind it
pub rises_append : (low bound : ℕ) (xs ys : List Msg) → low ≤ bound → Rises low xs → All (λ (m : Msg). m.at ≤ bound) xs → All (λ (m : Msg). m.at ≡ bound) ys → Rises low (xs ++ ys)
rises_append low bound [] [] le rises all same = tt
rises_append low bound [] (y ∷ ys) le rises all same =
    let first : y.at ≡ bound = All-head (λ (m : Msg). m.at ≡ bound) y ys same in
    (omega arith, rises_append y.at bound [] ys (omega arith) tt (All-nil (λ (m : Msg). m.at ≤ bound)) (All-tail (λ (m : Msg). m.at ≡ bound) y ys same))
rises_append low bound (x ∷ xs) ys le rises all same = (rises.0, rises_append x.at bound xs ys (All-head (λ (m : Msg). m.at ≤ bound) x xs all) rises.1 (All-tail (λ (m : Msg). m.at ≤ bound) x xs all) same)

pub waiting_append : (e : End) (xs ys : List Event) → waiting_at e (xs ++ ys) ≡ waiting_at e xs ++ waiting_at e ys
waiting_append e xs ys = ap (map (λ (x : Event). record { at = x.time; body = x.body })) (filter-append (λ (x : Event). same_end x.to e) xs ys) ∙ map-append (λ (x : Event). record { at = x.time; body = x.body }) (filter (λ (x : Event). same_end x.to e) xs) (filter (λ (x : Event). same_end x.to e) ys)

-- what holds of the events to a port holds of its messages
pub waiting_all : (P : Msg → Type 0) (Q : Event → Type 0) (e : End) (events : List Event) → ((event : Event) → Q event → event.to ≡ e → P (record { at = event.time; body = event.body })) → All Q events → All P (waiting_at e events)
waiting_all P Q e [] gives all = All-nil P
waiting_all P Q e (event ∷ more) gives all = at (same_end event.to e) refl (waiting_all P Q e more gives (All-tail Q event more all))
  where
    at : (here : Bool) → same_end event.to e ≡ here → All P (waiting_at e more) → All P (map (λ (x : Event). record { at = x.time; body = x.body }) (cond here (event ∷ filter (λ (x : Event). same_end x.to e) more) (filter (λ (x : Event). same_end x.to e) more)))
    at true is others = All-cons P (record { at = event.time; body = event.body }) (waiting_at e more) (gives event (All-head Q event more all) (same_end_is event.to e is)) others
    at false is others = others

-- THE AGENDA

pub has-note_all : (t c : ℕ) (events : List Event) (dues : List (Option ℕ)) → has t c dues ≡ true → has t c (note_all events dues) ≡ true
unfolding note_all
has-note_all t c [] dues there = there
has-note_all t c (event ∷ more) dues there = has-note_all t c more (note event.time event.to.component dues) (has-note t c event.time event.to.component dues there)

pub has-noted_all : (events : List Event) (dues : List (Option ℕ)) → All (λ (event : Event). event.to.component < length dues) events → All (λ (event : Event). has event.time event.to.component (note_all events dues) ≡ true) events
unfolding note_all
has-noted_all [] dues within = All-nil (λ (event : Event). has event.time event.to.component dues ≡ true)
has-noted_all (event ∷ more) dues within = All-cons (λ (x : Event). has x.time x.to.component (note_all more (note event.time event.to.component dues)) ≡ true) event more (has-note_all event.time event.to.component more (note event.time event.to.component dues) (has-noted event.time event.to.component dues (All-head (λ (x : Event). x.to.component < length dues) event more within))) (has-noted_all more (note event.time event.to.component dues) (subst (λ n. All (λ (x : Event). x.to.component < n) more) (sym (length-note event.time event.to.component dues)) (All-tail (λ (x : Event). x.to.component < length dues) event more within)))

pub AllDue-note_all : (P : ℕ → ℕ → Type 0) (events : List Event) (dues : List (Option ℕ)) → All (λ (event : Event). P event.to.component event.time) events → AllDue P dues → AllDue P (note_all events dues)
unfolding note_all
AllDue-note_all P [] dues each all = all
AllDue-note_all P (event ∷ more) dues each all = AllDue-note_all P more (note event.time event.to.component dues) (All-tail (λ (x : Event). P x.to.component x.time) event more each) (AllDue-note P event.time event.to.component dues (All-head (λ (x : Event). P x.to.component x.time) event more each) all)

pub length-note_all : (events : List Event) (dues : List (Option ℕ)) → length (note_all events dues) ≡ length dues
unfolding note_all
length-note_all [] dues = refl
length-note_all (event ∷ more) dues = length-note_all more (note event.time event.to.component dues) ∙ length-note event.time event.to.component dues
