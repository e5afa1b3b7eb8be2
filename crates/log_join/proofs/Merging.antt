-- Logs in the order of time, joined line by line: each time the first line of all that is left.
use Rattle.std.proofs.Common.{◌≡◌, ◌≢◌, ℕ, zero, suc, ◌+◌, ◌-◌, ◌≤◌, ◌<◌, ◌^◌, true, false, cond, List, [], ◌∷◌, ◌++◌, length, map, take, get_or, refl, ap, subst, sym, ◌∙◌, ⊎_elim, arith, append_assoc, append-nil, Option, Some, None}
use Rattle.std.specs.Prelude.{◌==◌, slice_get, slice_set, replicate, IfSome, option_map, decimal}
use Rattle.std.specs.List.{All}
use Rattle.std.proofs.lemmas.Bool.{cases_eq}
use Rattle.std.proofs.lemmas.Bool.Decides.{nat_tests}
use Rattle.std.proofs.lemmas.List.{length-set, length-map, map-set, take_more}
use Rattle.std.proofs.lemmas.List.Elements.{All-nil, All-cons, All-append, All-head, All-tail, All-set}
use Rattle.std.proofs.lemmas.Option.{slice_get-map, slice_get_within, slice_get_read, get_or_from_slice_get}
use Rattle.device_api.specs.declared.logs.Line.{Line}
use Rattle.device_api.specs.Joined.{text_of, texts_of, lines_at, joined_at, joined_until}
use Rattle.moment_tree.specs.Places.{clock}
use Rattle.moment_tree.specs.Dues.{IsFirst}
use Rattle.log_join.specs.Before.{IsBefore, AreBefore}
use Rattle.log_join.specs.Entries.{spaced}
use Rattle.log_join.specs.Heads.{head_time, second_time, IsFrom}

pub from_lower : (t u : ℕ) (log : List Line) → t ≤ u → IsFrom u log → IsFrom t log
from_lower t u [] le from = tt
from_lower t u (line ∷ more) le from = let first : u ≤ line.at = from.0 in (omega arith, from.1, from.2)

other_time : (x t : ℕ) → t < x → (x == t) ≡ false
other_time x t lt = grind (arith, nat_tests)

same_time : (x : ℕ) → (x == x) ≡ true
same_time x = grind (arith, nat_tests)

-- nothing is logged before a log's first time
lines_at_none : (t u : ℕ) (log : List Line) → IsFrom u log → t < u → lines_at t log ≡ []
lines_at_none t u [] from lt = refl
lines_at_none t u (line ∷ more) from lt = let first : u ≤ line.at = from.0 in ap (λ now. cond now (line ∷ lines_at t more) (lines_at t more)) (other_time line.at t (omega arith)) ∙ lines_at_none t line.at more from.2 (omega arith)

-- nothing comes before component c's moment t
pub Precedes : ℕ → ℕ → List (List Line) → Type 0
Precedes t c [] = Unit {0}
Precedes t zero (log ∷ logs) = IsFrom t log × Precedes t zero logs
Precedes t (suc c) (log ∷ logs) = IsFrom (t + 1) log × Precedes t c logs

joined_at_none : (t u c : ℕ) (names : List (List ℕ)) (logs : List (List Line)) → Precedes u c logs → t < u → joined_at t names logs ≡ []
unfolding Precedes
joined_at_none t u c [] logs none lt = refl
joined_at_none t u c (name ∷ names) [] none lt = refl
joined_at_none t u zero (name ∷ names) (log ∷ logs) none lt = ap (λ xs. texts_of name xs ++ joined_at t names logs) (lines_at_none t u log none.0 lt) ∙ joined_at_none t u zero names logs none.1 lt
joined_at_none t u (suc c) (name ∷ names) (log ∷ logs) none lt = ap (λ xs. texts_of name xs ++ joined_at t names logs) (lines_at_none t (u + 1) log none.0 (omega arith)) ∙ joined_at_none t u c names logs none.1 lt

joined_until_none : (end u c : ℕ) (names : List (List ℕ)) (logs : List (List Line)) → Precedes u c logs → end ≤ u → joined_until end names logs ≡ []
unfolding joined_until
joined_until_none zero u c names logs none le = refl
joined_until_none (suc end) u c names logs none le = ap (λ xs. xs ++ joined_at end names logs) (joined_until_none end u c names logs none (omega arith)) ∙ joined_at_none end u c names logs none (omega arith)

-- at another time the first line of component c makes no difference
joined_at_other : (t c : ℕ) (line : Line) (more : List Line) (names : List (List ℕ)) (logs : List (List Line)) → slice_get logs c ≡ Some (line ∷ more) → (line.at == t) ≡ false → joined_at t names logs ≡ joined_at t names (slice_set logs c more)
joined_at_other t c line more [] logs is differs = refl
joined_at_other t c line more (name ∷ names) [] is differs = refl
joined_at_other t zero line more (name ∷ names) (log ∷ logs) is differs =
    let same : log ≡ line ∷ more = cc in
    ap (λ xs. texts_of name (lines_at t xs) ++ joined_at t names logs) same ∙ ap (λ now. texts_of name (cond now (line ∷ lines_at t more) (lines_at t more)) ++ joined_at t names logs) differs
joined_at_other t (suc c) line more (name ∷ names) (log ∷ logs) is differs = ap (λ xs. texts_of name (lines_at t log) ++ xs) (joined_at_other t c line more names logs is differs)

-- at its time it comes first
joined_at_here : (c : ℕ) (name : List ℕ) (line : Line) (more : List Line) (names : List (List ℕ)) (logs : List (List Line)) → slice_get names c ≡ Some name → slice_get logs c ≡ Some (line ∷ more) → Precedes line.at c logs → joined_at line.at names logs ≡ text_of name line ++ joined_at line.at names (slice_set logs c more)
unfolding Precedes
joined_at_here c name line more [] logs named is none = absurd cc
joined_at_here c name line more (n ∷ names) [] named is none = absurd cc
joined_at_here zero name line more (n ∷ names) (log ∷ logs) named is none =
    let same : log ≡ line ∷ more = cc in
    let its : n ≡ name = cc in
    ap (λ xs. texts_of n (lines_at line.at xs) ++ joined_at line.at names logs) same
    ∙ ap (λ now. texts_of n (cond now (line ∷ lines_at line.at more) (lines_at line.at more)) ++ joined_at line.at names logs) (same_time line.at)
    ∙ append_assoc (text_of n line) (texts_of n (lines_at line.at more)) (joined_at line.at names logs)
    ∙ ap (λ x. text_of x line ++ (texts_of n (lines_at line.at more) ++ joined_at line.at names logs)) its
joined_at_here (suc c) name line more (n ∷ names) (log ∷ logs) named is none =
    let nothing : lines_at line.at log ≡ [] = lines_at_none line.at (line.at + 1) log none.0 (omega arith) in
    ap (λ xs. texts_of n xs ++ joined_at line.at names logs) nothing
    ∙ joined_at_here c name line more names logs named is none.1
    ∙ ap (λ xs. text_of name line ++ (texts_of n xs ++ joined_at line.at names (slice_set logs c more))) (sym nothing)

precedes_rest : (t c : ℕ) (line : Line) (more : List Line) (logs : List (List Line)) → slice_get logs c ≡ Some (line ∷ more) → Precedes t c logs → Precedes t c (slice_set logs c more)
unfolding Precedes
precedes_rest t c line more [] is none = tt
precedes_rest t zero line more (log ∷ logs) is none =
    let same : log ≡ line ∷ more = cc in
    let from : IsFrom t (line ∷ more) = subst (IsFrom t) same none.0 in
    (from_lower t line.at more from.0 from.2, none.1)
precedes_rest t (suc c) line more (log ∷ logs) is none = (none.0, precedes_rest t c line more logs is none.1)

-- the first line of all, and then the joined log of the rest, is the joined log
joined_more : (c : ℕ) (name : List ℕ) (line : Line) (more : List Line) (names : List (List ℕ)) (logs : List (List Line)) → slice_get names c ≡ Some name → slice_get logs c ≡ Some (line ∷ more) → Precedes line.at c logs → (end : ℕ) → line.at < end → joined_until end names logs ≡ text_of name line ++ joined_until end names (slice_set logs c more)
unfolding joined_until
joined_more c name line more names logs named is none zero lt = absurd (omega arith)
joined_more c name line more names logs named is none (suc end) lt = ⊎_elim here (λ ne. later ne (joined_more c name line more names logs named is none end (omega arith))) (cases_eq end line.at)
  where
    here : end ≡ line.at → joined_until end names logs ++ joined_at end names logs ≡ text_of name line ++ (joined_until end names (slice_set logs c more) ++ joined_at end names (slice_set logs c more))
    here e =
        ap (λ xs. xs ++ joined_at end names logs) (joined_until_none end line.at c names logs none (omega arith))
        ∙ ap (λ t. joined_at t names logs) e
        ∙ joined_at_here c name line more names logs named is none
        ∙ ap (λ t. text_of name line ++ joined_at t names (slice_set logs c more)) (sym e)
        ∙ ap (λ xs. text_of name line ++ (xs ++ joined_at end names (slice_set logs c more))) (sym (joined_until_none end line.at c names (slice_set logs c more) (precedes_rest line.at c line more logs is none) (omega arith)))

    later : end ≢ line.at → joined_until end names logs ≡ text_of name line ++ joined_until end names (slice_set logs c more) → joined_until end names logs ++ joined_at end names logs ≡ text_of name line ++ (joined_until end names (slice_set logs c more) ++ joined_at end names (slice_set logs c more))
    later ne before =
        let differs : (line.at == end) ≡ false = grind (arith, nat_tests) in
        ap (λ xs. xs ++ joined_at end names logs) before
        ∙ append_assoc (text_of name line) (joined_until end names (slice_set logs c more)) (joined_at end names logs)
        ∙ ap (λ xs. text_of name line ++ (joined_until end names (slice_set logs c more) ++ xs)) (joined_at_other end c line more names logs is differs)

-- FIRST TIMES

clock_none : (t d : ℕ) → clock t 0 d ≡ t
clock_none t d = grind (arith, nat_tests)

clock_first : (t c : ℕ) → clock t (suc c) 0 ≡ t + 1
clock_first t c = grind (arith, nat_tests)

clock_rest : (t c d : ℕ) → clock t (suc c) (suc d) ≡ clock t c d
clock_rest t c d = grind (arith, nat_tests)

precedes_of : (t c : ℕ) (logs : List (List Line)) → ((d : ℕ) (log : List Line) → slice_get logs d ≡ Some log → IsFrom (clock t c d) log) → Precedes t c logs
unfolding Precedes
precedes_of t c [] from = tt
precedes_of t zero (log ∷ logs) from = (subst (λ u. IsFrom u log) (clock_none t 0) (from 0 log refl), precedes_of t zero logs (λ d x is. subst (λ u. IsFrom u x) (clock_none t (suc d) ∙ sym (clock_none t d)) (from (suc d) x is)))
precedes_of t (suc c) (log ∷ logs) from = (subst (λ u. IsFrom u log) (clock_first t c) (from 0 log refl), precedes_of t c logs (λ d x is. subst (λ u. IsFrom u x) (clock_rest t c d) (from (suc d) x is)))

All_at : {X : Type 0} (P : X → Type 0) (xs : List X) (i : ℕ) (x : X) → All P xs → slice_get xs i ≡ Some x → P x
All_at P xs i x all is = subst P (get_or_from_slice_get xs i x x is) (all i x (slice_get_within xs i x is))

heads_at : (logs : List (List Line)) (d : ℕ) (log : List Line) → slice_get logs d ≡ Some log → slice_get (map head_time logs) d ≡ Some (head_time log)
heads_at logs d log is = slice_get-map head_time logs d ∙ ap (option_map head_time) is

first_precedes : (t c : ℕ) (logs : List (List Line)) → All (IsFrom 0) logs → IsFirst t c (map head_time logs) → Precedes t c logs
first_precedes t c logs in_order first = precedes_of t c logs (λ d log is. from d log (All_at (IsFrom 0) logs d log in_order is) (heads_at logs d log is))
  where
    from : (d : ℕ) (log : List Line) → IsFrom 0 log → slice_get (map head_time logs) d ≡ Some (head_time log) → IsFrom (clock t c d) log
    from d [] order head = tt
    from d (line ∷ more) order head = (first d line.at head, order.1, order.2)

none_precedes : (t : ℕ) (logs : List (List Line)) → All (λ (due : Option ℕ). due ≡ None) (map head_time logs) → Precedes t 0 logs
none_precedes t logs none = precedes_of t 0 logs (λ d log is. empty d log (All_at (λ (due : Option ℕ). due ≡ None) (map head_time logs) d (head_time log) none (heads_at logs d log is)))
  where
    empty : (d : ℕ) (log : List Line) → head_time log ≡ None → IsFrom (clock t 0 d) log
    empty d [] is = tt
    empty d (line ∷ more) is = absurd cc

-- THE LOOP

-- what is written, and then the joined log of the rests, is the joined log
pub record IsMerged (names : List (List ℕ)) (logs rests : List (List Line)) (text : List ℕ) : Type 0 where
  pub in_order : All (IsFrom 0) rests
  pub same : length rests ≡ length names
  pub before : (end : ℕ) → AreBefore end logs → AreBefore end rests
  pub texts : (end : ℕ) → AreBefore end logs → text ++ joined_until end names rests ≡ joined_until end names logs

-- a piece that stands ready is a component's name between spaces
piece_is : (names : List (List ℕ)) (c : ℕ) (piece : List ℕ) → slice_get (map spaced names) c ≡ Some piece → (name : List ℕ) × (slice_get names c ≡ Some name) × (piece ≡ spaced name)
piece_is [] c piece is = absurd cc
piece_is (name ∷ names) zero piece is = let same : piece ≡ spaced name = cc in (name, refl, same)
piece_is (name ∷ names) (suc c) piece is = piece_is names c piece is

-- the pieces of a line, one after another
five : (old digits name space line feed : List ℕ) → old ++ digits ++ (name ++ space) ++ line ++ feed ≡ old ++ (digits ++ name ++ (space ++ line) ++ feed)
five old digits name space line feed =
    ap (λ xs. xs ++ line ++ feed) (sym (append_assoc (old ++ digits) name space))
    ∙ ap (λ xs. xs ++ feed) (append_assoc (old ++ digits ++ name) space line)
    ∙ append_assoc (old ++ digits ++ name) (space ++ line) feed
    ∙ ap (λ xs. xs ++ (space ++ line ++ feed)) (append_assoc old digits name)
    ∙ append_assoc old (digits ++ name) (space ++ line ++ feed)
    ∙ ap (λ xs. old ++ xs) (sym (append_assoc (digits ++ name) (space ++ line) feed))

-- a line's text is made of what stands ready
pieces_text : (old digits piece name : List ℕ) (line : Line) → digits ≡ decimal line.at → piece ≡ spaced name → old ++ digits ++ piece ++ line.text ++ 10 ∷ [] ≡ old ++ text_of name line
pieces_text old digits piece name line stamped is =
    ap (λ xs. old ++ xs ++ piece ++ line.text ++ 10 ∷ []) stamped
    ∙ ap (λ xs. old ++ decimal line.at ++ xs ++ line.text ++ 10 ∷ []) is
    ∙ five old (decimal line.at) (32 ∷ name) (32 ∷ []) line.text (10 ∷ [])

pub nothing_written : (names : List (List ℕ)) (logs rests : List (List Line)) (text : List ℕ) → All (IsFrom 0) logs → length names ≡ length logs → rests ≡ logs → text ≡ [] → IsMerged names logs rests text
nothing_written names logs rests text in_order same is none = subst (λ xs. IsMerged names logs xs text) (sym is) (subst (IsMerged names logs logs) (sym none) (record { in_order = in_order; same = sym same; before = λ end early. early; texts = λ end early. refl }))

module _ {names : List (List ℕ)} {logs rests : List (List Line)} {text : List ℕ} (merged : IsMerged names logs rests text) where
  pub one_written : (c : ℕ) (name : List ℕ) (line : Line) (more : List Line) (text' : List ℕ) → slice_get names c ≡ Some name → slice_get rests c ≡ Some (line ∷ more) → IsFirst line.at c (map head_time rests) → text' ≡ text ++ text_of name line → IsMerged names logs (slice_set rests c more) text'
  one_written c name line more text' named is first written =
      let none : Precedes line.at c rests = first_precedes line.at c rests merged.in_order first in
      let order : IsFrom 0 (line ∷ more) = All_at (IsFrom 0) rests c (line ∷ more) merged.in_order is in
      record {
        in_order = All-set (IsFrom 0) rests c more (from_lower 0 line.at more (omega arith) order.2) merged.in_order;
        same = length-set rests c more ∙ merged.same;
        before = λ end early. All-set (IsBefore end) rests c more (All-tail (λ (x : Line). x.at < end) line more (All_at (IsBefore end) rests c (line ∷ more) (merged.before end early) is)) (merged.before end early);
        texts = λ end early.
            ap (λ xs. xs ++ joined_until end names (slice_set rests c more)) written
            ∙ append_assoc text (text_of name line) (joined_until end names (slice_set rests c more))
            ∙ ap (λ xs. text ++ xs) (sym (joined_more c name line more names rests named is none end (All-head (λ (x : Line). x.at < end) line more (All_at (IsBefore end) rests c (line ∷ more) (merged.before end early) is))))
            ∙ merged.texts end early;
      }

  pub pieces_written : (c : ℕ) (piece digits : List ℕ) (line : Line) (more : List Line) (text' : List ℕ) → slice_get (map spaced names) c ≡ Some piece → digits ≡ decimal line.at → slice_get rests c ≡ Some (line ∷ more) → IsFirst line.at c (map head_time rests) → text' ≡ text ++ digits ++ piece ++ line.text ++ 10 ∷ [] → IsMerged names logs (slice_set rests c more) text'
  pieces_written c piece digits line more text' ready stamped is first written =
      let named = piece_is names c piece ready in
      one_written c named.0 line more text' named.1 is first (written ∙ pieces_text text digits piece named.0 line stamped named.2)

  pub all_written : All (λ (due : Option ℕ). due ≡ None) (map head_time rests) → (end : ℕ) → AreBefore end logs → text ≡ joined_until end names logs
  all_written none end early = sym (append-nil text) ∙ ap (λ xs. text ++ xs) (sym (joined_until_none end end 0 names rests (none_precedes end rests none) (omega arith))) ∙ merged.texts end early

  -- the component whose line is first has one
  pub some_line : (c t : ℕ) → slice_get (map head_time rests) c ≡ Some (Some t) → (log : List Line) → slice_get rests c ≡ Some log → head_time log ≡ Some t
  some_line c t there log is = let both : Some (head_time log) ≡ Some (Some t) = sym (heads_at rests c log is) ∙ there in cc

  pub rest_early : (c : ℕ) (line : Line) (more : List Line) → slice_get rests c ≡ Some (line ∷ more) → IfSome (head_time more) (λ at. at < 2 ^ 57)
  rest_early c line more is = early more (All_at (IsFrom 0) rests c (line ∷ more) merged.in_order is).2
    where
      early : (log : List Line) → IsFrom line.at log → IfSome (head_time log) (λ at. at < 2 ^ 57)
      early [] from = tt
      early (x ∷ xs) from = from.1

pub head_early : (log : List Line) → IsFrom 0 log → IfSome (head_time log) (λ at. at < 2 ^ 57)
head_early [] from = tt
head_early (x ∷ xs) from = from.1

pub lines_left : List (List Line) → ℕ
lines_left [] = 0
lines_left (log ∷ logs) = length log + lines_left logs

pub left_less : (c : ℕ) (line : Line) (more : List Line) (logs : List (List Line)) → slice_get logs c ≡ Some (line ∷ more) → lines_left (slice_set logs c more) < lines_left logs
unfolding lines_left
left_less c line more [] is = absurd cc
left_less zero line more (log ∷ logs) is = let same : log ≡ line ∷ more = cc in let long : length log ≡ suc (length more) = ap length same in omega arith
left_less (suc c) line more (log ∷ logs) is = let less : lines_left (slice_set logs c more) < lines_left logs = left_less c line more logs is in omega arith

pub heads_set : (rests : List (List Line)) (c : ℕ) (more : List Line) (agenda agenda' : List (Option ℕ)) → agenda ≡ map head_time rests → agenda' ≡ slice_set agenda c (head_time more) → agenda' ≡ map head_time (slice_set rests c more)
heads_set rests c more agenda agenda' is new = new ∙ ap (λ xs. slice_set xs c (head_time more)) is ∙ sym (map-set head_time rests c more)

-- the time that stands ready for a component is that of its second line
pub second_is : (rests : List (List Line)) (seconds : List (Option ℕ)) (c : ℕ) (line : Line) (more : List Line) (due : Option ℕ) → seconds ≡ map second_time rests → slice_get rests c ≡ Some (line ∷ more) → slice_get seconds c ≡ Some due → due ≡ head_time more
second_is rests seconds c line more due are is read =
    let there : slice_get (map second_time rests) c ≡ Some (head_time more) = slice_get-map second_time rests c ∙ ap (option_map second_time) is in
    let both : Some due ≡ Some (head_time more) = sym read ∙ ap (λ xs. slice_get xs c) are ∙ there in
    cc

pub seconds_set : (rests : List (List Line)) (c : ℕ) (more : List Line) (seconds seconds' : List (Option ℕ)) → seconds ≡ map second_time rests → seconds' ≡ slice_set seconds c (second_time more) → seconds' ≡ map second_time (slice_set rests c more)
seconds_set rests c more seconds seconds' is new = new ∙ ap (λ xs. slice_set xs c (second_time more)) is ∙ sym (map-set second_time rests c more)

-- THE START

-- the first times of the first i logs
pub set_more : {X : Type 0} (f : X → Option ℕ) (xs : List X) (i r : ℕ) (x : X) → slice_get xs i ≡ Some x → slice_set (map f (take i xs) ++ replicate (suc r) None) i (f x) ≡ map f (take (suc i) xs) ++ replicate r None
set_more f [] i r x is = absurd cc
set_more f (y ∷ ys) zero r x is = let same : y ≡ x = cc in ap (λ z. f z ∷ replicate r None) (sym same)
set_more f (y ∷ ys) (suc i) r x is = ap (λ zs. f y ∷ zs) (set_more f ys i r x is)

-- what a read of the rests gives
pub rest_at : {X Y : Type 0} (now : X → Y) (items : List X) (c : ℕ) (x : X) → c < length items → x ≡ get_or items c x → slice_get (map now items) c ≡ Some (now x)
rest_at now items c x lt read = slice_get-map now items c ∙ ap (option_map now) (slice_get_read items (length items) c x refl lt read)

-- a component with a first time is there
pub place_there : {X : Type 0} (now : X → List Line) (items : List X) (agenda : List (Option ℕ)) (c : ℕ) (due : Option ℕ) → agenda ≡ map head_time (map now items) → slice_get agenda c ≡ Some due → c < length items
place_there now items agenda c due is there =
    let within : c < length (map head_time (map now items)) = slice_get_within (map head_time (map now items)) c due (ap (λ xs. slice_get xs c) (sym is) ∙ there) in
    let one : length (map head_time (map now items)) ≡ length (map now items) = length-map (map now items) head_time in
    let two : length (map now items) ≡ length items = length-map items now in
    omega arith

pub take_one : {X : Type 0} (P : X → Type 0) (xs : List X) (i : ℕ) (x : X) → slice_get xs i ≡ Some x → All P (take i xs) → P x → All P (take (i + 1) xs)
take_one P xs i x is all here = subst (All P) (sym (take_more xs i x (slice_get_within xs i x is))) (All-append P (take i xs) (get_or xs i x ∷ []) all (All-cons P (get_or xs i x) [] (subst P (sym (get_or_from_slice_get xs i x x is)) here) (All-nil P)))

pub times_more : (logs : List (List Line)) (i : ℕ) (log : List Line) (agenda agenda' : List (Option ℕ)) → slice_get logs i ≡ Some log → agenda ≡ map head_time (take i logs) ++ replicate (length logs - i) None → agenda' ≡ slice_set agenda i (head_time log) → agenda' ≡ map head_time (take (i + 1) logs) ++ replicate (length logs - (i + 1)) None
times_more logs i log agenda agenda' is before new =
    let lt : i < length logs = slice_get_within logs i log is in
    let left : length logs - i ≡ suc (length logs - (i + 1)) = omega arith in
    let next : suc i ≡ i + 1 = omega arith in
    new
    ∙ ap (λ xs. slice_set xs i (head_time log)) before
    ∙ ap (λ r. slice_set (map head_time (take i logs) ++ replicate r None) i (head_time log)) left
    ∙ set_more head_time logs i (length logs - (i + 1)) log is
    ∙ ap (λ n. map head_time (take n logs) ++ replicate (length logs - (i + 1)) None) next
