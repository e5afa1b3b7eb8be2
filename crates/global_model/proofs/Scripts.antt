-- The null messages of a script between two sends are as many as the quotient says.
use Rattle.std.specs.Prelude.{ℕ, zero, suc, ◌≡◌, ◌≢◌, ◌==◌, ◌+◌, ◌-◌, ◌*◌, ◌/◌, ◌≤◌, ◌<◌, ◌⊎◌, nat_lt, Bool, true, false, List, [], ◌∷◌, ◌++◌, length, count_by, All, refl}
use Rattle.std.proofs.Common.{sym, ap, ap₂, ◌∙◌, arith, subst, cond, append-nil, inl, inr}
use Rattle.std.proofs.lemmas.Bool.Decides.{nat_tests}
use Rattle.std.proofs.lemmas.List.{length-append}
use Rattle.std.proofs.lemmas.List.Elements.{All-head, All-tail, All-weaker, filter-append}
use Rattle.std.proofs.lemmas.List.Sums.{sum_by-append, sum_by-cons}
use Rattle.std.proofs.lemmas.Nat.{div-mul-add}
use Rattle.cs_base.specs.declared.port_kind.PortKind.{PortKind}
use Rattle.sb_message.specs.Receivable.{is_event}
use Rattle.sb_message.specs.declared.message.Msg.{Msg}
use Rattle.device_api.specs.Channels.{Channel}
use Rattle.device_api.specs.Counts.{is_sync}
use Rattle.device_api.specs.Transcript.{Script, script, with_messages, sync_if_due, stamped_after, sends_before, sends_at, null_message, bodies}
use Rattle.device_api.specs.World.{Sent}
use Rattle.global_model.specs.Tally.{syncs_before}
use Rattle.global_model.specs.Tallied.{IsScript}

-- QUOTIENTS

below_yes : (x y : ℕ) → x < y → nat_lt x y ≡ true
below_yes x y lt = grind (arith, nat_tests)

below_no : (x y : ℕ) → y ≤ x → nat_lt x y ≡ false
below_no x y le = grind (arith, nat_tests)

-- of null messages that are due at d and then one each interval, n are due before u
record IsTimer (interval d u n : ℕ) : Type 0 where
  pub not_before : u ≤ d + interval * n
  pub last_before : (m : ℕ) → n ≡ suc m → d + interval * m < u

quotient : (interval d u m : ℕ) → 1 ≤ interval → d + interval * m < u → u ≤ d + interval * m + interval → (u - 1 - d) / interval ≡ m
quotient interval d u m some low high =
    let more : u - 1 - d ≡ m * interval + (u - 1 - d - m * interval) = omega arith in
    ap (λ x. x / interval) more ∙ div-mul-add m interval (u - 1 - d - m * interval) (omega arith)

-- they are as many as the quotient says
timed : (interval d u n : ℕ) → 1 ≤ interval → IsTimer interval d u n → syncs_before interval d u ≡ n
unfolding syncs_before
timed interval d u zero some timer = let none : u ≤ d = (let not_before : u ≤ d + interval * 0 = timer.not_before in omega arith) in ap (λ b. cond b ((u - 1 - d) / interval + 1) 0) (below_no d u none)
timed interval d u (suc m) some timer =
    let low : d + interval * m < u = timer.last_before m refl in
    let not_before : u ≤ d + interval * suc m = timer.not_before in
    let high : u ≤ d + interval * m + interval = omega arith in
    let divided : (u - 1 - d) / interval ≡ m = quotient interval d u m some low high in
    ap (λ b. cond b ((u - 1 - d) / interval + 1) 0) (below_yes d u (omega arith)) ∙ (let one_more : (u - 1 - d) / interval + 1 ≡ suc m = omega arith in one_more)

timer_starts : (interval d u : ℕ) → u ≤ d → IsTimer interval d u 0
timer_starts interval d u le = record { not_before = omega arith; last_before = λ m none. absurd (omega arith) }

timer_rings : (interval d u n : ℕ) → 1 ≤ interval → d + interval * n ≡ u → IsTimer interval d (suc u) (n + 1)
timer_rings interval d u n some now = record { not_before = omega arith; last_before = λ m is. (let same : m ≡ n = omega arith in subst (λ x. d + interval * x < suc u) (sym same) (omega arith)) }

timer_stays : (interval d u n : ℕ) → IsTimer interval d u n → d + interval * n ≢ u → IsTimer interval d (suc u) n
timer_stays interval d u n timer other = record { not_before = (let not_before : u ≤ d + interval * n = timer.not_before in omega (arith, other)); last_before = λ m is. (let low : d + interval * m < u = timer.last_before m is in omega arith) }

-- SCRIPTS

count-append : (p : Msg → Bool) (xs ys : List Msg) → count_by p (xs ++ ys) ≡ count_by p xs + count_by p ys
count-append p xs ys = sum_by-append (λ m. cond (p m) 1 0) xs ys

count-one : (p : Msg → Bool) (m : Msg) (b : Bool) → p m ≡ b → count_by p (m ∷ []) ≡ cond b 1 0
count-one p m b is = sum_by-cons (λ x. cond (p x) 1 0) m [] ∙ ap (λ x. cond x 1 0 + 0) is ∙ (let same : cond b 1 0 + 0 ≡ cond b 1 0 = omega arith in same)

-- a message at the end of a script
sync_more : (s : Script) (m : Msg) (syncs sends due due' : ℕ) → IsScript s syncs sends due → is_sync m.body ≡ true → is_event m.body ≡ false → IsScript (record { messages = s.messages ++ m ∷ []; sync_due = due' }) (syncs + 1) sends due'
sync_more s m syncs sends due due' is sync no_event = record {
  syncs_are = count-append (λ (x : Msg). is_sync x.body) s.messages (m ∷ []) ∙ ap₂ ◌+◌ is.syncs_are (count-one (λ (x : Msg). is_sync x.body) m true sync);
  sends_are = ap length (filter-append (λ (x : Msg). is_event x.body) s.messages (m ∷ []) ∙ ap (λ b. bodies s.messages ++ cond b (m ∷ []) []) no_event ∙ append-nil (bodies s.messages)) ∙ is.sends_are;
  due_is = refl;
}

pub event_more : (s : Script) (m : Msg) (syncs sends due due' : ℕ) → IsScript s syncs sends due → is_sync m.body ≡ false → is_event m.body ≡ true → IsScript (record { messages = s.messages ++ m ∷ []; sync_due = due' }) syncs (sends + 1) due'
event_more s m syncs sends due due' is no_sync event = record {
  syncs_are = count-append (λ (x : Msg). is_sync x.body) s.messages (m ∷ []) ∙ ap₂ ◌+◌ is.syncs_are (count-one (λ (x : Msg). is_sync x.body) m false no_sync) ∙ (let same : syncs + 0 ≡ syncs = omega arith in same);
  sends_are = ap length (filter-append (λ (x : Msg). is_event x.body) s.messages (m ∷ []) ∙ ap (λ b. bodies s.messages ++ cond b (m ∷ []) []) event) ∙ length-append (bodies s.messages) (m ∷ []) ∙ ap (λ n. n + 1) is.sends_are;
  due_is = refl;
}

-- a moment without sends: a null message, where it is due
quiet : (ch : Channel) (u syncs sends due : ℕ) (s : Script) → IsScript s syncs sends due → ((due ≡ u) × IsScript (with_messages ch u s (sync_if_due ch u s.sync_due ++ [])) (syncs + 1) sends (u + ch.interval)) ⊎ ((due ≢ u) × IsScript (with_messages ch u s (sync_if_due ch u s.sync_due ++ [])) syncs sends due)
quiet ch u syncs sends due s is = at (s.sync_due == u) refl
  where
    equal : (x y : ℕ) → (x == y) ≡ true → x ≡ y
    equal x y e = grind (arith, nat_tests)

    unequal : (x y : ℕ) → (x == y) ≡ false → x ≢ y
    unequal x y e = grind (arith, nat_tests)

    at : (b : Bool) → (s.sync_due == u) ≡ b → ((due ≡ u) × IsScript (with_messages ch u s (cond b (null_message ch u ∷ []) [] ++ [])) (syncs + 1) sends (u + ch.interval)) ⊎ ((due ≢ u) × IsScript (with_messages ch u s (cond b (null_message ch u ∷ []) [] ++ [])) syncs sends due)
    at true now = inl (sym is.due_is ∙ equal s.sync_due u now, sync_more s (null_message ch u) syncs sends due (u + ch.interval) is refl refl)
    at false other = inr (λ e. unequal s.sync_due u other (is.due_is ∙ e), record { syncs_are = ap (count_by (λ (x : Msg). is_sync x.body)) (append-nil s.messages) ∙ is.syncs_are; sends_are = ap (λ xs. length (bodies xs)) (append-nil s.messages) ∙ is.sends_are; due_is = is.due_is })

-- no send is at u where all were before it
none_at : (u : ℕ) (sends : List Sent) → All (λ (s : Sent). s.time < u) sends → sends_at u sends ≡ []
none_at u [] all = refl
none_at u (s ∷ more) all = ap (λ b. cond b (s ∷ sends_at u more) (sends_at u more)) (other s.time u (All-head (λ (x : Sent). x.time < u) s more all)) ∙ none_at u more (All-tail (λ (x : Sent). x.time < u) s more all)
  where
    other : (x y : ℕ) → x < y → (x == y) ≡ false
    other x y lt = grind (arith, nat_tests)

module _ (kind : PortKind) (ch : Channel) (sends : List Sent) (some : 1 ≤ ch.interval) where
  -- null messages since a moment, after which nothing was sent
  record IsQuiet (syncs count d u : ℕ) : Type 0 where
    pub more : ℕ
    pub timer : IsTimer ch.interval d u more
    pub counts : IsScript (script kind ch sends u) (syncs + more) count (d + ch.interval * more)

  module _ (a syncs count d : ℕ) (le : a ≤ d) (before : All (λ (s : Sent). s.time < a) sends) (is : IsScript (script kind ch sends a) syncs count d) where
    one_moment : (u : ℕ) → a ≤ u → script kind ch sends (suc u) ≡ with_messages ch u (script kind ch sends u) (sync_if_due ch u (script kind ch sends u).sync_due ++ [])
    unfolding script stamped_after
    one_moment u later = ap (λ xs. with_messages ch u (script kind ch sends u) (sync_if_due ch u (script kind ch sends u).sync_due ++ stamped_after ch (sends_before u sends) xs)) (none_at u sends (All-weaker (λ (s : Sent). s.time < a) (λ (s : Sent). s.time < u) (λ s lt. omega arith) sends before))

    next_quiet : (u : ℕ) → a ≤ u → IsQuiet syncs count d u → IsQuiet syncs count d (suc u)
    next_quiet u later so_far = at (quiet ch u (syncs + so_far.more) count (d + ch.interval * so_far.more) (script kind ch sends u) so_far.counts)
      where
        at : ((d + ch.interval * so_far.more ≡ u) × IsScript (with_messages ch u (script kind ch sends u) (sync_if_due ch u (script kind ch sends u).sync_due ++ [])) (syncs + so_far.more + 1) count (u + ch.interval)) ⊎ ((d + ch.interval * so_far.more ≢ u) × IsScript (with_messages ch u (script kind ch sends u) (sync_if_due ch u (script kind ch sends u).sync_due ++ [])) (syncs + so_far.more) count (d + ch.interval * so_far.more)) → IsQuiet syncs count d (suc u)
        at (inl rings) =
            let now : d + ch.interval * so_far.more ≡ u = rings.0 in
            let one : syncs + so_far.more + 1 ≡ syncs + (so_far.more + 1) = omega arith in
            let due : u + ch.interval ≡ d + ch.interval * (so_far.more + 1) = omega arith in
            record {
              more = so_far.more + 1;
              timer = timer_rings ch.interval d u so_far.more some rings.0;
              counts = subst (λ s. IsScript s (syncs + (so_far.more + 1)) count (d + ch.interval * (so_far.more + 1))) (sym (one_moment u later)) (subst (λ n. IsScript (with_messages ch u (script kind ch sends u) (sync_if_due ch u (script kind ch sends u).sync_due ++ [])) n count (d + ch.interval * (so_far.more + 1))) one (subst (λ n. IsScript (with_messages ch u (script kind ch sends u) (sync_if_due ch u (script kind ch sends u).sync_due ++ [])) (syncs + so_far.more + 1) count n) due rings.1));
            }
        at (inr stays) = record {
          more = so_far.more;
          timer = timer_stays ch.interval d u so_far.more so_far.timer stays.0;
          counts = subst (λ s. IsScript s (syncs + so_far.more) count (d + ch.interval * so_far.more)) (sym (one_moment u later)) stays.1;
        }

    quiet_since : (k : ℕ) → IsQuiet syncs count d (a + k)
    quiet_since zero = subst (IsQuiet syncs count d) (let same : a ≡ a + 0 = omega arith in same) (record {
      more = 0;
      timer = timer_starts ch.interval d a le;
      counts = subst (λ n. IsScript (script kind ch sends a) n count (d + ch.interval * 0)) (let none : syncs ≡ syncs + 0 = omega arith in none) (subst (IsScript (script kind ch sends a) syncs count) (let none : d ≡ d + ch.interval * 0 = omega arith in none) is);
    })
    quiet_since (suc k) = subst (IsQuiet syncs count d) (let same : suc (a + k) ≡ a + suc k = omega arith in same) (next_quiet (a + k) (omega arith) (quiet_since k))

    pub counted_since : (time : ℕ) → a ≤ time → IsScript (script kind ch sends time) (syncs + syncs_before ch.interval d time) count (d + ch.interval * syncs_before ch.interval d time)
    counted_since time later =
        let so_far : IsQuiet syncs count d time = subst (IsQuiet syncs count d) (let same : a + (time - a) ≡ time = omega arith in same) (quiet_since (time - a)) in
        subst (λ n. IsScript (script kind ch sends time) (syncs + n) count (d + ch.interval * n)) (sym (timed ch.interval d time so_far.more some so_far.timer)) so_far.counts
