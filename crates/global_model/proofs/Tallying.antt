-- A send is counted, and so is what went on a channel before a time.
use Rattle.std.specs.Prelude.{ℕ, zero, suc, ◌≡◌, ◌==◌, ◌+◌, ◌*◌, ◌≤◌, ◌<◌, nat_lt, true, false, List, [], ◌∷◌, ◌++◌, length, All, refl}
use Rattle.std.proofs.Common.{sym, ap, ap₂, ◌∙◌, arith, subst, cond, append_assoc, append-nil}
use Rattle.std.proofs.lemmas.Bool.{false≢true}
use Rattle.std.proofs.lemmas.Bool.Decides.{nat_tests}
use Rattle.std.proofs.lemmas.List.{length-append}
use Rattle.std.proofs.lemmas.List.Elements.{All-nil, All-cons, All-append, All-weaker, filter-append}
use Rattle.cs_base.specs.declared.port_kind.PortKind.{PortKind}
use Rattle.sb_message.specs.Receivable.{is_event}
use Rattle.sb_message.specs.declared.message.Body.{Body}
use Rattle.sb_message.specs.declared.message.Body.TheVariants.{Sync}
use Rattle.sb_message.specs.declared.message.Msg.{Msg}
use Rattle.device_api.specs.Channels.{Channel}
use Rattle.device_api.specs.Counts.{is_sync, counted, count_of}
use Rattle.device_api.specs.Transcript.{Script, script, transcript, with_messages, due_after, sync_if_due, stamped_after, sends_before, sends_at}
use Rattle.device_api.specs.World.{Sent, stamp}
use Rattle.global_model.specs.Tally.{TallyState, first_tally, syncs_before, after_send, count_before}
use Rattle.global_model.specs.Tallied.{IsScript, IsTally}
use Rattle.global_model.proofs.Scripts.{event_more, counted_since}

no_sync : (body : Body) → is_event body ≡ true → is_sync body ≡ false
no_sync Sync event = absurd (false≢true event)
no_sync other event = refl

equal : (x y : ℕ) → x ≡ y → (x == y) ≡ true
equal x y e = grind (arith, nat_tests)

later_differs : (x y : ℕ) → y < x → (x == y) ≡ false
later_differs x y lt = grind (arith, nat_tests)

not_below : (x y : ℕ) → y ≤ x → nat_lt x y ≡ false
not_below x y le = grind (arith, nat_tests)

stamped-one : (ch : Channel) (before xs : List Sent) (x : Sent) → stamped_after ch before (xs ++ x ∷ []) ≡ stamped_after ch before xs ++ record { at = stamp ch (before ++ xs) x; body = x.body } ∷ []
unfolding stamped_after
stamped-one ch before [] x = ap (λ l. record { at = stamp ch l x; body = x.body } ∷ []) (sym (append-nil before))
stamped-one ch before (y ∷ ys) x = ap (λ l. record { at = stamp ch before y; body = y.body } ∷ l) (stamped-one ch (before ++ y ∷ []) ys x ∙ ap (λ l. stamped_after ch (before ++ y ∷ []) ys ++ record { at = stamp ch l x; body = x.body } ∷ []) (append_assoc before (y ∷ []) ys))

due_last : (ch : Channel) (u due : ℕ) (xs : List Msg) (m : Msg) → due_after ch u due (xs ++ m ∷ []) ≡ u + ch.interval
due_last ch u due [] m = refl
due_last ch u due (x ∷ xs) m = refl

-- one more send, at t
module _ (kind : PortKind) (ch : Channel) (sends : List Sent) (x : Sent) (t : ℕ) (now : x.time ≡ t) where
  same_before : (u : ℕ) → u ≤ t → sends_before u (sends ++ x ∷ []) ≡ sends_before u sends
  same_before u le = filter-append (λ (s : Sent). nat_lt s.time u) sends (x ∷ []) ∙ ap (λ b. sends_before u sends ++ cond b (x ∷ []) []) (not_below x.time u (omega arith)) ∙ append-nil (sends_before u sends)

  same_at : (u : ℕ) → u < t → sends_at u (sends ++ x ∷ []) ≡ sends_at u sends
  same_at u lt = filter-append (λ (s : Sent). s.time == u) sends (x ∷ []) ∙ ap (λ b. sends_at u sends ++ cond b (x ∷ []) []) (later_differs x.time u (omega arith)) ∙ append-nil (sends_at u sends)

  one_at : sends_at t (sends ++ x ∷ []) ≡ sends_at t sends ++ x ∷ []
  one_at = filter-append (λ (s : Sent). s.time == t) sends (x ∷ []) ∙ ap (λ b. sends_at t sends ++ cond b (x ∷ []) []) (equal x.time t now)

  -- before t nothing changes
  same_script : (u : ℕ) → u ≤ t → script kind ch (sends ++ x ∷ []) u ≡ script kind ch sends u
  unfolding script
  same_script zero le = refl
  same_script (suc u) le = ap₂ (λ (so_far : Script) (new : List Msg). with_messages ch u so_far (sync_if_due ch u so_far.sync_due ++ new)) (same_script u (omega arith)) (ap₂ (stamped_after ch) (same_before u (omega arith)) (same_at u (omega arith)))

  -- its message
  abbrev message : Msg
  message = record { at = stamp ch (sends_before t sends ++ sends_at t sends) x; body = x.body }

  with_one : script kind ch (sends ++ x ∷ []) (suc t) ≡ record { messages = (script kind ch sends (suc t)).messages ++ message ∷ []; sync_due = t + ch.interval }
  unfolding script
  with_one =
      ap₂ (λ (so_far : Script) (new : List Msg). with_messages ch t so_far (sync_if_due ch t so_far.sync_due ++ new)) (same_script t (omega arith)) (ap₂ (stamped_after ch) (same_before t (omega arith)) one_at ∙ stamped-one ch (sends_before t sends) (sends_at t sends) x)
      ∙ ap₂ (λ messages due. record { messages = messages; sync_due = due })
      (ap (λ l. so_far.messages ++ l) (sym (append_assoc sync stamps (message ∷ []))) ∙ sym (append_assoc so_far.messages (sync ++ stamps) (message ∷ [])))
      (ap (due_after ch t so_far.sync_due) (sym (append_assoc sync stamps (message ∷ []))) ∙ due_last ch t so_far.sync_due (sync ++ stamps) message)
    where
      so_far : Script
      so_far = script kind ch sends t

      sync : List Msg
      sync = sync_if_due ch t so_far.sync_due

      stamps : List Msg
      stamps = stamped_after ch (sends_before t sends) (sends_at t sends)

  pub tally_more : (u : ℕ) (tally : TallyState) → u ≤ t + 1 → is_event x.body ≡ true → 1 ≤ ch.interval → IsTally kind ch sends u tally → IsTally kind ch (sends ++ x ∷ []) (t + 1) (after_send t tally)
  tally_more u tally le event some is =
      let next : suc t ≡ t + 1 = omega arith in
      let syncs : ℕ = is.syncs + syncs_before ch.interval tally.due (t + 1) in
      let due : ℕ = tally.due + ch.interval * syncs_before ch.interval tally.due (t + 1) in
      let many : length (sends ++ x ∷ []) ≡ length sends + 1 = length-append sends (x ∷ []) in
      let all_before : All (λ (s : Sent). s.time < t + 1) (sends ++ x ∷ []) = All-append (λ (s : Sent). s.time < t + 1) sends (x ∷ []) (All-weaker (λ (s : Sent). s.time < u) (λ (s : Sent). s.time < t + 1) (λ s lt. omega arith) sends is.before) (All-cons (λ (s : Sent). s.time < t + 1) x [] (omega arith) (All-nil (λ (s : Sent). s.time < t + 1))) in
      let was : IsScript (script kind ch sends (suc t)) syncs (length sends) due = subst (λ n. IsScript (script kind ch sends n) syncs (length sends) due) (sym next) (is.scripts (t + 1) le) in
      let with : IsScript (script kind ch (sends ++ x ∷ []) (suc t)) syncs (length sends + 1) (t + ch.interval) = subst (λ s. IsScript s syncs (length sends + 1) (t + ch.interval)) (sym with_one) (event_more (script kind ch sends (suc t)) message syncs (length sends) due (t + ch.interval) was (no_sync x.body event) event) in
      let there : IsScript (script kind ch (sends ++ x ∷ []) (t + 1)) syncs (length (sends ++ x ∷ [])) (t + ch.interval) = subst (λ n. IsScript (script kind ch (sends ++ x ∷ []) n) syncs (length (sends ++ x ∷ [])) (t + ch.interval)) next (subst (λ n. IsScript (script kind ch (sends ++ x ∷ []) (suc t)) syncs n (t + ch.interval)) (sym many) with) in
      let same_due : t + ch.interval ≡ t + tally.interval = ap (λ n. t + n) (sym is.interval_is) in
      record {
        interval_is = is.interval_is;
        before = all_before;
        syncs = syncs;
        syncs_are = ap (λ n. counted (tally.count.syncs + syncs_before n tally.due (t + 1))) is.interval_is ∙ ap (λ n. counted (n + syncs_before ch.interval tally.due (t + 1))) is.syncs_are ∙ counted_sum is.syncs (syncs_before ch.interval tally.due (t + 1));
        sends_are = ap (λ n. counted (n + 1)) is.sends_are ∙ counted_sum (length sends) 1 ∙ ap counted (sym many);
        scripts = λ time later. subst (λ d. IsScript (script kind ch (sends ++ x ∷ []) time) (syncs + syncs_before ch.interval d time) (length (sends ++ x ∷ [])) (d + ch.interval * syncs_before ch.interval d time)) same_due (counted_since kind ch (sends ++ x ∷ []) some (t + 1) syncs (length (sends ++ x ∷ [])) (t + ch.interval) (omega arith) all_before there time later);
      }
    where
      counted_sum : (m n : ℕ) → counted (counted m + n) ≡ counted (m + n)
      counted_sum m n = omega arith

-- nothing was sent yet
pub tally_starts : (kind : PortKind) (ch : Channel) → 1 ≤ ch.interval → IsTally kind ch [] 0 (first_tally ch.interval)
unfolding script
tally_starts kind ch some = record {
  interval_is = refl;
  before = All-nil (λ (s : Sent). s.time < 0);
  syncs = 0;
  syncs_are = refl;
  sends_are = refl;
  scripts = λ time later. counted_since kind ch [] some 0 0 0 0 (omega arith) (All-nil (λ (s : Sent). s.time < 0)) (record { syncs_are = refl; sends_are = refl; due_is = refl }) time later;
}

-- what holds of sends before a time holds at each later time
pub tally_later : {kind : PortKind} {ch : Channel} {sends : List Sent} (u v : ℕ) {tally : TallyState} → u ≤ v → IsTally kind ch sends u tally → IsTally kind ch sends v tally
tally_later {kind} {ch} {sends} u v {tally} le is = record {
  interval_is = is.interval_is;
  before = All-weaker (λ (s : Sent). s.time < u) (λ (s : Sent). s.time < v) (λ s lt. omega arith) sends is.before;
  syncs = is.syncs;
  syncs_are = is.syncs_are;
  sends_are = is.sends_are;
  scripts = λ time later. is.scripts time (omega arith);
}

-- the counts of a tally are those of the transcript
pub tally_ends : {kind : PortKind} {ch : Channel} {sends : List Sent} {u : ℕ} {tally : TallyState} (time : ℕ) → u ≤ time → IsTally kind ch sends u tally → count_before time tally ≡ count_of (transcript kind ch sends time)
tally_ends {kind} {ch} {sends} {u} {tally} time later is =
    let all : IsScript (script kind ch sends time) (is.syncs + syncs_before ch.interval tally.due time) (length sends) (tally.due + ch.interval * syncs_before ch.interval tally.due time) = is.scripts time later in
    ap₂ (λ syncs sends. record { syncs = syncs; sends = sends })
    (ap (λ n. counted (tally.count.syncs + syncs_before n tally.due time)) is.interval_is ∙ ap (λ n. counted (n + syncs_before ch.interval tally.due time)) is.syncs_are ∙ counted_sum is.syncs (syncs_before ch.interval tally.due time) ∙ ap counted (sym all.syncs_are))
    (is.sends_are ∙ ap counted (sym all.sends_are))
  where
    counted_sum : (m n : ℕ) → counted (counted m + n) ≡ counted (m + n)
    counted_sum m n = omega arith
