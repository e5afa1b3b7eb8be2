-- What a look at a word tells, and the four changes by which the queue goes on: a turn of each side is opened and closed.
use Rattle.std.proofs.Common.{◌≡◌, ◌≢◌, ℕ, ◌+◌, ◌%◌, ◌<◌, ◌≤◌, inl, inr, List, [], ◌∷◌, ◌++◌, length, get_or, set, ap, sym, ◌∙◌, subst, arith, length-append, get_or-set_other, get_or-set_same}
use Rattle.std.proofs.lemmas.List.{length-set}
use Rattle.std.proofs.Math.Nat.{add-mod_right, mod-lt}
use Rattle.std.specs.Prelude.{true, false, Option, Some, None}
use mathlib.Core.Option as maybe
use mathlib.Core.Option.{some, none}
use mathlib.Core.Logic.{dite}
use native.Mathlib.Decide.{dec_le, ℕ_discrete}
use lib.ListN.{get_elem?}
use Rattle.atomic_table.proofs.Lists.{one_turn, set_here, set_else, at_longer}
use Rattle.cs_base.specs.declared.port_kind.PortKind.{PortKind}
use Rattle.sb_message.specs.declared.message.Msg.{Msg}
use Rattle.sb_message.specs.Stream.{IsStream}
use Rattle.slot_queue.specs.Words.{line_of, word_at, word_for, IsConsumers, IsProducers}
use Rattle.slot_queue.specs.Rule.{Lists, IsVacant, IsUnderWay, OwnerWords}
use Rattle.slot_queue.proofs.Places.{below, element, last_or_before, length-prefix, prefix_more, prefix_next, whole_prefix}

-- the words of other places stay as they are
other_word : (words : List ℕ) (i place word : ℕ) → place ≢ i → word_at (set words (line_of i) word) place ≡ word_at words place
other_word words i place word apart = get_or-set_other words (line_of i) (line_of place) word 0 (λ e. apart (omega (arith, e)))

in_line : (words : List ℕ) (place slots : ℕ) → length words ≡ line_of slots → place < slots → line_of place < length words
in_line words place slots lines less = omega (arith, lines, less)

-- the word of a message under way is the consumer's
consumers_word : (m : Msg) → IsConsumers (word_for m)
consumers_word m = omega arith

module _ (kind : PortKind) (slots : ℕ) (words : List ℕ) (homes : List (maybe.Option (Option Msg))) (lists : Lists) (q : OwnerWords kind slots words homes lists) where
  sent_place : length lists.sent < length lists.received + slots → IsVacant slots lists (length lists.sent % slots)
  sent_place room n from until e = let same : n ≡ length lists.sent = one_turn n (length lists.sent) slots (omega arith) (omega arith) (sym e) in omega arith

  full_word : length lists.received + slots ≤ length lists.sent → IsConsumers (word_at words (length lists.sent % slots))
  full_word full =
      let positive = q.some_place in
      let most = q.within in
      let m = element lists.sent (length lists.received) (omega arith) in
      let total : length lists.sent ≡ length lists.received + slots = omega arith in
      let place : length lists.received % slots ≡ length lists.sent % slots = sym (add-mod_right (length lists.received) slots) ∙ ap (λ k. k % slots) (sym total) in
      let word : word_at words (length lists.received % slots) ≡ word_for m.0 = q.words_between (length lists.received) m.0 (omega arith, m.1) in
      subst IsConsumers (sym word ∙ ap (word_at words) place) (consumers_word m.0)

  -- the producer's word at the place of the next message: there is room
  pub has_room : IsProducers (word_at words (length lists.sent % slots)) → length lists.sent < length lists.received + slots
  has_room word = dite (dec_le (length lists.received + slots) (length lists.sent)) (λ full. let w = full_word full in absurd (omega arith)) (λ room. omega arith)

  -- the consumer's word there: there is none
  pub is_full : IsConsumers (word_at words (length lists.sent % slots)) → length lists.sent ≡ length lists.received + slots
  is_full word =
      let most = q.within in
      let positive = q.some_place in
      dite (dec_le (length lists.received + slots) (length lists.sent)) (λ full. omega arith) (λ room.
      let w = q.words_other (length lists.sent % slots) (mod-lt (length lists.sent) positive) (sent_place (omega arith)) in
      absurd (omega arith))

  -- the consumer's word at the place of the next message to be received: there is one
  pub has_message : IsConsumers (word_at words (length lists.received % slots)) → (m : Msg) × (get_elem? lists.sent (length lists.received) ≡ some m)
  has_message word =
      let positive = q.some_place in
      dite (dec_le (length lists.sent) (length lists.received))
      (λ past. let w = q.words_other (length lists.received % slots) (mod-lt (length lists.received) positive) (λ n from until e. omega arith) in absurd (omega arith))
      (λ more. element lists.sent (length lists.received) (omega arith))

  -- the producer's word there: all that was sent has been received
  pub is_empty : IsProducers (word_at words (length lists.received % slots)) → lists.received ≡ lists.sent
  is_empty word =
      let most = length-prefix lists.received lists.sent q.in_order in
      let same : length lists.sent ≡ length lists.received = dite (dec_le (length lists.sent) (length lists.received)) (λ le. omega arith) (λ more.
      let m = element lists.sent (length lists.received) (omega arith) in
      let full : word_at words (length lists.received % slots) ≡ word_for m.0 = q.words_between (length lists.received) m.0 (omega arith, m.1) in
      let w = subst IsConsumers (sym full) (consumers_word m.0) in
      absurd (omega arith)) in
      whole_prefix lists.received lists.sent q.in_order same

  -- the producer takes its next slot, which is empty
  pub empty_slot : lists.filling ≡ false → length lists.sent < length lists.received + slots → get_elem? homes (length lists.sent % slots) ≡ some (some None)
  empty_slot idle room = q.slots_other (length lists.sent % slots) (mod-lt (length lists.sent) q.some_place) (sent_place room) (λ e. idle)

  pub opens_push : lists.filling ≡ false → length lists.sent < length lists.received + slots → OwnerWords kind slots words (set homes (length lists.sent % slots) none) (record lists { filling = true })
  opens_push idle room = record {
    some_place = q.some_place;
    line_each = q.line_each;
    slot_each = length-set homes (length lists.sent % slots) none ∙ q.slot_each;
    in_order = q.in_order;
    within = q.within;
    words_between = q.words_between;
    words_other = q.words_other;
    slots_between = λ n m under noted. set_else homes (length lists.sent % slots) (n % slots) none (λ e. sent_place room n under.0 (below lists.sent n m under.1) (sym e)) ∙ q.slots_between n m under noted;
    slots_other = λ place less vacant out. set_else homes (length lists.sent % slots) place none (λ e. let no : true ≡ false = out e in cc) ∙ q.slots_other place less vacant (λ e. idle);
    push_turn = λ e. room;
    pop_turn = q.pop_turn;
    stream = q.stream;
  }

  -- the producer gives its slot to the consumer, with the message
  pub sends : (m : Msg) → lists.filling ≡ true → IsStream kind (lists.sent ++ m ∷ []) → OwnerWords kind slots (set words (line_of (length lists.sent % slots)) (word_for m)) (set homes (length lists.sent % slots) (some (Some m))) (record lists { sent = lists.sent ++ m ∷ []; filling = false })
  sends m turn stream =
      let room = q.push_turn turn in
      let i : ℕ = length lists.sent % slots in
      let less : i < slots = mod-lt (length lists.sent) q.some_place in
      let longer : length (lists.sent ++ m ∷ []) ≡ length lists.sent + 1 = length-append lists.sent (m ∷ []) in
      let front : length lists.received ≤ length lists.sent = length-prefix lists.received lists.sent q.in_order in
      let words_less : line_of i < length words = in_line words i slots q.line_each less in
      let homes_less : i < length homes = subst (λ k. i < k) (sym q.slot_each) less in
      let apart : (n : ℕ) (k : Msg) → IsUnderWay lists n k → n % slots ≢ i = λ n k under e. sent_place room n under.0 (below lists.sent n k under.1) (sym e) in
      let vacant_still : (place : ℕ) → IsVacant slots (record lists { sent = lists.sent ++ m ∷ []; filling = false }) place → IsVacant slots lists place = λ place vacant n from until. vacant n from (omega arith) in
      let not_there : (place : ℕ) → IsVacant slots (record lists { sent = lists.sent ++ m ∷ []; filling = false }) place → place ≢ i = λ place vacant. vacant (length lists.sent) front (omega arith) in
      record {
        some_place = q.some_place;
        line_each = length-set words (line_of i) (word_for m) ∙ q.line_each;
        slot_each = length-set homes i (some (Some m)) ∙ q.slot_each;
        in_order = prefix_more lists.received lists.sent (m ∷ []) q.in_order;
        within = omega arith;
        words_between = λ n k under. elim (last_or_before lists.sent m k n under.1) [
          | inl at ↦ other_word words i (n % slots) (word_for m) (apart n k (under.0, at)) ∙ q.words_between n k (under.0, at)
          | inr new ↦ ap (λ e. word_at (set words (line_of i) (word_for m)) (e % slots)) new.0 ∙ get_or-set_same words (line_of i) (word_for m) 0 words_less ∙ ap word_for new.1
        ];
        words_other = λ place below_all vacant. subst IsProducers (sym (other_word words i place (word_for m) (not_there place vacant))) (q.words_other place below_all (vacant_still place vacant));
        slots_between = λ n k under noted. elim (last_or_before lists.sent m k n under.1) [
          | inl at ↦ set_else homes i (n % slots) (some (Some m)) (apart n k (under.0, at)) ∙ q.slots_between n k (under.0, at) noted
          | inr new ↦ ap (λ e. get_elem? (set homes i (some (Some m))) (e % slots)) new.0 ∙ set_here homes i (some (Some m)) homes_less ∙ ap (λ (x : Msg). some (some (Some x))) new.1
        ];
        slots_other = λ place below_all vacant out. set_else homes i place (some (Some m)) (not_there place vacant) ∙ q.slots_other place below_all (vacant_still place vacant) (λ e. absurd (not_there place vacant e));
        push_turn = λ e. cc;
        pop_turn = λ k e. at_longer lists.sent (m ∷ []) (length lists.received) k (q.pop_turn k e);
        stream = inr stream;
      }

  -- the consumer takes the next slot, in which the message is
  pub full_slot : (m : Msg) → lists.noted ≡ None → get_elem? lists.sent (length lists.received) ≡ some m → get_elem? homes (length lists.received % slots) ≡ some (some (Some m))
  full_slot m idle at = q.slots_between (length lists.received) m (omega arith, at) (λ e. idle)

  later_place : (n : ℕ) (k : Msg) → length lists.received < n → get_elem? lists.sent n ≡ some k → n % slots ≢ length lists.received % slots
  later_place n k after at e =
      let less = below lists.sent n k at in
      let most = q.within in
      let same : length lists.received ≡ n = one_turn (length lists.received) n slots (omega arith) (omega arith) (sym e) in
      omega arith

  pub opens_pop : (m : Msg) → lists.noted ≡ None → get_elem? lists.sent (length lists.received) ≡ some m → OwnerWords kind slots words (set homes (length lists.received % slots) none) (record lists { noted = Some m })
  opens_pop m idle at =
      let j : ℕ = length lists.received % slots in
      record {
        some_place = q.some_place;
        line_each = q.line_each;
        slot_each = length-set homes j none ∙ q.slot_each;
        in_order = q.in_order;
        within = q.within;
        words_between = q.words_between;
        words_other = q.words_other;
        slots_between = λ n k under out.
            let ne : n ≢ length lists.received = λ e. let no : Some m ≡ None = out e in cc in
            let from = under.0 in
            set_else homes j (n % slots) none (later_place n k (omega arith) under.1) ∙ q.slots_between n k under (λ e. idle);
        slots_other = λ place less vacant out. set_else homes j place none (vacant (length lists.received) (omega arith) (below lists.sent (length lists.received) m at)) ∙ q.slots_other place less vacant out;
        push_turn = q.push_turn;
        pop_turn = λ k e. let same : m ≡ k = cc e in at ∙ ap some same;
        stream = q.stream;
      }

  -- the consumer gives the slot back, empty
  pub receives : (m : Msg) (word : ℕ) → lists.noted ≡ Some m → IsProducers word → OwnerWords kind slots (set words (line_of (length lists.received % slots)) word) (set homes (length lists.received % slots) (some None)) (record lists { received = lists.received ++ m ∷ []; noted = None })
  receives m word noted producers =
      let j : ℕ = length lists.received % slots in
      let at = q.pop_turn m noted in
      let less : j < slots = mod-lt (length lists.received) q.some_place in
      let longer : length (lists.received ++ m ∷ []) ≡ length lists.received + 1 = length-append lists.received (m ∷ []) in
      let words_less : line_of j < length words = in_line words j slots q.line_each less in
      let homes_less : j < length homes = subst (λ k. j < k) (sym q.slot_each) less in
      let most = q.within in
      let vacant_still : (place : ℕ) → place ≢ j → IsVacant slots (record lists { received = lists.received ++ m ∷ []; noted = None }) place → IsVacant slots lists place =
      λ place ne vacant n from until. dite (ℕ_discrete n (length lists.received)) (λ e. λ p. ne (p ∙ ap (λ k. k % slots) e)) (λ later. vacant n (omega arith) until) in
      record {
        some_place = q.some_place;
        line_each = length-set words (line_of j) word ∙ q.line_each;
        slot_each = length-set homes j (some None) ∙ q.slot_each;
        in_order = prefix_next lists.received lists.sent m q.in_order at;
        within = omega arith;
        words_between = λ n k under. let from = under.0 in other_word words j (n % slots) word (later_place n k (omega arith) under.1) ∙ q.words_between n k (omega arith, under.1);
        words_other = λ place below_all vacant. dite (ℕ_discrete place j)
            (λ e. subst IsProducers (sym (ap (word_at (set words (line_of j) word)) e ∙ get_or-set_same words (line_of j) word 0 words_less)) producers)
            (λ ne. subst IsProducers (sym (other_word words j place word ne)) (q.words_other place below_all (vacant_still place ne vacant)));
        slots_between = λ n k under out. let from = under.0 in set_else homes j (n % slots) (some None) (later_place n k (omega arith) under.1) ∙ q.slots_between n k (omega arith, under.1) (λ e. absurd (omega arith));
        slots_other = λ place below_all vacant out. dite (ℕ_discrete place j)
            (λ e. ap (λ p. get_elem? (set homes j (some None)) p) e ∙ set_here homes j (some None) homes_less)
            (λ ne. set_else homes j place (some None) ne ∙ q.slots_other place below_all (vacant_still place ne vacant) out);
        push_turn = λ e. let room = q.push_turn e in omega arith;
        pop_turn = λ k e. cc;
        stream = q.stream;
      }
