-- What the slots of a queue hold when it is closed.
use Rattle.std.proofs.Common.{◌≡◌, ℕ, suc, ◌+◌, ◌%◌, List, [], ◌∷◌, ◌++◌, length, ap, sym, refl, ◌∙◌, arith, length-append}
use Rattle.std.proofs.Math.Nat.{mod-add-mod, mod-lt}
use Rattle.std.specs.Prelude.{Option, Some, None}
use mathlib.Core.Option.{some}
use lib.ListN.{get_elem?}
use Rattle.atomic_table.specs.Table.{Final, Seen}
use Rattle.atomic_table.proofs.Lists.{one_turn}
use Rattle.cs_base.specs.declared.port_kind.PortKind.{PortKind}
use Rattle.sb_message.specs.declared.message.Msg.{Msg}
use Rattle.slot_queue.specs.declared.view.Plan.{Plan}
use Rattle.slot_queue.specs.Rule.{Lists, Stands}
use Rattle.slot_queue.specs.Views.{owning}
use Rattle.slot_queue.specs.Closing.{Holds}

at_later : {A : Type 0} (front later : List A) (k : ℕ) → get_elem? (front ++ later) (length front + k) ≡ get_elem? later k
at_later [] later k = ap (get_elem? later) (omega arith)
at_later (x ∷ xs) later k = let n : length (x ∷ xs) + k ≡ suc (length xs + k) = omega arith in ap (get_elem? (x ∷ (xs ++ later))) n ∙ at_later xs later k

-- what was sent and not received
pub record Waits (first slots : ℕ) (items : List (Option Msg)) (sent received : List Msg) : Type 0 where
  pub waiting : List Msg
  pub between : received ++ waiting ≡ sent
  pub holds : Holds first slots items waiting

pub waits : (plan : Plan) (words : List ℕ) (items : List (Option Msg)) (id : ℕ) (kind : PortKind) (sent received : List Msg) (misses first slots : ℕ) → plan.slots ≡ slots → first ≡ length received % slots
    → Final (Seen (Stands plan) id (owning kind sent received misses)) words items → Waits first slots items sent received
waits plan words items id kind sent received misses first slots slots_are place final =
    let s = final.0 in
    let stands = final.1.0 in
    let q = stands.queue in
    let lists : Lists = stands.lists in
    let fits = stands.seats id (owning kind sent received misses) final.1.1 in
    let sends = fits.sender refl in
    let takes = fits.receiver refl in
    let waiting : List Msg = q.in_order.0 in
    let whole : lists.received ++ waiting ≡ lists.sent = q.in_order.1 in
    let lengths : length lists.received + length waiting ≡ length lists.sent = sym (length-append lists.received waiting) ∙ ap length whole in
    let most = q.within in
    let spot : (k : ℕ) → (first + k) % slots ≡ (length lists.received + k) % plan.slots =
    λ k. ap (λ n. (n + k) % slots) place ∙ mod-add-mod (length received) slots k ∙ ap (λ l. (length l + k) % slots) takes.1 ∙ ap (λ n. (length lists.received + k) % n) (sym slots_are) in
    record {
      waiting = waiting;
      between = ap (λ l. l ++ waiting) takes.1 ∙ whole ∙ sym sends.1;
      holds = record {
        slot_each = sym final.3 ∙ q.slot_each ∙ slots_are;
        within = omega arith;
        full = λ k m at.
            let sent_at : get_elem? lists.sent (length lists.received + k) ≡ some m = ap (λ l. get_elem? l (length lists.received + k)) (sym whole) ∙ at_later lists.received waiting k ∙ at in
            let home = q.slots_between (length lists.received + k) m (omega arith, sent_at) (λ e. sym takes.2) in
            ap (get_elem? items) (spot k) ∙ final.4 ((length lists.received + k) % plan.slots) (Some m) home;
        empty = λ k past less.
            let home = q.slots_other ((length lists.received + k) % plan.slots) (mod-lt (length lists.received + k) q.some_place)
            (λ n from until e. let same : n ≡ length lists.received + k = one_turn n (length lists.received + k) plan.slots (omega arith) (omega arith) (sym e) in omega arith) (λ e. sym sends.2) in
            ap (get_elem? items) (spot k) ∙ final.4 ((length lists.received + k) % plan.slots) None home;
      };
    }
