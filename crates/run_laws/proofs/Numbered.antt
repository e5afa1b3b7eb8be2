-- A channel's number, by the port that sends or receives there.
use Rattle.std.proofs.Common.{◌≡◌, ℕ, zero, suc, ◌+◌, ◌≤◌, Bool, true, false, cond, List, [], ◌∷◌, length, filter, Some, slice_get, ap, ◌∙◌, arith}
use Rattle.std.proofs.lemmas.Bool.{cond-true}
use Rattle.std.proofs.lemmas.Option.{none-some, same_Some}
use Rattle.cs_base.specs.Plan.{End, same_end}
use Rattle.sb_message.specs.declared.message.Msg.{Msg}
use Rattle.device_api.specs.Channels.{Channel, channels}
use Rattle.device_api.specs.World.{Network}
use Rattle.run_laws.specs.Wired.{IsWired}
use Rattle.run_laws.specs.ByChannel.{by_sender, by_receiver}
use Rattle.run_laws.proofs.Lists.{kept}
use Rattle.run_laws.proofs.Channels.{test_same, out_alone, in_alone}

-- where one channel alone has the port, the first that has it is that one
sender_number : (chs : List Channel) (i k : ℕ) (lists : ℕ → List Msg) (end : End) (ch : Channel) → slice_get chs k ≡ Some ch → same_end ch.from end ≡ true → length (filter (λ x. same_end x.from end) chs) ≡ 1 → by_sender chs i lists end ≡ lists (k + i)
unfolding by_sender
sender_number [] i k lists end ch is passes one = absurd (none-some ch is)
sender_number (x ∷ more) i zero lists end ch is passes one = cond-true (same_end x.from end) (lists i) _ (ap (λ (c : Channel). same_end c.from end) (same_Some x ch is) ∙ passes) ∙ ap lists (let same : i ≡ 0 + i = omega arith in same)
sender_number (x ∷ more) i (suc k) lists end ch is passes one = at (λ one'. sender_number more (suc i) k lists end ch is passes one') (same_end x.from end) one
  where
    at : (length (filter (λ x. same_end x.from end) more) ≡ 1 → by_sender more (suc i) lists end ≡ lists (k + suc i)) → (b : Bool) → length (cond b (x ∷ filter (λ x. same_end x.from end) more) (filter (λ x. same_end x.from end) more)) ≡ 1 → cond b (lists i) (by_sender more (suc i) lists end) ≡ lists (suc k + i)
    at rest true two = absurd (let some : 1 ≤ length (filter (λ x. same_end x.from end) more) = kept (λ x. same_end x.from end) more k ch is passes in omega arith)
    at rest false one' = rest one' ∙ ap lists (let same : k + suc i ≡ suc k + i = omega arith in same)

receiver_number : (chs : List Channel) (i k : ℕ) (lists : ℕ → List Msg) (end : End) (ch : Channel) → slice_get chs k ≡ Some ch → same_end ch.to end ≡ true → length (filter (λ x. same_end x.to end) chs) ≡ 1 → by_receiver chs i lists end ≡ lists (k + i)
unfolding by_receiver
receiver_number [] i k lists end ch is passes one = absurd (none-some ch is)
receiver_number (x ∷ more) i zero lists end ch is passes one = cond-true (same_end x.to end) (lists i) _ (ap (λ (c : Channel). same_end c.to end) (same_Some x ch is) ∙ passes) ∙ ap lists (let same : i ≡ 0 + i = omega arith in same)
receiver_number (x ∷ more) i (suc k) lists end ch is passes one = at (λ one'. receiver_number more (suc i) k lists end ch is passes one') (same_end x.to end) one
  where
    at : (length (filter (λ x. same_end x.to end) more) ≡ 1 → by_receiver more (suc i) lists end ≡ lists (k + suc i)) → (b : Bool) → length (cond b (x ∷ filter (λ x. same_end x.to end) more) (filter (λ x. same_end x.to end) more)) ≡ 1 → cond b (lists i) (by_receiver more (suc i) lists end) ≡ lists (suc k + i)
    at rest true two = absurd (let some : 1 ≤ length (filter (λ x. same_end x.to end) more) = kept (λ x. same_end x.to end) more k ch is passes in omega arith)
    at rest false one' = rest one' ∙ ap lists (let same : k + suc i ≡ suc k + i = omega arith in same)

module _ {S : Type 0} {last : ℕ} (net : Network S) (wired : IsWired net last) (lists : ℕ → List Msg) (k : ℕ) (ch : Channel) (is : slice_get (channels net.links) k ≡ Some ch) where
  pub sender_is : by_sender (channels net.links) 0 lists ch.from ≡ lists k
  sender_is = sender_number (channels net.links) 0 k lists ch.from ch is (test_same ch.from) (ap length (out_alone net wired k ch is)) ∙ ap lists (let same : k + 0 ≡ k = omega arith in same)

  pub receiver_is : by_receiver (channels net.links) 0 lists ch.to ≡ lists k
  receiver_is = receiver_number (channels net.links) 0 k lists ch.to ch is (test_same ch.to) (ap length (in_alone net wired k ch is)) ∙ ap lists (let same : k + 0 ≡ k = omega arith in same)
