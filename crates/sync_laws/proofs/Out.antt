-- The channel out of a port, and that a port has one alone.
use Rattle.std.proofs.Common.{◌≡◌, ℕ, zero, suc, Bool, true, false, cond, eqb, List, [], ◌∷◌, length, map, Some, refl, sym, ap, ◌∙◌, arith}
use Rattle.std.specs.Prelude.{slice_get}
use Rattle.std.proofs.lemmas.Bool.{cond-true, cond-false, eqb-true, eq-eqb}
use Rattle.std.proofs.lemmas.Option.{none-some, same_Some}
use Rattle.cs_base.specs.declared.link.Link.{Link}
use Rattle.cs_base.specs.Plan.{End, first_end, second_end}
use Rattle.sb_message.specs.declared.message.Body.TheVariants as body
use Rattle.sb_message.specs.declared.message.Msg.{Msg}
use Rattle.device_api.specs.Channels.{Channel, channels}
use Rattle.device_api.specs.World.{Network}
use Rattle.run_laws.specs.ByChannel.{by_sender, by_receiver}
use Rattle.run_laws.specs.Wired.{IsWired}
use Rattle.run_laws.proofs.Channels.{IsPort, ComesIn, comes_in}
use Rattle.run_laws.proofs.Numbered.{sender_is, receiver_is}

-- beside each channel there is the one that leads back
pub record IsBack (links : List Link) (ch : Channel) : Type 0 where
  pub channel : Channel
  pub number : ℕ
  pub at_number : slice_get (channels links) number ≡ Some channel
  pub comes_from : channel.from ≡ ch.to

abbrev there_of : Link → Channel
there_of link = record { from = first_end link; to = second_end link; latency = link.latency; interval = link.interval }

abbrev back_of : Link → Channel
back_of link = record { from = second_end link; to = first_end link; latency = link.latency; interval = link.interval }

back : (links : List Link) (k : ℕ) (ch : Channel) → slice_get (channels links) k ≡ Some ch → IsBack links ch
back [] k ch is = absurd (none-some ch is)
back (link ∷ more) zero ch is = record { channel = back_of link; number = 1; at_number = refl; comes_from = ap (λ (x : Channel). x.to) (same_Some (there_of link) ch is) }
back (link ∷ more) (suc zero) ch is = record { channel = there_of link; number = 0; at_number = refl; comes_from = ap (λ (x : Channel). x.to) (same_Some (back_of link) ch is) }
back (link ∷ more) (suc (suc k)) ch is = (let there : IsBack more ch = back more k ch is in record { channel = there.channel; number = suc (suc there.number); at_number = there.at_number; comes_from = there.comes_from })

-- one of two messages, by number
abbrev only_at : ℕ → ℕ → List Msg
only_at k n = cond (eqb n k) (record { at = 0; body = body.Sync } ∷ []) []

same_number : (k k' : ℕ) → only_at k k' ≡ only_at k k → k' ≡ k
same_number k k' same = at (eqb k' k) refl
  where
    at : (b : Bool) → eqb k' k ≡ b → k' ≡ k
    at true e = eqb-true k' k e
    at false e = absurd (let one : length (only_at k k') ≡ length (only_at k k) = ap length same in let none : length (only_at k k') ≡ 0 = ap length (cond-false (eqb k' k) (record { at = 0; body = body.Sync } ∷ []) [] e) in let some : length (only_at k k) ≡ 1 = ap length (cond-true (eqb k k) (record { at = 0; body = body.Sync } ∷ []) [] (eq-eqb k k refl)) in omega arith)

module _ {S : Type 0} {last : ℕ} (net : Network S) (wired : IsWired net last) where
  -- a channel goes out of each port
  pub record GoesOut (end : End) : Type 0 where
    pub channel : Channel
    pub number : ℕ
    pub at_number : slice_get (channels net.links) number ≡ Some channel
    pub comes_from : channel.from ≡ end

  pub goes_out : (end : End) → IsPort net end → GoesOut end
  goes_out end port = record { channel = out.channel; number = out.number; at_number = out.at_number; comes_from = out.comes_from ∙ into.comes_to }
    where
      into : ComesIn net wired end
      into = comes_in net wired end port

      out : IsBack net.links into.channel
      out = back net.links into.number into.channel into.at_number

  module _ (k k' : ℕ) (ch ch' : Channel) (is : slice_get (channels net.links) k ≡ Some ch) (is' : slice_get (channels net.links) k' ≡ Some ch') where
    pub one_sender : ch'.from ≡ ch.from → k' ≡ k
    one_sender same = same_number k k' (sym (sender_is net wired (only_at k) k' ch' is') ∙ ap (by_sender (channels net.links) 0 (only_at k)) same ∙ sender_is net wired (only_at k) k ch is)

    pub one_receiver : ch'.to ≡ ch.to → k' ≡ k
    one_receiver same = same_number k k' (sym (receiver_is net wired (only_at k) k' ch' is') ∙ ap (by_receiver (channels net.links) 0 (only_at k)) same ∙ receiver_is net wired (only_at k) k ch is)
