-- Masks of ports, and ports at which nothing waits.
use Rattle.std.specs.Prelude.{ℕ, ◌≡◌, ◌≢◌, ◌+◌, ◌-◌, ◌/◌, ◌%◌, ◌^◌, ◌≤◌, ◌<◌, zero, suc, Bool, true, false, not, if◌then◌else◌, IsTrue, List, [], length, replicate, map, Vec, Some, option_and_then, slice_get, slice_set, ◌⊎◌, refl}
use Rattle.std.specs.Int.{bit_at, trailing_zeros}
use Rattle.std.proofs.Common.{inl, inr, sym, ap, ◌∙◌, arith, w32, shr-shr}
use Rattle.std.proofs.Math.Nat.{div-le_self}
use Rattle.std.proofs.lemmas.Bool.{cases_eq, false≢true}
use Rattle.std.proofs.lemmas.List.{length-set, length-map, length-replicate}
use Rattle.std.proofs.lemmas.Nat.Bits.{bit_at-zero, bit_at-trailing_zeros, bit_at_ones}
use Rattle.std.proofs.lemmas.Option.{same_Some, none-some, slice_get_within, slice_get_past}
use Rattle.cs_base.specs.Plan.{End, same_end}
use Rattle.sb_message.specs.declared.message.Msg.{Msg}
use Rattle.global_model.specs.Inboxes.{port_of, end_at}
use Rattle.global_model.specs.PortMarks.{AreMarked, IsUnmarked}
use Rattle.global_model.specs.Turn.{queue_in, queue_at}
use Rattle.global_model.proofs.Nested.{get_set_same, get_set_other, same_end_is}
use Rattle.global_model.proofs.TurnLaws.{same_end_itself}

-- a bit of what is left of a mask from a place on
bit_shifted : (n k i : ℕ) → bit_at (n / 2 ^ k) i ≡ bit_at n (k + i)
bit_shifted n k i = ap (λ x. x % 2) (shr-shr n k i)

bit_from : (n k p : ℕ) → k ≤ p → bit_at n p ≡ bit_at (n / 2 ^ k) (p - k)
bit_from n k p le = let at : p ≡ k + (p - k) = omega arith in ap (bit_at n) at ∙ sym (bit_shifted n k (p - k))

pub none_marked : (mask from to : ℕ) → mask / 2 ^ from ≡ 0 → IsUnmarked mask from to
none_marked mask from to none = λ p le lt small. bit_from mask from p le ∙ ap (λ n. bit_at n (p - from)) none ∙ bit_at-zero (p - from)

pub lowest_small : (mask from : ℕ) → mask < 2 ^ 32 → 0 < mask / 2 ^ from → trailing_zeros w32 (mask / 2 ^ from) < 32
lowest_small mask from fits some =
    let less : mask / 2 ^ from ≤ mask = div-le_self mask (2 ^ from) in
    (bit_at-trailing_zeros w32 (mask / 2 ^ from) some (omega arith)).0

pub unmarked_below : (mask from : ℕ) → mask < 2 ^ 32 → 0 < mask / 2 ^ from → IsUnmarked mask from (from + trailing_zeros w32 (mask / 2 ^ from))
unmarked_below mask from fits some = λ p le lt small.
    let less : mask / 2 ^ from ≤ mask = div-le_self mask (2 ^ from) in
    bit_from mask from p le ∙ (bit_at-trailing_zeros w32 (mask / 2 ^ from) some (omega arith)).2 (p - from) (omega arith)

-- where a bit is 1 if something waits, a 0 says that nothing does
pub empty_unmarked : (empty : Bool) (bit : ℕ) (queue : List Msg) → (IsTrue (not empty) → bit ≡ 1) → (IsTrue empty → queue ≡ []) → bit ≡ 0 → queue ≡ []
empty_unmarked true bit queue one is unset = is refl
empty_unmarked false bit queue one is unset = absurd (let set : bit ≡ 1 = one refl in omega (arith, set, unset))

-- one port's queue and bit are others
module _ (masks : List ℕ) (inboxes inboxes' : List (List (List Msg))) (c p mask mask' : ℕ) (queue : List Msg) (marks : AreMarked masks inboxes) (there : slice_get masks c ≡ Some mask) (others : (q : ℕ) → q < 32 → q ≢ p → bit_at mask' q ≡ bit_at mask q) (own : p < 32 → bit_at mask' p ≡ 0 → queue ≡ []) (many : length inboxes' ≡ length inboxes) (new : (e : End) → port_of inboxes' e ≡ (if same_end (end_at c p) e then Some queue else port_of inboxes e)) where
  own_mask : (d m : ℕ) → slice_get (slice_set masks c mask') d ≡ Some m → d ≡ c → m ≡ mask'
  own_mask d m at same = same_Some m mask' (sym at ∙ ap (slice_get (slice_set masks c mask')) same ∙ get_set_same masks c mask' (slice_get_within masks c mask there))

  idle_on : (d m q : ℕ) → slice_get (slice_set masks c mask') d ≡ Some m → q < 32 → bit_at m q ≡ 0 → queue_at inboxes' (end_at d q) ≡ []
  idle_on d m q at small none = by_end (same_end (end_at c p) (end_at d q)) refl
    where
      old : same_end (end_at c p) (end_at d q) ≡ false → (d ≡ c) ⊎ (d ≢ c) → queue_at inboxes (end_at d q) ≡ []
      old is (inl same) = marks.idle d mask q (ap (slice_get masks) same ∙ there) small (sym (others q small (λ port. false≢true (sym is ∙ ap (λ (e : End). same_end (end_at c p) e) (ap (λ x. end_at x q) same ∙ ap (end_at c) port) ∙ same_end_itself (end_at c p)))) ∙ ap (λ x. bit_at x q) (sym (own_mask d m at same)) ∙ none)
      old is (inr differs) = marks.idle d m q (sym (get_set_other masks c d mask' (λ e. differs (sym e))) ∙ at) small none

      by_end : (same : Bool) → same_end (end_at c p) (end_at d q) ≡ same → queue_at inboxes' (end_at d q) ≡ []
      by_end true is =
          let e : end_at c p ≡ end_at d q = same_end_is (end_at c p) (end_at d q) is in
          let component : d ≡ c = sym (ap (λ (x : End). x.component) e) in
          let port : p ≡ q = ap (λ (x : End). x.port) e in
          ap queue_in (new (end_at d q) ∙ ap (λ b. if b then Some queue else port_of inboxes (end_at d q)) is)
          ∙ own (omega (arith, port, small)) (ap (λ x. bit_at x p) (sym (own_mask d m at component)) ∙ ap (bit_at m) port ∙ none)
      by_end false is = ap queue_in (new (end_at d q) ∙ ap (λ b. if b then Some queue else port_of inboxes (end_at d q)) is) ∙ old is (cases_eq d c)

  pub marked_on : AreMarked (slice_set masks c mask') inboxes'
  marked_on = record { as_many = length-set masks c mask' ∙ marks.as_many ∙ sym many; idle = idle_on }

-- the masks still hold where each port's queue is as it was
pub marks_kept : (masks : List ℕ) (inboxes inboxes' : List (List (List Msg))) → AreMarked masks inboxes → length inboxes' ≡ length inboxes → ((e : End) → port_of inboxes' e ≡ port_of inboxes e) → AreMarked masks inboxes'
marks_kept masks inboxes inboxes' marks many same = record {
  as_many = marks.as_many ∙ sym many;
  idle = λ d m q at small none. ap queue_in (same (end_at d q)) ∙ marks.idle d m q at small none;
}

pub as_many_set : {X Z : Type 0} (lists : List (List X)) (vectors : List (Vec X Z)) (c : ℕ) (new : Vec X Z) → map (λ (v : Vec X Z). v.items) vectors ≡ lists → length (map (λ (v : Vec X Z). v.items) (slice_set vectors c new)) ≡ length lists
as_many_set {X} {Z} lists vectors c new view = length-map (slice_set vectors c new) (λ (v : Vec X Z). v.items) ∙ length-set vectors c new ∙ sym (length-map vectors (λ (v : Vec X Z). v.items)) ∙ ap length view

-- no port of a component past the last
pub none_there : (inboxes : List (List (List Msg))) (c p : ℕ) → length inboxes ≤ c → queue_at inboxes (end_at c p) ≡ []
none_there inboxes c p past = ap (λ found. queue_in (option_and_then (λ ports. slice_get ports p) found)) (slice_get_past inboxes c past)

-- AT THE START

got_replicate : (n c x y : ℕ) → slice_get (replicate n x) c ≡ Some y → y ≡ x
got_replicate zero c x y at = absurd (none-some y at)
got_replicate (suc n) zero x y at = same_Some y x (sym at)
got_replicate (suc n) (suc c) x y at = got_replicate n c x y at

-- masks of ones say nothing
pub all_marked : (masks : List ℕ) (inboxes : List (List (List Msg))) (n : ℕ) → masks ≡ replicate n (2 ^ 32 - 1) → length inboxes ≡ n → AreMarked masks inboxes
all_marked masks inboxes n are many = record {
  as_many = ap length are ∙ length-replicate n (2 ^ 32 - 1) ∙ sym many;
  idle = λ c mask p at small none. absurd (let set : bit_at mask p ≡ 1 = ap (λ x. bit_at x p) (got_replicate n c (2 ^ 32 - 1) mask (ap (λ l. slice_get l c) (sym are) ∙ at)) ∙ bit_at_ones 32 p small in omega (arith, set, none));
}
