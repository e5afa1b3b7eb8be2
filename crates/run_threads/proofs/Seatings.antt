-- The parts of a crew by the numbers of their components, and what is left when they are taken apart.
use Rattle.std.proofs.Common.{◌≡◌, ℕ, zero, suc, ◌+◌, ◌*◌, ◌/◌, ◌%◌, ◌<◌, Bool, true, false, eqb, List, [], ◌∷◌, ◌++◌, length, Option, Some, None, refl, sym, ap, ap₂, ◌∙◌, subst, arith, length-append}
use Rattle.std.specs.Prelude.{slice_get}
use Rattle.std.proofs.Math.Nat.{mod-add-div'}
use Rattle.std.proofs.lemmas.Bool.{eqb-true, eqb-false}
use Rattle.std.proofs.lemmas.List.{length-map}
use Rattle.std.proofs.lemmas.Nat.{mod_below}
use Rattle.std.proofs.lemmas.Option.{none-some, same_Some, slice_get_within}
use Rattle.atomic_table.specs.Seated.{TableId}
use Rattle.cs_base.specs.declared.link.Link.{Link}
use Rattle.cs_base.specs.Plan.{End}
use Rattle.device_api.specs.Channels.{Channel, channels}
use Rattle.run_laws.proofs.Lists.{there_below}
use Rattle.sync_laws.proofs.Changed.{get_mapped, mapped_at}
use Rattle.worker_rounds.specs.Rounds.{Work}
use Rattle.run_threads.specs.declared.part.Part.{Part}
use Rattle.run_threads.specs.CrewOf.{members_of, part_at}
use Rattle.run_threads.specs.Dealing.{AreSpread}
use Rattle.run_threads.specs.Parting.{HasPlace, HaveOwnPlaces, AreBack, AreFilled, AreSidesIn}
use Rattle.run_threads.specs.Seating.{AreAtPorts}
use Rattle.run_threads.proofs.Dealt.{get_last, get_other, same_row, same_column}

-- LISTS BY NUMBER

-- the list of what a function tells of the first so many numbers
pub record IsTable {X : Type 0} (f : ℕ → Option X) (n : ℕ) : Type 0 where
  pub all : List X
  pub as_many : length all ≡ n
  pub each : (c : ℕ) → c < n → slice_get all c ≡ f c

table_more : {X : Type 0} (f : ℕ → Option X) (n : ℕ) (x : X) → f n ≡ Some x → IsTable f n → IsTable f (suc n)
table_more f n x is rest = record {
  all = rest.all ++ x ∷ [];
  as_many = length-append rest.all (x ∷ []) ∙ ap (λ m. m + 1) rest.as_many ∙ (let one : n + 1 ≡ suc n = omega arith in one);
  each = λ c within. by c within (eqb c n) refl;
}
  where
    by : (c : ℕ) → c < suc n → (o : Bool) → eqb c n ≡ o → slice_get (rest.all ++ x ∷ []) c ≡ f c
    by c within true e = (let same : c ≡ n = eqb-true c n e in ap (slice_get (rest.all ++ x ∷ [])) (same ∙ sym rest.as_many) ∙ get_last rest.all x ∙ sym is ∙ ap f (sym same))
    by c within false e = (let differ = eqb-false c n e in get_other rest.all x c (λ same. differ (same ∙ rest.as_many)) ∙ rest.each c (let apart : c ≡ n → ⊥ = differ in omega arith))

pub table_of : {X : Type 0} (f : ℕ → Option X) (n : ℕ) → ((c : ℕ) → c < n → (x : X) × (f c ≡ Some x)) → IsTable f n
table_of f zero each = record { all = []; as_many = refl; each = λ c within. absurd (omega arith) }
table_of f (suc n) each = (let last = each n (omega arith) in table_more f n last.0 last.1 (table_of f n (λ c within. each c (omega arith))))

-- PARTS BY COMPONENT

module _ {V : Type 0} (workers : List (Work (Part V))) (some_worker : 0 < length workers) (components : ℕ) (no_other : (w k : ℕ) (part : Part V) → w < length workers → slice_get (members_of (slice_get workers w)) k ≡ Some part → w + k * length workers < components) where
  -- a part that is there is that of a component
  pub within_components : (c : ℕ) (part : Part V) → part_at workers c ≡ Some part → c < components
  within_components c part there = (let below : c % length workers + (c / length workers) * length workers < components = no_other (c % length workers) (c / length workers) part (mod_below c (length workers) some_worker) there in let is : c % length workers + (c / length workers) * length workers ≡ c = mod-add-div' c (length workers) in omega arith)

  -- member k of worker w of n is the part of component w + k * n
  pub at_turn : (w k : ℕ) (worker : Work (Part V)) → slice_get workers w ≡ Some worker → part_at workers (w + k * length workers) ≡ slice_get worker.members k
  at_turn w k worker here =
      let n : ℕ = length workers in
      let number : ℕ = w + k * n in
      let within : w < n = slice_get_within workers w worker here in
      let below : number % n < n = mod_below number n some_worker in
      let same : number % n + (number / n) * n ≡ w + k * n = mod-add-div' number n in
      ap₂ (λ v q. slice_get (members_of (slice_get workers v)) q) (same_column (number % n) (number / n) w k n below within same) (same_row (number % n) (number / n) w k n below within same) ∙ ap (λ o. slice_get (members_of o) k) here

  pub are_spread : (table : IsTable (part_at workers) components) → AreSpread workers table.all
  are_spread table = record { some_worker = some_worker; dealt = λ w k worker here. by w k worker here (slice_get table.all (w + k * length workers)) refl }
    where
      by : (w k : ℕ) (worker : Work (Part V)) → slice_get workers w ≡ Some worker → (o : Option (Part V)) → slice_get table.all (w + k * length workers) ≡ o → slice_get worker.members k ≡ slice_get table.all (w + k * length workers)
      by w k worker here (Some part) e = (let within : w + k * length workers < length table.all = slice_get_within table.all (w + k * length workers) part e in sym (table.each (w + k * length workers) (let many : length table.all ≡ components = table.as_many in omega arith) ∙ at_turn w k worker here))
      by w k worker here None e = none (slice_get worker.members k) refl
        where
          none : (o : Option (Part V)) → slice_get worker.members k ≡ o → slice_get worker.members k ≡ slice_get table.all (w + k * length workers)
          none None f = f ∙ sym e
          none (Some part) f = absurd (let within : w + k * length workers < components = no_other w k part (slice_get_within workers w worker here) (ap (λ o. slice_get (members_of o) k) here ∙ f) in let found = there_below table.all (w + k * length workers) (let many : length table.all ≡ components = table.as_many in omega arith) in none-some found.0 (sym e ∙ found.1))

-- ENDS BY CHANNEL

module _ {V E : Type 0} (ends_of : Part V → List E) (numbers_of : Part V → List ℕ) (name : E → TableId) (side : Channel → End) (links : List Link) (names : List TableId) (workers : List (Work (Part V))) (are : AreAtPorts ends_of numbers_of name side links names workers) where
  record IsOwnEnd (c i : ℕ) (part : Part V) : Type 0 where
    number : ℕ
    channel : Channel
    at_number : slice_get (channels links) number ≡ Some channel
    component_is : (side channel).component ≡ c
    port_is : (side channel).port ≡ i
    numbered : slice_get (numbers_of part) i ≡ Some number

  own_end : (c i : ℕ) (part : Part V) → part_at workers c ≡ Some part → i < length (ends_of part) → IsOwnEnd c i part
  own_end c i part there within =
      let has = are.of_part c i part there within in
      let end = are.of_channel has.number has.channel has.at_number in
      let same : end.part ≡ part = same_Some end.part part (sym end.there ∙ ap (part_at workers) has.component_is ∙ there) in
      record {
        number = has.number;
        channel = has.channel;
        at_number = has.at_number;
        component_is = has.component_is;
        port_is = has.port_is;
        numbered = ap₂ (λ (p : Part V) q. slice_get (numbers_of p) q) (sym same) (sym has.port_is) ∙ end.numbered;
      }

  module _ (components : ℕ) (table : IsTable (part_at workers) components) where
    pub in_table : (c : ℕ) (part : Part V) → slice_get table.all c ≡ Some part → part_at workers c ≡ Some part
    in_table c part at = sym (table.each c (let within : c < length table.all = slice_get_within table.all c part at in let many : length table.all ≡ components = table.as_many in omega arith)) ∙ at

    pub own_places : (bound : ℕ) → bound ≡ length (channels links) → HaveOwnPlaces numbers_of ends_of bound table.all
    own_places bound is = subst (λ n. HaveOwnPlaces numbers_of ends_of n table.all) (sym is) (record { each = each; apart = apart })
      where
        each : (c i : ℕ) (part : Part V) → slice_get table.all c ≡ Some part → i < length (ends_of part) → HasPlace (length (channels links)) (numbers_of part) i
        each c i part at within = (let own = own_end c i part (in_table c part at) within in record { place = own.number; there = own.numbered; within = slice_get_within (channels links) own.number own.channel own.at_number })

        apart : (c d i j place : ℕ) (one other : Part V) → slice_get table.all c ≡ Some one → slice_get table.all d ≡ Some other → i < length (ends_of one) → j < length (ends_of other) → slice_get (numbers_of one) i ≡ Some place → slice_get (numbers_of other) j ≡ Some place → (c ≡ d) × (i ≡ j)
        apart c d i j place one other at_c at_d i_in j_in at_i at_j =
            let own = own_end c i one (in_table c one at_c) i_in in
            let its = own_end d j other (in_table d other at_d) j_in in
            let numbers : own.number ≡ its.number = same_Some own.number its.number (sym own.numbered ∙ at_i ∙ sym at_j ∙ its.numbered) in
            let same : own.channel ≡ its.channel = same_Some own.channel its.channel (sym own.at_number ∙ ap (slice_get (channels links)) numbers ∙ its.at_number) in
            (sym own.component_is ∙ ap (λ (ch : Channel). (side ch).component) same ∙ its.component_is, sym own.port_is ∙ ap (λ (ch : Channel). (side ch).port) same ∙ its.port_is)

    module _ (within : (c : ℕ) (part : Part V) → part_at workers c ≡ Some part → c < components) (slots : List (Option E)) (back : AreBack numbers_of ends_of table.all slots) where
      -- the end of a channel is in its slot
      pub end_back : (k : ℕ) (ch : Channel) (at : slice_get (channels links) k ≡ Some ch) → slice_get slots k ≡ Some (Some (are.of_channel k ch at).one)
      end_back k ch at = (let end = are.of_channel k ch at in back.each (side ch).component (side ch).port k end.part end.one (table.each (side ch).component (within (side ch).component end.part end.there) ∙ end.there) end.here end.numbered)

      pub are_filled : length slots ≡ length (channels links) → AreFilled slots
      are_filled many = record { each = λ k below. (let ch = there_below (channels links) k (omega (arith, many)) in ((are.of_channel k ch.0 ch.1).one, end_back k ch.0 ch.1)) }

      module _ {S : Type 0} (side_of : E → S) (sides : List S) (seats : AreSidesIn side_of slots sides) where
        -- its side is in its place
        pub side_there : (k : ℕ) (ch : Channel) (at : slice_get (channels links) k ≡ Some ch) → slice_get sides k ≡ Some (side_of (are.of_channel k ch at).one)
        side_there k ch at =
            let found = mapped_at Some seats.ends slots k (Some (are.of_channel k ch at).one) (sym seats.filled) (end_back k ch at) in
            ap (λ l. slice_get l k) seats.sides_are ∙ get_mapped side_of seats.ends k found.0 found.1 ∙ ap (λ e. Some (side_of e)) (same_Some found.0 (are.of_channel k ch at).one found.2)

        pub many_sides : length slots ≡ length (channels links) → length sides ≡ length (channels links)
        many_sides many = ap length seats.sides_are ∙ length-map seats.ends side_of ∙ sym (length-map seats.ends Some) ∙ sym (ap length seats.filled) ∙ many

        -- it is of the channel's queue
        pub side_named : (queue_of : S → TableId) → ((e : E) → queue_of (side_of e) ≡ name e) → length slots ≡ length (channels links) → (k : ℕ) (one : S) → slice_get sides k ≡ Some one → slice_get names k ≡ Some (queue_of one)
        side_named queue_of same many k one at =
            let below : k < length sides = slice_get_within sides k one at in
            let ch = there_below (channels links) k (let as_many : length sides ≡ length (channels links) = many_sides many in omega arith) in
            let end = are.of_channel k ch.0 ch.1 in
            end.named ∙ ap Some (sym (same end.one)) ∙ ap (λ s. Some (queue_of s)) (sym (same_Some one (side_of end.one) (sym at ∙ side_there k ch.0 ch.1)))
