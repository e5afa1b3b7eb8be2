-- The switch as a map from addresses to sightings: what learning does to it.
use Rattle.std.specs.Prelude.{ℕ, ◌≡◌, ◌≤◌, ◌<◌, ◌+◌, ◌-◌, Bool, true, false, ◌&&◌, nat_lt, suc, List, length, find, slice_index_or, bytes_eq, Option, Some, None, if◌then◌else◌, refl}
use Rattle.std.specs.List.{sum_by}
use Rattle.std.specs.Cmp.{both_ways}
use Rattle.std.proofs.Common.{arith, ap, le_trans}
use Rattle.std.proofs.lemmas.Bool.{false≢true, and_parts}
use Rattle.std.proofs.lemmas.Bool.Decides.{nat_tests}
use Rattle.std.proofs.lemmas.List.Sums.{count_by-le-length}
use Rattle.std.proofs.lemmas.Slice.Eq.{bytes_eq-Decides}
use Rattle.cs_base.specs.Names.{is_individual}
use Rattle.switch_sim.specs.declared.entry.Entry.{Entry}
use Rattle.switch_sim.specs.Table.{SwitchState, is_live, is_of, port_of_live, place_for, may_learn, others_live, learn}
use Rattle.switch_sim.specs.Switch.{IsSettledSwitch}
use Rattle.switch_sim.specs.Sightings.{Sighting, aged, sighting, sighting_in, known_at, known_then, may_be_known, port_of, IsMap}
use Rattle.switch_sim.specs.RoomLaws.{may_learn_is}
use Rattle.switch_sim.proofs.Counted.{OneEach, sum_same, sum_none, only, own, of_found, own_sum, sum_learned, dead_later}
use Rattle.switch_sim.proofs.Alikes.{learned_entry, with_learned, one_each_learned, apart, itself, twice, neither}

-- a number of each entry that is live, and 0 of the dead
abbrev pub live_number : SwitchState → ℕ → (Entry → ℕ) → Entry → ℕ
live_number s t g e = only (is_live s t e) (suc (g e))

none_dead : (is live : Bool) (n : ℕ) → live ≡ false → only is (only live n) ≡ 0
none_dead true live n dead = ap (λ b. only b n) dead
none_dead false live n dead = refl

module _ (s : SwitchState) (t : ℕ) (from : List ℕ) (port : ℕ) (few : length s.entries ≤ 4096) (one_each : OneEach s.entries) (room : place_for s t from < 4096) (g : Entry → ℕ) where
  sum_own : (mac : List ℕ) → sum_by (own (live_number s t g) mac) (with_learned s t from port).entries + sum_by (own (own (live_number s t g) mac) from) s.entries ≡ sum_by (own (live_number s t g) mac) s.entries + own (live_number s t g) mac (learned_entry t from port)
  sum_own mac = sum_learned s t from few one_each room (own (live_number s t g) mac) (learned_entry t from port) (λ x dead. none_dead (is_of mac x) (is_live s t x) (suc (g x)) dead)

  after_is : (mac : List ℕ) → sum_by (own (live_number s t g) mac) (with_learned s t from port).entries ≡ of_found (live_number s t g) (find (is_of mac) (with_learned s t from port).entries)
  after_is mac = own_sum (live_number s t g) mac (with_learned s t from port).entries (one_each_learned s t from port one_each)

  -- the station is found as it was seen, and all others as before
  pub number_own : of_found (live_number s t g) (find (is_of from) (with_learned s t from port).entries) ≡ live_number s t g (learned_entry t from port)
  number_own =
      let e : Entry = learned_entry t from port in
      let same : sum_by (own (own (live_number s t g) from) from) s.entries ≡ sum_by (own (live_number s t g) from) s.entries = sum_same (own (own (live_number s t g) from) from) (own (live_number s t g) from) (λ x. twice (is_of from x) (live_number s t g x)) s.entries in
      let its : own (live_number s t g) from e ≡ live_number s t g e = ap (λ b. only b (live_number s t g e)) (itself from) in
      omega (arith, sum_own from, same, its, after_is from)

  pub number_other : (mac : List ℕ) → bytes_eq mac from ≡ false → of_found (live_number s t g) (find (is_of mac) (with_learned s t from port).entries) ≡ of_found (live_number s t g) (find (is_of mac) s.entries)
  number_other mac other =
      let e : Entry = learned_entry t from port in
      let none : sum_by (own (own (live_number s t g) mac) from) s.entries ≡ 0 = sum_none (own (own (live_number s t g) mac) from) s.entries (λ k d lt. neither (is_of from (slice_index_or s.entries k d)) (is_of mac (slice_index_or s.entries k d)) (live_number s t g (slice_index_or s.entries k d)) (apart mac from (slice_index_or s.entries k d) other)) in
      let its : own (live_number s t g) mac e ≡ 0 = ap (λ b. only b (live_number s t g e)) other in
      let before : sum_by (own (live_number s t g) mac) s.entries ≡ of_found (live_number s t g) (find (is_of mac) s.entries) = own_sum (live_number s t g) mac s.entries one_each in
      omega (arith, sum_own mac, none, its, before, after_is mac)

-- the numbers of port and time tell the sighting
pub same_sighting : (s : SwitchState) (t : ℕ) (o other : Option Entry) → of_found (live_number s t (λ e. e.port)) o ≡ of_found (live_number s t (λ e. e.port)) other → of_found (live_number s t (λ e. e.seen)) o ≡ of_found (live_number s t (λ e. e.seen)) other → aged s.age t (sighting o) ≡ aged s.age t (sighting other)
same_sighting s t None None ports times = refl
same_sighting s t None (Some e) ports times = at (is_live s t e) ports
  where
    at : (b : Bool) → 0 ≡ only b (suc e.port) → ◌≡◌ {A = Option Sighting} None (if b then Some (sighting_in e) else None)
    at true is = absurd (omega (arith, is))
    at false is = refl
same_sighting s t (Some e) None ports times = at (is_live s t e) ports
  where
    at : (b : Bool) → only b (suc e.port) ≡ 0 → (if b then Some (sighting_in e) else None) ≡ None
    at true is = absurd (omega (arith, is))
    at false is = refl
same_sighting s t (Some e) (Some f) ports times = at (is_live s t e) (is_live s t f) ports times
  where
    at : (b c : Bool) → only b (suc e.port) ≡ only c (suc f.port) → only b (suc e.seen) ≡ only c (suc f.seen) → (if b then Some (sighting_in e) else None) ≡ (if c then Some (sighting_in f) else None)
    at true true ports times = let port : e.port ≡ f.port = omega (arith, ports) in let time : e.seen ≡ f.seen = omega (arith, times) in ap Some (rw (port, time) refl)
    at true false ports times = absurd (omega (arith, ports))
    at false true ports times = absurd (omega (arith, ports))
    at false false ports times = refl

pub same_may : (s : SwitchState) (t : ℕ) (from : List ℕ) → length s.entries ≤ 4096 → may_be_known s t from ≡ may_learn s t from
same_may s t from few = both_ways (may_be_known s t from) (may_learn s t from) there back
  where
    below : (n : ℕ) → nat_lt n 4096 ≡ true → n < 4096
    below n is = grind (arith, nat_tests)

    is_below : (b : Bool) (n : ℕ) → b ≡ true → n < 4096 → (b && nat_lt n 4096) ≡ true
    is_below true n is lt = grind (arith, nat_tests)
    is_below false n is lt = absurd (false≢true is)

    there : may_be_known s t from ≡ true → may_learn s t from ≡ true
    there may = let parts = and_parts (is_individual from) (nat_lt (others_live s t from) 4096) may in (may_learn_is s t from few).1 (parts.0, below (others_live s t from) parts.1)

    back : may_learn s t from ≡ true → may_be_known s t from ≡ true
    back may = let parts = (may_learn_is s t from few).0 may in is_below (is_individual from) (others_live s t from) parts.0 parts.1

pub learned_map : (s : SwitchState) (t : ℕ) (from : List ℕ) (port : ℕ) (mac : List ℕ) → IsSettledSwitch s (t + 1) → known_at (learn s t from port) t mac ≡ known_then s t from port mac
learned_map s t from port mac settled = at (may_learn s t from) refl
  where
    below : (n : ℕ) → nat_lt n 4096 ≡ true → n < 4096
    below n is = grind (arith, nat_tests)

    seen : place_for s t from < 4096 → (b : Bool) → bytes_eq mac from ≡ b → known_at (with_learned s t from port) t mac ≡ (if b then aged s.age t (Some (record { port = port; time = t })) else known_at s t mac)
    seen room true is =
        let same : mac ≡ from = (bytes_eq-Decides mac from).0 is in
        rw same (same_sighting s t (find (is_of from) (with_learned s t from port).entries) (Some (learned_entry t from port)) (number_own s t from port settled.few settled.one_each room (λ e. e.port)) (number_own s t from port settled.few settled.one_each room (λ e. e.seen)))
    seen room false is = same_sighting s t (find (is_of mac) (with_learned s t from port).entries) (find (is_of mac) s.entries) (number_other s t from port settled.few settled.one_each room (λ e. e.port) mac is) (number_other s t from port settled.few settled.one_each room (λ e. e.seen) mac is)

    at : (b : Bool) → may_learn s t from ≡ b → known_at (if b then with_learned s t from port else s) t mac ≡ known_then s t from port mac
    at true may = rw (same_may s t from settled.few, may) (seen (below (place_for s t from) (and_parts (is_individual from) (nat_lt (place_for s t from) 4096) may).1) (bytes_eq mac from) refl)
    at false may = rw (same_may s t from settled.few, may) refl

-- THE MAP

looked_up : (s : SwitchState) (t : ℕ) (o : Option Entry) → port_of_live s t o ≡ port_of (aged s.age t (sighting o))
looked_up s t None = refl
looked_up s t (Some e) = at (is_live s t e)
  where
    at : (b : Bool) → (if b then Some e.port else None) ≡ port_of (if b then Some (sighting_in e) else None)
    at true = refl
    at false = refl

later : (s : SwitchState) (t u : ℕ) (o : Option Entry) → t ≤ u → aged s.age u (sighting o) ≡ aged s.age u (aged s.age t (sighting o))
later s t u None le = refl
later s t u (Some e) le = at (is_live s t e) refl
  where
    at : (b : Bool) → is_live s t e ≡ b → aged s.age u (sighting (Some e)) ≡ aged s.age u (if b then Some (sighting_in e) else None)
    at true is = refl
    at false is = ap (λ b. if b then Some (sighting_in e) else None) (dead_later s t u e le is)

pub map_of : (s : SwitchState) (t x : ℕ) → IsSettledSwitch s x → IsMap s t
map_of s t x settled = record {
  few = le_trans (count_by-le-length (is_live s t) s.entries) settled.few;
  looked_up = λ mac. looked_up s t (find (is_of mac) s.entries);
  later = λ u mac le. later s t u (find (is_of mac) s.entries) le;
}
