-- Switches that are alike learn alike, and do the same with what arrives.
use Rattle.std.specs.Prelude.{ℕ, ◌≡◌, ◌≤◌, ◌<◌, ◌+◌, ◌-◌, Bool, true, false, ◌&&◌, not, nat_lt, suc, List, [], ◌∷◌, ◌++◌, length, slice_index_or, bytes_eq, if◌then◌else◌, refl}
use Rattle.std.specs.List.{sum_by}
use Rattle.std.specs.Cmp.{both_ways}
use Rattle.std.proofs.Common.{arith, ap, sym, subst, ◌∙◌, le_trans, le_refl}
use Rattle.std.proofs.lemmas.Bool.{false≢true, and_parts}
use Rattle.std.proofs.lemmas.Bool.Decides.{nat_tests}
use Rattle.std.proofs.lemmas.Slice.Eq.{bytes_eq-Decides}
use Rattle.cs_base.specs.Names.{is_individual}
use Rattle.sb_message.specs.declared.message.Body.{Body}
use Rattle.sb_message.specs.declared.message.Body.TheVariants as body
use Rattle.switch_sim.specs.declared.entry.Entry.{Entry}
use Rattle.switch_sim.specs.declared.relay.Relay.{Relay}
use Rattle.switch_sim.specs.declared.relay.Relay.TheVariants.{Filter, Flood}
use Rattle.switch_sim.specs.Table.{SwitchState, is_live, is_of, lookup, others_live, place_for, may_learn, learn, is_news, is_port, put_at}
use Rattle.switch_sim.specs.Switch.{destination, source, is_reserved, relay, towards, sends_of, line_of, news_lines, switch_take, IsSettledSwitch}
use Rattle.switch_sim.specs.Alike.{IsAlike, ReactAlike}
use Rattle.switch_sim.specs.TableLaws.{place_within, stands_apart, one_each-put}
use Rattle.switch_sim.specs.RoomLaws.{may_learn_is}
use Rattle.switch_sim.proofs.Counted.{OneEach, sum_same, sum_none, only, own, sum_learned, coded, found, decoded, port_at, one_at, other_at, lookup_sum, found_sum, dead_later, no_port, no_other}

-- LEARNING

-- the entry that is learned, and the state with it
abbrev pub learned_entry : ℕ → List ℕ → ℕ → Entry
learned_entry t from port = record { mac = from; port = port; seen = t }

abbrev pub with_learned : SwitchState → ℕ → List ℕ → ℕ → SwitchState
with_learned s t from port = record s { entries = put_at (place_for s t from) (learned_entry t from port) s.entries }

pub one_each_learned : (s : SwitchState) (t : ℕ) (from : List ℕ) (port : ℕ) → OneEach s.entries → OneEach (with_learned s t from port).entries
one_each_learned s t from port one_each = one_each-put (place_for s t from) (learned_entry t from port) s.entries (place_within s t from) one_each (λ k d lt apart. stands_apart s t from k d one_each lt apart)

-- an entry of one address is none of another
pub apart : (mac from : List ℕ) (x : Entry) → bytes_eq mac from ≡ false → is_of from x ≡ true → is_of mac x ≡ false
apart mac from x other is = ap (λ m. bytes_eq mac m) (sym ((bytes_eq-Decides from x.mac).0 is)) ∙ other

pub itself : (mac : List ℕ) → bytes_eq mac mac ≡ true
itself mac = (bytes_eq-Decides mac mac).1 refl

pub twice : (is : Bool) (n : ℕ) → only is (only is n) ≡ only is n
twice true n = refl
twice false n = refl

pub neither : (is_from is_mac : Bool) (n : ℕ) → (is_from ≡ true → is_mac ≡ false) → only is_from (only is_mac n) ≡ 0
neither true is_mac n other = rw (other refl) refl
neither false is_mac n other = refl

itself_no_other : (live is : Bool) → is ≡ true → only (live && not is) 1 ≡ 0
itself_no_other true true same = refl
itself_no_other false true same = refl
itself_no_other live false same = absurd (false≢true same)

no_other_of : (live is : Bool) → only is (only (live && not is) 1) ≡ 0
no_other_of live true = itself_no_other live true refl
no_other_of live false = refl

counts : (live is_mac : Bool) → is_mac ≡ false → only (live && not is_mac) 1 ≡ only live 1
counts live true is = absurd (false≢true (sym is))
counts true false is = refl
counts false false is = refl

other_of : (is_from is_mac live : Bool) → (is_from ≡ true → is_mac ≡ false) → only is_from (only (live && not is_mac) 1) ≡ only is_from (only live 1)
other_of true is_mac live other = counts live is_mac (other refl)
other_of false is_mac live other = refl

module _ (s : SwitchState) (t : ℕ) (from : List ℕ) (port : ℕ) (few : length s.entries ≤ 4096) (one_each : OneEach s.entries) (room : place_for s t from < 4096) (later : ℕ) (le : t ≤ later) where
  -- the station is found as it was seen
  pub found_learned : coded (lookup (with_learned s t from port) later from) ≡ port_at s later (learned_entry t from port)
  found_learned =
      let e : Entry = learned_entry t from port in
      let f : Entry → ℕ = own (port_at s later) from in
      let learned : sum_by f (with_learned s t from port).entries + sum_by (own f from) s.entries ≡ sum_by f s.entries + f e = sum_learned s t from few one_each room f e (λ x dead. no_port s later from x (dead_later s t later x le dead)) in
      let same : sum_by (own f from) s.entries ≡ sum_by f s.entries = sum_same (own f from) f (λ x. twice (is_of from x) (port_at s later x)) s.entries in
      let its : f e ≡ port_at s later e = ap (λ b. only b (port_at s later e)) (itself from) in
      let sum : sum_by f (with_learned s t from port).entries ≡ coded (lookup (with_learned s t from port) later from) = lookup_sum (with_learned s t from port) later from (one_each_learned s t from port one_each) in
      omega (arith, learned, same, its, sum)

  -- and all others as before
  pub found_others : (mac : List ℕ) → bytes_eq mac from ≡ false → coded (lookup (with_learned s t from port) later mac) ≡ coded (lookup s later mac)
  found_others mac other =
      let e : Entry = learned_entry t from port in
      let f : Entry → ℕ = own (port_at s later) mac in
      let learned : sum_by f (with_learned s t from port).entries + sum_by (own f from) s.entries ≡ sum_by f s.entries + f e = sum_learned s t from few one_each room f e (λ x dead. no_port s later mac x (dead_later s t later x le dead)) in
      let none : sum_by (own f from) s.entries ≡ 0 = sum_none (own f from) s.entries (λ k d lt. neither (is_of from (slice_index_or s.entries k d)) (is_of mac (slice_index_or s.entries k d)) (port_at s later (slice_index_or s.entries k d)) (apart mac from (slice_index_or s.entries k d) other)) in
      let its : f e ≡ 0 = ap (λ b. only b (port_at s later e)) other in
      let before : sum_by f s.entries ≡ coded (lookup s later mac) = lookup_sum s later mac one_each in
      let sum : sum_by f (with_learned s t from port).entries ≡ coded (lookup (with_learned s t from port) later mac) = lookup_sum (with_learned s t from port) later mac (one_each_learned s t from port one_each) in
      omega (arith, learned, none, its, before, sum)

  pub room_learned : others_live (with_learned s t from port) later from ≡ others_live s later from
  room_learned =
      let e : Entry = learned_entry t from port in
      let f : Entry → ℕ = other_at s later from in
      let learned : sum_by f (with_learned s t from port).entries + sum_by (own f from) s.entries ≡ sum_by f s.entries + f e = sum_learned s t from few one_each room f e (λ x dead. no_other s later from x (dead_later s t later x le dead)) in
      let none : sum_by (own f from) s.entries ≡ 0 = sum_none (own f from) s.entries (λ k d lt. no_other_of (is_live s later (slice_index_or s.entries k d)) (is_of from (slice_index_or s.entries k d))) in
      let its : f e ≡ 0 = itself_no_other (is_live s later e) (is_of from e) (itself from) in
      omega (arith, learned, none, its)

  pub room_others : (mac : List ℕ) → bytes_eq mac from ≡ false → others_live (with_learned s t from port) later mac + found (lookup s later from) ≡ others_live s later mac + one_at s later (learned_entry t from port)
  room_others mac other =
      let e : Entry = learned_entry t from port in
      let f : Entry → ℕ = other_at s later mac in
      let learned : sum_by f (with_learned s t from port).entries + sum_by (own f from) s.entries ≡ sum_by f s.entries + f e = sum_learned s t from few one_each room f e (λ x dead. no_other s later mac x (dead_later s t later x le dead)) in
      let same : sum_by (own f from) s.entries ≡ sum_by (own (one_at s later) from) s.entries = sum_same (own f from) (own (one_at s later) from) (λ x. other_of (is_of from x) (is_of mac x) (is_live s later x) (apart mac from x other)) s.entries in
      let before : sum_by (own (one_at s later) from) s.entries ≡ found (lookup s later from) = found_sum s later from one_each in
      let its : f e ≡ one_at s later e = counts (is_live s later e) (is_of mac e) other in
      omega (arith, learned, same, before, its)

-- ALIKE

pub alike_later : (at t : ℕ) (s other : SwitchState) → at ≤ t → IsAlike at s other → IsAlike t s other
alike_later at t s other le alike = record {
  same_ports = alike.same_ports;
  same_age = alike.same_age;
  same_lookups = λ later mac after. alike.same_lookups later mac (le_trans le after);
  same_room = λ later mac after. alike.same_room later mac (le_trans le after);
}

pub may_alike : (t : ℕ) (s other : SwitchState) (from : List ℕ) → length s.entries ≤ 4096 → length other.entries ≤ 4096 → others_live s t from ≡ others_live other t from → may_learn s t from ≡ may_learn other t from
may_alike t s other from few few_other same = both_ways (may_learn s t from) (may_learn other t from) there back
  where
    there : may_learn s t from ≡ true → may_learn other t from ≡ true
    there may = let both : (is_individual from ≡ true) × (others_live s t from < 4096) = (may_learn_is s t from few).0 may in (may_learn_is other t from few_other).1 (both.0, subst (λ n. n < 4096) same both.1)

    back : may_learn other t from ≡ true → may_learn s t from ≡ true
    back may = let both : (is_individual from ≡ true) × (others_live other t from < 4096) = (may_learn_is other t from few_other).0 may in (may_learn_is s t from few).1 (both.0, subst (λ n. n < 4096) (sym same) both.1)

module _ (t : ℕ) (s other : SwitchState) (from : List ℕ) (port : ℕ) (alike : IsAlike t s other) (settled : IsSettledSwitch s (t + 1)) (settled_other : IsSettledSwitch other (t + 1)) where
  pub with_alike : place_for s t from < 4096 → place_for other t from < 4096 → IsAlike t (with_learned s t from port) (with_learned other t from port)
  with_alike room room_other = record {
    same_ports = alike.same_ports;
    same_age = alike.same_age;
    same_lookups = λ later mac le. lookups later mac le (bytes_eq mac from) refl;
    same_room = λ later mac le. rooms later mac le (bytes_eq mac from) refl;
  }
    where
      lookups : (later : ℕ) (mac : List ℕ) → t ≤ later → (b : Bool) → bytes_eq mac from ≡ b → lookup (with_learned s t from port) later mac ≡ lookup (with_learned other t from port) later mac
      lookups later mac le true is =
          let same : mac ≡ from = (bytes_eq-Decides mac from).0 is in
          rw same (decoded (lookup (with_learned s t from port) later from) (lookup (with_learned other t from port) later from)
          (found_learned s t from port settled.few settled.one_each room later le
          ∙ ap (λ age. only (nat_lt (later - t) age) (suc port)) alike.same_age
          ∙ sym (found_learned other t from port settled_other.few settled_other.one_each room_other later le)))
      lookups later mac le false is =
          decoded (lookup (with_learned s t from port) later mac) (lookup (with_learned other t from port) later mac)
          (found_others s t from port settled.few settled.one_each room later le mac is
          ∙ ap coded (alike.same_lookups later mac le)
          ∙ sym (found_others other t from port settled_other.few settled_other.one_each room_other later le mac is))

      rooms : (later : ℕ) (mac : List ℕ) → t ≤ later → (b : Bool) → bytes_eq mac from ≡ b → others_live (with_learned s t from port) later mac ≡ others_live (with_learned other t from port) later mac
      rooms later mac le true is =
          let same : mac ≡ from = (bytes_eq-Decides mac from).0 is in
          rw same (room_learned s t from port settled.few settled.one_each room later le ∙ alike.same_room later from le ∙ sym (room_learned other t from port settled_other.few settled_other.one_each room_other later le))
      rooms later mac le false is =
          let mine = room_others s t from port settled.few settled.one_each room later le mac is in
          let its = room_others other t from port settled_other.few settled_other.one_each room_other later le mac is in
          let same_found : found (lookup s later from) ≡ found (lookup other later from) = ap found (alike.same_lookups later from le) in
          let same_one : one_at s later (learned_entry t from port) ≡ one_at other later (learned_entry t from port) = ap (λ age. only (nat_lt (later - t) age) 1) alike.same_age in
          omega (arith, mine, its, same_found, same_one, alike.same_room later mac le)

  pub same_may : may_learn s t from ≡ may_learn other t from
  same_may = may_alike t s other from settled.few settled_other.few (alike.same_room t from (le_refl t))

  pub learn_alike : IsAlike t (learn s t from port) (learn other t from port)
  learn_alike = at (may_learn s t from) (may_learn other t from) refl refl same_may
    where
      room_of : (state : SwitchState) → may_learn state t from ≡ true → place_for state t from < 4096
      room_of state may = let room : nat_lt (place_for state t from) 4096 ≡ true = (and_parts (is_individual from) (nat_lt (place_for state t from) 4096) may).1 in below (place_for state t from) room
        where
          below : (place : ℕ) → nat_lt place 4096 ≡ true → place < 4096
          below place room = grind (arith, nat_tests)

      at : (b c : Bool) → may_learn s t from ≡ b → may_learn other t from ≡ c → b ≡ c → IsAlike t (if b then with_learned s t from port else s) (if c then with_learned other t from port else other)
      at true true may may_other same = with_alike (room_of s may) (room_of other may_other)
      at false false may may_other same = alike
      at true false may may_other same = absurd (false≢true (sym same))
      at false true may may_other same = absurd (false≢true same)

  pub news_alike : is_news s t from port ≡ is_news other t from port
  news_alike = ap (λ b. b && not (is_port port (lookup s t from))) same_may ∙ ap (λ o. may_learn other t from && not (is_port port o)) (alike.same_lookups t from (le_refl t))

pub relay_alike : (t port : ℕ) (s other : SwitchState) (to : List ℕ) → lookup s t to ≡ lookup other t to → relay s t port to ≡ relay other t port to
relay_alike t port s other to same = ap (λ o. if is_reserved to then Filter else if is_individual to then towards port o else Flood) same

pub take_alike : (s other : SwitchState) (at t port : ℕ) (arrived : Body) → IsAlike at s other → at ≤ t → IsSettledSwitch s (t + 1) → IsSettledSwitch other (t + 1) → ReactAlike t (switch_take s t port arrived) (switch_take other t port arrived)
take_alike s other at t port (body.Eth frame) alike le settled settled_other =
    let now : IsAlike t s other = alike_later at t s other le alike in
    let after : IsAlike t (learn s t (source frame) port) (learn other t (source frame) port) = learn_alike t s other (source frame) port now settled settled_other in
    let way : relay (learn s t (source frame) port) t port (destination frame) ≡ relay (learn other t (source frame) port) t port (destination frame) = relay_alike t port (learn s t (source frame) port) (learn other t (source frame) port) (destination frame) (after.same_lookups t (destination frame) (le_refl t)) in
    record {
      same_sends = ap (λ (n : ℕ). sends_of n port frame (relay (learn s t (source frame) port) t port (destination frame))) now.same_ports ∙ ap (λ (w : Relay). sends_of other.ports port frame w) way;
      same_lines = ap (λ (b : Bool). news_lines b (source frame) port ++ line_of (relay (learn s t (source frame) port) t port (destination frame)) ∷ []) (news_alike t s other (source frame) port now settled settled_other) ∙ ap (λ (w : Relay). news_lines (is_news other t (source frame) port) (source frame) port ++ line_of w ∷ []) way;
      alike_after = after;
    }
take_alike s other at t port arrived alike le settled settled_other = record { same_sends = refl; same_lines = refl; alike_after = alike_later at t s other le alike }
