-- A channel's number, by the port that sends on it.
use Rattle.std.specs.Prelude.{ℕ, zero, suc, ◌≡◌, ◌==◌, ◌+◌, ◌≤◌, Bool, true, false, List, [], ◌∷◌, Option, Some, None, slice_get, IsSome, All, option_map, refl}
use Rattle.std.proofs.lemmas.Bool.{false≢true}
use Rattle.std.proofs.lemmas.Bool.Decides.{nat_tests}
use Rattle.std.proofs.lemmas.List.Elements.{All-head, All-tail}
use Rattle.std.proofs.Common.{sym, ap, ◌∙◌, arith, subst, cond}
use Rattle.cs_base.specs.declared.link.Link.{Link}
use Rattle.cs_base.specs.declared.port_kind.PortKind.{PortKind}
use Rattle.cs_base.specs.Plan.{End, same_end, first_end, second_end, uses_in, uses_of, kind_at, partner, Joins}
use Rattle.device_api.specs.Channels.{Channel, channels}
use Rattle.device_api.specs.World.{out_of}
use Rattle.global_model.specs.Routes.{number_out}
use Rattle.global_model.proofs.Nested.{same_end_is}
use Rattle.global_model.proofs.TurnLaws.{same_end_itself}
use Rattle.global_model.specs.Routes.{route_along, route_from}
use Rattle.global_model.specs.Tally.{leads_on}
use Rattle.global_model.proofs.Ways.{forth, back, same_end_flip, uses_more}

-- the channel that is found out of a port has that number, and leads out of that port
pub found_number : (chs : List Channel) (e : End) (ch : Channel) → out_of chs e ≡ Some ch → (slice_get chs (number_out chs e) ≡ Some ch) × (ch.from ≡ e)
found_number [] e ch is = absurd cc
found_number (x ∷ more) e ch is = at (same_end x.from e) refl is (λ found. found_number more e ch found)
  where
    at : (here : Bool) → same_end x.from e ≡ here → cond here (Some x) (out_of more e) ≡ Some ch → (out_of more e ≡ Some ch → (slice_get more (number_out more e) ≡ Some ch) × (ch.from ≡ e)) → (slice_get (x ∷ more) (cond here 0 (suc (number_out more e))) ≡ Some ch) × (ch.from ≡ e)
    at true same found rest = (found, let it : x ≡ ch = cc in ap (λ (y : Channel). y.from) (sym it) ∙ same_end_is x.from e same)
    at false other found rest = rest found

-- an end that is this one uses the link
used : (a b : Bool) → a ≡ true → 1 ≤ cond a 1 0 + cond b 1 0
used true b is = omega arith
used false b is = absurd (false≢true is)

used_too : (a b : Bool) → b ≡ true → 1 ≤ cond a 1 0 + cond b 1 0
used_too a true is = omega arith
used_too a false is = absurd (false≢true is)

both_used : (a b : Bool) → a ≡ true → b ≡ true → 2 ≤ cond a 1 0 + cond b 1 0
both_used true true is is' = omega arith
both_used true false is is' = absurd (false≢true is')
both_used false b is is' = absurd (false≢true is)

itself : (x y : End) → x ≡ y → same_end x y ≡ true
itself x y is = ap (same_end x) (sym is) ∙ same_end_itself x

-- a channel out of a port is of a link with that end
uses_out : (links : List Link) (e : End) (k : ℕ) (ch : Channel) → slice_get (channels links) k ≡ Some ch → ch.from ≡ e → 1 ≤ uses_of links e
uses_out [] e k ch is from = absurd cc
uses_out (link ∷ more) e zero ch is from = let it : forth link ≡ ch = cc in let here : 1 ≤ uses_in link e = used (same_end e (first_end link)) (same_end e (second_end link)) (itself e (first_end link) (sym from ∙ ap (λ (y : Channel). y.from) (sym it))) in omega (arith, uses_more link more e, here)
uses_out (link ∷ more) e (suc zero) ch is from = let it : back link ≡ ch = cc in let here : 1 ≤ uses_in link e = used_too (same_end e (first_end link)) (same_end e (second_end link)) (itself e (second_end link) (sym from ∙ ap (λ (y : Channel). y.from) (sym it))) in omega (arith, uses_more link more e, here)
uses_out (link ∷ more) e (suc (suc k)) ch is from = let others : 1 ≤ uses_of more e = uses_out more e k ch is from in omega (arith, uses_more link more e, others)

-- where a port is in one link, a channel out of it is the first one
pub number_is : (links : List Link) (e : End) (k : ℕ) (ch : Channel) → uses_of links e ≤ 1 → slice_get (channels links) k ≡ Some ch → ch.from ≡ e → (out_of (channels links) e ≡ Some ch) × (number_out (channels links) e ≡ k)
number_is [] e k ch one is from = absurd cc
number_is (link ∷ more) e zero ch one is from = at (same_end (first_end link) e) (itself (first_end link) e (ap (λ (y : Channel). y.from) it ∙ from))
  where
    it : forth link ≡ ch
    it = cc

    at : (first : Bool) → first ≡ true → (cond first (Some (forth link)) (cond (same_end (second_end link) e) (Some (back link)) (out_of (channels more) e)) ≡ Some ch) × (cond first 0 (suc (cond (same_end (second_end link) e) 0 (suc (number_out (channels more) e)))) ≡ 0)
    at true same = (is, refl)
    at false same = absurd (false≢true same)
number_is (link ∷ more) e (suc zero) ch one is from = at (same_end (first_end link) e) (same_end (second_end link) e) refl (itself (second_end link) e (ap (λ (y : Channel). y.from) it ∙ from)) refl
  where
    it : back link ≡ ch
    it = cc

    at : (first second : Bool) → same_end (first_end link) e ≡ first → second ≡ true → same_end (second_end link) e ≡ second → (cond first (Some (forth link)) (cond second (Some (back link)) (out_of (channels more) e)) ≡ Some ch) × (cond first 0 (suc (cond second 0 (suc (number_out (channels more) e)))) ≡ 1)
    at true true same passes same' = absurd (let two : 2 ≤ uses_in link e = both_used (same_end e (first_end link)) (same_end e (second_end link)) (same_end_flip e (first_end link) ∙ same) (same_end_flip e (second_end link) ∙ same') in omega (arith, uses_more link more e, two, one))
    at false true same passes same' = (is, refl)
    at first false same passes same' = absurd (false≢true passes)
number_is (link ∷ more) e (suc (suc k)) ch one is from = at (same_end (first_end link) e) (same_end (second_end link) e) refl refl (λ few. number_is more e k ch few is from)
  where
    others : 1 ≤ uses_of more e
    others = uses_out more e k ch is from

    at : (first second : Bool) → same_end (first_end link) e ≡ first → same_end (second_end link) e ≡ second → (uses_of more e ≤ 1 → (out_of (channels more) e ≡ Some ch) × (number_out (channels more) e ≡ k)) → (cond first (Some (forth link)) (cond second (Some (back link)) (out_of (channels more) e)) ≡ Some ch) × (cond first 0 (suc (cond second 0 (suc (number_out (channels more) e)))) ≡ suc (suc k))
    at true second same same' rest = absurd (let here : 1 ≤ uses_in link e = used (same_end e (first_end link)) (same_end e (second_end link)) (same_end_flip e (first_end link) ∙ same) in omega (arith, uses_more link more e, here, others, one))
    at false true same same' rest = absurd (let here : 1 ≤ uses_in link e = used_too (same_end e (first_end link)) (same_end e (second_end link)) (same_end_flip e (second_end link) ∙ same') in omega (arith, uses_more link more e, here, others, one))
    at false false same same' rest = let found = rest (omega (arith, uses_more link more e, one)) in (found.0, ap (λ n. suc (suc n)) found.1)

equal_numbers : (x y : ℕ) → (x == y) ≡ true → x ≡ y
equal_numbers x y is = grind (arith, nat_tests)

number_test : (x y : ℕ) → x ≡ y → (x == y) ≡ true
number_test x y is = grind (arith, nat_tests)

-- the route out of a port in one link is along channel k where that channel is out of the port
pub leads_is : (links : List Link) (e : End) (k : ℕ) (ch : Channel) → uses_of links e ≤ 1 → slice_get (channels links) k ≡ Some ch → leads_on k (Some (route_from links e)) ≡ same_end ch.from e
leads_is links e k ch one is = at (same_end ch.from e) refl
  where
    other : (found : Option Channel) → out_of (channels links) e ≡ found → same_end ch.from e ≡ false → leads_on k (Some (option_map (route_along (number_out (channels links) e)) found)) ≡ false
    other None found differs = refl
    other (Some x) found differs = test (number_out (channels links) e == k) refl
      where
        test : (b : Bool) → (number_out (channels links) e == k) ≡ b → b ≡ false
        test false same = refl
        test true same =
            let number = found_number (channels links) e x found in
            let both : Some x ≡ Some ch = sym number.0 ∙ ap (slice_get (channels links)) (equal_numbers (number_out (channels links) e) k same) ∙ is in
            let it : x ≡ ch = cc in
            absurd (false≢true (sym differs ∙ itself ch.from e (ap (λ (y : Channel). y.from) (sym it) ∙ number.1)))

    at : (here : Bool) → same_end ch.from e ≡ here → leads_on k (Some (route_from links e)) ≡ here
    at true same = let found = number_is links e k ch one is (same_end_is ch.from e same) in ap (λ o. leads_on k (Some (option_map (route_along (number_out (channels links) e)) o))) found.0 ∙ number_test (number_out (channels links) e) k found.1
    at false differs = other (out_of (channels links) e) refl differs

-- each channel has an interval
pub channel_interval : (kinds : List (List PortKind)) (links : List Link) → All (Joins kinds) links → (k : ℕ) (ch : Channel) → slice_get (channels links) k ≡ Some ch → 1 ≤ ch.interval
channel_interval kinds [] joins k ch is = absurd cc
channel_interval kinds (link ∷ more) joins zero ch is = let it : forth link ≡ ch = cc in subst (λ (x : Channel). 1 ≤ x.interval) it (All-head (Joins kinds) link more joins).limits.some_interval
channel_interval kinds (link ∷ more) joins (suc zero) ch is = let it : back link ≡ ch = cc in subst (λ (x : Channel). 1 ≤ x.interval) it (All-head (Joins kinds) link more joins).limits.some_interval
channel_interval kinds (link ∷ more) joins (suc (suc k)) ch is = channel_interval kinds more (All-tail (Joins kinds) link more joins) k ch is

-- the port that sends on a channel is there
pub channel_kind : (kinds : List (List PortKind)) (links : List Link) → All (Joins kinds) links → (k : ℕ) (ch : Channel) → slice_get (channels links) k ≡ Some ch → IsSome (kind_at kinds ch.from)
channel_kind kinds [] joins k ch is = absurd cc
channel_kind kinds (link ∷ more) joins zero ch is = let it : forth link ≡ ch = cc in subst (λ (x : Channel). IsSome (kind_at kinds x.from)) it (All-head (Joins kinds) link more joins).ports.from_port
channel_kind kinds (link ∷ more) joins (suc zero) ch is = let it : back link ≡ ch = cc in subst (λ (x : Channel). IsSome (kind_at kinds x.from)) it (partnered (kind_at kinds (first_end link)) (kind_at kinds (second_end link)) (All-head (Joins kinds) link more joins).ports.from_port (All-head (Joins kinds) link more joins).ports.to_partner)
  where
    partnered : (first second : Option PortKind) → IsSome first → second ≡ option_map partner first → IsSome second
    partnered None second some is = absurd (false≢true some)
    partnered (Some kind) second some is = subst (λ o. IsSome o) (sym is) refl
channel_kind kinds (link ∷ more) joins (suc (suc k)) ch is = channel_kind kinds more (All-tail (Joins kinds) link more joins) k ch is
