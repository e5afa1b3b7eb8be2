use Rattle.std.proofs.Common.{ℕ, ◌<◌, [], ◌∷◌, refl, rules}
use Rattle.std.proofs.lemmas.List.Elements.{All-from_recursion}
use Rattle.topology_file.proofs.mac.six_pairs.Goals as goal

pub invariant_of-result : goal.invariant_of-result
invariant_of-result c =
    let a : c.in_ok-a.a < 256 = search rules in
    let b : c.in_ok-b.b < 256 = search rules in
    let c3 : c.in_ok-c.c < 256 = search rules in
    let d : c.in_ok-d.d < 256 = search rules in
    let e : c.in_ok-e.e < 256 = search rules in
    let f : c.in_ok-f.f < 256 = search rules in
    record {
      six = refl;
      bytes = All-from_recursion (λ (byte : ℕ). byte < 256) (c.in_ok-a.a ∷ c.in_ok-b.b ∷ c.in_ok-c.c ∷ c.in_ok-d.d ∷ c.in_ok-e.e ∷ c.in_ok-f.f ∷ []) (a, (b, (c3, (d, (e, (f, tt))))));
    }
