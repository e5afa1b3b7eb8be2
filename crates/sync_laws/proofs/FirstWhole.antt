-- Runners at their starts stand as a whole.
use Rattle.std.proofs.Common.{◌≡◌, ℕ, ◌≤◌, ◌<◌, ◌^◌, List, [], Some, None, refl, sym, ap, subst}
use Rattle.std.specs.Prelude.{slice_get}
use Rattle.device_api.specs.Behaviour.{IsLawful}
use Rattle.device_api.specs.World.{Network}
use Rattle.run_laws.proofs.Lists.{there_below}
use Rattle.std.proofs.lemmas.Option.{slice_get_within}
use Rattle.sync_rule.specs.declared.runner.Runner.{Runner}
use Rattle.sync_laws.specs.Stands.{Stands}
use Rattle.sync_laws.specs.Whole.{IsWhole, IsStarted, AreStarted}
use Rattle.sync_laws.proofs.Started.{new_stands}

pub start_whole : {V : Type 0} (net : Network V) (settled : V → ℕ → Type 0) → IsLawful net.behaviour settled → (end : ℕ) (runners : List (Runner V)) → end ≤ 10 ^ 15 → AreStarted net settled end runners → IsWhole net settled end (λ c. None) (λ at. []) (λ at. []) (λ at. []) runners
start_whole {V} net settled lawful end runners short are = record {
  as_many = are.as_many;
  ends = λ c r is. let there : (start : V) × (slice_get net.starts c ≡ Some start) = there_below net.starts c (subst (λ n. c < n) are.as_many (slice_get_within runners c r is)) in ap (λ (x : Runner V). x.end) (are.started c there.0 r there.1 is).is;
  standing = λ c start r starts is. let first : IsStarted net.behaviour settled end start r = are.started c start r starts is in subst (Stands net.behaviour settled start None (λ port. []) (λ port. [])) (sym first.is) (new_stands net.behaviour settled lawful start end first.plans first.settled_then short first.kinds first.planned);
  joined = λ k ch is. record { between = refl; sender = are.sender k ch is; receiver = are.receiver k ch is };
}
