use Rattle.std.proofs.Common.{ℕ, List, Result, Ok, Err}
use Rattle.std.specs.Prelude.{IfOk}
use Rattle.topology_file.specs.Full.{full}
use Rattle.topology_file.specs.Reading.{IsDocument, IsTopologyText}
use Rattle.load_gen.specs.Load.{IsLoad}
use Rattle.load_run.specs.Load.{IsLoadText}
use Rattle.topology_file.specs.declared.topology.Topology.{Topology}
use Rattle.load_run.proofs.run.load_text.Goals as goal

written : {E : Type 0} (n : ℕ) (t : Topology) → IsLoad n t → (r : Result (List ℕ) E) → IfOk r (λ text. IsDocument text (full t)) → IfOk r (λ text. IsTopologyText text t) → IfOk r (IsLoadText n)
written n t generated (Ok text) in_full spelled = record { topology = t; generated = generated; in_full = in_full; spelled = spelled }
written n t generated (Err bad) in_full spelled = tt

pub returns : goal.returns
returns c = written c.args.stations c.in_ok-topology.topology c.in_ok-topology.ensures c.print.result c.print.ensures.document c.print.ensures.read_again
