use Rattle.std.proofs.Common.{◌≡◌, ℕ, Bool, true, not, ap, sym, ◌∙◌}
use Rattle.topology_file.specs.Links.{is_free}
use Rattle.topology_file.proofs.FreePorts.{passed_one}
use Rattle.topology_file.proofs.free_ports.are_joined.Goals as goal

pub loop-port-preserved : goal.loop-port-preserved
loop-port-preserved c =
    let test : ℕ → Bool = λ port. not (is_free c.args.joined.now.links (record { component = c.args.component; port = port })) in
    let passed : test c.loop-port.port ≡ true = ap not (sym c.is_free.ensures ∙ c.if-is_free.false) in
    sym (passed_one test c.loop-port.port c.args.count c.loop-port-test.true passed) ∙ c.loop-port.invariant
