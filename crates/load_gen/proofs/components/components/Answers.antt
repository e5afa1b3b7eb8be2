use Rattle.std.proofs.Common.{map}
use Rattle.load_gen.specs.Load.{member_of, below, host, adapter}
use Rattle.load_gen.proofs.Growing.{one_more, one_more_behind, mapped}
use Rattle.load_gen.proofs.components.components.Goals as goal

pub hosts-preserved : goal.hosts-preserved
hosts-preserved c =
    one_more host c.hosts.number (map member_of c.hosts.components) (map member_of c.push.new.self) (member_of c.in_ok-host.field-0) c.hosts.invariant
    (mapped member_of c.hosts.components c.push.new.self c.in_ok-host.field-0 c.in_ok-push.ensures.ok) c.in_ok-host.ensures

pub adapters-preserved : goal.adapters-preserved
adapters-preserved c =
    one_more_behind adapter c.adapters.number (map host (below c.args.n)) (map member_of c.adapters.components) (map member_of c.push-in-adapters.new.self) (member_of c.in_ok-adapter.field-0) c.adapters.invariant
    (mapped member_of c.adapters.components c.push-in-adapters.new.self c.in_ok-adapter.field-0 c.in_ok-push-2.ensures.ok) c.in_ok-adapter.ensures
