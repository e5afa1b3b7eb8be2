use Rattle.cs_base.specs.WireForms.{in_seen}
use Rattle.tcp_proxy.proofs.Filling.{filled_on}
use Rattle.tcp_proxy.proofs.tests.fill.Goals as goal

pub turn-requires : goal.turn-requires
turn-requires c = let f = c.loop.invariant in record { pushed = f.pushed; meets = f.meets }

pub loop-preserved : goal.loop-preserved
loop-preserved c = filled_on in_seen c.loop.proxy c.turn.new.self c.loop.queue c.turn.new.far c.in_ok-turn.field-0 c.in_ok-turn.ensures.turned c.loop.invariant
