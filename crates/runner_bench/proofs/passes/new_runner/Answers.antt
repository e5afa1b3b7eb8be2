use Rattle.runner_bench.proofs.Standing.{starts_ready}
use Rattle.runner_bench.proofs.passes.new_runner.Goals as goal

pub returns : goal.returns
returns c = starts_ready c.a_new_runner_stands.ensures c.what_stands_is_ready_throughout.ensures c.new-2.result c.ticker_alone.result c.new.result.items c.end_of.result c.ticker_alone.ensures c.new.ensures.items c.end_of.ensures.1 c.new-2.ensures
