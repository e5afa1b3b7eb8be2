use Rattle.std.proofs.Common.{map, ap, ◌∙◌}
use Rattle.mesh_core.specs.declared.way.Way.{Way}
use Rattle.run_threads.proofs.Begun.{froms_are, tos_are}
use Rattle.run_threads.proofs.stock.Stock.new.Goals as goal

pub returns-clause-froms : goal.returns-clause-froms
returns-clause-froms c = froms_are c.args.links.now c.in_ok-ways.ways.items c.in_ok-ways.ensures c.in_ok-froms.froms.items (c.in_ok-froms.ensures ∙ ap (map (λ (way : Way). way.from)) c.as_slice.ensures.value)

pub returns-clause-tos : goal.returns-clause-tos
returns-clause-tos c = tos_are c.args.links.now c.in_ok-ways.ways.items c.in_ok-ways.ensures c.in_ok-tos.tos.items (c.in_ok-tos.ensures ∙ ap (map (λ (way : Way). way.to)) c.as_slice-2.ensures.value)
