use Rattle.std.proofs.Common.{map, rules, ◌≤◌, ◌≡◌, ◌<◌, length, reverse, refl, sym, ap, ◌∙◌, arith}
use Rattle.std.specs.Prelude.{slice_get}
use Rattle.run_threads.proofs.SeatsTaken.{same_element}
use Rattle.run_threads.specs.Stock.{froms_of, tos_of}
use Rattle.run_threads.proofs.InTurn.{none_taken, next_there, one_taken, all_taken, kinds_there}
use Rattle.run_threads.proofs.InAll.{within_kinds, few_kinds, froms_there, tos_there, few_both, none_made, one_made, all_made, all_unused}
use Rattle.run_threads.proofs.build.deal_all.Goals as goal

pub runners-init : goal.runners-init
runners-init g c = record {
  taken = none_taken c.args.runners.items _ (c.reverse.ensures ∙ ap reverse c.from_vec-left.ensures);
  parts = none_made g.V.Device.behaviour g.V.Device.settled c.args.wiring.now.kinds c.args.wiring.now.links c.args.wiring.now.end c.args.wiring.now.valid c.args.runners.items c.requires.first c.requires.matches g.met.V.Device.lawful c.requires.at_start (map (λ queue. queue.now) c.args.nears.now) (map (λ queue. queue.now) c.args.fars.now) c.requires.nears c.requires.fars c.args.workers.now c.requires.workers;
  numbered = λ numbered. numbered;
  froms = refl;
  tos = refl;
  senders = c.requires.senders;
  receivers = c.requires.receivers;
}

pub place-requires-clause-froms : goal.place-requires-clause-froms
place-requires-clause-froms g c =
    let there = next_there c.args.runners.items c.runners.component c.runners.left c.pop.new.self c.in-Some.runner c.runners.invariant.taken c.in-Some.ensures.last in
    let is : c.len-ports.result ≡ length (g.V.Device.behaviour.ports c.in-Some.runner.device) = c.len-ports.ensures ∙ ap length (sym (same_element c.as_slice.result.now c.runners.component (g.V.Device.behaviour.ports c.in-Some.runner.device) c.index-as_slice-component.result (ap (λ l. slice_get l c.runners.component) c.as_slice.ensures ∙ kinds_there g.V.Device.behaviour c.args.wiring.now.links c.args.wiring.now.end c.args.runners.items c.requires.first c.runners.component c.in-Some.runner there c.args.wiring.now.kinds c.requires.matches) c.index-as_slice-component.is)) in
    let froms_are : c.runners.stock.froms.items ≡ froms_of c.args.wiring.now.links = search rules in
    let tos_are : c.runners.stock.tos.items ≡ tos_of c.args.wiring.now.links = search rules in
    froms_there g.V.Device.behaviour g.V.Device.settled c.args.wiring.now.kinds c.args.wiring.now.links c.args.wiring.now.end c.args.wiring.now.valid c.args.runners.items c.requires.first c.requires.matches c.runners.component c.in-Some.runner there c.len-ports.result is c.runners.stock.froms.items froms_are

pub place-requires-clause-tos : goal.place-requires-clause-tos
place-requires-clause-tos g c =
    let there = next_there c.args.runners.items c.runners.component c.runners.left c.pop.new.self c.in-Some.runner c.runners.invariant.taken c.in-Some.ensures.last in
    let is : c.len-ports.result ≡ length (g.V.Device.behaviour.ports c.in-Some.runner.device) = c.len-ports.ensures ∙ ap length (sym (same_element c.as_slice.result.now c.runners.component (g.V.Device.behaviour.ports c.in-Some.runner.device) c.index-as_slice-component.result (ap (λ l. slice_get l c.runners.component) c.as_slice.ensures ∙ kinds_there g.V.Device.behaviour c.args.wiring.now.links c.args.wiring.now.end c.args.runners.items c.requires.first c.runners.component c.in-Some.runner there c.args.wiring.now.kinds c.requires.matches) c.index-as_slice-component.is)) in
    let froms_are : c.runners.stock.froms.items ≡ froms_of c.args.wiring.now.links = search rules in
    let tos_are : c.runners.stock.tos.items ≡ tos_of c.args.wiring.now.links = search rules in
    tos_there g.V.Device.behaviour g.V.Device.settled c.args.wiring.now.kinds c.args.wiring.now.links c.args.wiring.now.end c.args.wiring.now.valid c.args.runners.items c.requires.first c.requires.matches c.runners.component c.in-Some.runner there c.len-ports.result is c.runners.stock.tos.items tos_are

pub place-requires-clause-few : goal.place-requires-clause-few
place-requires-clause-few g c =
    let froms_are : c.runners.stock.froms.items ≡ froms_of c.args.wiring.now.links = search rules in
    let tos_are : c.runners.stock.tos.items ≡ tos_of c.args.wiring.now.links = search rules in
    few_both g.V.Device.behaviour g.V.Device.settled c.args.wiring.now.kinds c.args.wiring.now.links c.args.wiring.now.end c.args.wiring.now.valid c.args.runners.items c.requires.first c.requires.matches c.runners.stock.froms.items c.runners.stock.tos.items froms_are tos_are

pub overflow_add-component : goal.overflow_add-component
overflow_add-component g c =
    let there = next_there c.args.runners.items c.runners.component c.runners.left c.pop.new.self c.in-Some.runner c.runners.invariant.taken c.in-Some.ensures.last in
    let below : c.runners.component < length c.args.wiring.now.kinds = within_kinds g.V.Device.behaviour g.V.Device.settled c.args.wiring.now.kinds c.args.wiring.now.links c.args.wiring.now.end c.args.wiring.now.valid c.args.runners.items c.requires.first c.requires.matches c.runners.component c.in-Some.runner there in
    let few : length c.args.wiring.now.kinds ≤ 64 = few_kinds g.V.Device.behaviour g.V.Device.settled c.args.wiring.now.kinds c.args.wiring.now.links c.args.wiring.now.end c.args.wiring.now.valid c.args.runners.items c.requires.first c.requires.matches in
    omega arith

pub runners-preserved : goal.runners-preserved
runners-preserved g c =
    let there = next_there c.args.runners.items c.runners.component c.runners.left c.pop.new.self c.in-Some.runner c.runners.invariant.taken c.in-Some.ensures.last in
    let is : c.len-ports.result ≡ length (g.V.Device.behaviour.ports c.in-Some.runner.device) = c.len-ports.ensures ∙ ap length (sym (same_element c.as_slice.result.now c.runners.component (g.V.Device.behaviour.ports c.in-Some.runner.device) c.index-as_slice-component.result (ap (λ l. slice_get l c.runners.component) c.as_slice.ensures ∙ kinds_there g.V.Device.behaviour c.args.wiring.now.links c.args.wiring.now.end c.args.runners.items c.requires.first c.runners.component c.in-Some.runner there c.args.wiring.now.kinds c.requires.matches) c.index-as_slice-component.is)) in
    let froms_are : c.runners.stock.froms.items ≡ froms_of c.args.wiring.now.links = search rules in
    let tos_are : c.runners.stock.tos.items ≡ tos_of c.args.wiring.now.links = search rules in
    record {
      taken = one_taken c.args.runners.items c.runners.component c.runners.left c.pop.new.self c.in-Some.runner c.runners.invariant.taken c.in-Some.ensures.last;
      parts = one_made g.V.Device.behaviour g.V.Device.settled c.args.wiring.now.kinds c.args.wiring.now.links c.args.wiring.now.end c.args.wiring.now.valid c.args.runners.items c.requires.first c.requires.matches g.met.V.Device.lawful c.requires.at_start (map (λ queue. queue.now) c.args.nears.now) (map (λ queue. queue.now) c.args.fars.now) c.requires.nears c.requires.fars c.runners.component c.in-Some.runner there c.len-ports.result is c.runners.stock.froms.items c.runners.stock.tos.items froms_are tos_are c.runners.workers c.place.new.workers c.runners.invariant.parts c.in_ok-place.ensures.placed;
      numbered = λ numbered. c.in_ok-place.ensures.numbered (c.runners.invariant.numbered numbered);
      froms = c.in_ok-place.ensures.froms ∙ c.runners.invariant.froms;
      tos = c.in_ok-place.ensures.tos ∙ c.runners.invariant.tos;
      senders = search rules;
      receivers = search rules;
    }

pub returns-clause-crew : goal.returns-clause-crew
returns-clause-crew g c = all_made g.V.Device.behaviour g.V.Device.settled c.args.wiring.now.kinds c.args.wiring.now.links c.args.wiring.now.end c.args.wiring.now.valid c.args.runners.items c.requires.first c.requires.matches g.met.V.Device.lawful c.requires.at_start (map (λ queue. queue.now) c.args.nears.now) (map (λ queue. queue.now) c.args.fars.now) c.requires.nears c.requires.fars c.runners.component c.runners.workers c.runners.invariant.parts (all_taken c.args.runners.items c.runners.component c.runners.left c.runners.invariant.taken c.in_default.ensures.none)

pub returns-clause-fresh : goal.returns-clause-fresh
returns-clause-fresh g c = all_unused g.V.Device.behaviour g.V.Device.settled c.args.wiring.now.kinds c.args.wiring.now.links c.args.wiring.now.end c.args.wiring.now.valid c.args.runners.items c.requires.first c.requires.matches g.met.V.Device.lawful c.requires.at_start (map (λ queue. queue.now) c.args.nears.now) (map (λ queue. queue.now) c.args.fars.now) c.requires.nears c.requires.fars c.runners.component c.runners.workers c.runners.invariant.parts (all_taken c.args.runners.items c.runners.component c.runners.left c.runners.invariant.taken c.in_default.ensures.none)
