use Rattle.std.proofs.Common.{map, ap, sym, ◌∙◌, subst, rules}
use Rattle.std.proofs.lemmas.List.{with_items_is, places}
use Rattle.mesh_core.specs.Start.{first_runners}
use Rattle.run_threads.specs.Building.{IsNewCrew}
use Rattle.run_threads.specs.CrewOf.{IsCrewOf}
use Rattle.run_threads.specs.Dealing.{AreNumbered}
use Rattle.run_threads.specs.Queues.{names_of}
use Rattle.run_threads.specs.Stock.{froms_of, tos_of}
use Rattle.run_threads.proofs.Begun.{none_dealt, are_numbered, starts_are, are_first, matches_so, at_start_so, senders_there, receivers_there}
use Rattle.run_threads.proofs.build.workers_of.Goals as goal

pub runners_of-requires-clause-joined : goal.runners_of-requires-clause-joined
runners_of-requires-clause-joined g c = search rules

pub deal_all-requires-clause-first : goal.deal_all-requires-clause-first
deal_all-requires-clause-first g c = are_first g.V.Device.behaviour g.V.Device.settled c.args.wiring.now.links c.args.wiring.now.end c.args.devices.items c.in_ok-runners.runners.items (c.in_ok-runners.ensures ∙ ap (λ l. first_runners g.V.Device.behaviour l c.args.wiring.now.end c.args.devices.items) c.as_slice-links.ensures)

pub deal_all-requires-clause-matches : goal.deal_all-requires-clause-matches
deal_all-requires-clause-matches g c = matches_so g.V.Device.behaviour g.V.Device.settled c.args.wiring.now.links c.args.wiring.now.end c.args.devices.items c.in_ok-runners.runners.items (c.in_ok-runners.ensures ∙ ap (λ l. first_runners g.V.Device.behaviour l c.args.wiring.now.end c.args.devices.items) c.as_slice-links.ensures) c.args.wiring.now.kinds c.requires.matches c.requires.at_start

pub deal_all-requires-clause-at_start : goal.deal_all-requires-clause-at_start
deal_all-requires-clause-at_start g c = at_start_so g.V.Device.behaviour g.V.Device.settled c.args.wiring.now.links c.args.wiring.now.end c.args.devices.items c.in_ok-runners.runners.items (c.in_ok-runners.ensures ∙ ap (λ l. first_runners g.V.Device.behaviour l c.args.wiring.now.end c.args.devices.items) c.as_slice-links.ensures) c.args.wiring.now.kinds c.requires.matches c.requires.at_start

pub deal_all-requires-clause-froms : goal.deal_all-requires-clause-froms
deal_all-requires-clause-froms g c = c.in_ok-stock.ensures.froms ∙ ap froms_of c.as_slice-links.ensures

pub deal_all-requires-clause-tos : goal.deal_all-requires-clause-tos
deal_all-requires-clause-tos g c = c.in_ok-stock.ensures.tos ∙ ap tos_of c.as_slice-links.ensures

pub deal_all-requires-clause-senders : goal.deal_all-requires-clause-senders
deal_all-requires-clause-senders g c = senders_there g.V.Device.behaviour c.args.devices.items c.args.wiring.now.kinds c.args.wiring.now.links c.args.wiring.now.end c.args.wiring.now.valid c.requires.matches (map (λ queue. queue.now) c.args.nears.now) c.requires.nears c.args.senders.items c.requires.senders c.in_ok-stock.stock.froms.items (c.in_ok-stock.ensures.froms ∙ ap froms_of c.as_slice-links.ensures) c.in_ok-stock.stock.senders.items c.in_ok-stock.ensures.senders

pub deal_all-requires-clause-receivers : goal.deal_all-requires-clause-receivers
deal_all-requires-clause-receivers g c = receivers_there g.V.Device.behaviour c.args.devices.items c.args.wiring.now.kinds c.args.wiring.now.links c.args.wiring.now.end c.args.wiring.now.valid c.requires.matches (map (λ queue. queue.now) c.args.fars.now) c.requires.fars c.args.receivers.items c.requires.receivers c.in_ok-stock.stock.tos.items (c.in_ok-stock.ensures.tos ∙ ap tos_of c.as_slice-links.ensures) c.in_ok-stock.stock.receivers.items c.in_ok-stock.ensures.receivers

pub deal_all-requires-clause-workers : goal.deal_all-requires-clause-workers
deal_all-requires-clause-workers g c = none_dealt c.args.workers c.as_mut_slice.result.now c.requires.some_worker (search rules)

pub returns-clause-crew : goal.returns-clause-crew
returns-clause-crew g c =
    let items = with_items_is c.in_ok-made.made c.deal_all.new.workers (search (rules, places)) in
    let starts = starts_are g.V.Device.behaviour g.V.Device.settled c.args.wiring.now.links c.args.wiring.now.end c.args.devices.items c.in_ok-runners.runners.items (c.in_ok-runners.ensures ∙ ap (λ l. first_runners g.V.Device.behaviour l c.args.wiring.now.end c.args.devices.items) c.as_slice-links.ensures) in
    subst (IsCrewOf g.V.Device.behaviour g.V.Device.settled c.args.devices.items c.args.wiring.now.links c.args.wiring.now.end (names_of (map (λ queue. queue.now) c.args.nears.now)) (names_of (map (λ queue. queue.now) c.args.fars.now))) (sym items) (subst (λ l. IsCrewOf g.V.Device.behaviour g.V.Device.settled l c.args.wiring.now.links c.args.wiring.now.end (names_of (map (λ queue. queue.now) c.args.nears.now)) (names_of (map (λ queue. queue.now) c.args.fars.now)) c.deal_all.new.workers) starts c.in_ok-deal_all.ensures.crew)

pub returns-clause-fresh : goal.returns-clause-fresh
returns-clause-fresh g c =
    let items = with_items_is c.in_ok-made.made c.deal_all.new.workers (search (rules, places)) in
    let starts = starts_are g.V.Device.behaviour g.V.Device.settled c.args.wiring.now.links c.args.wiring.now.end c.args.devices.items c.in_ok-runners.runners.items (c.in_ok-runners.ensures ∙ ap (λ l. first_runners g.V.Device.behaviour l c.args.wiring.now.end c.args.devices.items) c.as_slice-links.ensures) in
    subst (IsNewCrew g.V.Device.behaviour c.args.devices.items c.args.wiring.now.links c.args.wiring.now.end (map (λ queue. queue.now) c.args.nears.now) (map (λ queue. queue.now) c.args.fars.now)) (sym items) (subst (λ l. IsNewCrew g.V.Device.behaviour l c.args.wiring.now.links c.args.wiring.now.end (map (λ queue. queue.now) c.args.nears.now) (map (λ queue. queue.now) c.args.fars.now) c.deal_all.new.workers) starts c.in_ok-deal_all.ensures.fresh)

pub returns-clause-numbered : goal.returns-clause-numbered
returns-clause-numbered g c =
    let items = with_items_is c.in_ok-made.made c.deal_all.new.workers (search (rules, places)) in
    subst AreNumbered (sym items) (c.in_ok-deal_all.ensures.numbered (are_numbered c.args.workers c.as_mut_slice.result.now (search rules)))
