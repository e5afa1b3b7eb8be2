-- The parts of all components of a wiring, made in turn.
use Rattle.std.proofs.Common.{◌≡◌, ℕ, ◌+◌, ◌*◌, ◌<◌, ◌≤◌, List, [], ◌∷◌, length, map, All, Some, refl, sym, ap, ◌∙◌, subst, arith}
use Rattle.std.specs.Prelude.{slice_get}
use Rattle.std.proofs.lemmas.List.{length-map}
use Rattle.std.proofs.lemmas.Option.{slice_get_within}
use Rattle.cs_base.specs.declared.link.Link.{Link}
use Rattle.cs_base.specs.declared.port_kind.PortKind.{PortKind}
use Rattle.cs_base.specs.Plan.{End, IsPlan}
use Rattle.device_api.specs.Behaviour.{Behaviour, IsLawful}
use Rattle.device_api.specs.Channels.{Channel, channels}
use Rattle.mesh_core.specs.declared.way.Seat.{Seat}
use Rattle.mesh_core.specs.Start.{first_runners, queues_of}
use Rattle.mesh_core.specs.State.{seat_of}
use Rattle.slot_queue.specs.Ends.{Named}
use Rattle.sync_rule.specs.declared.runner.Runner.{Runner}
use Rattle.worker_rounds.specs.Rounds.{Work}
use Rattle.run_threads.specs.declared.part.Part.{Part}
use Rattle.run_threads.specs.Building.{IsPlaced, HaveParts, IsNewCrew, starts_of}
use Rattle.run_threads.specs.CrewOf.{IsCrewOf}
use Rattle.run_threads.specs.Dealing.{AreDealt}
use Rattle.run_threads.specs.Numbers.{HaveNumbers}
use Rattle.run_threads.specs.Queues.{as_empty, names_of}
use Rattle.run_threads.specs.Stock.{froms_of, tos_of}
use Rattle.run_threads.proofs.InTurn.{start_there, is_first, kinds_there}
use Rattle.run_threads.proofs.Placed.{no_parts, part_more, all_parts, all_new}
use Rattle.run_threads.proofs.Wires.{have_froms, have_tos}

as_many_channels : (links : List Link) → length (channels links) ≡ 2 * length links
as_many_channels [] = refl
as_many_channels (link ∷ more) = let rest = as_many_channels more in omega (arith, rest)

module _ {V : Type 0} (b : Behaviour V) (settled : V → ℕ → Type 0) (kinds : List (List PortKind)) (links : List Link) (end : ℕ) (wired : IsPlan end kinds links) (all : List (Runner V)) (new : all ≡ first_runners b links end (starts_of all)) (matches : map b.ports (starts_of all) ≡ kinds) where
  abbrev starts : List V
  starts = starts_of all

  wired_so : IsPlan end (map b.ports starts) links
  wired_so = subst (λ k. IsPlan end k links) (sym matches) wired

  pub within_kinds : (c : ℕ) (r : Runner V) → slice_get all c ≡ Some r → c < length kinds
  within_kinds c r there = slice_get_within kinds c (b.ports r.device) (kinds_there b links end all new c r there kinds matches)

  pub few_kinds : length kinds ≤ 64
  few_kinds = wired.sized.few_components

  few_seats : (side : Channel → End) (seats : List Seat) → seats ≡ map (λ (ch : Channel). seat_of (side ch)) (channels links) → length seats ≤ 2048
  few_seats side seats are = (let many : length seats ≡ 2 * length links = ap length are ∙ length-map (channels links) (λ (ch : Channel). seat_of (side ch)) ∙ as_many_channels links in let few : length links ≤ 1024 = wired.sized.few_links in omega arith)

  pub few_both : (froms tos : List Seat) → froms ≡ froms_of links → tos ≡ tos_of links → (length froms ≤ 2048) × (length tos ≤ 2048)
  few_both froms tos froms_are tos_are = (few_seats (λ ch. ch.from) froms froms_are, few_seats (λ ch. ch.to) tos tos_are)

  pub froms_there : (c : ℕ) (r : Runner V) → slice_get all c ≡ Some r → (ports : ℕ) → ports ≡ length (b.ports r.device) → (froms : List Seat) → froms ≡ froms_of links → HaveNumbers froms c ports
  froms_there c r there ports is froms froms_are = subst (λ seats. HaveNumbers seats c ports) (sym froms_are) (subst (HaveNumbers (froms_of links) c) (sym is) (have_froms b starts links end wired_so c r.device (start_there b links end all new c r there)))

  pub tos_there : (c : ℕ) (r : Runner V) → slice_get all c ≡ Some r → (ports : ℕ) → ports ≡ length (b.ports r.device) → (tos : List Seat) → tos ≡ tos_of links → HaveNumbers tos c ports
  tos_there c r there ports is tos tos_are = subst (λ seats. HaveNumbers seats c ports) (sym tos_are) (subst (HaveNumbers (tos_of links) c) (sym is) (have_tos b starts links end wired_so c r.device (start_there b links end all new c r there)))

  module _ (lawful : IsLawful b settled) (at_start : All (λ (device : V). settled device 0) starts) (nears fars : List Named) (nears_are : map as_empty nears ≡ queues_of kinds links) (fars_are : map as_empty fars ≡ queues_of kinds links) where
    as_asked : (queues : List Named) → map as_empty queues ≡ queues_of kinds links → map as_empty queues ≡ queues_of (map b.ports starts) links
    as_asked queues are = are ∙ ap (λ k. queues_of k links) (sym matches)

    pub none_made : (workers : List (Work (Part V))) → AreDealt workers [] → HaveParts b starts links end nears fars 0 workers
    none_made workers dealt = no_parts b settled lawful starts links end wired_so at_start nears fars (as_asked nears nears_are) (as_asked fars fars_are) workers dealt

    pub one_made : (c : ℕ) (r : Runner V) → slice_get all c ≡ Some r → (ports : ℕ) → ports ≡ length (b.ports r.device) → (froms tos : List Seat) → froms ≡ froms_of links → tos ≡ tos_of links → (before after : List (Work (Part V))) → HaveParts b starts links end nears fars c before → IsPlaced nears fars froms tos c ports r before after → HaveParts b starts links end nears fars (c + 1) after
    one_made c r there ports is froms tos froms_are tos_are before after so_far placed =
        let by_froms : IsPlaced nears fars (froms_of links) tos c ports r before after = subst (λ seats. IsPlaced nears fars seats tos c ports r before after) froms_are placed in
        let by_tos : IsPlaced nears fars (froms_of links) (tos_of links) c ports r before after = subst (λ seats. IsPlaced nears fars (froms_of links) seats c ports r before after) tos_are by_froms in
        let by_ports : IsPlaced nears fars (froms_of links) (tos_of links) c (length (b.ports r.device)) r before after = subst (λ n. IsPlaced nears fars (froms_of links) (tos_of links) c n r before after) is by_tos in
        part_more b settled lawful starts links end wired_so at_start nears fars (as_asked nears nears_are) (as_asked fars fars_are) c r.device before after (start_there b links end all new c r there) so_far (subst (λ x. IsPlaced nears fars (froms_of links) (tos_of links) c (length (b.ports r.device)) x before after) (is_first b links end all new c r there) by_ports)

    pub all_made : (count : ℕ) (workers : List (Work (Part V))) → HaveParts b starts links end nears fars count workers → count ≡ length all → IsCrewOf b settled starts links end (names_of nears) (names_of fars) workers
    all_made count workers have is = all_parts b settled lawful starts links end wired_so at_start nears fars (as_asked nears nears_are) (as_asked fars fars_are) count workers have (is ∙ sym (length-map all (λ r. r.device)))

    pub all_unused : (count : ℕ) (workers : List (Work (Part V))) → HaveParts b starts links end nears fars count workers → count ≡ length all → IsNewCrew b starts links end nears fars workers
    all_unused count workers have is = all_new b settled lawful starts links end wired_so at_start nears fars (as_asked nears nears_are) (as_asked fars fars_are) count workers have (is ∙ sym (length-map all (λ r. r.device)))
