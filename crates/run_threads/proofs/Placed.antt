-- The parts of components, made and dealt one after another.
use Rattle.std.proofs.Common.{◌≡◌, ℕ, ◌+◌, ◌<◌, Bool, true, false, eqb, List, [], ◌∷◌, ◌++◌, ◌≤◌, length, map, All, Option, Some, refl, sym, ap, ◌∙◌, subst, arith, length-append}
use Rattle.std.specs.Prelude.{slice_get}
use Rattle.std.proofs.lemmas.Bool.{eqb-true, eqb-false}
use Rattle.std.proofs.lemmas.Option.{none-some, same_Some, slice_get_within}
use Rattle.cs_base.specs.declared.link.Link.{Link}
use Rattle.cs_base.specs.Plan.{End, IsPlan}
use Rattle.device_api.specs.Behaviour.{Behaviour, IsLawful}
use Rattle.device_api.specs.Channels.{Channel, channels}
use Rattle.mesh_core.specs.declared.way.Seat.{Seat}
use Rattle.mesh_core.specs.Start.{first_runner, queues_of}
use Rattle.mesh_core.specs.State.{seat_of}
use Rattle.run_laws.proofs.Lists.{there_below}
use Rattle.run_threads.proofs.Queued.{HasQueue, queue_at}
use Rattle.slot_queue.specs.Ends.{Named}
use Rattle.sync_laws.proofs.Changed.{get_mapped, mapped_at}
use Rattle.worker_rounds.specs.Rounds.{Work}
use Rattle.run_threads.specs.declared.part.Part.{Part}
use Rattle.run_threads.specs.Building.{IsPlaced, HaveParts, IsFirstPart, IsNewCrew}
use Rattle.run_threads.specs.CrewOf.{part_at, IsCrewOf}
use Rattle.run_threads.specs.Dealing.{AreDealt}
use Rattle.run_threads.specs.Queues.{as_empty, names_of}
use Rattle.run_threads.specs.Stock.{HasSide, HaveSides, froms_of, tos_of}
use Rattle.run_threads.proofs.Assembled.{at_worker, is_crew}
use Rattle.run_threads.proofs.Dealt.{get_last, get_other}
use Rattle.run_threads.proofs.Wires.{is_part_of}

module _ {V : Type 0} (b : Behaviour V) (starts : List V) (links : List Link) (end : ℕ) (wired : IsPlan end (map b.ports starts) links) (queues : List Named) (queues_are : map as_empty queues ≡ queues_of (map b.ports starts) links) where
  -- before any part is made, the sides of all channels are in their slots
  pub first_sides : {S : Type 0} (side_of : Named → S) (side : Channel → End) (sides : List S) (slots : List (Option S)) → sides ≡ map side_of queues → slots ≡ map Some sides → HaveSides side_of queues (map (λ (ch : Channel). seat_of (side ch)) (channels links)) slots 0
  first_sides {S} side_of side sides slots sides_are slots_are = record { each = each }
    where
      each : (number : ℕ) (one : Seat) → slice_get (map (λ (ch : Channel). seat_of (side ch)) (channels links)) number ≡ Some one → 0 ≤ one.component → HasSide side_of queues slots number
      each number one at low =
          let found = mapped_at (λ (ch : Channel). seat_of (side ch)) (channels links) (map (λ (ch : Channel). seat_of (side ch)) (channels links)) number one refl at in
          let has : HasQueue (map b.ports starts) links number found.0 = queue_at b starts links end wired number found.0 found.1 in
          let named = mapped_at as_empty queues (queues_of (map b.ports starts) links) number has.queue queues_are has.there in
          record { queue = named.0; named = named.1; there = ap (λ l. slice_get l number) (slots_are ∙ ap (map Some) sides_are) ∙ get_mapped Some (map side_of queues) number (side_of named.0) (get_mapped side_of queues number named.0 named.1) }

module _ {V : Type 0} (b : Behaviour V) (settled : V → ℕ → Type 0) (lawful : IsLawful b settled) (starts : List V) (links : List Link) (end : ℕ) (wired : IsPlan end (map b.ports starts) links) (at_start : All (λ (device : V). settled device 0) starts) (nears fars : List Named) (nears_are : map as_empty nears ≡ queues_of (map b.ports starts) links) (fars_are : map as_empty fars ≡ queues_of (map b.ports starts) links) where
  pub no_parts : (workers : List (Work (Part V))) → AreDealt workers [] → HaveParts b starts links end nears fars 0 workers
  no_parts workers dealt = record { parts = []; as_many = refl; dealt = dealt; each = λ c start part at got. absurd (none-some part got) }

  pub part_more : (count : ℕ) (start : V) (old new : List (Work (Part V))) → slice_get starts count ≡ Some start → HaveParts b starts links end nears fars count old → IsPlaced nears fars (froms_of links) (tos_of links) count (length (b.ports start)) (first_runner b links end count start) old new → HaveParts b starts links end nears fars (count + 1) new
  part_more count start old new here so_far placed = record {
    parts = so_far.parts ++ placed.part ∷ [];
    as_many = length-append so_far.parts (placed.part ∷ []) ∙ ap (λ n. n + 1) so_far.as_many;
    dealt = placed.dealt so_far.parts so_far.as_many so_far.dealt;
    each = λ c s part at got. by c s part at got (eqb c count) refl;
  }
    where
      by : (c : ℕ) (s : V) (part : Part V) → slice_get starts c ≡ Some s → slice_get (so_far.parts ++ placed.part ∷ []) c ≡ Some part → (o : Bool) → eqb c count ≡ o → IsFirstPart b links end nears fars c s part
      by c s part at got true e =
          let is : c ≡ count = eqb-true c count e in
          let same_start : start ≡ s = same_Some start s (sym here ∙ ap (slice_get starts) (sym is) ∙ at) in
          let same_part : placed.part ≡ part = same_Some placed.part part (sym (get_last so_far.parts placed.part) ∙ ap (slice_get (so_far.parts ++ placed.part ∷ [])) (so_far.as_many ∙ sym is) ∙ got) in
          subst (λ p. IsFirstPart b links end nears fars c s p) same_part (subst (λ x. IsFirstPart b links end nears fars c x placed.part) same_start (subst (λ n. IsFirstPart b links end nears fars n start placed.part) (sym is) placed.made))
      by c s part at got false e = so_far.each c s part at (sym (get_other so_far.parts placed.part c (λ same. eqb-false c count e (same ∙ so_far.as_many))) ∙ got)

  pub all_parts : (count : ℕ) (workers : List (Work (Part V))) → HaveParts b starts links end nears fars count workers → count ≡ length starts → IsCrewOf b settled starts links end (names_of nears) (names_of fars) workers
  all_parts count workers have all = is_crew b settled starts links end (names_of nears) (names_of fars) workers have.parts have.dealt (have.as_many ∙ all) (λ c start part at got. is_part_of b starts links end wired c start at settled lawful at_start nears fars nears_are fars_are part (have.each c start part at got)) wired

  pub all_new : (count : ℕ) (workers : List (Work (Part V))) → HaveParts b starts links end nears fars count workers → count ≡ length starts → IsNewCrew b starts links end nears fars workers
  all_new count workers have all = record { each = each }
    where
      each : (c : ℕ) (start : V) (part : Part V) → slice_get starts c ≡ Some start → part_at workers c ≡ Some part → IsFirstPart b links end nears fars c start part
      each c start part at there =
          let many : length have.parts ≡ length starts = have.as_many ∙ all in
          let within : c < length starts = slice_get_within starts c start at in
          let one = there_below have.parts c (omega (arith, many)) in
          subst (IsFirstPart b links end nears fars c start) (same_Some one.0 part (sym (at_worker workers have.parts have.dealt c one.0 one.1) ∙ there)) (have.each c start one.0 at one.1)
