-- Workers to which the parts of all components are dealt are a crew of the system.
use Rattle.std.proofs.Common.{◌≡◌, ℕ, zero, suc, ◌+◌, ◌*◌, ◌/◌, ◌%◌, ◌<◌, List, [], ◌∷◌, length, get_or, map, All, Some, refl, sym, ap, ◌∙◌, arith}
use Rattle.std.specs.Prelude.{slice_get}
use Rattle.std.proofs.Math.Nat.{mod-add-div'}
use Rattle.std.proofs.lemmas.List.Elements.{All-nil, All-cons}
use Rattle.std.proofs.lemmas.Nat.{mod_below}
use Rattle.std.proofs.lemmas.Option.{slice_get-get_or, slice_get_within}
use Rattle.atomic_table.specs.Seated.{TableId}
use Rattle.cs_base.specs.declared.link.Link.{Link}
use Rattle.cs_base.specs.Plan.{IsPlan}
use Rattle.device_api.specs.Behaviour.{Behaviour}
use Rattle.run_laws.proofs.Lists.{there_below}
use Rattle.worker_rounds.specs.Rounds.{Work, IsSound}
use Rattle.run_threads.specs.declared.part.Part.{Part}
use Rattle.run_threads.specs.CrewOf.{members_of, part_at, IsPartOf, IsCrewOf}
use Rattle.run_threads.specs.Dealing.{AreDealt}
use Rattle.run_threads.specs.Parts.{PartFits}

each_is : {X : Type 0} (P : X → Type 0) (xs : List X) → ((i : ℕ) (x : X) → slice_get xs i ≡ Some x → P x) → All P xs
each_is P [] each = All-nil P
each_is P (x ∷ xs) each = All-cons P x xs (each zero x refl) (each_is P xs (λ i y is. each (suc i) y is))

pub at_worker : {V : Type 0} (workers : List (Work (Part V))) (parts : List (Part V)) → AreDealt workers parts → (c : ℕ) (part : Part V) → slice_get parts c ≡ Some part → part_at workers c ≡ Some part
at_worker workers parts dealt c part at =
    let below : c % length workers < length workers = mod_below c (length workers) dealt.some_worker in
    let worker = there_below workers (c % length workers) below in
    ap (λ o. slice_get (members_of o) (c / length workers)) worker.1 ∙ dealt.dealt (c % length workers) (c / length workers) worker.0 worker.1 ∙ ap (slice_get parts) (mod-add-div' c (length workers)) ∙ at

module _ {V : Type 0} (b : Behaviour V) (settled : V → ℕ → Type 0) (starts : List V) (links : List Link) (end : ℕ) (near far : List TableId) (workers : List (Work (Part V))) (parts : List (Part V)) (dealt : AreDealt workers parts) (as_many : length parts ≡ length starts) (each : (c : ℕ) (start : V) (part : Part V) → slice_get starts c ≡ Some start → slice_get parts c ≡ Some part → IsPartOf b settled links end near far c start part) where
  part_fits : (c : ℕ) (part : Part V) → slice_get parts c ≡ Some part → PartFits b settled part
  part_fits c part at = (let within : c < length parts = slice_get_within parts c part at in let start = there_below starts c (omega (arith, as_many)) in record { start = start.0; stands = (each c start.0 part start.1 at).stands })

  worker_sound : (w : ℕ) (worker : Work (Part V)) → slice_get workers w ≡ Some worker → IsSound (PartFits b settled) worker
  worker_sound w worker at = record {
    fit = record { each = λ k d within. part_fits (w + k * length workers) (get_or worker.members k d) (sym (dealt.dealt w k worker at) ∙ slice_get-get_or worker.members k d within) };
    no_fault = dealt.no_fault w worker at;
  }

  pub is_crew : IsPlan end (map b.ports starts) links → IsCrewOf b settled starts links end near far workers
  is_crew wired = record {
    wired = wired;
    some_worker = dealt.some_worker;
    sound = each_is (IsSound (PartFits b settled)) workers worker_sound;
    parts = λ c start at. (let within : c < length starts = slice_get_within starts c start at in let part = there_below parts c (omega (arith, as_many)) in record { part = part.0; there = at_worker workers parts dealt c part.0 part.1; is = each c start part.0 at part.1 });
    dealt = λ w k part within there. (let worker = there_below workers w within in let in_parts : slice_get parts (w + k * length workers) ≡ Some part = sym (dealt.dealt w k worker.0 worker.1) ∙ sym (ap (λ o. slice_get (members_of o) k) worker.1) ∙ there in let below : w + k * length workers < length parts = slice_get_within parts (w + k * length workers) part in_parts in omega (arith, as_many));
  }
