-- What an ended mesh leaves is what the global run leaves.
use Rattle.std.proofs.Common.{◌≡◌, ℕ, suc, List, [], ◌∷◌, length, map, Some, slice_get, refl, sym, ap, ap₂, ◌∙◌, arith}
use Rattle.std.proofs.lemmas.List.{length-map}
use Rattle.cs_base.specs.declared.link.Link.{Link}
use Rattle.device_api.specs.declared.logs.Line.{Line}
use Rattle.device_api.specs.Behaviour.{Behaviour, IsLawful}
use Rattle.device_api.specs.Channels.{Channel, channels}
use Rattle.device_api.specs.Counts.{count_of}
use Rattle.device_api.specs.GlobalCounts.{counts_of, messages_of, messages_by}
use Rattle.device_api.specs.World.{Run, World, Network, global_until, log_in, logs_of}
use Rattle.global_model.specs.Step.{network}
use Rattle.run_laws.specs.Wired.{SendsEvents}
use Rattle.run_laws.proofs.RunCounts.{run_count}
use Rattle.sync_rule.specs.declared.runner.Runner.{Runner}
use Rattle.sync_rule.specs.Ports.{Out}
use Rattle.sync_laws.specs.Whole.{HaveEnded}
use Rattle.sync_laws.proofs.Ahead.{only_events}
use Rattle.sync_laws.proofs.Begins.{count_ends}
use Rattle.sync_laws.proofs.Changed.{get_mapped}
use Rattle.mesh_core.specs.declared.way.Way.{Way}
use Rattle.mesh_core.specs.State.{State, way_of}
use Rattle.mesh_core.specs.MeshOf.{IsMeshOf}
use Rattle.mesh_core.specs.Left.{logs_left, counts_left, counts_along, counts_by_port, count_at, count_among, count_or_none}
use Rattle.mesh_core.proofs.Begun.{logs_are}
use Rattle.mesh_core.proofs.Ends.{HasPort, mapped_at, sender}

-- two lists of one length that agree at each place are one
pub same_lists : {X : Type 0} (xs ys : List X) → length xs ≡ length ys → ((i : ℕ) (x y : X) → slice_get xs i ≡ Some x → slice_get ys i ≡ Some y → x ≡ y) → xs ≡ ys
same_lists [] [] lengths agree = refl
same_lists [] (y ∷ ys) lengths agree = absurd (let apart : 0 ≡ suc (length ys) = lengths in omega arith)
same_lists (x ∷ xs) [] lengths agree = absurd (let apart : suc (length xs) ≡ 0 = lengths in omega arith)
same_lists (x ∷ xs) (y ∷ ys) lengths agree = ap₂ (λ z l. z ∷ l) (agree 0 x y refl refl) (same_lists xs ys (let more : suc (length xs) ≡ suc (length ys) = lengths in omega arith) (λ i. agree (suc i)))

-- two things made of each element of a list are the same where they are at each place
same_maps : {X Y : Type 0} (f g : X → Y) (xs : List X) → ((i : ℕ) (x : X) → slice_get xs i ≡ Some x → f x ≡ g x) → map f xs ≡ map g xs
same_maps f g [] agree = refl
same_maps f g (x ∷ xs) agree = ap₂ (λ z l. z ∷ l) (agree 0 x refl) (same_maps f g xs (λ i. agree (suc i)))

map_twice : {X Y Z : Type 0} (f : Y → Z) (g : X → Y) (xs : List X) → map f (map g xs) ≡ map (λ x. f (g x)) xs
map_twice f g [] = refl
map_twice f g (x ∷ xs) = ap (λ l. f (g x) ∷ l) (map_twice f g xs)

module _ {V : Type 0} (b : Behaviour V) (settled : V → ℕ → Type 0) (lawful : IsLawful b settled) (starts : List V) (links : List Link) (end : ℕ) (mesh : State V) (of : IsMeshOf b settled starts links end mesh) (ended : HaveEnded b mesh.runners) where
  abbrev net : Network V
  net = network b starts links

  abbrev world : World V
  world = global_until net end

  -- LOGS

  run_log : Run V → List Line
  run_log run = run.log

  as_many : length mesh.runners ≡ length world.runs
  as_many = of.whole.as_many ∙ sym (run_count net end)

  log_at : (c : ℕ) (r : Runner V) (run : Run V) → slice_get mesh.runners c ≡ Some r → slice_get world.runs c ≡ Some run → r.log ≡ run.log
  log_at c r run is there = logs_are b settled lawful starts links end mesh of ended c r is ∙ ap log_in there

  logs_agree : (c : ℕ) (x y : List Line) → slice_get (logs_left mesh) c ≡ Some x → slice_get (logs_of world) c ≡ Some y → x ≡ y
  logs_agree c x y x_is y_is = (let r : (r : Runner V) × (slice_get mesh.runners c ≡ Some r) × (r.log ≡ x) = mapped_at (λ (r : Runner V). r.log) mesh.runners (logs_left mesh) c x refl x_is in let run : (run : Run V) × (slice_get world.runs c ≡ Some run) × (run.log ≡ y) = mapped_at (λ (run : Run V). run.log) world.runs (logs_of world) c y refl y_is in sym r.2 ∙ log_at c r.0 run.0 r.1 run.1 ∙ run.2)

  pub leaves_logs : logs_left mesh ≡ logs_of world
  leaves_logs = same_lists (logs_left mesh) (logs_of world) (length-map mesh.runners (λ (r : Runner V). r.log) ∙ as_many ∙ sym (length-map world.runs (λ (run : Run V). run.log))) logs_agree

  -- COUNTS

  only : SendsEvents b
  only = only_events b settled lawful

  count_is : (k : ℕ) (ch : Channel) → slice_get (channels links) k ≡ Some ch → count_at (map counts_by_port mesh.runners) (way_of ch).from ≡ count_of (messages_of net end ch)
  count_is k ch is =
      ap (λ counts. count_among counts ch.from.port) (get_mapped counts_by_port mesh.runners ch.from.component from.runner from.there)
      ∙ ap count_or_none (get_mapped (λ (o : Out). o.count) from.runner.outgoing ch.from.port from.outgoing from.out_at)
      ∙ count_ends net settled end of.positions of.received of.sent of.held mesh.runners of.whole of.wired only ended ch from.start from.kind (record { number = k; at_number = is; sender = from.starts_so; sending_port = from.port_is }) from.runner from.outgoing from.there from.out_at
      ∙ ap (λ kind. count_of (messages_by net end ch kind)) (sym from.kind_is)
    where
      from : HasPort b settled starts links end mesh of ch.from
      from = sender b settled starts links end mesh of k ch is

  pub leaves_counts : counts_left mesh ≡ counts_of net end
  leaves_counts = ap (λ ways. counts_along ways (map counts_by_port mesh.runners)) of.ways ∙ map_twice (λ (way : Way). count_at (map counts_by_port mesh.runners) way.from) way_of (channels links) ∙ same_maps (λ ch. count_at (map counts_by_port mesh.runners) (way_of ch).from) (λ ch. count_of (messages_of net end ch)) (channels links) count_is
