-- A new runner stands at its start.
use Rattle.std.proofs.Common.{◌≡◌, ℕ, zero, suc, ◌^◌, ◌≤◌, inl, List, [], ◌∷◌, length, map, None, refl, sym, ap, ap₂, ◌∙◌, subst, arith, le_refl}
use Rattle.std.specs.Prelude.{All}
use Rattle.cs_base.specs.declared.port_kind.PortKind.{PortKind}
use Rattle.cs_base.specs.Plan.{partner}
use Rattle.sb_intro.specs.Expected.{expected}
use Rattle.sb_message.specs.Stream.{IsStream}
use Rattle.sb_message.specs.declared.message.Body.TheVariants as body
use Rattle.sb_message.specs.declared.message.Msg.{Msg}
use Rattle.device_api.specs.Behaviour.{Behaviour, IsLawful}
use Rattle.device_api.specs.Channels.{Channel}
use Rattle.device_api.specs.Position.{local_upto, script_upto}
use Rattle.device_api.specs.Transcript.{RisesFrom, bound_from, introduction, stamped_after}
use Rattle.device_api.specs.World.{Run, start_run, after, arrivals}
use Rattle.run_laws.specs.NextEvent.{AreReached, AreAhead, local_script}
use Rattle.run_laws.proofs.Parts.{nothing_upto}
use Rattle.run_laws.proofs.ScriptSteps.{with_none}
use Rattle.sync_rule.specs.declared.port_plan.PortPlan.{PortPlan}
use Rattle.sync_rule.specs.Ports.{In, Out, IsPlanned, first_in, first_out, introduction_of}
use Rattle.sync_rule.specs.Steps.{started}
use Rattle.sync_laws.specs.Stands.{Stands, HasReceived, HasMade, inbox_in, run_upto}
use Rattle.sync_laws.proofs.Changed.{each_mapped, length_mapped, map_mapped, all_at, not_nil}
use Rattle.sync_laws.proofs.Rising.{order_from_rises}

at_start : {S : Type 0} (b : Behaviour S) (ports : ℕ) (inputs : ℕ → List Msg) (s : S) (end : ℕ) → local_upto b ports inputs s None end ≡ start_run s
unfolding local_upto
at_start b ports inputs s zero = refl
at_start b ports inputs s (suc t) = ap (after t (local_upto b ports inputs s None t)) (nothing_upto b None t 0 (arrivals t inputs ports) (local_upto b ports inputs s None t).state refl) ∙ ap (λ run. after t run (record { state = run.state; sends = []; lines = [] })) (at_start b ports inputs s t)

script_at_start : (kind : PortKind) (ch : Channel) (end : ℕ) → script_upto kind ch [] None end ≡ record { messages = introduction kind ch ∷ []; sync_due = 0 }
unfolding script_upto stamped_after
script_at_start kind ch zero = refl
script_at_start kind ch (suc u) = with_none ch u (script_upto kind ch [] None u) ∙ script_at_start kind ch u

none_waits : (plans : List PortPlan) (p : ℕ) → inbox_in (map first_in plans) p ≡ []
none_waits [] p = refl
none_waits (plan ∷ more) zero = refl
none_waits (plan ∷ more) (suc p) = none_waits more p

introduction_streams : (kind : PortKind) (plan : PortPlan) → IsStream kind (introduction_of plan ∷ [])
unfolding RisesFrom
introduction_streams kind plan = record {
  first = introduction_of plan;
  later = [];
  parts = refl;
  introduced = refl;
  once = tt;
  receivable = (refl, tt);
  in_order = order_from_rises 0 (introduction_of plan ∷ []) (le_refl 0, tt);
}

module _ {V : Type 0} (b : Behaviour V) (settled : V → ℕ → Type 0) (lawful : IsLawful b settled) (device : V) (end : ℕ) where
  received_none : (plan : PortPlan) (p : ℕ) → HasReceived None p [] (first_in plan)
  unfolding bound_from
  received_none plan p = record { bound = refl; stream = inl refl; introduced = refl; first = λ m more e. absurd (not_nil m more e); not_missed = λ none. refl }

  made_introduction : (plan : PortPlan) (p : ℕ) → HasMade None (run_upto b device None (λ port. []) end) end p [] (first_out plan)
  made_introduction plan p = record {
    script = λ ch out. ap (λ (run : Run V). local_script plan.kind ch run None end) (at_start b (length (b.ports device)) (λ port. []) device end) ∙ script_at_start plan.kind ch end ∙ ap₂ (λ latency interval. record { messages = record { at = 0; body = body.Intro (expected plan.kind latency interval) } ∷ []; sync_due = 0 }) out.latency out.interval;
    stream = introduction_streams (partner plan.kind) plan;
    count = refl;
    ahead = refl;
  }

  pub new_stands : (plans : List PortPlan) → settled device 0 → end ≤ 10 ^ 15 → map (λ (plan : PortPlan). plan.kind) plans ≡ b.ports device → All IsPlanned plans → Stands b settled device None (λ port. []) (λ port. []) (started device plans end)
  unfolding RisesFrom AreReached AreAhead
  new_stands plans settled_then short kinds planned = record {
    fitted = record {
      short = short;
      few = subst (λ n. n ≤ 32) (sym (ap length kinds) ∙ length_mapped (λ (plan : PortPlan). plan.kind) plans ∙ sym (length_mapped first_in plans)) ((lawful.at device).few_ports 0 settled_then);
      kinds = map_mapped (λ (i : In). i.plan.kind) first_in (λ (plan : PortPlan). plan.kind) plans (λ plan. refl) ∙ kinds;
      same_ports = refl;
      same_plans = map_mapped (λ (o : Out). o.plan) first_out (λ (plan : PortPlan). plan) plans (λ plan. refl) ∙ sym (map_mapped (λ (i : In). i.plan) first_in (λ (plan : PortPlan). plan) plans (λ plan. refl));
      planned = each_mapped (λ p (o : Out). IsPlanned o.plan) first_out plans (λ p plan is. all_at IsPlanned plans planned p plan is);
      no_sends = refl;
      no_lines = refl;
    };
    device = sym (ap (λ (run : Run V). run.state) (at_start b (length (b.ports device)) (λ port. []) device end));
    log = sym (ap (λ (run : Run V). run.log) (at_start b (length (b.ports device)) (λ port. []) device end));
    handled = λ port. [];
    boxes = record { rises = λ port lt. tt; whole = λ port lt. sym (none_waits plans port); reached = λ port lt. tt; waits = λ port lt. subst (AreAhead None port 0) (sym (none_waits plans port)) tt };
    heard = each_mapped (λ p i. HasReceived None p [] i) first_in plans (λ p plan is. received_none plan p);
    made = each_mapped (λ p o. HasMade None (run_upto b device None (λ port. []) end) end p [] o) first_out plans (λ p plan is. made_introduction plan p);
    tick_ahead = λ t e. refl;
    settled_now = settled_then;
    in_run = omega arith;
  }
