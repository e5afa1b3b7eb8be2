-- After a step, the access that its act asks for is pending, or none; the act is told again by what it has done. A step
-- leaves the external line and the hart's number, and waits only where no interrupt wakes the core.
use Rattle.std.specs.Prelude.{◌≡◌, ℕ, ◌%◌, ◌==◌, Bool, true, false, if◌then◌else◌, Option, Some, None, refl}
use Rattle.std.proofs.Common.{sym, ◌∙◌, ap, subst}
use Rattle.rv32_core.specs.declared.act.Act.{Act}
use Rattle.rv32_core.specs.declared.act.Act.TheVariants as act
use Rattle.rv32_core.specs.declared.pending.Pending.{Pending}
use Rattle.rv32_core.specs.declared.pending.Pending.TheVariants as access
use Rattle.rv32_core.specs.declared.did.Did.{Did}
use Rattle.rv32_core.specs.CoreState.{CoreState}
use Rattle.rv32_core.specs.Acts.{did, act_of}
use Rattle.rv32_core.specs.Csr.{with_csr}
use Rattle.rv32_core.specs.Execution.{Outcome, Awaits, trapped, passed, results, returns, waits, wakes, finished, load_finished, store_finished, stepped}
use Rattle.rv32_core.specs.StepForms.{HaveAll, stepped_has}

-- an outcome's act agrees with the core that it leaves
pub Agrees : Outcome → Type 0
Agrees o = Awaits o.act o.state.pending × (act_of (did o.act) o.state ≡ o.act)

done_or_wait : (b : Bool) (s : CoreState) → s.pending ≡ access.Nothing → Agrees (record { state = s; act = if b then act.Done else act.Wait })
unfolding Agrees
done_or_wait true s e = (e, refl)
done_or_wait false s e = (e, refl)

waits_agrees : (s : CoreState) → Agrees (waits s)
unfolding waits passed
waits_agrees s = done_or_wait (wakes s) (passed s) refl

all_agree : HaveAll (λ (s : CoreState) (o : Outcome). Agrees o)
unfolding Agrees trapped passed results returns
all_agree = record {
  on_trap = λ s cause. (refl, refl);
  on_pass = λ s. (refl, refl);
  on_result = λ s rd value. (refl, refl);
  on_csr = λ s rd number value old. (refl, refl);
  on_jump = λ s rd target. (refl, refl);
  on_load = λ s rd size is_signed at. ((rd % 32, is_signed, refl), refl);
  on_store = λ s size at value. (refl, refl);
  on_return = λ s. (refl, refl);
  on_wait = λ s. waits_agrees s;
}

-- a step
pub stepped_agrees : (s : CoreState) (word : Option ℕ) → Agrees (stepped s word)
stepped_agrees s word = stepped_has (λ (s : CoreState) (o : Outcome). Agrees o) all_agree s word

pub stepped_awaits : (s : CoreState) (word : Option ℕ) → Awaits (stepped s word).act (stepped s word).state.pending
unfolding Agrees
stepped_awaits s word = (stepped_agrees s word).0

-- the clauses of `step`
pub act_at : (o : Outcome) (s : CoreState) (told : Did) (answer : Act) → Agrees o → s ≡ o.state → told ≡ did o.act → answer ≡ act_of told s → answer ≡ o.act
unfolding Agrees
act_at o s told answer agrees e f g =
    g ∙ (ap (λ (d : Did). act_of d s) f ∙ (ap (λ (t : CoreState). act_of (did o.act) t) e ∙ agrees.1))

pub awaits_at : (o : Outcome) (s : CoreState) (answer : Act) → Agrees o → s ≡ o.state → answer ≡ o.act → Awaits answer s.pending
unfolding Agrees
awaits_at o s answer agrees e f =
    subst (λ (a : Act). Awaits a s.pending) (sym f) (subst (λ (t : CoreState). Awaits o.act t.pending) (sym e) agrees.0)

-- the external line and the hart's number are as they were
pub record IsSameLine (s after : CoreState) : Type 0 where
  pub external : after.external ≡ s.external
  pub hart : after.hart ≡ s.hart

either_line : (s : CoreState) (b : Bool) (x y : CoreState) → IsSameLine s x → IsSameLine s y → IsSameLine s (if b then x else y)
either_line s true x y p q = p
either_line s false x y p q = q

csr_line : (s : CoreState) (number value : ℕ) → IsSameLine s (with_csr s number value)
unfolding with_csr
csr_line s number value =
    let same : IsSameLine s s = record { external = refl; hart = refl } in
    either_line s (number == 0x300) _ _ (record { external = refl; hart = refl })
    (either_line s (number == 0x304) _ _ (record { external = refl; hart = refl })
    (either_line s (number == 0x305) _ _ (record { external = refl; hart = refl })
    (either_line s (number == 0x340) _ _ (record { external = refl; hart = refl })
    (either_line s (number == 0x341) _ _ (record { external = refl; hart = refl })
    (either_line s (number == 0x342) _ _ (record { external = refl; hart = refl })
    (either_line s (number == 0x343) _ _ (record { external = refl; hart = refl }) same))))))

-- a step leaves the line, and waits only where no interrupt wakes the core
pub record Leaves (s : CoreState) (o : Outcome) : Type 0 where
  pub line : IsSameLine s o.state
  pub asleep : o.act ≡ act.Wait → wakes o.state ≡ false

waits_asleep : (b : Bool) → (if b then act.Done else act.Wait) ≡ act.Wait → b ≡ false
waits_asleep true e = cc
waits_asleep false e = refl

all_leave : HaveAll Leaves
unfolding trapped passed results returns waits
all_leave = record {
  on_trap = λ s cause. record { line = record { external = refl; hart = refl }; asleep = λ e. cc };
  on_pass = λ s. record { line = record { external = refl; hart = refl }; asleep = λ e. cc };
  on_result = λ s rd value. record { line = record { external = refl; hart = refl }; asleep = λ e. cc };
  on_csr = λ s rd number value old.
      let same : IsSameLine s (with_csr s number value) = csr_line s number value in
      record { line = record { external = same.external; hart = same.hart }; asleep = λ e. cc };
  on_jump = λ s rd target. record { line = record { external = refl; hart = refl }; asleep = λ e. cc };
  on_load = λ s rd size is_signed at. record { line = record { external = refl; hart = refl }; asleep = λ e. cc };
  on_store = λ s size at value. record { line = record { external = refl; hart = refl }; asleep = λ e. cc };
  on_return = λ s. record { line = record { external = refl; hart = refl }; asleep = λ e. cc };
  on_wait = λ s. record { line = record { external = refl; hart = refl }; asleep = λ e. waits_asleep (wakes s) e };
}

pub stepped_leaves : (s : CoreState) (word : Option ℕ) → Leaves s (stepped s word)
stepped_leaves s word = stepped_has Leaves all_leave s word

finished_line : (s : CoreState) (value : ℕ) (pending : Pending) → IsSameLine s (finished s value pending).state
unfolding passed results
finished_line s value (access.Load at size rd is_signed) = record { external = refl; hart = refl }
finished_line s value (access.Store at size stored) = record { external = refl; hart = refl }
finished_line s value access.Nothing = record { external = refl; hart = refl }

pub load_finished_line : (s : CoreState) (value : Option ℕ) → IsSameLine s (load_finished s value).state
unfolding load_finished trapped
load_finished_line s None = record { external = refl; hart = refl }
load_finished_line s (Some value) = finished_line s value s.pending

pub store_finished_line : (s : CoreState) (done : Bool) → IsSameLine s (store_finished s done).state
unfolding store_finished trapped passed
store_finished_line s true = record { external = refl; hart = refl }
store_finished_line s false = record { external = refl; hart = refl }
