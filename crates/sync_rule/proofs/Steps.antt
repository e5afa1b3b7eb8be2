-- What one port met, as what its runner did.
use Rattle.std.proofs.Common.{◌≡◌, ℕ, zero, suc, Bool, true, false, List, [], ◌∷◌, Option, Some, None, Ok, Err, refl, sym, ap, ◌∙◌, subst, inl, inr, ◌⊎◌}
use Rattle.std.specs.Prelude.{slice_get, slice_set, OnOk, IfSome, IfNone, Result}
use Rattle.std.proofs.lemmas.Option.{same_Some}
use Rattle.sb_message.specs.declared.message.Msg.{Msg}
use Rattle.sync_rule.specs.declared.runner.Runner.{Runner}
use Rattle.sync_rule.specs.Ports.{In, Out, taken, passed_on, rest_of, heard, at_place}
use Rattle.sync_rule.specs.OnePort.{PassesOn}
use Rattle.sync_rule.specs.ManyPorts.{AtPort, TakesAt, outbox_in, outbox_at}
use Rattle.sync_rule.specs.Steps.{Sends}
use Rattle.sync_rule.proofs.Places.{set_at}

pub on_ok : {A E : Type 0} {P Q : Type 0} (r : Result A E) → (P → Q) → OnOk r P → OnOk r Q
on_ok (Ok a) step told = step told
on_ok (Err e) step told = told

pub set_same : {X : Type 0} (xs : List X) (i : ℕ) (x : X) → slice_get xs i ≡ Some x → slice_set xs i x ≡ xs
set_same [] i x is = refl
set_same (z ∷ zs) zero x is = ap (λ y. y ∷ zs) (sym (same_Some z x is))
set_same (z ∷ zs) (suc i) x is = ap (λ l. z ∷ l) (set_same zs i x is)

pub unchanged : {X : Type 0} (xs ys : List X) (i : ℕ) (x y : X) → slice_get xs i ≡ Some x → ys ≡ slice_set xs i y → y ≡ x → ys ≡ xs
unchanged xs ys i x y is set same = set ∙ ap (λ z. slice_set xs i z) same ∙ set_same xs i x is

-- a port that was changed, where the list is seen by another name
pub changed_at : {X : Type 0} (items old : List X) (i : ℕ) (x y : X) (f : X → X) → items ≡ old → slice_get items i ≡ Some x → y ≡ f x → slice_set items i y ≡ at_place i f old
changed_at items old i x y f view is same = set_at items i x y f is same ∙ ap (at_place i f) view

pub takes_at : (items old : List In) (port : ℕ) (x y : In) (r : Option Msg) → items ≡ old → slice_get items port ≡ Some x → IfSome r (λ m. x.inbox ≡ m ∷ y.inbox) → IfSome r (λ _. y ≡ taken x) → IfNone r (x.inbox ≡ []) → TakesAt old (slice_set items port y) port r
takes_at items old port x y None view is some same none = record { is = x; there = subst (λ l. slice_get l port ≡ Some x) view is; none = none }
takes_at items old port x y (Some m) view is some same none = record {
  head = record { is = x; there = subst (λ l. slice_get l port ≡ Some x) view is; more = y.inbox; head = some };
  is = changed_at items old port x y taken view is same;
}

pub passed : (o old : Out) (m : Msg) (more : List Msg) → o ≡ old → o.outbox ≡ m ∷ more → record o { outbox = more } ≡ passed_on old
passed o old m more view first = ap (λ l. record o { outbox = l }) (sym (ap rest_of first)) ∙ ap passed_on view

pub sends_is : {V : Type 0} (pushes : Msg → Type 0) (refuses untouched : Type 0) (old : Runner V) (outs : List Out) (port : ℕ) (r : Bool) → AtPort old.outgoing outs port (λ a b. PassesOn pushes refuses untouched a b r) → Sends pushes refuses untouched old (record old { outgoing = outs }) port r
sends_is pushes refuses untouched old outs port true at = record {
  m = at.changed.m;
  more = at.changed.more;
  waited = ap outbox_at at.there ∙ at.changed.waited;
  pushed = at.changed.pushed;
  is = ap (λ l. record old { outgoing = l }) (at.others ∙ set_at old.outgoing port at.before at.after passed_on at.there at.changed.is);
}
sends_is pushes refuses untouched old outs port false at = record {
  cause = cause at.changed.cause;
  unchanged = ap (λ l. record old { outgoing = l }) (unchanged old.outgoing outs port at.before at.after at.there at.others at.changed.unchanged);
}
  where
    cause : (((at.before.outbox ≡ []) × untouched) ⊎ refuses) → (((outbox_in old.outgoing port ≡ []) × untouched) ⊎ refuses)
    cause (inl none) = inl (ap outbox_at at.there ∙ none.0, none.1)
    cause (inr met) = inr met

pub heard_at : {V : Type 0} (old : Runner V) (ins : List In) (port : ℕ) (before after : In) (m : Msg) → slice_get old.incoming port ≡ Some before → ins ≡ slice_set old.incoming port after → after ≡ heard m before → record old { incoming = ins } ≡ record old { incoming = at_place port (heard m) old.incoming }
heard_at old ins port before after m there others is = ap (λ l. record old { incoming = l }) (others ∙ set_at old.incoming port before after (heard m) there is)
