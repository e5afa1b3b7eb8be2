use Rattle.std.proofs.Common.{ℕ, ◌≡◌, ◌-◌, nat_lt, List, true, false, refl, position, slice_index_or, ◌∙◌, sym, ap}
use Rattle.switch_sim.specs.declared.entry.Entry.{Entry}
use Rattle.switch_sim.specs.Table.{SwitchState, is_of, is_live}
use Rattle.switch_sim.specs.TableLaws.{lookup_known, lookup_unknown}
use Rattle.switch_sim.proofs.switch.Switch.lookup.Goals as goal

pub returns-in_err-place : goal.returns-in_err-place
returns-in_err-place c =
    let entries : c.args.self.now.entries ≡ c.self.inside.table = sym (ap (λ (s : SwitchState). s.entries) c.self.view_is) in
    c.from_residual.ensures ∙ sym (lookup_unknown c.args.self.now c.args.t c.args.to (ap (λ (es : List Entry). position (is_of c.args.to) es) entries ∙ sym c.place_of.ensures ∙ c.in_err-place.was))

pub returns-then-is_live : goal.returns-then-is_live
returns-then-is_live c =
    let entries : c.args.self.now.entries ≡ c.self.inside.table = sym (ap (λ (s : SwitchState). s.entries) c.self.view_is) in
    let e : Entry = c.index-entries-place.result in
    let live : is_live c.args.self.now c.args.t e ≡ true = ap (λ (age : ℕ). nat_lt (c.args.t - e.seen) age) (sym (ap (λ (s : SwitchState). s.age) c.self.view_is)) ∙ sym c.is_live.ensures ∙ c.if-is_live.true in
    sym (lookup_known c.args.self.now c.args.t c.args.to c.in_ok-place.place e (ap (λ (es : List Entry). position (is_of c.args.to) es) entries ∙ sym c.place_of.ensures ∙ c.in_ok-place.was) (c.index-entries-place.is ∙ ap (λ (es : List Entry). slice_index_or es c.in_ok-place.place e) (c.entries.ensures ∙ sym entries)) ∙ rw live refl)

pub returns-else-is_live : goal.returns-else-is_live
returns-else-is_live c =
    let entries : c.args.self.now.entries ≡ c.self.inside.table = sym (ap (λ (s : SwitchState). s.entries) c.self.view_is) in
    let e : Entry = c.index-entries-place.result in
    let dead : is_live c.args.self.now c.args.t e ≡ false = ap (λ (age : ℕ). nat_lt (c.args.t - e.seen) age) (sym (ap (λ (s : SwitchState). s.age) c.self.view_is)) ∙ sym c.is_live.ensures ∙ c.if-is_live.false in
    sym (lookup_known c.args.self.now c.args.t c.args.to c.in_ok-place.place e (ap (λ (es : List Entry). position (is_of c.args.to) es) entries ∙ sym c.place_of.ensures ∙ c.in_ok-place.was) (c.index-entries-place.is ∙ ap (λ (es : List Entry). slice_index_or es c.in_ok-place.place e) (c.entries.ensures ∙ sym entries)) ∙ rw dead refl)
