use Rattle.std.proofs.Common.{ℕ, ◌≡◌, ◌≤◌, ◌-◌, nat_le, List, length, position, None, sym, ap, ◌∙◌, arith}
use Rattle.switch_sim.specs.declared.entry.Entry.{Entry}
use Rattle.switch_sim.specs.Table.{SwitchState, is_of}
use Rattle.switch_sim.specs.TableLaws.{none_of, place_known, no_place, searched_place}
use Rattle.switch_sim.proofs.switch.Switch.place_for.Goals as goal

pub returns-in-Some : goal.returns-in-Some
returns-in-Some c =
    let entries : c.args.self.now.entries ≡ c.self.inside.table = sym (ap (λ (s : SwitchState). s.entries) c.self.view_is) in
    let few : length c.args.self.now.entries ≤ 4096 = rw entries (rw (sym c.len-len.ensures.len) c.len-len.ensures.few) in
    place_known c.args.self.now c.args.t c.args.mac c.in-Some.place few (ap (λ (es : List Entry). position (is_of c.args.mac) es) entries ∙ sym c.place_of.ensures ∙ c.in-Some.is)

pub returns-in_err-time : goal.returns-in_err-time
returns-in_err-time c =
    let entries : c.args.self.now.entries ≡ c.self.inside.table = sym (ap (λ (s : SwitchState). s.entries) c.self.view_is) in
    let unknown : position (is_of c.args.mac) c.args.self.now.entries ≡ None = ap (λ (es : List Entry). position (is_of c.args.mac) es) entries ∙ sym c.place_of.ensures ∙ none_of c.place_of.result c.in_default.not-Some in
    let full : 4096 ≤ length c.args.self.now.entries = rw entries (rw (sym c.len-len.ensures.len) c.if-len-lt-PLACES.false) in
    rw c.from_residual.ensures (no_place c.args.self.now c.args.t c.args.mac full c.in_err-time.ensures.time unknown)

pub returns : goal.returns
returns c =
    let entries : c.args.self.now.entries ≡ c.self.inside.table = sym (ap (λ (s : SwitchState). s.entries) c.self.view_is) in
    let unknown : position (is_of c.args.mac) c.args.self.now.entries ≡ None = ap (λ (es : List Entry). position (is_of c.args.mac) es) entries ∙ sym c.place_of.ensures ∙ none_of c.place_of.result c.in_default.not-Some in
    let full : 4096 ≤ length c.args.self.now.entries = rw entries (rw (sym c.len-len.ensures.len) c.if-len-lt-PLACES.false) in
    let few : length c.args.self.now.entries ≤ 4096 = rw entries (rw (sym c.len-len.ensures.len) c.len-len.ensures.few) in
    searched_place c.args.self.now c.args.t c.args.mac c.first_seen_by.result (omega (arith, few, full)) c.in_ok-time.ensures.some_age c.in_ok-time.ensures.time.1 unknown
    (c.first_seen_by.ensures
    ∙ ap (λ (n : ℕ). position (λ (e : Entry). nat_le e.seen n) c.self.inside.table) c.in_ok-time.ensures.time.0
    ∙ ap (λ (es : List Entry). position (λ (e : Entry). nat_le e.seen (c.args.t - c.args.self.now.age)) es) (sym entries))
