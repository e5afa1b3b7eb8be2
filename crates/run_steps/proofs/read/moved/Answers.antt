use Rattle.std.proofs.Common.{◌^◌, sym, ◌∙◌, subst, take}
use Rattle.std.proofs.lemmas.List.{take_rest}
use Rattle.run_steps.specs.Steps.{IsNumber}
use Rattle.run_steps.proofs.Spelling.{no_move, a_move, no_channel, no_count}
use Rattle.run_steps.proofs.read.moved.Goals as goal

pub returns-in_default-space_place : goal.returns-in_default-space_place
returns-in_default-space_place c =
    no_move c.args.line.now c.in-Some.numbers.now c.in-Some.ensures (sym c.space_place.ensures ∙ c.in_default-space_place.is)

pub returns-in-Some-Some : goal.returns-in-Some-Some
returns-in-Some-Some c =
    let at = sym c.space_place.ensures ∙ c.in-Some-space_place.is in
    a_move c.args.line.now c.in-Some.numbers.now c.in-Some.ensures c.in-Some-space_place.space at c.in-Some-Some.channel c.in-Some-Some.count c.in-Some-Some.ensures (simp take_rest at c.in-Some-Some.ensures')

pub returns-in_default-2 : goal.returns-in_default-2
returns-in_default-2 c =
    let at = sym c.space_place.ensures ∙ c.in-Some-space_place.is in
    no_count c.args.line.now c.in-Some.numbers.now c.in-Some.ensures c.in-Some-space_place.space at (simp take_rest at c.in_default-2.ensures')

pub returns-in_default-2-2 : goal.returns-in_default-2-2
returns-in_default-2-2 c =
    let at = sym c.space_place.ensures ∙ c.in-Some-space_place.is in
    let none = subst (λ r. IsNumber (2 ^ 32) (take c.in-Some-space_place.space c.in-Some.numbers.now) r) c.in_default-2.is-0 c.short_number.ensures in
    no_channel c.args.line.now c.in-Some.numbers.now c.in-Some.ensures c.in-Some-space_place.space at none
