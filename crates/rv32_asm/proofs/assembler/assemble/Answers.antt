use Rattle.std.proofs.Common.{◌≡◌, ◌+◌, [], ◌++◌, Some, None, Err, refl, sym, ap, ◌∙◌, arith}
use mathlib.Core.Path.{fun_ext}
use Rattle.rv32_asm.specs.Assembled.{line_bytes}
use Rattle.rv32_asm.specs.Faults.{fault}
use Rattle.rv32_asm.specs.LabelMap.{place_in}
use Rattle.rv32_asm.specs.Layout.{placed, place_of}
use Rattle.rv32_asm.proofs.Outcomes.{so_far, begun, line_done, line_at_fault, all_done}
use Rattle.rv32_asm.proofs.Standing.{assembled_stand}
use Rattle.rv32_asm.proofs.UnderWay.{parsed}
use Rattle.rv32_asm.proofs.assembler.assemble.Goals as goal

pub loop-line-init : goal.loop-line-init
loop-line-init c =
    let source = c.args.source.now in
    let place = place_of (parsed source) in
    let items : c.as_slice-line-items.result.now ≡ placed (parsed source) = c.as_slice-line-items.ensures ∙ c.in_ok-layout.ensures.lines_are in
    record {
      items = items;
      counted = refl;
      outcome = ap (λ out. so_far place out 0 c.as_slice-line-items.result.now) c.new-out.ensures ∙ ap (so_far place [] 0) items ∙ begun place (placed (parsed source));
    }

pub returns-in-Some-clause-refusal : goal.returns-in-Some-clause-refusal
returns-in-Some-clause-refusal c =
    let source = c.args.source.now in
    let place = place_of (parsed source) in
    let line = c.line-item.result in
    let i = c.loop-line.line-index in
    let found : fault place line ≡ Some c.in-Some.reason = ap (λ p. fault p line) (sym (fun_ext c.in_ok-layout.ensures.places_are)) ∙ sym c.fault.ensures ∙ c.in-Some.is in
    sym c.loop-line.invariant.outcome
    ∙ line_at_fault place c.loop-line.out i c.as_slice-line-items.result.now line c.in-Some.reason (omega arith) c.line-item.is found
    ∙ ap (λ n. Err (n + 1, c.in-Some.reason)) (sym c.loop-line.invariant.counted)

pub loop-line-preserved : goal.loop-line-preserved
loop-line-preserved c =
    let source = c.args.source.now in
    let place = place_of (parsed source) in
    let line = c.line-item.result in
    let i = c.loop-line.line-index in
    let places : place_in c.in_ok-layout.layout.labels ≡ place = fun_ext c.in_ok-layout.ensures.places_are in
    let sound : fault place line ≡ None = ap (λ p. fault p line) (sym places) ∙ sym c.fault.ensures ∙ c.in_default.is in
    let out : c.append_line.new.out ≡ c.loop-line.out ++ line_bytes place line = c.in_ok-append_line.ensures ∙ ap (λ p. c.loop-line.out ++ line_bytes p line) places in
    record {
      items = c.loop-line.invariant.items;
      counted = ap (λ n. n + 1) c.loop-line.invariant.counted;
      outcome = ap (λ bytes. so_far place bytes (i + 1) c.as_slice-line-items.result.now) out ∙ line_done place c.loop-line.out i c.as_slice-line-items.result.now line (omega arith) c.line-item.is sound ∙ c.loop-line.invariant.outcome;
    }

pub returns-clause-bytes : goal.returns-clause-bytes
returns-clause-bytes c =
    sym c.loop-line.invariant.outcome ∙ all_done (place_of (parsed c.args.source.now)) c.loop-line.out c.loop-line.line-index c.as_slice-line-items.result.now (omega arith)

pub returns-clause-decoded : goal.returns-clause-decoded
returns-clause-decoded c =
    assembled_stand (parsed c.args.source.now) c.loop-line.out
    (sym c.loop-line.invariant.outcome ∙ all_done (place_of (parsed c.args.source.now)) c.loop-line.out c.loop-line.line-index c.as_slice-line-items.result.now (omega arith))
