use Rattle.std.proofs.Common.{◌≡◌, ◌+◌, ◌-◌, true, false, ap, ap₂, sym, ◌∙◌, suc, arith, decimal}
use Rattle.std.specs.Str.{bytes_eq}
use Rattle.cosim_cmd.proofs.Requests.{among, among_all, among_none, among_here, among_later}
use Rattle.cosim_cmd.proofs.request.station_count.Goals as goal

pub loop-number-init : goal.loop-number-init
loop-number-init c = among_all c.args.word.now

pub returns-then-eq-clause-count : goal.returns-then-eq-clause-count
returns-then-eq-clause-count c =
    let word = c.args.word.now in
    let i = c.loop-number.number in
    let spelled : bytes_eq c.as_bytes.result.now c.as_bytes-in-loop-number.result.now ≡ bytes_eq (decimal i) word = ap₂ bytes_eq (c.as_bytes.ensures.value ∙ c.format.ensures.text) c.as_bytes-in-loop-number.ensures.value in
    let same : bytes_eq (decimal i) word ≡ true = sym spelled ∙ sym c.eq.ensures ∙ c.if-eq.true in
    let left : 31 - i ≡ suc (30 - i) = omega (arith, c.loop-number-test.true) in
    sym (c.loop-number.invariant ∙ ap (among word i) left ∙ among_here word i (30 - i) same)

pub loop-number-preserved : goal.loop-number-preserved
loop-number-preserved c =
    let word = c.args.word.now in
    let i = c.loop-number.number in
    let spelled : bytes_eq c.as_bytes.result.now c.as_bytes-in-loop-number.result.now ≡ bytes_eq (decimal i) word = ap₂ bytes_eq (c.as_bytes.ensures.value ∙ c.format.ensures.text) c.as_bytes-in-loop-number.ensures.value in
    let other : bytes_eq (decimal i) word ≡ false = sym spelled ∙ sym c.eq.ensures ∙ c.if-eq.false in
    let left : 31 - i ≡ suc (30 - i) = omega (arith, c.loop-number-test.true) in
    let next : 30 - i ≡ 31 - (i + 1) = omega arith in
    c.loop-number.invariant ∙ ap (among word i) left ∙ among_later word i (30 - i) other ∙ ap (among word (i + 1)) next

pub returns-clause-count : goal.returns-clause-count
returns-clause-count c =
    let word = c.args.word.now in
    let i = c.loop-number.number in
    let none : 31 - i ≡ 0 = omega (arith, c.loop-number-test.false) in
    sym (c.loop-number.invariant ∙ ap (among word i) none ∙ among_none word i)
