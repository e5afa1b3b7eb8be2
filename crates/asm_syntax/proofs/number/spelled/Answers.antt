use Rattle.std.proofs.Common.{◌+◌, ◌*◌, ap, sym, ◌∙◌, drop, option_map, arith}
use Rattle.asm_syntax.proofs.Numerals.{limited, spelled_on-turn, spelled_on-limited}
use Rattle.asm_syntax.proofs.number.spelled.Goals as goal

pub loop-byte-preserved : goal.loop-byte-preserved
loop-byte-preserved c =
    let base = c.args.base in
    let number = c.loop-byte.number in
    let digit = c.in_ok-digit.digit in
    let digits = c.args.digits.now in
    let i = c.loop-byte.byte-index in (
      omega arith,
      spelled_on-limited base c.min-number.result (number * base + digit) (drop (i + 1) digits) c.requires.least (omega arith)
          ∙ ap (option_map limited) (sym (spelled_on-turn base number i digit digits (omega arith) c.in_ok-digit.ensures.value))
          ∙ c.loop-byte.invariant.1,
    )
