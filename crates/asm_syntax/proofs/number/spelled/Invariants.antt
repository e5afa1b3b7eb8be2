use Rattle.std.proofs.Common.{◌≡◌, ◌^◌, ◌≤◌, drop, option_map}
use Rattle.asm_syntax.specs.Numbers.{spelled_on}
use Rattle.asm_syntax.proofs.Numerals.{limited}
use Rattle.asm_syntax.proofs.number.spelled.Given as goal

abbrev pub invariant-loop-byte : goal.invariant-loop-byte
invariant-loop-byte l =
    (l.number ≤ 2 ^ 33)
    × (option_map limited (spelled_on l.base l.number (drop l.byte-index l.digits)) ≡ option_map limited (spelled_on l.base 0 l.digits))
