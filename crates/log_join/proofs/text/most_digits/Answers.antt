use Rattle.std.proofs.Common.{◌<◌, ◌^◌, arith, rules, lit<}
use Rattle.std.proofs.lemmas.Fmt.{length-decimal-le}
use Rattle.log_join.proofs.text.most_digits.Goals as goal

pub returns-then-picoseconds-lt-TEN_DIGITS : goal.returns-then-picoseconds-lt-TEN_DIGITS
returns-then-picoseconds-lt-TEN_DIGITS c =
    let short : c.args.at < 10 ^ 10 = search rules in
    let fits : c.args.at < 2 ^ 64 = search rules in
    length-decimal-le 10 c.args.at (lit< tt) short fits

pub returns-else-picoseconds-lt-TEN_DIGITS : goal.returns-else-picoseconds-lt-TEN_DIGITS
returns-else-picoseconds-lt-TEN_DIGITS c =
    let fits : c.args.at < 2 ^ 64 = search rules in
    let long : c.args.at < 10 ^ 20 = omega arith in
    length-decimal-le 20 c.args.at (lit< tt) long fits
