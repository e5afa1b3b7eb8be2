-- What a wire in memory has given after some bytes more.
use Rattle.std.specs.Prelude.{ℕ, ◌≡◌, ◌+◌, ◌-◌, List, ◌++◌, length, take, drop}
use Rattle.std.proofs.Common.{arith, ap, sym, ◌∙◌}
use Rattle.std.proofs.Math.Seq.{take-add}
use Rattle.std.proofs.lemmas.List.{take_at}

-- the bytes so far, and then what was written at the front of the buffer
pub given_more : (at n : ℕ) (bytes slice written rest : List ℕ) → slice ≡ bytes → length written ≡ n → written ≡ take (at + n - at) (drop at slice) → take (at + n) bytes ≡ take at bytes ++ take n (written ++ rest)
given_more at n bytes slice written rest same long written_is =
    let count : at + n - at ≡ n = omega arith in
    let front : take n (written ++ rest) ≡ take n (drop at bytes) = take_at written rest n long ∙ written_is ∙ ap (λ m. take m (drop at slice)) count ∙ ap (λ l. take n (drop at l)) same in
    take-add at n bytes ∙ ap (λ l. take at bytes ++ l) (sym front)
