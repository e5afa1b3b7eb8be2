use Rattle.std.proofs.Common.{ℕ, ◌+◌, ap, ◌∙◌, sym, subst, arith, w32, List}
use Rattle.std.proofs.lemmas.Simd.{fold-sum, sum_fits, sum_bound}
use lib.Lanes.{fold_l, Steps}
use mir.Val.{Fits}
use Rattle.lane_kernels.proofs.Sums.{same_lanes}
use Rattle.lane_kernels.proofs.checksum.total.Goals as goal

pub overflow_add-result : goal.overflow_add-result
overflow_add-result c =
    subst (λ (xs : List ℕ). Steps (λ s x. Fits w32 (s + x)) (λ s x. s + x) 0 xs) (sym (same_lanes c.args.lanes))
    (sum_fits w32 0 c.args.lanes (omega (arith, sum_bound 65535 c.args.lanes c.requires.words, c.requires.count)))

pub returns : goal.returns
returns c = ap (fold_l (λ s x. s + x) 0) (same_lanes c.args.lanes) ∙ fold-sum 0 c.args.lanes ∙ omega arith
