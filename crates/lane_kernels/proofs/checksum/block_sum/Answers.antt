use Rattle.std.proofs.Common.{ℕ, arith, ap}
use Rattle.std.proofs.lemmas.List.{take_rest}
use lib.Lanes.{sum_l}
use Rattle.lane_kernels.specs.Checksum.{word_sum}
use Rattle.lane_kernels.proofs.Sums.{Step, step, Halves, highs_of_chunk, lows_of_chunk, lanes_hold, lanes_are_words, word_sum_bound, chunk_sum}
use Rattle.lane_kernels.proofs.checksum.block_sum.Goals as goal

pub add-highs-requires : goal.add-highs-requires
add-highs-requires c =
    let bytes : Halves c.halves.result.0 = highs_of_chunk c.args.block.now c.loop-at.at c.type_inv.block c.loop-at-test.true _ c.halves.ensures.highs in
    lanes_hold c.loop-at.at _ _ (omega arith) c.loop-at.invariant.highs_fit bytes.fit

pub add-lows-requires : goal.add-lows-requires
add-lows-requires c =
    let bytes : Halves c.halves.result.1 = lows_of_chunk c.args.block.now c.loop-at.at c.type_inv.block c.loop-at-test.true _ c.halves.ensures.lows in
    lanes_hold c.loop-at.at _ _ (omega arith) c.loop-at.invariant.lows_fit bytes.fit

pub loop-at-preserved : goal.loop-at-preserved
loop-at-preserved c =
    let at : ℕ = c.loop-at.at in
    let highs : Halves c.halves.result.0 = highs_of_chunk c.args.block.now at c.type_inv.block c.loop-at-test.true _ c.halves.ensures.highs in
    let lows : Halves c.halves.result.1 = lows_of_chunk c.args.block.now at c.type_inv.block c.loop-at-test.true _ c.halves.ensures.lows in
    let more_highs : Step at c.loop-at.highs c.halves.result.0 c.add-highs.result = step at _ _ _ c.add-highs.ensures c.loop-at.invariant.highs_whole highs.whole c.loop-at.invariant.highs_fit highs.fit in
    let more_lows : Step at c.loop-at.lows c.halves.result.1 c.add-lows.result = step at _ _ _ c.add-lows.ensures c.loop-at.invariant.lows_whole lows.whole c.loop-at.invariant.lows_fit lows.fit in
    record {
      whole = omega (arith, more_highs.summed, more_lows.summed, ap sum_l c.halves.ensures.highs, ap sum_l c.halves.ensures.lows, chunk_sum c.args.block.now at c.loop-at-test.true, c.loop-at.invariant.whole);
      highs_fit = more_highs.few;
      lows_fit = more_lows.few;
      highs_whole = more_highs.whole;
      lows_whole = more_lows.whole;
      within = c.loop-at-test.true;
    }

pub total-requires-clause-words : goal.total-requires-clause-words
total-requires-clause-words c = lanes_are_words c.loop-at.at _ (omega arith) c.loop-at.invariant.highs_fit

pub total-requires-2-clause-words : goal.total-requires-2-clause-words
total-requires-2-clause-words c = lanes_are_words c.loop-at.at _ (omega arith) c.loop-at.invariant.lows_fit

pub overflow_mul-result : goal.overflow_mul-result
overflow_mul-result c = record { fits = omega (arith, c.total.ensures, c.loop-at.invariant.whole, word_sum_bound c.args.block.now c.type_inv.block, c.requires) }

pub overflow_add-result : goal.overflow_add-result
overflow_add-result c = record { fits = omega (arith, c.total.ensures, c.total-2.ensures, c.loop-at.invariant.whole, word_sum_bound c.args.block.now c.type_inv.block, c.requires) }

pub returns-clause-small : goal.returns-clause-small
returns-clause-small c =
    omega (
      arith,
      c.total.ensures,
      c.total-2.ensures,
      c.plain_sum.ensures,
      ap word_sum (take_rest c.args.block.now c.loop-at.at),
      c.loop-at.invariant.whole,
      word_sum_bound c.args.block.now c.type_inv.block,
      c.requires,
    )

pub overflow_add-result-2 : goal.overflow_add-result-2
overflow_add-result-2 c =
    record {
      fits =
          omega (
            arith,
            c.total.ensures,
            c.total-2.ensures,
            c.plain_sum.ensures,
            ap word_sum (take_rest c.args.block.now c.loop-at.at),
            c.loop-at.invariant.whole,
            word_sum_bound c.args.block.now c.type_inv.block,
            c.requires,
          );
    }
