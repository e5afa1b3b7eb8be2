use Rattle.std.proofs.Common.{◌≡◌, ◌≤◌, ◌<◌, ◌+◌, ◌-◌, ◌%◌, length, vec_len, sym, subst, arith}
use Rattle.std.specs.Prelude.{slice_set}
use Rattle.std.proofs.lemmas.List.{length-set}
use Rattle.run_threads.proofs.Regained.{regaining_more, all_regained}
use Rattle.run_threads.proofs.dealing.collect_parts.Goals as goal

pub numbers-preserved : goal.numbers-preserved
numbers-preserved g c =
    let some : 0 < c.numbers.number = c.numbers-test.true in
    let one_less : c.numbers.number ≡ (c.numbers.number - 1) + 1 = omega arith in
    record {
      collecting = regaining_more c.args.count c.args.workers.now c.numbers.number (c.numbers.number - 1) c.numbers.workers c.numbers.parts.items c.numbers.invariant.collecting one_less _ c.move_last_part.new.worker c.move_last_part.new.parts.items c.move_last_part.ensures.moved;
      some_worker = (let many : length (slice_set c.numbers.workers ((c.numbers.number - 1) % length c.numbers.workers) c.move_last_part.new.worker) ≡ length c.numbers.workers = length-set c.numbers.workers ((c.numbers.number - 1) % length c.numbers.workers) c.move_last_part.new.worker in let some_worker : 0 < length c.numbers.workers = c.numbers.invariant.some_worker in omega arith);
      counted = (let more : vec_len c.move_last_part.new.parts ≤ vec_len c.numbers.parts + 1 = c.move_last_part.ensures.one_more in let so_far : vec_len c.numbers.parts + c.numbers.number ≤ c.args.count = c.numbers.invariant.counted in omega arith);
      room = subst (λ n. c.args.count ≤ n) (sym c.move_last_part.ensures.room) c.numbers.invariant.room;
    }

pub returns : goal.returns
returns g c = (let none : c.numbers.number ≤ 0 = c.numbers-test.false in all_regained c.args.count c.args.workers.now c.numbers.number c.numbers.workers c.numbers.parts.items c.numbers.invariant.collecting (omega arith))
