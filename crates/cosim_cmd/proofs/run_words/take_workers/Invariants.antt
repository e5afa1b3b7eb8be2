use Rattle.std.proofs.Common.{◌≡◌, drop}
use Rattle.cosim_cmd.specs.Sentence.{texts}
use Rattle.cosim_cmd.specs.RunWords.{workers_and_rest, onto}
use Rattle.cosim_cmd.proofs.run_words.take_workers.Given as goal

abbrev pub invariant-words : goal.invariant-words
invariant-words l = onto (texts l.others.items) (workers_and_rest (texts (drop l.place l.words))) ≡ workers_and_rest (texts l.words)
