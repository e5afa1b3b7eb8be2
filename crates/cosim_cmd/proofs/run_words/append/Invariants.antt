use Rattle.std.proofs.Common.{◌≡◌, ◌++◌, drop}
use Rattle.cosim_cmd.specs.Sentence.{texts}
use Rattle.cosim_cmd.proofs.run_words.append.Given as goal

abbrev pub invariant-words : goal.invariant-words
invariant-words l = texts l.others.items ++ texts (drop l.word-index l.words) ≡ texts l.fn.others.items ++ texts l.words
