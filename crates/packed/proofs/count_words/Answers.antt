use Rattle.std.proofs.Common.{rules}
use Rattle.packed.proofs.Counts.{words-fit, words-next, are-bytes}
use Rattle.packed.proofs.count_words.Goals as goal

pub overflow_add-sum : goal.overflow_add-sum
overflow_add-sum c = search (rules, words-fit)

pub loop-word-preserved : goal.loop-word-preserved
loop-word-preserved c = search (rules, words-next, are-bytes)
