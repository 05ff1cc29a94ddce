use Rattle.std.proofs.Common.{◌+◌}
use Rattle.packed.proofs.Counts.{Words}
use Rattle.packed.proofs.count_words.Given as goal

abbrev pub invariant-loop-word : goal.invariant-loop-word
invariant-loop-word l = Words l.bits l.from l.to (l.from + l.word-index) l.sum
