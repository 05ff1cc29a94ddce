use Rattle.run_rank.proofs.DirectoryCalls.{Indexing}
use Rattle.run_rank.proofs.directory.is_indexed.Given as goal

abbrev pub invariant-loop-i : goal.invariant-loop-i
invariant-loop-i l = Indexing l.runs l.directory l.i l.last l.before
