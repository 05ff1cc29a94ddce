use Rattle.run_list.proofs.Batches.{SearchingAll}
use Rattle.run_list.proofs.batch.search_all.Given as goal

abbrev pub invariant-loop-size : goal.invariant-loop-size
invariant-loop-size l = SearchingAll l.words l.rows l.places l.size

abbrev pub decreases-loop-size : goal.decreases-loop-size
decreases-loop-size l = l.size
