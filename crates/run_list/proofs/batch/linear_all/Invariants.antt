use Rattle.run_list.specs.Search.{linear}
use Rattle.run_list.proofs.Batches.{Moving}
use Rattle.run_list.proofs.batch.linear_all.Given as goal

abbrev pub invariant-loop-j : goal.invariant-loop-j
invariant-loop-j l = Moving (λ r at. linear r l.words at l.size) l.rows l.initial.places l.j l.places
