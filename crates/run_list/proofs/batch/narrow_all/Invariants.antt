use Rattle.run_list.specs.Search.{quarter}
use Rattle.run_list.proofs.Batches.{Moving}
use Rattle.run_list.proofs.batch.narrow_all.Given as goal

abbrev pub invariant-loop-j : goal.invariant-loop-j
invariant-loop-j l = Moving (λ r at. quarter r l.words at l.q) l.rows l.initial.places l.j l.places
