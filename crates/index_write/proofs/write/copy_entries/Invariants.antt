use Rattle.index_write.proofs.Writing.{Writing}
use Rattle.index_write.proofs.write.copy_entries.Given as goal

abbrev pub invariant-loop : goal.invariant-loop
invariant-loop l = Writing l.index l.start l.n l.initial.out l.first l.out l.at l.to l.counter
