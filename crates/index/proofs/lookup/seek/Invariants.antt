use Rattle.index.proofs.Search.{Seeking}
use Rattle.index.proofs.lookup.seek.Given as goal

abbrev pub invariant-loop-below : goal.invariant-loop-below
invariant-loop-below l = Seeking l.index l.value l.count l.at l.below
