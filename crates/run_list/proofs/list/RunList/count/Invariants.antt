use Rattle.run_list.proofs.RowCalls.{Summing}
use Rattle.run_list.proofs.list.RunList.count.Given as goal

abbrev pub invariant-loop-start : goal.invariant-loop-start
invariant-loop-start l = Summing l.self.words.now l.pairs l.start-index l.sum
