use Rattle.run_rank.proofs.BothCalls.{Both}
use Rattle.run_rank.proofs.put_both.Given as goal

abbrev pub invariant-loop-i : goal.invariant-loop-i
invariant-loop-i l = Both l.index.runs.words.now l.positions l.initial.out l.fn.flags l.i l.out l.flags
