use Rattle.run_rank.proofs.DirectoryCalls.{Fills}
use Rattle.run_rank.proofs.directory.fill.Given as goal

abbrev pub invariant-loop-i : goal.invariant-loop-i
invariant-loop-i l = Fills l.runs.words.now l.initial.out l.i l.before l.out
